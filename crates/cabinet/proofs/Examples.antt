-- Amounts, words and edges by computation: a wrong number is refused even where definition and code agree on it.
-- Assumes nothing.
use mathlib.Core.Path.{◌≡◌, refl}
use mathlib.Core.Bool.{true, false}
use mathlib.Core.List.{List, [], ◌∷◌, map}
use Prim.Native.Nat.{ℕ, ◌-◌}
use lib.ListN.{replicate}
use Rattle.basics.specs.Choice.{if, both}
use Rattle.basics.specs.Number.{nibbles}
use Rattle.dictionary.specs.Named.{row_amount}
use Rattle.dictionary.specs.Rows.{dictionary_rows, row_found_shifted, find_row, store_size}
use Rattle.store.specs.Place.{row_offset, row_place_bytes, value_in_place, row_value, object_value_in, put_row}
use Rattle.analysis.specs.Value.{first_bytes_zero_padded}
use Rattle.analysis.specs.Digits.{append_decimal_digits, amount_of}
use Rattle.session_record.specs.declared.CallResult.{CallResult}
use Rattle.session_record.specs.declared.Outcome.{Outcome}
use Rattle.session_record.specs.declared.AwaitedResponse.{AwaitedResponse}
use Rattle.session_record.specs.declared.Phase.{Phase}
use Rattle.session_record.specs.declared.Session.{Session}
use Rattle.session_record.specs.Session.{session_of, fresh_session, ending_of, outcome_parameters}
use Rattle.session.specs.Steps.{Step}
use Rattle.layout.specs.Layout.{big_endian_bytes}
use Rattle.layout.specs.Word.{refusal_word}
use Rattle.cabinet.specs.State.{cabinet, cabinet_state_size, running_session_amount_or_zero}
use Rattle.cabinet.specs.State.{reserved_matches_session_and_sum_in_range}
use Rattle.cabinet.specs.Calls.{refused_amount_over_remaining, refused_cap_too_large, cabinet_refusal}
use Rattle.cabinet.specs.Calls.{remaining_after_outcome, cabinet_result_of_step, cabinet_result_with_amounts_settled}
use Rattle.cabinet.specs.Calls.{session_for_new_start, cabinet_start_if_amount_remains, cabinet_open_word}

-- none, the greatest, and all ones in eight bytes
bytes : map (big_endian_bytes 8) (0 ∷ 1000 ∷ 999999999999 ∷ 0xFFFFFFFFFFFFFFFF ∷ [])
    ≡ (0 ∷ 0 ∷ 0 ∷ 0 ∷ 0 ∷ 0 ∷ 0 ∷ 0 ∷ [])
    ∷ (0 ∷ 0 ∷ 0 ∷ 0 ∷ 0 ∷ 0 ∷ 0x03 ∷ 0xE8 ∷ [])
    ∷ (0 ∷ 0 ∷ 0 ∷ 0xE8 ∷ 0xD4 ∷ 0xA5 ∷ 0x0F ∷ 0xFF ∷ [])
    ∷ (255 ∷ 255 ∷ 255 ∷ 255 ∷ 255 ∷ 255 ∷ 255 ∷ 255 ∷ [])
    ∷ []
unfolding big_endian_bytes
bytes = refl

-- approved, online request, declined, ended, select next, with 600 left and 400 reserved
ends : map (λ o. remaining_after_outcome o 600 400) (Outcome.Approved ∷ Outcome.OnlineRequest ∷ Outcome.Declined
    ∷ Outcome.Ended ∷ Outcome.SelectNext ∷ [])
    ≡ 600 ∷ 1000 ∷ 1000 ∷ 1000 ∷ 1000 ∷ []
ends = refl

-- an approval spends whatever its CVM: no CVM, signature, none reported
module _ (st : Step) (l buf : List ℕ) where
  approvals : map
      (λ m. cabinet_result_with_amounts_settled (CallResult.Outcome (outcome_parameters (ending_of Outcome.Approved 0) m)) st
      600 400 l buf) (0 ∷ 1 ∷ 15 ∷ [])
      ≡ cabinet_result_of_step st 600 0 l ∷ cabinet_result_of_step st 600 0 l ∷ cabinet_result_of_step st 600 0 l ∷ []
  approvals = refl

  -- an amount that is all that remains passes, one more is 30
  equal : cabinet_start_if_amount_remains st 1000 1000 l buf ≡ cabinet_result_with_amounts_settled st.reply.answer st 0 1000
      l buf
  unfolding cabinet_start_if_amount_remains if
  equal = refl

  smaller : cabinet_start_if_amount_remains st 1001 1000 l buf ≡ cabinet_refusal 30 l buf
  unfolding cabinet_start_if_amount_remains if
  smaller = refl

refusals : map refusal_word (refused_amount_over_remaining ∷ refused_cap_too_large ∷ []) ≡ 0x2001E ∷ 0x2001F ∷ []
refusals = refl

-- the greatest cap and one more; with one byte too few 25 comes first
openings : cabinet_open_word 999999999999 (replicate cabinet_state_size 0) ∷ cabinet_open_word 1000000000000
    (replicate cabinet_state_size 0) ∷ cabinet_open_word 1000000000000 (replicate (cabinet_state_size - 1) 0) ∷ []
    ≡ 0 ∷ 0x2001F ∷ 0x20019 ∷ []
unfolding cabinet_open_word if
openings = refl

-- a store with an amount of 1, and a session on GPO with it
one : List ℕ
one = put_row dictionary_rows (replicate store_size 0) row_amount (0 ∷ 0 ∷ 0 ∷ 0 ∷ 0 ∷ 1 ∷ [])

running : Session
running = session_of (Phase.Waiting AwaitedResponse.Gpo) 1 one

-- 1 is expected while it runs, nothing once it has ended
dues : running_session_amount_or_zero (Phase.Waiting AwaitedResponse.Gpo) one ∷ running_session_amount_or_zero
    (Phase.Ended (ending_of Outcome.Approved 0)) one ∷ [] ≡ 1 ∷ 0 ∷ []
unfolding one running_session_amount_or_zero if dictionary_rows find_row row_found_shifted put_row object_value_in row_value
    row_place_bytes value_in_place row_offset amount_of first_bytes_zero_padded nibbles append_decimal_digits
dues = refl

-- reserved 1; 0; 2; then with what remains at the greatest amount, over it by one, and all ones
fits : map reserved_matches_session_and_sum_in_range (cabinet running 4 1 ∷ cabinet running 4 0 ∷ cabinet running 4 2
    ∷ cabinet running 999999999998 1 ∷ cabinet running 999999999999 1 ∷ cabinet running 0xFFFFFFFFFFFFFFFF 1 ∷ [])
    ≡ true ∷ false ∷ false ∷ true ∷ false ∷ false ∷ []
unfolding reserved_matches_session_and_sum_in_range one running running_session_amount_or_zero if both dictionary_rows find_row
    row_found_shifted put_row object_value_in row_value row_place_bytes value_in_place row_offset amount_of first_bytes_zero_padded
    nibbles append_decimal_digits
fits = refl

-- a fresh session has nothing reserved
fresh : map reserved_matches_session_and_sum_in_range (cabinet fresh_session 1000 0 ∷ cabinet fresh_session 1000 1 ∷ []) ≡ true
    ∷ false ∷ []
unfolding reserved_matches_session_and_sum_in_range running_session_amount_or_zero if both
fresh = refl

-- a start after an end is on a fresh session, on a running one it is on that
begins : (n : ℕ) (b : List ℕ) → session_for_new_start (session_of (Phase.Ended (ending_of Outcome.Ended 10)) n b)
    ∷ session_for_new_start (session_of (Phase.Waiting AwaitedResponse.Gpo) n b) ∷ []
    ≡ fresh_session ∷ session_of (Phase.Waiting AwaitedResponse.Gpo) n b ∷ []
unfolding session_for_new_start if
begins n b = refl
