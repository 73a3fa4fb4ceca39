-- The state in bytes: the two amounts are written after the record and read back, the bytes after the state stay, and a
-- state that is written over another is as if the other had not been.
-- Assumes nothing.
use Rattle.std.specs.Prelude.{Option, Some, None}
use mathlib.Core.Path.{◌≡◌, sym, ap, ◌∙◌}
use mathlib.Core.Bool.{true}
use mathlib.Core.List.{List, ◌++◌, append_assoc}
use Prim.Native.Nat.{ℕ, ◌+◌, ◌≤◌}
use native.Mathlib.Omega.{arith}
use lib.ListN.{length, take, drop, length-append, length-drop}
use lib.Seq.{take_at, drop_at, drop-drop, length-take-le}
use borrow.Author.Tests.{le-leb}
use borrow.Rule.Slice.PartMut.{put_mid}
use Rattle.basics.specs.Number.{big_endian_number}
use Rattle.basics.specs.Choice.{when◌then◌else◌}
use Rattle.basics.proofs.Laws.{if_yes}
use Rattle.dictionary.specs.Rows.{store_size}
use Rattle.session_record.specs.declared.Session.{Session}
use Rattle.session_record.specs.Session.{store_bytes}
use Rattle.layout.specs.Layout.{session_record_size, big_endian_bytes, encoded_session, session_written_over_front_if_room}
use Rattle.layout.specs.Layout.{decoded_session}
use Rattle.layout.proofs.Laws.{decode-encode}
use Rattle.layout.proofs.Number.{bytes_length, bytes_number}
use Rattle.cabinet.specs.State.{Cabinet, cabinet, cabinet_state_size, cabinet_written_over_front}
use Rattle.cabinet.specs.State.{remaining_in_cabinet_state, reserved_in_cabinet_state}
use Rattle.cabinet.specs.State.{cabinet_session_and_amounts_valid, decoded_cabinet_of_session, decoded_cabinet_if_valid}
use Rattle.cabinet.specs.declared.Amounts.{Amounts}
use Rattle.cabinet.specs.Inner.{state_with_amounts}

-- ---- written

-- the bytes after the state, from after the record on
behind : (l : List ℕ) → drop 16 (drop session_record_size l) ≡ drop cabinet_state_size l
behind l = drop-drop 16 session_record_size l

-- two amounts put after the record, one after the other
pub put_both : (l a b : List ℕ) → cabinet_state_size ≤ length l → length a ≡ 8
    → put_mid (session_record_size + 8) 8 (put_mid session_record_size 8 l a) b ≡ take session_record_size l
    ++ (a ++ (b ++ drop cabinet_state_size l))
put_both l a b h m =
    ap (λ (x : List ℕ). put_mid (session_record_size + 8) 8 x b) (sym (append_assoc front a rest))
    ∙ (λ i. take_at (front ++ a) rest (session_record_size + 8) size i
    ++ (b ++ drop 8 (drop_at (front ++ a) rest (session_record_size + 8) size i)))
    ∙ append_assoc front a (b ++ drop 8 rest)
    ∙ ap (λ (x : List ℕ). front ++ (a ++ (b ++ x))) (drop-drop 8 8 (drop session_record_size l) ∙ behind l)
  where
    front : List ℕ
    front = take session_record_size l

    rest : List ℕ
    rest = drop 8 (drop session_record_size l)

    size : length (front ++ a) ≡ (session_record_size + 8)
    size = length-append front a ∙ omega (arith, length-take-le session_record_size l (omega arith))

-- and all bytes keep their number
pub amounts_length : (l : List ℕ) (a : Amounts) → cabinet_state_size ≤ length l → length (state_with_amounts a l) ≡ length l
amounts_length l a h =
    simp (length-append, length-drop, bytes_length) (omega (arith, length-take-le session_record_size l (omega arith)))

module _ (s : Session) (z : length (store_bytes s) ≡ store_size) where
  encoded_size : length (encoded_session s) ≡ session_record_size
  unfolding encoded_session
  encoded_size = simp (length-append, bytes_length) (omega arith)

  -- the amounts after a record that was written are the state
  pub amounts_behind : (l : List ℕ) (a : Amounts) → cabinet_state_size ≤ length l
      → state_with_amounts a (session_written_over_front_if_room s l) ≡ cabinet_written_over_front
      (cabinet s a.remaining a.reserved) l
  unfolding cabinet_written_over_front session_written_over_front_if_room
  amounts_behind l a h =
      ap (state_with_amounts a) (if_yes _ _ (le-leb session_record_size (length l) (omega arith)))
      ∙ (λ i. take_at (encoded_session s) (drop session_record_size l) session_record_size encoded_size i
      ++ (big_endian_bytes 8 a.remaining ++ (big_endian_bytes 8 a.reserved ++ last i)))
    where
      last : drop cabinet_state_size (encoded_session s ++ drop session_record_size l) ≡ drop cabinet_state_size l
      last =
          sym (behind (encoded_session s ++ drop session_record_size l))
          ∙ ap (drop 16) (drop_at (encoded_session s) (drop session_record_size l) session_record_size encoded_size) ∙ behind
          l

-- ---- read back

module _ (c : Cabinet) (l : List ℕ) (z : length (store_bytes c.session) ≡ store_size) where
  abbrev after : List ℕ
  after = big_endian_bytes 8 c.remaining ++ (big_endian_bytes 8 c.reserved ++ drop cabinet_state_size l)

  behind_record : drop session_record_size (cabinet_written_over_front c l) ≡ after
  unfolding cabinet_written_over_front
  behind_record = drop_at (encoded_session c.session) after session_record_size (encoded_size c.session z)

  pub state_decoded : decoded_session (cabinet_written_over_front c l) ≡ Some c.session
  unfolding cabinet_written_over_front
  state_decoded = decode-encode c.session after z

  pub left_read : remaining_in_cabinet_state (cabinet_written_over_front c l) ≡ c.remaining
  unfolding big_endian_bytes
  left_read = ap (λ (x : List ℕ). big_endian_number (take 8 x)) behind_record ∙ bytes_number 7 c.remaining

  pub aside_read : reserved_in_cabinet_state (cabinet_written_over_front c l) ≡ c.reserved
  unfolding big_endian_bytes
  aside_read =
      ap (λ (x : List ℕ). big_endian_number (take 8 x)) (sym (drop-drop 8 session_record_size (cabinet_written_over_front c l))
      ∙ ap (drop 8) behind_record)
      ∙ bytes_number 7 c.reserved

  -- the bytes after the state stay, and all keep their number
  pub state_behind : drop cabinet_state_size (cabinet_written_over_front c l) ≡ drop cabinet_state_size l
  unfolding big_endian_bytes
  state_behind = sym (behind (cabinet_written_over_front c l)) ∙ ap (drop 16) behind_record

  pub state_length : cabinet_state_size ≤ length l → length (cabinet_written_over_front c l) ≡ length l
  unfolding cabinet_written_over_front
  state_length h =
      length-append (encoded_session c.session) after
      ∙ simp (length-append, length-drop, bytes_length) (omega (arith, encoded_size c.session z))

  -- a state over another
  pub state_over : (d : Cabinet) → cabinet_written_over_front d (cabinet_written_over_front c l) ≡ cabinet_written_over_front d l
  unfolding cabinet_written_over_front
  state_over d =
      ap (λ (x : List ℕ). encoded_session d.session
      ++ (big_endian_bytes 8 d.remaining ++ (big_endian_bytes 8 d.reserved ++ x))) state_behind

  -- a cabinet in order is read back
  pub state_read : cabinet_state_size ≤ length l → cabinet_session_and_amounts_valid c ≡ true
      → decoded_cabinet_if_valid (cabinet_written_over_front c l) ≡ Some c
  unfolding decoded_cabinet_if_valid
  state_read h o =
      if_yes _ _ (le-leb cabinet_state_size (length (cabinet_written_over_front c l)) (omega (arith, state_length h)))
      ∙ ap (decoded_cabinet_of_session (cabinet_written_over_front c l)) state_decoded
      ∙ (λ i. in_order (cabinet c.session (left_read i) (aside_read i)))
      ∙ if_yes _ _ o
    where
      in_order : Cabinet → Option Cabinet
      in_order d = when cabinet_session_and_amounts_valid d then Some d else None
