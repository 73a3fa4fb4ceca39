-- The words of a cabinet's calls (document 02, Item 14): cabinet_open, cabinet_left, and the refusals besides the
-- kernel's, which come after them.
-- Assumes nothing.
use Rattle.std.specs.Prelude.{◌≡◌, List, [], ◌∷◌, ◌-◌, replicate, Some}
use Rattle.basics.specs.Types.{StartBytes, Buffer, Amount, ResultWord}
use Rattle.session_record.specs.Session.{fresh_session}
use Rattle.cabinet.specs.State.{cabinet_state_size, cabinet, decoded_cabinet_if_valid}
use Rattle.cabinet.specs.Calls.{start_on_cabinet, cabinet_start, cabinet_answer, cabinet_link_failed, cabinet_stop}
use Rattle.cabinet.specs.Calls.{cabinet_open_word, remaining_amount_or_all_ones}
use Rattle.worked_examples.specs.Calls.{buffer_of261, buffer_of260}
use Rattle.worked_examples.specs.Refusals.{start_bytes_with_all_required}

-- the word of a start on a fresh cabinet with so much left
unfoldable pub start_word_on_fresh_cabinet : StartBytes → Amount → ResultWord
start_word_on_fresh_cabinet bytes left = (start_on_cabinet bytes [] buffer_of261 (cabinet fresh_session left 0)).word

-- the words of the four calls on bytes that hold no cabinet
abbrev pub words_of_calls_without_cabinet : Buffer → List ResultWord
words_of_calls_without_cabinet buf =
    (cabinet_start [] [] buf).word ∷ (cabinet_answer [] [] buf).word
    ∷ (cabinet_link_failed [] buf).word ∷ (cabinet_stop [] buf).word ∷ []

pub record CabinetWordExamples : Type 0 where
  -- one byte less than a state with a cap over the greatest, a state's bytes with it, and with the greatest
  pub opened :
      cabinet_open_word 1000000000000 (replicate (cabinet_state_size - 1) 0)
      ∷ cabinet_open_word 1000000000000 (replicate cabinet_state_size 0)
      ∷ cabinet_open_word 999999999999 (replicate cabinet_state_size 0) ∷ []
      ≡ 0x20019 ∷ 0x2001F ∷ 0 ∷ []
  -- bytes that hold no cabinet; a cabinet with 1,000 left
  pub left_none : remaining_amount_or_all_ones (decoded_cabinet_if_valid []) ≡ 0xFFFFFFFFFFFFFFFF
  pub left : remaining_amount_or_all_ones (Some (cabinet fresh_session 1000 0)) ≡ 1000
  -- an amount of 10.00: with 9.99 left (30), with as much left; a start that the kernel refuses (24) with nothing left
  pub aside_too_much : start_word_on_fresh_cabinet start_bytes_with_all_required 999 ≡ 0x2001E
  pub aside_all : start_word_on_fresh_cabinet start_bytes_with_all_required 1000 ≡ 8
  pub absent_aside : start_word_on_fresh_cabinet [] 0 ≡ 0x20018
  -- too short a buffer before bytes that hold no cabinet
  pub buffer_state : words_of_calls_without_cabinet buffer_of260 ≡ replicate 4 0x20016
  pub state : words_of_calls_without_cabinet buffer_of261 ≡ replicate 4 0x20019
