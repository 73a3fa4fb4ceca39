-- The bench table's marked rows (document 01, "Bench table"), a field for each, over the definitions that the calls'
-- promises cite.
-- Assumes nothing.
use Rattle.std.specs.Prelude.{◌≡◌, [], ◌∷◌, ◌++◌, ◌≤◌, length, Some}
use Rattle.basics.specs.Types.{Bytes, StoreBytes, Value, Response, StartBytes, CommandBytes, Buffer, TvrBytes, Count}
use Rattle.basics.specs.Front.{written_over_front}
use Rattle.dictionary.specs.Rows.{dictionary_rows}
use Rattle.dictionary.specs.Named.{row_number_of_tag_or_zero}
use Rattle.store.specs.Place.{absent, present, object_value, put_row}
use Rattle.reading.specs.declared.Awaited.{Awaited}
use Rattle.reading.specs.Answer.{ReadingOutcome, reading_outcome, read_answer}
use Rattle.dol.specs.Filling.{dol_filled}
use Rattle.analysis.specs.declared.choice.Choice.{Choice}
use Rattle.analysis.specs.Action.{choice_for_tvr}
use Rattle.session_record.specs.declared.CallResult.{CallResult}
use Rattle.session_record.specs.Session.{fresh_session, store_bytes}
use Rattle.session.specs.Steps.{Step, least_buffer}
use Rattle.session.specs.Start.{start_step}
use Rattle.session.specs.Answer.{answer_step}

-- ---- what the rows speak of

-- the store that holds nothing
abbrev pub bench_empty_store : StoreBytes
bench_empty_store = store_bytes fresh_session

-- the answer to a record command of file 1, with this body and 90 00 after it as a card sends it, read into it
abbrev pub bench_record_reading : Bytes → ReadingOutcome
bench_record_reading body =
    read_answer (Awaited.Record (record { number = 1 })) bench_empty_store (body ++ (0x90 ∷ 0x00 ∷ []))

-- a version of the card's application
abbrev pub bench_card_version : Value
bench_card_version = 0x00 ∷ 0x02 ∷ []

-- the store that holds the card's version and nothing else
abbrev pub bench_store_with_version : StoreBytes
bench_store_with_version = put_row dictionary_rows bench_empty_store (row_number_of_tag_or_zero 0x9F08) bench_card_version

-- two objects are counted; 9F08 is stored, and all else stays absent
pub record ReadsTwoObjectsStoresOnlyCardVersion (outcome : ReadingOutcome) : Type 0 where
  pub whole : outcome ≡ reading_outcome 0 2 bench_store_with_version
  pub version : object_value outcome.store 0x9F08 ≡ present bench_card_version

-- a step hands out a command: its length, and its bytes at the front of the buffer
pub record HandsOutCommand (command : CommandBytes) (buffer : Buffer) (step : Step) : Type 0 where
  pub answer : step.reply.answer ≡ CallResult.Command (record { size = length command })
  pub bytes : step.buffer ≡ written_over_front command buffer

-- all that a start must bring, and no 9F38
abbrev pub bench_start_bytes : StartBytes
bench_start_bytes =
    0x9A ∷ 0x03 ∷ 0x25 ∷ 0x11 ∷ 0x15 ∷ 0x9C ∷ 0x01 ∷ 0x00 ∷
    0x9F ∷ 0x02 ∷ 0x06 ∷ 0x00 ∷ 0x00 ∷ 0x00 ∷ 0x00 ∷ 0x12 ∷ 0x34 ∷
    0x9F ∷ 0x09 ∷ 0x02 ∷ 0x00 ∷ 0x02 ∷ 0x9F ∷ 0x1A ∷ 0x02 ∷ 0x00 ∷ 0x56 ∷
    0x9F ∷ 0x33 ∷ 0x03 ∷ 0xE0 ∷ 0x68 ∷ 0xC8 ∷ 0x9F ∷ 0x35 ∷ 0x01 ∷ 0x22 ∷
    0x9F ∷ 0x37 ∷ 0x04 ∷ 0x01 ∷ 0x02 ∷ 0x03 ∷ 0x04 ∷
    0x9F ∷ 0x6A ∷ 0x04 ∷ 0x00 ∷ 0x00 ∷ 0x00 ∷ 0x12 ∷
    0xDF ∷ 0x81 ∷ 0x1B ∷ 0x01 ∷ 0x00 ∷
    0xDF ∷ 0x81 ∷ 0x20 ∷ 0x05 ∷ 0x00 ∷ 0x00 ∷ 0x00 ∷ 0x00 ∷ 0x00 ∷
    0xDF ∷ 0x81 ∷ 0x21 ∷ 0x05 ∷ 0x00 ∷ 0x00 ∷ 0x00 ∷ 0x00 ∷ 0x00 ∷
    0xDF ∷ 0x81 ∷ 0x22 ∷ 0x05 ∷ 0x00 ∷ 0x00 ∷ 0x00 ∷ 0x00 ∷ 0x00 ∷
    0xDF ∷ 0x81 ∷ 0x23 ∷ 0x06 ∷ 0x00 ∷ 0x00 ∷ 0x00 ∷ 0x01 ∷ 0x00 ∷ 0x00 ∷
    0xDF ∷ 0x81 ∷ 0x24 ∷ 0x06 ∷ 0x00 ∷ 0x00 ∷ 0x00 ∷ 0x02 ∷ 0x00 ∷ 0x00 ∷
    0xDF ∷ 0x81 ∷ 0x25 ∷ 0x06 ∷ 0x99 ∷ 0x99 ∷ 0x99 ∷ 0x99 ∷ 0x99 ∷ 0x99 ∷
    0xDF ∷ 0x81 ∷ 0x26 ∷ 0x06 ∷ 0x00 ∷ 0x00 ∷ 0x00 ∷ 0x00 ∷ 0x10 ∷ 0x00 ∷
    []

-- the start of a fresh session with them
abbrev pub bench_start_step : Buffer → Step
bench_start_step buffer = start_step fresh_session bench_start_bytes buffer

-- the card's answer to GPO after it: 82 of 00 80 and the AFL 08 01 01 00
abbrev pub bench_gpo_answer : Response
bench_gpo_answer = 0x80 ∷ 0x06 ∷ 0x00 ∷ 0x80 ∷ 0x08 ∷ 0x01 ∷ 0x01 ∷ 0x00 ∷ 0x90 ∷ 0x00 ∷ []

-- the two commands, whatever the caller's buffers
pub record BenchFirstTwoCommands (start_buffer answer_buffer : Buffer) : Type 0 where
  pub gpo : HandsOutCommand (0x80 ∷ 0xA8 ∷ 0x00 ∷ 0x00 ∷ 0x02 ∷ 0x83 ∷ 0x00 ∷ 0x00 ∷ []) start_buffer
      (bench_start_step start_buffer)
  pub record_1 : HandsOutCommand (0x00 ∷ 0xB2 ∷ 0x01 ∷ 0x0C ∷ 0x00 ∷ []) answer_buffer
      (answer_step (bench_start_step start_buffer).reply.session bench_gpo_answer answer_buffer)

-- an amount and a TVR as a DOL requests them
abbrev pub bench_amount : Value
bench_amount = 0x00 ∷ 0x00 ∷ 0x00 ∷ 0x00 ∷ 0x12 ∷ 0x34 ∷ []

abbrev pub bench_tvr : TvrBytes
bench_tvr = 0x80 ∷ 0x00 ∷ 0x00 ∷ 0x80 ∷ 0x00 ∷ []

-- each requested at a shorter and at a longer length
pub record BenchDolFillings (store : StoreBytes) : Type 0 where
  pub amount-2 : dol_filled dictionary_rows store (0x9F ∷ 0x02 ∷ 0x02 ∷ []) ≡ Some (0x12 ∷ 0x34 ∷ [])
  pub amount_7 : dol_filled dictionary_rows store (0x9F ∷ 0x02 ∷ 0x07 ∷ []) ≡ Some (0x00 ∷ bench_amount)
  pub results_3 : dol_filled dictionary_rows store (0x95 ∷ 0x03 ∷ []) ≡ Some (0x80 ∷ 0x00 ∷ 0x00 ∷ [])
  pub results_6 : dol_filled dictionary_rows store (0x95 ∷ 0x06 ∷ []) ≡ Some (bench_tvr ++ (0x00 ∷ []))

-- a code with no bit set, and the TVR that the choice is made on
abbrev pub bench_zero_action_code : Value
bench_zero_action_code = 0x00 ∷ 0x00 ∷ 0x00 ∷ 0x00 ∷ 0x00 ∷ []

abbrev pub bench_tvr_one_bit : TvrBytes
bench_tvr_one_bit = 0x80 ∷ 0x00 ∷ 0x00 ∷ 0x00 ∷ 0x00 ∷ []

-- the terminal's codes are zero and there is no 9F0E
pub record ZeroTacsAndNoIacDenial (store : StoreBytes) : Type 0 where
  pub card_denial : object_value store 0x9F0E ≡ absent
  pub denial : object_value store 0xDF8121 ≡ present bench_zero_action_code
  pub online : object_value store 0xDF8122 ≡ present bench_zero_action_code
  pub default : object_value store 0xDF8120 ≡ present bench_zero_action_code

-- the choice by the type and the card's codes
pub record BenchChoices (store : StoreBytes) : Type 0 where
  pub no_9f0f : object_value store 0x9F35 ≡ present (0x22 ∷ []) → object_value store 0x9F0F ≡ absent
      → choice_for_tvr store bench_tvr_one_bit ≡ Choice.Online
  pub zero_9f0f : object_value store 0x9F35 ≡ present (0x22 ∷ [])
      → object_value store 0x9F0F ≡ present bench_zero_action_code
      → choice_for_tvr store bench_tvr_one_bit ≡ Choice.Offline
  pub no_9f0d : object_value store 0x9F35 ≡ present (0x23 ∷ []) → object_value store 0x9F0D ≡ absent
      → choice_for_tvr store bench_tvr_one_bit ≡ Choice.Decline

-- ---- the rows

-- how many they are
abbrev pub proved_bench_row_count : Count
proved_bench_row_count = 9

-- all marked rows
pub record BenchTable : Type 0 where
  -- one object
  pub empty : bench_record_reading (0x70 ∷ 0x00 ∷ []) ≡ reading_outcome 0 1 bench_empty_store
  -- two objects, stored
  pub version : ReadsTwoObjectsStoresOnlyCardVersion
      (bench_record_reading (0x70 ∷ 0x05 ∷ 0x9F ∷ 0x08 ∷ 0x02 ∷ 0x00 ∷ 0x02 ∷ []))
  -- reason 3: the TVR is not the card's to set
  pub results_sent : bench_record_reading (0x70 ∷ 0x03 ∷ 0x95 ∷ 0x01 ∷ 0x00 ∷ []) ≡ reading_outcome 3 2 bench_empty_store
  -- accepted, nothing stored: a terminal's private object
  pub private : bench_record_reading (0x70 ∷ 0x05 ∷ 0xDF ∷ 0x81 ∷ 0x23 ∷ 0x01 ∷ 0x00 ∷ []) ≡ reading_outcome 0 2
      bench_empty_store
  -- four levels, four objects
  pub four_levels : bench_record_reading (0x70 ∷ 0x06 ∷ 0xE1 ∷ 0x04 ∷ 0xE1 ∷ 0x02 ∷ 0xE1 ∷ 0x00 ∷ [])
      ≡ reading_outcome 0 4 bench_empty_store
  -- reason 2: a fifth level
  pub five_levels : bench_record_reading (0x70 ∷ 0x08 ∷ 0xE1 ∷ 0x06 ∷ 0xE1 ∷ 0x04 ∷ 0xE1 ∷ 0x02 ∷ 0xE1 ∷ 0x00 ∷ [])
      ≡ reading_outcome 2 0 bench_empty_store
  -- no 9F38, and the first record
  pub begins : (first second : Buffer) → least_buffer ≤ length first → least_buffer ≤ length second
      → BenchFirstTwoCommands first second
  -- filling
  pub fills : (store : StoreBytes) → object_value store 0x9F02 ≡ present bench_amount
      → object_value store 0x95 ≡ present bench_tvr → BenchDolFillings store
  -- the choice
  pub chooses : (store : StoreBytes) → ZeroTacsAndNoIacDenial store → BenchChoices store
