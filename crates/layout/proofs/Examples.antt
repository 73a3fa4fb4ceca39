-- Heads and words by computation: each phase's fourteen bytes, heads that no record has, and the words at the edges of
-- their kinds.
-- Assumes nothing.
use mathlib.Core.Path.{◌≡◌, refl}
use mathlib.Core.Bool.{true, false}
use mathlib.Core.List.{[], ◌∷◌, map}
use Rattle.basics.specs.Alike.{bytes_equal}
use Rattle.basics.specs.Choice.{if, both}
use Rattle.basics.specs.Types.{Bytes, Count}
use Rattle.analysis.specs.declared.choice.Choice.{Choice}
use Rattle.analysis.specs.declared.cvm.Cvm.{Cvm}
use Rattle.analysis.specs.Cvm.{cvm_number_not_applicable}
use Rattle.session_record.specs.declared.Outcome.{Outcome}
use Rattle.session_record.specs.declared.AwaitedResponse.{AwaitedResponse}
use Rattle.session_record.specs.declared.Phase.{Phase}
use Rattle.session_record.specs.declared.CallResult.{CallResult}
use Rattle.session_record.specs.Session.{ending_of, outcome_parameters}
use Rattle.layout.specs.Layout.{phase_fields, phase_fields_of, big_endian_bytes, record_head_bytes, element_with_number}
use Rattle.layout.specs.Layout.{awaited_of_phase_fields, phase_of_phase_fields}
use Rattle.layout.specs.Word.{command_word, result_word}

-- the head of a phase and a count
abbrev head_of : Phase → Count → Bytes
head_of p n = record_head_bytes (phase_fields_of p) n

-- version, number of the phase, what it holds, reason, count, CVM, limit
heads : head_of Phase.Fresh 0
    ∷ head_of (Phase.Waiting AwaitedResponse.Gpo) 1
    ∷ head_of (Phase.Waiting (AwaitedResponse.Record (record { number = 3; limit = 999999999999 }))) 4
    ∷ head_of (Phase.Waiting (AwaitedResponse.Cryptogram
    (record { choice = Choice.Online; cvm = Cvm.ConfirmationCode; limit = 0xFEDCBA9876543210 }))) 5
    ∷ head_of (Phase.Waiting (AwaitedResponse.Checksum (record { limit = 100 }))) 3
    ∷ head_of (Phase.Ended (ending_of Outcome.SelectNext 6)) 5
    ∷ []
    ≡ (5 ∷ 0 ∷ 0 ∷ 0 ∷ 0 ∷ 0 ∷ 0 ∷ 0 ∷ 0 ∷ 0 ∷ 0 ∷ 0 ∷ 0 ∷ 0 ∷ [])
    ∷ (5 ∷ 1 ∷ 0 ∷ 0 ∷ 1 ∷ 0 ∷ 0 ∷ 0 ∷ 0 ∷ 0 ∷ 0 ∷ 0 ∷ 0 ∷ 0 ∷ [])
    ∷ (5 ∷ 2 ∷ 3 ∷ 0 ∷ 4 ∷ 0 ∷ 0 ∷ 0 ∷ 0 ∷ 0xE8 ∷ 0xD4 ∷ 0xA5 ∷ 0x0F ∷ 0xFF ∷ [])
    ∷ (5 ∷ 3 ∷ 0x80 ∷ 0 ∷ 5 ∷ 3 ∷ 0xFE ∷ 0xDC ∷ 0xBA ∷ 0x98 ∷ 0x76 ∷ 0x54 ∷ 0x32 ∷ 0x10 ∷ [])
    ∷ (5 ∷ 5 ∷ 0 ∷ 0 ∷ 3 ∷ 0 ∷ 0 ∷ 0 ∷ 0 ∷ 0 ∷ 0 ∷ 0 ∷ 0 ∷ 100 ∷ [])
    ∷ (5 ∷ 4 ∷ 4 ∷ 6 ∷ 5 ∷ 0 ∷ 0 ∷ 0 ∷ 0 ∷ 0 ∷ 0 ∷ 0 ∷ 0 ∷ 0 ∷ [])
    ∷ []
unfolding big_endian_bytes
heads = refl

-- codes of a phase; then a byte after fresh, a reason after a record, a P1 of 20, a P1 of C0, outcome 5, phase 6; the
-- CVMs 0 to 4, then 5 and none, and a CVM after a record and after an end; the checksum, and a byte and a CVM after it
codes : map (λ c. bytes_equal (record_head_bytes (phase_fields_of (phase_of_phase_fields c)) 0) (record_head_bytes c 0))
    (phase_fields 0 0 0 0 0 ∷ phase_fields 1 0 0 0 0 ∷ phase_fields 2 255 0 0 100 ∷ phase_fields 3 0x40 0 0 100
    ∷ phase_fields 4 4 6 0 0 ∷ phase_fields 0 1 0 0 0 ∷ phase_fields 2 1 1 0 100 ∷ phase_fields 3 0x20 0 0 100
    ∷ phase_fields 3 0xC0 0 0 100 ∷ phase_fields 4 5 0 0 0 ∷ phase_fields 6 3 1 0 0 ∷ phase_fields 3 0x80 0 0 100
    ∷ phase_fields 3 0x80 0 1 100 ∷ phase_fields 3 0x80 0 2 100 ∷ phase_fields 3 0x80 0 3 100 ∷ phase_fields 3 0x80 0 4 100
    ∷ phase_fields 3 0x80 0 5 100 ∷ phase_fields 3 0x80 0 15 100 ∷ phase_fields 2 1 0 1 100 ∷ phase_fields 4 0 0 15 0
    ∷ phase_fields 5 0 0 0 100 ∷ phase_fields 5 1 0 0 100 ∷ phase_fields 5 0 0 15 100 ∷ [])
    ≡ true ∷ true ∷ true ∷ true ∷ true ∷ false ∷ false ∷ false ∷ false ∷ false ∷ false
    ∷ true ∷ true ∷ true ∷ true ∷ true ∷ false ∷ false ∷ false ∷ false
    ∷ true ∷ false ∷ false ∷ []
unfolding bytes_equal big_endian_bytes phase_of_phase_fields awaited_of_phase_fields element_with_number both if
codes = refl

-- a limit of 1 is held while a record, the cryptogram or the checksum is awaited, and by no other phase
limits : map (λ n. (phase_fields_of (phase_of_phase_fields (phase_fields n 0 0 0 1))).limit) (0 ∷ 1 ∷ 2 ∷ 3 ∷ 4 ∷ 5 ∷ []) ≡ 0
    ∷ 0 ∷ 1 ∷ 1 ∷ 0 ∷ 1 ∷ []
unfolding phase_of_phase_fields awaited_of_phase_fields element_with_number if
limits = refl

-- a command's length, the longest that a word reports, one more; an approval with a signature, the last outcome before
-- a choice of the CVM, and an end with an offline PIN; the refusals
words : map result_word
    (CallResult.Command (record { size = 5 }) ∷ CallResult.Command (record { size = 65535 }) ∷ CallResult.Command
    (record { size = 65536 })
    ∷ CallResult.Outcome (outcome_parameters (ending_of Outcome.Approved 0) 1) ∷ CallResult.Outcome
    (outcome_parameters (ending_of Outcome.SelectNext 6) cvm_number_not_applicable) ∷ CallResult.Outcome
    (outcome_parameters (ending_of Outcome.Ended 9) 4)
    ∷ CallResult.Refused (record { number = 20 }) ∷ CallResult.Refused (record { number = 25 }) ∷ [])
    ≡ 5 ∷ 65535 ∷ 65535 ∷ 0x01010000 ∷ 0x0F010406 ∷ 0x04010309 ∷ 0x20014 ∷ 0x20019 ∷ []
unfolding command_word
words = refl
