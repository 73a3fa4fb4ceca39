-- The DOLs that the commands are filled from (document 01, "Commands and steps"; document 02, Item 9): the PDOL 9F38
-- for GET PROCESSING OPTIONS, CDOL1 8C for GENERATE AC, the UDOL 9F69 for COMPUTE CRYPTOGRAPHIC CHECKSUM. The list of
-- each command requests 9F37; where the store may have the others, they request something else.
-- Assumes nothing.
use Rattle.std.specs.Prelude.{◌≡◌, List, [], ◌∷◌}
use Rattle.basics.specs.Types.{StartBytes, DolBytes}
use Rattle.session_record.specs.Session.{fresh_session}
use Rattle.session.specs.Calls.{Call, start, answer}
use Rattle.worked_examples.specs.Sessions.{TagValue, encoded_tag_values, start_objects_of_units_and_configuration}
use Rattle.worked_examples.specs.Sessions.{bcd_units_below_limit, configuration_mag_stripe_off}
use Rattle.worked_examples.specs.Sessions.{emv_aip, mag_stripe_aip, track_objects, track_with_separator}
use Rattle.worked_examples.specs.Sessions.{waits_on_only_record_with_pdol}
use Rattle.worked_examples.specs.Calls.{buffer_of261, command_of}
use Rattle.worked_examples.specs.Records.{record_answer_of}

-- four bytes of 9F37, and six of 9F02
abbrev pub dol_of_unpredictable_number : DolBytes
dol_of_unpredictable_number = 0x9F ∷ 0x37 ∷ 0x04 ∷ []

abbrev pub dol_of_amount : DolBytes
dol_of_amount = 0x9F ∷ 0x02 ∷ 0x06 ∷ []

-- a start with a PDOL, and the last record with its objects, its list and the other's
abbrev pub start_bytes_with_pdol : StartBytes
start_bytes_with_pdol =
    encoded_tag_values ((0x9F38, dol_of_unpredictable_number) ∷ start_objects_of_units_and_configuration bcd_units_below_limit
    configuration_mag_stripe_off)

abbrev pub record_answer_call : List TagValue → Call
record_answer_call objects = answer (record_answer_of objects) buffer_of261

abbrev pub record_objects_with_cdol_and_udol : List TagValue
record_objects_with_cdol_and_udol =
    (0x5F24, 0x30 ∷ 0x12 ∷ 0x31 ∷ []) ∷ (0x5A, 0x54 ∷ 0x13 ∷ []) ∷ (0x8C, dol_of_unpredictable_number)
    ∷ (0x9F69, dol_of_amount) ∷ []

pub record DolExamples : Type 0 where
  pub gpo : command_of fresh_session (start start_bytes_with_pdol buffer_of261)
      ≡ (0x80 ∷ 0xA8 ∷ 0x00 ∷ 0x00 ∷ 0x06 ∷ 0x83 ∷ 0x04 ∷ 0x01 ∷ 0x02 ∷ 0x03 ∷ 0x04 ∷ 0x00 ∷ []) ∷ []
  pub cryptogram : command_of (waits_on_only_record_with_pdol emv_aip) (record_answer_call record_objects_with_cdol_and_udol)
      ≡ (0x80 ∷ 0xAE ∷ 0x80 ∷ 0x00 ∷ 0x04 ∷ 0x01 ∷ 0x02 ∷ 0x03 ∷ 0x04 ∷ 0x00 ∷ []) ∷ []
  pub checksum :
      command_of (waits_on_only_record_with_pdol mag_stripe_aip)
      (record_answer_call ((0x9F69, dol_of_unpredictable_number) ∷ (0x8C, dol_of_amount) ∷ track_objects track_with_separator))
      ≡ (0x80 ∷ 0x2A ∷ 0x8E ∷ 0x80 ∷ 0x04 ∷ 0x01 ∷ 0x02 ∷ 0x03 ∷ 0x04 ∷ 0x00 ∷ []) ∷ []
