-- What a record's bytes may be (document 01, "Reading an answer" and "Dictionary"): lengths and tags that are refused,
-- and the templates that an object may be in. A record that is read has the next one requested.
-- Assumes nothing.
use Rattle.std.specs.Prelude.{◌≡◌, List, [], ◌∷◌, ◌++◌, map, replicate}
use Rattle.basics.specs.Types.{Response, Tag}
use Rattle.tlv.specs.Encoding.{object_bytes}
use Rattle.worked_examples.specs.Sessions.{TagValue, waits_on_first_of_two_records}
use Rattle.worked_examples.specs.Calls.{results_of_answers, command_result, ended_result_without_cvm, with9000}

-- lengths of 127 bytes in one byte, in two, in three; of none in two and three; then 80, 83 and 84
abbrev pub record_answers_of_length_forms : List Response
record_answers_of_length_forms =
    with9000 (0x70 ∷ 0x7F ∷ replicate 127 0)
    ∷ with9000 (0x70 ∷ 0x81 ∷ 0x7F ∷ replicate 127 0)
    ∷ with9000 (0x70 ∷ 0x82 ∷ 0x00 ∷ 0x7F ∷ replicate 127 0)
    ∷ with9000 (0x70 ∷ 0x81 ∷ 0x00 ∷ [])
    ∷ with9000 (0x70 ∷ 0x82 ∷ 0x00 ∷ 0x00 ∷ [])
    ∷ with9000 (0x70 ∷ 0x80 ∷ [])
    ∷ with9000 (0x70 ∷ 0x83 ∷ 0x00 ∷ 0x00 ∷ 0x00 ∷ [])
    ∷ with9000 (0x70 ∷ 0x84 ∷ 0x00 ∷ 0x00 ∷ 0x00 ∷ 0x00 ∷ [])
    ∷ []

-- empty objects of unknown tags of one, two and three bytes; then a fourth byte, and a second byte of 80
abbrev pub record_answers_of_tag_forms : List Response
record_answers_of_tag_forms =
    map (λ v. with9000 (object_bytes 0x70 v))
    ((0x42 ∷ 0x00 ∷ []) ∷ (0x5F ∷ 0x60 ∷ 0x00 ∷ []) ∷ (0x5F ∷ 0x81 ∷ 0x60 ∷ 0x00 ∷ [])
    ∷ (0x5F ∷ 0x81 ∷ 0x81 ∷ 0x60 ∷ 0x00 ∷ []) ∷ (0x5F ∷ 0x80 ∷ 0x60 ∷ 0x00 ∷ []) ∷ [])

-- five objects of A5, four of BF0C and one of 6F; 9F6E may be in a 70, too
abbrev pub objects_of_fci_templates : List TagValue
objects_of_fci_templates =
    (0x50, 0x41 ∷ []) ∷ (0x87, 0x01 ∷ []) ∷ (0x5F2D, 0x65 ∷ 0x6E ∷ []) ∷ (0x9F11, 0x01 ∷ []) ∷ (0x9F12, 0x41 ∷ [])
    ∷ (0x9F4D, replicate 2 0) ∷ (0x9F5D, replicate 3 0) ∷ (0x9F5E, replicate 8 0) ∷ (0x9F6E, replicate 5 0)
    ∷ (0x84, replicate 5 0) ∷ []

-- each of them alone in this template, inside the 70 of the record
abbrev pub record_answers_each_in_template : Tag → List TagValue → List Response
record_answers_each_in_template template objects =
    map (λ o. with9000 (object_bytes 0x70 (object_bytes template (object_bytes o.0 o.1)))) objects

pub record EncodingExamples : Type 0 where
  pub lengths : results_of_answers waits_on_first_of_two_records record_answers_of_length_forms ≡ replicate 5 (command_result 5)
      ++ replicate 3 (ended_result_without_cvm 2)
  pub tags : results_of_answers waits_on_first_of_two_records record_answers_of_tag_forms ≡ replicate 3 (command_result 5)
      ++ replicate 2 (ended_result_without_cvm 2)
  pub in_a5 : results_of_answers waits_on_first_of_two_records (record_answers_each_in_template 0xA5 objects_of_fci_templates)
      ≡ replicate 5 (command_result 5) ++ replicate 5 (ended_result_without_cvm 3)
  pub in_bf0c : results_of_answers waits_on_first_of_two_records (record_answers_each_in_template 0xBF0C objects_of_fci_templates)
      ≡ replicate 5 (ended_result_without_cvm 3) ++ replicate 4 (command_result 5) ++ (ended_result_without_cvm 3 ∷ [])
  pub in_6f : results_of_answers waits_on_first_of_two_records (record_answers_each_in_template 0x6F objects_of_fci_templates)
      ≡ replicate 9 (ended_result_without_cvm 3) ++ (command_result 5 ∷ [])
  pub in_70 : results_of_answers waits_on_first_of_two_records (record_answers_each_in_template 0x70 objects_of_fci_templates)
      ≡ replicate 8 (ended_result_without_cvm 3) ++ (command_result 5 ∷ ended_result_without_cvm 3 ∷ [])
  pub in_77 : results_of_answers waits_on_first_of_two_records (record_answers_each_in_template 0x77 objects_of_fci_templates)
      ≡ replicate 10 (ended_result_without_cvm 3)
