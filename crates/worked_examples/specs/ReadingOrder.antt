-- The order of the reasons of a reading, which every answer has alike (document 01, the order of reasons): length (2),
-- status (1), encoding (2), outer tag or body (2), objects (3). An answer gives two reasons, which name its field; the
-- session ends with the first. The session s awaits an answer of one outer tag and ends as `ended` says.
-- Assumes nothing.
use Rattle.std.specs.Prelude.{◌≡◌, [], ◌++◌}
use Rattle.basics.specs.Types.{Bytes, Tag, Reason}
use Rattle.tlv.specs.Encoding.{object_bytes}
use Rattle.session_record.specs.declared.CallResult.{CallResult}
use Rattle.session_record.specs.declared.Session.{Session}
use Rattle.worked_examples.specs.Calls.{result_of_answer, with9000, with6a82, answer_of259_bytes, too_long_answer}
use Rattle.worked_examples.specs.Calls.{truncated_object, with_trailing_byte, wrapped_in61, tvr_object_from_card}

-- two reasons of the reading, or one and an object missing; the tag `other` is outside in no answer of this kind
pub record ReasonsInReadingOrder (session : Session) (outer_tag wrong_outer_tag : Tag) (ended_for : Reason → CallResult) :
    Type 0 where
  pub length_status : result_of_answer session too_long_answer ≡ ended_for 2
  pub length_objects : result_of_answer session (answer_of259_bytes outer_tag tvr_object_from_card) ≡ ended_for 2
  pub status_encoding : result_of_answer session (with6a82 (truncated_object outer_tag)) ≡ ended_for 1
  pub status_outer_tag : result_of_answer session (with6a82 (object_bytes wrong_outer_tag [])) ≡ ended_for 1
  pub status_objects : result_of_answer session (with6a82 (object_bytes outer_tag tvr_object_from_card)) ≡ ended_for 1
  pub encoding_objects : result_of_answer session (with9000 (with_trailing_byte (object_bytes outer_tag tvr_object_from_card)))
      ≡ ended_for 2
  pub outer_tag_objects : result_of_answer session (with9000 (object_bytes wrong_outer_tag tvr_object_from_card)) ≡ ended_for 2
  pub outer_tag_missing : result_of_answer session (with9000 (object_bytes wrong_outer_tag [])) ≡ ended_for 2

-- each reason of the reading before one that comes after it, which these contents alone give
pub record ReadingReasonsBeforeLaterReason (session : Session) (outer_tag : Tag) (contents_with_later_reason : Bytes)
    (ended_for : Reason → CallResult) : Type 0 where
  pub length : result_of_answer session (answer_of259_bytes outer_tag contents_with_later_reason) ≡ ended_for 2
  pub status : result_of_answer session (with6a82 (object_bytes outer_tag contents_with_later_reason)) ≡ ended_for 1
  pub encoding : result_of_answer session (with9000 (with_trailing_byte (object_bytes outer_tag contents_with_later_reason)))
      ≡ ended_for 2
  pub outer_tag_lem : result_of_answer session (with9000 (wrapped_in61 (object_bytes outer_tag contents_with_later_reason)))
      ≡ ended_for 2
  pub objects : result_of_answer session (with9000 (object_bytes outer_tag (contents_with_later_reason ++ tvr_object_from_card)))
      ≡ ended_for 3
