-- How the worked examples call a session, and what they write down of its step: what the call returns, the command that
-- it hands out, what the store holds after it; and the card's bytes that they send.
-- Assumes nothing.
use Rattle.std.specs.Prelude.{List, [], ◌∷◌, ◌++◌, map, ◌-◌, length, replicate}
use Rattle.basics.specs.Types.{Bytes, Response, CommandBytes, Buffer, Tag, Length, Reason, RefusalNumber, CvmNumber}
use Rattle.tlv.specs.Encoding.{object_bytes}
use Rattle.store.specs.Place.{StoredValue, object_value}
use Rattle.session_record.specs.declared.CallResult.{CallResult}
use Rattle.session_record.specs.declared.Outcome.{Outcome}
use Rattle.session_record.specs.declared.Session.{Session}
use Rattle.session_record.specs.Session.{store_bytes, ending_of, outcome_parameters}
use Rattle.session.specs.Calls.{Call, answer, call_step, command_sent}

-- ---- the calls

-- the least command buffer, and one byte less
abbrev pub buffer_of261 : Buffer
buffer_of261 = replicate 261 0

abbrev pub buffer_of260 : Buffer
buffer_of260 = replicate 260 0

-- what a call returns
unfoldable pub result_of : Session → Call → CallResult
result_of s c = (call_step s c).reply.answer

-- the command that it hands out, none where there is no command
unfoldable pub command_of : Session → Call → List CommandBytes
command_of s c = command_sent (call_step s c).reply.answer (call_step s c).buffer

-- with the least buffer: what card bytes get, one by one
unfoldable pub result_of_answer : Session → Response → CallResult
result_of_answer s card = (call_step s (answer card buffer_of261)).reply.answer

unfoldable pub results_of_answers : Session → List Response → List CallResult
results_of_answers s cards = map (result_of_answer s) cards

-- what the store holds of a tag after an answer
unfoldable pub stored_value_after_answer : Session → Response → Tag → StoredValue
stored_value_after_answer s card tag = object_value (store_bytes (call_step s (answer card buffer_of261)).reply.session) tag

-- ---- what is returned

-- a refusal by its number
abbrev pub refusal_result : RefusalNumber → CallResult
refusal_result n = CallResult.Refused (record { number = n })

-- a command of so many bytes
abbrev pub command_result : Length → CallResult
command_result n = CallResult.Command (record { size = n })

-- an outcome by its reason and the CVM's number: 15 where no CVM was chosen, 2 for an online PIN
abbrev pub outcome_result : Outcome → Reason → CvmNumber → CallResult
outcome_result o reason cvm = CallResult.Outcome (outcome_parameters (ending_of o reason) cvm)

abbrev pub ended_result_without_cvm : Reason → CallResult
ended_result_without_cvm reason = outcome_result Outcome.Ended reason 15

abbrev pub ended_result_with_online_pin : Reason → CallResult
ended_result_with_online_pin reason = outcome_result Outcome.Ended reason 2

-- ---- the card's bytes

-- a body with status 90 00, and with status 6A 82
abbrev pub with9000 : Bytes → Response
with9000 body = body ++ (0x90 ∷ 0x00 ∷ [])

abbrev pub with6a82 : Bytes → Response
with6a82 body = body ++ (0x6A ∷ 0x82 ∷ [])

-- contents in a 77, with status 90 00
abbrev pub answer_with_contents_in77 : Bytes → Response
answer_with_contents_in77 contents = with9000 (object_bytes 0x77 contents)

-- an answer of 259 bytes: one object of a tag of one byte, with padding after its contents, and status 90 00
abbrev pub answer_of259_bytes : Tag → Bytes → Response
answer_of259_bytes tag contents = with9000 (object_bytes tag (contents ++ replicate (254 - length contents) 0))

-- one whose status is not 90 00
abbrev pub too_long_answer : Response
too_long_answer = replicate 259 0

-- an object of a tag of one byte whose contents are truncated
abbrev pub truncated_object : Tag → Bytes
truncated_object tag = tag ∷ 0x05 ∷ []

-- a body with a byte after its one object
abbrev pub with_trailing_byte : Bytes → Bytes
with_trailing_byte body = body ++ (0x00 ∷ [])

-- a body inside a template that no answer has
abbrev pub wrapped_in61 : Bytes → Bytes
wrapped_in61 body = object_bytes 0x61 body

-- the TVR, which is not the card's to set
abbrev pub tvr_object_from_card : Bytes
tvr_object_from_card = object_bytes 0x95 (0x00 ∷ [])
