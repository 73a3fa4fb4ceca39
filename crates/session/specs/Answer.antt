-- The call answer (document 01, "Commands and steps" and the order of reasons): what follows each response that is
-- awaited, by the bytes b of the session's store.
-- Assumes nothing.
use Rattle.afl.specs.declared.CardRecord.{CardRecord}
use Rattle.std.specs.Prelude.{Bool, not, ◌+◌, ◌/◌, Option, Some, None}
use Rattle.basics.specs.Types.{StoreBytes, Response, Buffer, Byte, RecordNumber, Amount, Reason}
use Rattle.basics.specs.Choice.{when◌then◌else◌, ◌and◌, ◌=?◌}
use Rattle.basics.specs.Reason.{reason_none, reason_object_missing, reason_afl_invalid, reason_above_limit}
use Rattle.basics.specs.Reason.{reason_cryptogram_type_not_allowed, reason_no_supported_mode}
use Rattle.store.specs.Held.{has_object, stored_byte}
use Rattle.afl.specs.Records.{accepts_afl, kth_record_of_accepted_afl}
use Rattle.command.specs.ReadRecord.{read_record_command}
use Rattle.reading.specs.declared.Awaited.{Awaited}
use Rattle.command.specs.WithList.{generate_ac}
use Rattle.analysis.specs.declared.choice.Choice.{Choice}
use Rattle.analysis.specs.Choice.{generate_ac_p1}
use Rattle.analysis.specs.Action.{transaction_limit, stored_amount_above_limit, findings_of, choice_for_tvr}
use Rattle.analysis.specs.Cvm.{cvm_number, cvm_number_not_applicable}
use Rattle.session_record.specs.declared.Outcome.{Outcome}
use Rattle.session_record.specs.declared.Ending.{Ending}
use Rattle.session_record.specs.declared.AwaitedRecord.{AwaitedRecord}
use Rattle.session_record.specs.declared.RequestedCryptogram.{RequestedCryptogram}
use Rattle.session_record.specs.declared.AwaitedResponse.{AwaitedResponse}
use Rattle.session_record.specs.declared.Session.{Session}
use Rattle.session_record.specs.Session.{store_bytes, ending_of, ending_for_reason}
use Rattle.session_record.specs.Ranges.{emv_mode, emv_or_mag_stripe_mode, stored_afl, expiry_pan_and_cdol1_non_empty}
use Rattle.session.specs.Steps.{NextAction, ask, end, end_for_reason, request_command_or_end_for_dol, reason_of_next}
use Rattle.session.specs.Steps.{read_response_then, store_with_findings}
use Rattle.session.specs.Steps.{Step, step_if_admitted, effect_if_running}
use Rattle.session.specs.MagStripe.{next_after_records_in_mag_stripe_mode, next_on_checksum_response}

-- ---- READ RECORD

-- waiting for the k-th record, with the transaction limit l
abbrev pub awaited_record_with_limit : Amount → RecordNumber → AwaitedResponse
awaited_record_with_limit l k = AwaitedResponse.Record (record { number = k; limit = l })

-- the k-th record is requested if the AFL names so many; else the other follows
abbrev pub request_kth_record_if_found : Amount → RecordNumber → StoreBytes → NextAction → Option CardRecord → NextAction
request_kth_record_if_found l k b other None = other
request_kth_record_if_found l k b other (Some r) = ask (read_record_command r) (awaited_record_with_limit l k) b

-- the record at that place of the stored AFL
abbrev pub request_kth_record_or_else : Amount → RecordNumber → StoreBytes → NextAction → NextAction
request_kth_record_or_else l k b other = request_kth_record_if_found l k b other (kth_record_of_accepted_afl (stored_afl b) k)

-- ---- the answer to GPO

-- 82 and 94 are present
abbrev pub aip_and_afl_present : StoreBytes → Bool
aip_and_afl_present b = has_object b 0x82 and has_object b 0x94

-- once the answer is read: an object missing (4), neither EMV mode nor mag-stripe mode (11; document 02, Item 9), the
-- AFL (5); else the first record is requested, which an accepted AFL always has. Here the transaction limit is fixed
-- (document 02, Item 8): the session holds it from now on
unfoldable pub next_after_gpo_read : StoreBytes → NextAction
next_after_gpo_read b =
    when not (aip_and_afl_present b) then end_for_reason reason_object_missing b
    else when not (emv_or_mag_stripe_mode b) then end_for_reason reason_no_supported_mode b
    else when not (accepts_afl (stored_afl b)) then end_for_reason reason_afl_invalid b
    else request_kth_record_or_else (transaction_limit b) 1 b (end_for_reason reason_afl_invalid b)

-- the answer to GPO
unfoldable pub next_on_gpo_response : StoreBytes → Response → NextAction
next_on_gpo_response b card = read_response_then Awaited.Gpo cvm_number_not_applicable b card next_after_gpo_read

-- the reason that the rules give to the answer, 0 where they give none
abbrev pub gpo_reason : StoreBytes → Response → Reason
gpo_reason b card = reason_of_next (next_on_gpo_response b card)

-- ---- the answer to a record

-- GENERATE AC carries the filled CDOL1 (8C) and asks for the choice; the session holds the CVM
unfoldable pub request_cryptogram : RequestedCryptogram → StoreBytes → NextAction
request_cryptogram a b =
    request_command_or_end_for_dol (AwaitedResponse.Cryptogram a) b (generate_ac (generate_ac_p1 a.choice) b)

-- what is requested: the choice on the TVR with the bits of the verification, the CVM, and the limit l that the
-- session holds
unfoldable pub requested_cryptogram : Amount → StoreBytes → RequestedCryptogram
requested_cryptogram l b = record { choice = choice_for_tvr b (findings_of b).bits; cvm = (findings_of b).cvm; limit = l }

-- after the last record in EMV mode: the amount above the limit that the session holds (6), an object that is needed
-- missing (4); else 9F34 and the TVR are stored, the choice is made on the bits, and 8C is filled after
unfoldable pub next_after_records_in_emv_mode : Amount → StoreBytes → NextAction
next_after_records_in_emv_mode l b =
    when stored_amount_above_limit l b then end_for_reason reason_above_limit b
    else when not (expiry_pan_and_cdol1_non_empty b) then end_for_reason reason_object_missing b
    else request_cryptogram (requested_cryptogram l b) (store_with_findings b (findings_of b))

-- by the mode that the AIP (82) indicates: EMV mode, else mag-stripe mode
unfoldable pub next_after_last_record : Amount → StoreBytes → NextAction
next_after_last_record l b =
    when emv_mode b then next_after_records_in_emv_mode l b
    else next_after_records_in_mag_stripe_mode l b

-- after a record: the next one; the limit stays
unfoldable pub next_after_record_read : AwaitedRecord → StoreBytes → NextAction
next_after_record_read p b = request_kth_record_or_else p.limit (p.number + 1) b (next_after_last_record p.limit b)

-- the answer is read by the file of the record that was requested. A session in its ranges has one
abbrev pub next_on_response_for_record_found : AwaitedRecord → StoreBytes → Response → Option CardRecord → NextAction
next_on_response_for_record_found p b card None = end_for_reason reason_afl_invalid b
next_on_response_for_record_found p b card (Some r) =
    read_response_then (Awaited.Record (record { number = r.sfi })) cvm_number_not_applicable b card (next_after_record_read p)

-- the answer to READ RECORD
unfoldable pub next_on_record_response : AwaitedRecord → StoreBytes → Response → NextAction
next_on_record_response p b card = next_on_response_for_record_found p b card (kth_record_of_accepted_afl (stored_afl b) p.number)

-- ---- the answer to the cryptogram

-- the types of an application cryptogram, in the top two bits of the CID: 00 AAC, 01 TC, 10 ARQC
abbrev pub cryptogram_type_aac : Byte
cryptogram_type_aac = 0

abbrev pub cryptogram_type_tc : Byte
cryptogram_type_tc = 1

abbrev pub cryptogram_type_arqc : Byte
cryptogram_type_arqc = 2

-- a cryptogram of type 10 (ARQC) goes online unless a decline was requested
abbrev pub outcome_for_arqc : Choice → Option Outcome
outcome_for_arqc Choice.Decline = None
outcome_for_arqc Choice.Online = Some Outcome.OnlineRequest
outcome_for_arqc Choice.Offline = Some Outcome.OnlineRequest

-- one of type 01 (TC): approved if 40 was requested
abbrev pub outcome_for_tc : Choice → Option Outcome
outcome_for_tc Choice.Decline = None
outcome_for_tc Choice.Online = None
outcome_for_tc Choice.Offline = Some Outcome.Approved

-- the decision, by what was requested and the type in the top two bits of 9F27: 00 (AAC) declined always, then the two
-- above; else none
unfoldable pub outcome_for_cryptogram_type : Choice → Byte → Option Outcome
outcome_for_cryptogram_type c kind =
    when kind =? cryptogram_type_aac then Some Outcome.Declined
    else when kind =? cryptogram_type_arqc then outcome_for_arqc c
    else when kind =? cryptogram_type_tc then outcome_for_tc c
    else None

-- a decision has reason 0; a cryptogram of a type that the one requested does not allow ends the session with reason 8
abbrev pub ending_for_decision : Option Outcome → Ending
ending_for_decision None = ending_for_reason reason_cryptogram_type_not_allowed
ending_for_decision (Some o) = ending_of o reason_none

-- 9F27, 9F36 and 9F26 are present
abbrev pub cid_atc_and_cryptogram_present : StoreBytes → Bool
cid_atc_and_cryptogram_present b = has_object b 0x9F27 and has_object b 0x9F36 and has_object b 0x9F26

-- how the session ends once the answer is read: an object missing (4), then by the decision
unfoldable pub cryptogram_ending : RequestedCryptogram → StoreBytes → Ending
cryptogram_ending a b =
    when not (cid_atc_and_cryptogram_present b) then ending_for_reason reason_object_missing
    else ending_for_decision (outcome_for_cryptogram_type a.choice (stored_byte b 0x9F27 1 / 64))

-- every end reports the CVM held
abbrev pub next_after_cryptogram_read : RequestedCryptogram → StoreBytes → NextAction
next_after_cryptogram_read a b = end (cryptogram_ending a b) (cvm_number a.cvm) b

-- the answer to GENERATE AC
unfoldable pub next_on_cryptogram_response : RequestedCryptogram → StoreBytes → Response → NextAction
next_on_cryptogram_response a b card =
    read_response_then Awaited.Cryptogram (cvm_number a.cvm) b card (next_after_cryptogram_read a)

-- ---- the call

-- what follows the response that was awaited
abbrev pub next_on_response : StoreBytes → Response → AwaitedResponse → NextAction
next_on_response b card AwaitedResponse.Gpo = next_on_gpo_response b card
next_on_response b card (AwaitedResponse.Record p) = next_on_record_response p b card
next_on_response b card (AwaitedResponse.Cryptogram a) = next_on_cryptogram_response a b card
next_on_response b card (AwaitedResponse.Checksum c) = next_on_checksum_response b card

-- the call answer
abbrev pub answer_step : Session → Response → Buffer → Step
answer_step s card buf = step_if_admitted s buf (effect_if_running s.phase (next_on_response (store_bytes s) card))
