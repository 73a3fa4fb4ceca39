-- The accepted AFL and the published order (document 01, "What demand 3 counts"; document 02, Item 9, for its
-- last command).
-- Assumes nothing.
use Rattle.std.specs.Prelude.{Bool, List, [], ◌∷◌, ◌++◌, map, ◌-◌, length, get_or, take, drop, Option, Some, None}
use Rattle.basics.specs.Types.{Value, Response, CommandBytes, AflBytes, Byte, Tag}
use Rattle.basics.specs.Choice.{when◌then◌else◌, ◌and◌, ◌<?◌, ◌=?◌}
use Rattle.basics.specs.Reason.{reason_none}
use Rattle.afl.specs.Records.{afl_records}
use Rattle.analysis.specs.Bits.{value_has_bit}
use Rattle.command.specs.WithList.{cla_proprietary, ins_gpo, ins_generate_ac, ins_compute_checksum}
use Rattle.command.specs.ReadRecord.{read_record_command}
use Rattle.reading.specs.Taking.{PrimitiveItem, primitive_items}
use Rattle.reading.specs.Answer.{ResponseBody, primitive, template, parse_response_body}
use Rattle.session_record.specs.Session.{store_bytes}
use Rattle.session.specs.Answer.{gpo_reason}
use Rattle.session_claim.specs.Calls.{is_answer}
use Rattle.session.specs.Calls.{Call, start, answer, link_failed, stop, CallMade}

-- ---- the AFL and the AIP that card bytes bring: read from their objects alone, not from the store

-- an object of a tag that is not empty, directly inside a 77, at any level
abbrev pub is_non_empty_object_directly_inside77 : Tag → PrimitiveItem → Bool
is_non_empty_object_directly_inside77 tag i =
    i.tag =? tag
    and i.around =? 0x77
    and 0 <? length i.value

-- the first such object
unfoldable pub first_non_empty_value_directly_inside77 : Tag → List PrimitiveItem → Option Value
first_non_empty_value_directly_inside77 tag [] = None
first_non_empty_value_directly_inside77 tag (i ∷ is) =
    when is_non_empty_object_directly_inside77 tag i then Some i.value
    else first_non_empty_value_directly_inside77 tag is

-- the AFL: under 80 the bytes after the two of 82, where there are any; in a template the 94 inside a 77
abbrev pub afl_in_gpo_body : Option ResponseBody → Option AflBytes
afl_in_gpo_body None = None
afl_in_gpo_body (Some (primitive t v)) =
    when t =? 0x80 and 2 <? length v then Some (drop 2 v)
    else None
afl_in_gpo_body (Some (template t f)) = first_non_empty_value_directly_inside77 0x94 (primitive_items t f)

-- the AIP: under 80 the first two bytes, where there are so many; in a template the 82 inside a 77
abbrev pub aip_in_gpo_body : Option ResponseBody → Option Value
aip_in_gpo_body None = None
aip_in_gpo_body (Some (primitive t v)) =
    when t =? 0x80 and 1 <? length v then Some (take 2 v)
    else None
aip_in_gpo_body (Some (template t f)) = first_non_empty_value_directly_inside77 0x82 (primitive_items t f)

-- of all card bytes but the last two, which are the status
unfoldable pub afl_in_gpo_response : Response → Option AflBytes
afl_in_gpo_response card = afl_in_gpo_body (parse_response_body (take (length card - 2) card))

unfoldable pub aip_in_gpo_response : Response → Option Value
aip_in_gpo_response card = aip_in_gpo_body (parse_response_body (take (length card - 2) card))

-- ---- the accepted AFL

-- the first answer among calls
unfoldable pub first_answer : List CallMade → Option CallMade
first_answer [] = None
first_answer (m ∷ ms) =
    when is_answer m.call then Some m
    else first_answer ms

-- the card's bytes that a call brings; only an answer brings any
abbrev pub card_bytes : Call → Response
card_bytes (start bytes buf) = []
card_bytes (answer card buf) = card
card_bytes (link_failed buf) = []
card_bytes (stop buf) = []

-- by the first answer not refused: the AFL that it brings, where the rules give it no reason on the store of the
-- session before it; before that answer none is accepted. `gpo_reason` is the reason of an answer to GPO: the first
-- answer taken is always that one (`first_on_gpo` in proofs/Rules).
abbrev pub afl_accepted_from_gpo_answer : Option CallMade → Option AflBytes
afl_accepted_from_gpo_answer None = None
afl_accepted_from_gpo_answer (Some m) =
    when gpo_reason (store_bytes m.before) (card_bytes m.call) =? reason_none
    then afl_in_gpo_response (card_bytes m.call)
    else None

-- ---- the published order

-- a command as it is compared: a record command in all its bytes
pub data CommandKind : Type 0 where
  gpo : CommandKind
  record_command_kind : CommandBytes → CommandKind
  cryptogram : CommandKind
  checksum : CommandKind

-- a command begins with these two bytes
abbrev pub begins_with_two_bytes : Byte → Byte → CommandBytes → Bool
begins_with_two_bytes a b c = get_or c 0 0 =? a and get_or c 1 0 =? b

-- by its first two bytes
unfoldable pub command_kind : CommandBytes → CommandKind
command_kind c =
    when begins_with_two_bytes cla_proprietary ins_gpo c then gpo
    else when begins_with_two_bytes cla_proprietary ins_generate_ac c then cryptogram
    else when begins_with_two_bytes cla_proprietary ins_compute_checksum c then checksum
    else record_command_kind c

-- the last command by an AIP: the checksum where byte 2 b8 is clear, else the cryptogram
unfoldable pub final_command_kind_for_aip : Option Value → CommandKind
final_command_kind_for_aip None = cryptogram
final_command_kind_for_aip (Some v) =
    when value_has_bit v 2 8 then cryptogram
    else checksum

-- by the first answer not refused: the AIP that it brings
abbrev pub final_command_kind_by_gpo_answer : Option CallMade → CommandKind
final_command_kind_by_gpo_answer None = cryptogram
final_command_kind_by_gpo_answer (Some m) = final_command_kind_for_aip (aip_in_gpo_response (card_bytes m.call))

-- without an accepted AFL there is the first command alone; with one, its records' commands follow in their order and
-- then the last command
unfoldable pub published_order : CommandKind → Option AflBytes → List CommandKind
published_order last None = gpo ∷ []
published_order last (Some l) = gpo ∷ (map (λ r. record_command_kind (read_record_command r)) (afl_records l) ++ (last ∷ []))
