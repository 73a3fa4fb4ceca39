-- A list of calls in bytes: the calls concatenated, and read back.
-- Assumes nothing.
use Rattle.std.specs.Prelude.{Option, Some, None}
use Rattle.std.specs.Prelude.{Bool, List, [], ◌∷◌, ◌++◌, ℕ, zero, suc, ◌+◌, ◌/◌, ◌%◌, length, get_or, take, drop}
use Rattle.basics.specs.Choice.{when◌then◌else◌, ◌and◌, ◌or◌, ◌≤?◌, ◌=?◌}
use Rattle.basics.specs.Number.{big_endian_number}
use Rattle.basics.specs.Recursion.{recurse_with_fuel_from_length}
use Rattle.basics.specs.Types.{Byte, Bytes, Buffer, Length, Offset}
use Rattle.session.specs.Calls.{Call, start, answer, link_failed, stop}
use Rattle.call_list.specs.declared.CallHeader.{CallHeader}

-- ---- written

-- a number in w bytes, high byte first; what the other bytes cannot hold is left in the first
unfoldable pub big_endian_bytes : Length → ℕ → Bytes
big_endian_bytes zero n = []
big_endian_bytes (suc zero) n = n ∷ []
big_endian_bytes (suc (suc w)) n = big_endian_bytes (suc w) (n / 256) ++ (n % 256 ∷ [])

-- its kind, the lengths of the bytes that come in and of the caller's buffer in eight bytes each, the bytes, the buffer
abbrev pub encoded_call_of_kind : Byte → Bytes → Buffer → Bytes
encoded_call_of_kind kind bytes buf =
    kind ∷ (big_endian_bytes 8 (length bytes) ++ (big_endian_bytes 8 (length buf) ++ (bytes ++ buf)))

-- a call: kind 1 start, 2 answer, 3 link failed, 4 stop
abbrev pub encoded_call : Call → Bytes
encoded_call (start bytes buf) = encoded_call_of_kind 1 bytes buf
encoded_call (answer card buf) = encoded_call_of_kind 2 card buf
encoded_call (link_failed buf) = encoded_call_of_kind 3 [] buf
encoded_call (stop buf) = encoded_call_of_kind 4 [] buf

-- all calls, concatenated
unfoldable pub encoded_calls : List Call → Bytes
encoded_calls [] = []
encoded_calls (c ∷ cs) = encoded_call c ++ encoded_calls cs

-- ---- read: the call at the front

-- a kind and two lengths
abbrev pub call_header_size : Length
call_header_size = 17

-- read from the front of s, each length high byte first
abbrev pub call_header_in : Bytes → CallHeader
call_header_in s =
    record {
      kind = get_or s 0 0;
      incoming = big_endian_number (take 8 (drop 1 s));
      capacity = big_endian_number (take 8 (drop 9 s));
    }

-- where the caller's buffer begins
abbrev pub call_buffer_offset : CallHeader → Offset
call_buffer_offset h = call_header_size + h.incoming

-- where the call ends
abbrev pub call_end_offset : CallHeader → Offset
call_end_offset h = call_buffer_offset h + h.capacity

-- the four kinds; link failed and stop bring no bytes
unfoldable pub is_call_kind_with_allowed_length : Byte → Length → Bool
is_call_kind_with_allowed_length kind n =
    (kind =? 1 or kind =? 2)
    or (n =? 0 and (kind =? 3 or kind =? 4))

-- a call of one of the kinds is at the front, whole
unfoldable pub begins_with_whole_call : Bytes → Bool
begins_with_whole_call s =
    call_header_size ≤? length s
    and is_call_kind_with_allowed_length (call_header_in s).kind (call_header_in s).incoming
    and call_end_offset (call_header_in s) ≤? length s

-- the call of a kind
unfoldable pub call_of_kind : Byte → Bytes → Buffer → Call
call_of_kind kind bytes buf =
    when kind =? 1 then start bytes buf
    else when kind =? 2 then answer bytes buf
    else when kind =? 3 then link_failed buf
    else stop buf

-- the call that is at the front of s, by its header
abbrev pub call_by_header : Bytes → CallHeader → Call
call_by_header s h =
    call_of_kind h.kind (take h.incoming (drop call_header_size s)) (take h.capacity (drop (call_buffer_offset h) s))

-- ---- read: all calls

-- a call before those that were read after it
abbrev pub prepend_call : Call → Option (List Call) → Option (List Call)
prepend_call c None = None
prepend_call c (Some cs) = Some (c ∷ cs)

-- no bytes are no calls; else the whole call at the front, and what k reads of the bytes after it
abbrev pub parse_calls_step : (Bytes → Option (List Call)) → Bytes → Option (List Call)
parse_calls_step k [] = Some []
parse_calls_step k (b ∷ s) =
    let h = call_header_in (b ∷ s) in
    when begins_with_whole_call (b ∷ s) then prepend_call (call_by_header (b ∷ s) h) (k (drop (call_end_offset h) (b ∷ s)))
    else None

-- the calls of some bytes, or none where they are no list of calls
unfoldable pub parsed_calls : Bytes → Option (List Call)
parsed_calls s = recurse_with_fuel_from_length None parse_calls_step s

-- ---- what holds of it, proved in proofs/
--   unroll         callsOf s ≡ nextCall callsOf s: each call takes up bytes, so the recursion's bound does not matter
--   read-back      every list of calls is read back from its bytes
