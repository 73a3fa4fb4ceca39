-- Calls in bytes, replies and numbers, computed. Assumes nothing.
use mathlib.Core.Path.{refl}
use Rattle.basics.specs.Choice.{if, both, either}
use Rattle.basics.specs.Number.{append_big_endian_bytes}
use Rattle.basics.specs.Recursion.{recurse_with_fuel_from_length, recurse_with_fuel}
use Rattle.call_list.specs.Encoding.{big_endian_bytes, is_call_kind_with_allowed_length, begins_with_whole_call, call_of_kind}
use Rattle.call_list.specs.Encoding.{parsed_calls}
use Rattle.worked_examples.specs.CallLists.{CallListExamples}

pub lists_of_calls : CallListExamples
unfolding big_endian_bytes is_call_kind_with_allowed_length begins_with_whole_call call_of_kind parsed_calls
    recurse_with_fuel_from_length recurse_with_fuel append_big_endian_bytes either both if
lists_of_calls = record { calls_written = refl; calls_read = refl; no_calls = refl; replies = refl; numbers = refl }
