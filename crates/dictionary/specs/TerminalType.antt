-- Terminal types that the session takes (document 01, "Dictionary"): 11 to 16, 21 to 26 and 34 to 36, bytes in digits.
-- Assumes nothing.
use Rattle.std.specs.Prelude.{Bool}
use Rattle.basics.specs.Choice.{◌or◌}
use Rattle.basics.specs.Number.{between}
use Rattle.basics.specs.Types.{Byte}

-- a type is listed
unfoldable pub listed_terminal_type : Byte → Bool
listed_terminal_type t = between 0x11 t 0x16 or between 0x21 t 0x26 or between 0x34 t 0x36
