-- Digits: hexadecimal pairs as bytes, with blanks between them, and a decimal number.
-- Assumes nothing.
use Rattle.std.specs.Prelude.{Bool, ◌≡◌, [], ◌∷◌, ◌++◌, ℕ, ◌+◌, ◌*◌, ◌-◌, length, take, Result, Ok, Err}
use Rattle.basics.specs.Choice.{when◌then◌else◌, ◌and◌, ◌≤?◌, ◌<?◌, every}
use Rattle.basics.specs.Front.{written_over_front}
use Rattle.basics.specs.Number.{between}
use Rattle.basics.specs.Types.{Byte, Bytes, Length}
use Rattle.text_line.specs.declared.HexDecoded.{HexDecoded}
use Rattle.text_line.specs.declared.Line.{Line}
use Rattle.text_line.specs.declared.LineProblem.{LineProblem}
use Rattle.text_line.specs.Text.{is_blank}

-- the value of a hexadecimal digit '0' to '9', 'A' to 'F', 'a' to 'f'; 16 for any other character
unfoldable pub hex_digit_value_or16 : Byte → ℕ
hex_digit_value_or16 c =
    when between 48 c 57 then c - 48
    else when between 65 c 70 then c - 55
    else when between 97 c 102 then c - 87
    else 16

-- two characters are hexadecimal digits
abbrev pub is_hex_pair : Byte → Byte → Bool
is_hex_pair a b = hex_digit_value_or16 a <? 16 and hex_digit_value_or16 b <? 16

-- the byte of two hexadecimal digits
abbrev pub hex_pair_byte : Byte → Byte → Byte
hex_pair_byte a b = hex_digit_value_or16 a * 16 + hex_digit_value_or16 b

-- the bytes that a text spells up to the first place that spells none, and the number of the problem there (Line.antt);
-- 0 at the text's end
pub record HexTextDecoding : Type 0 where
  pub bytes : Bytes
  pub problem : ℕ

abbrev pub hex_decoding_stopped : ℕ → HexTextDecoding
hex_decoding_stopped p = record { bytes = []; problem = p }

-- bytes before a spelling
abbrev pub prepend_to_hex_decoding : Bytes → HexTextDecoding → HexTextDecoding
prepend_to_hex_decoding bs r = record { bytes = bs ++ r.bytes; problem = r.problem }

-- blanks are skipped between bytes; a byte is two hexadecimal digits side by side (else 3)
unfoldable pub hex_decoding_of : Bytes → HexTextDecoding
hex_decoding_of [] = hex_decoding_stopped 0
hex_decoding_of (a ∷ []) =
    when is_blank a then hex_decoding_stopped 0
    else hex_decoding_stopped 3
hex_decoding_of (a ∷ b ∷ s) =
    when is_blank a then hex_decoding_of (b ∷ s)
    else when is_hex_pair a b then prepend_to_hex_decoding (hex_pair_byte a b ∷ []) (hex_decoding_of s)
    else hex_decoding_stopped 3

-- no more bytes than there is room for (else 4)
unfoldable pub hex_decoding_within_room : Length → HexTextDecoding → HexTextDecoding
hex_decoding_within_room room r =
    when length r.bytes ≤? room then r
    else record { bytes = take room r.bytes; problem = 4 }

-- what a decoding reports of a spelling
abbrev pub hex_decoded_size_and_problem : HexTextDecoding → HexDecoded
hex_decoded_size_and_problem r = record { size = length r.bytes; problem = r.problem }

-- the report d is that of a spelling, whose bytes are at the front of the caller's bytes at exit; those after stay
pub record DecodesHex (reported : HexDecoded) (buffer_after : Bytes) (decoding : HexTextDecoding)
    (buffer_before : Bytes) : Type 0 where
  pub report : reported ≡ hex_decoded_size_and_problem decoding
  pub buffer : buffer_after ≡ written_over_front decoding.bytes buffer_before

-- the number that decimal digits s spell after the number n
unfoldable pub append_decimal_characters : ℕ → Bytes → ℕ
append_decimal_characters n [] = n
append_decimal_characters n (c ∷ s) = append_decimal_characters (n * 10 + hex_digit_value_or16 c) s

-- a character is a decimal digit
abbrev pub is_decimal_digit : Byte → Bool
is_decimal_digit c = hex_digit_value_or16 c <? 10

-- a buffer's length: one or more decimal digits whose number is at most 4,096 (else 6)
unfoldable pub buffer_line_if_up_to4096 : Bytes → Result Line LineProblem
buffer_line_if_up_to4096 w =
    when 0 <? length w and every is_decimal_digit w and append_decimal_characters 0 w ≤? 4096
    then Ok (Line.Buffer (record { bytes = append_decimal_characters 0 w }))
    else Err (record { number = 6 })
