-- Lines with what they say, computed. Assumes nothing.
use Rattle.std.specs.Prelude.{Ok}
use mathlib.Core.Path.{◌≡◌, refl}
use mathlib.Core.List.{List, [], ◌∷◌}
use Prim.Native.Nat.{ℕ}
use Rattle.basics.specs.Choice.{if, both, either, every}
use Rattle.text_line.specs.declared.Line.{Line}
use Rattle.text_line.specs.Text.{is_blank, longest_prefix, after_longest_prefix}
use Rattle.basics.specs.Alike.{bytes_equal}
use Rattle.text_line.specs.Digits.{hex_digit_value_or16, hex_decoding_of, hex_decoding_within_room}
use Rattle.text_line.specs.Digits.{append_decimal_characters, buffer_line_if_up_to4096}
use Rattle.text_line.specs.Line.{line_word_of, wrong_line, line_if_only_blanks_follow, line_if_hex_decoded, meaning_by_word}
use Rattle.text_line.specs.Line.{line_meaning, line_without_bytes}

-- three bytes of the caller's
buffer : List ℕ
buffer = 1 ∷ 2 ∷ 3 ∷ []

-- "answer 9f0A#x": two bytes, small letters or capital, up to the comment
answers : line_meaning (97 ∷ 110 ∷ 115 ∷ 119 ∷ 101 ∷ 114 ∷ 32 ∷ 57 ∷ 102 ∷ 48 ∷ 65 ∷ 35 ∷ 120 ∷ []) buffer
    ≡ record { line = Ok (Line.Answer (record { size = 2 })); buffer = 0x9F ∷ 0x0A ∷ 3 ∷ [] }
unfolding line_meaning buffer is_blank longest_prefix after_longest_prefix bytes_equal hex_digit_value_or16 hex_decoding_of
    hex_decoding_within_room line_word_of meaning_by_word line_if_hex_decoded if both either
answers = refl

-- "answer 9 f": a byte is two digits side by side
apart : line_meaning (97 ∷ 110 ∷ 115 ∷ 119 ∷ 101 ∷ 114 ∷ 32 ∷ 57 ∷ 32 ∷ 102 ∷ []) buffer ≡ line_without_bytes (wrong_line 3)
    buffer
unfolding line_meaning buffer is_blank longest_prefix after_longest_prefix bytes_equal hex_digit_value_or16 hex_decoding_of
    hex_decoding_within_room line_word_of meaning_by_word line_if_hex_decoded if both either
apart = refl

-- "stop 9": nothing may be after it
behind_stop : line_meaning (115 ∷ 116 ∷ 111 ∷ 112 ∷ 32 ∷ 57 ∷ []) buffer ≡ line_without_bytes (wrong_line 5) buffer
unfolding line_meaning buffer is_blank longest_prefix after_longest_prefix bytes_equal line_word_of meaning_by_word
    line_if_only_blanks_follow if both either
behind_stop = refl

-- "session": a fresh session from there
renews : line_meaning (115 ∷ 101 ∷ 115 ∷ 115 ∷ 105 ∷ 111 ∷ 110 ∷ []) buffer ≡ line_without_bytes (Ok Line.Session) buffer
unfolding line_meaning buffer is_blank longest_prefix after_longest_prefix bytes_equal line_word_of meaning_by_word
    line_if_only_blanks_follow if both either
renews = refl

-- "#!stop": a comment from its first character
skips : line_meaning (35 ∷ 33 ∷ 115 ∷ 116 ∷ 111 ∷ 112 ∷ []) buffer ≡ line_without_bytes (Ok Line.Blank) buffer
unfolding line_meaning buffer is_blank longest_prefix after_longest_prefix bytes_equal line_word_of meaning_by_word if both either
skips = refl

-- "buffer 260" and a carriage return
sizes : line_meaning (98 ∷ 117 ∷ 102 ∷ 102 ∷ 101 ∷ 114 ∷ 32 ∷ 50 ∷ 54 ∷ 48 ∷ 13 ∷ []) buffer ≡ line_without_bytes
    (Ok (Line.Buffer (record { bytes = 260 }))) buffer
unfolding line_meaning buffer is_blank longest_prefix after_longest_prefix bytes_equal hex_digit_value_or16 line_word_of
    meaning_by_word line_if_only_blanks_follow append_decimal_characters buffer_line_if_up_to4096 if both either every
sizes = refl
