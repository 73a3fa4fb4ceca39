-- What a line of a text file of calls means. A line is any list of characters, its end not counted.
-- Assumes nothing.
use Rattle.std.specs.Prelude.{◌≡◌, List, [], ◌∷◌, ℕ, length, Option, Some, None, Result, Ok, Err}
use Rattle.basics.specs.Choice.{when◌then◌else◌, ◌<?◌, ◌=?◌}
use Rattle.basics.specs.Front.{written_over_front}
use Rattle.basics.specs.Types.{Bytes}
use Rattle.text_line.specs.declared.LineByteCount.{LineByteCount as BytesCount}
use Rattle.text_line.specs.declared.HexDecoded.{HexDecoded}
use Rattle.text_line.specs.declared.CharacterKind.TheVariants.{Blank}
use Rattle.text_line.specs.declared.Line.{Line}
use Rattle.text_line.specs.declared.LineProblem.{LineProblem}
use Rattle.text_line.specs.declared.LineWord.{LineWord}
use Rattle.text_line.specs.declared.LineWord.TheVariants.{Start, Answer, LinkFailed, Stop, Buffer, Session}
use Rattle.text_line.specs.Text.{is_character_of_kind, after_longest_prefix, uncommented, first_word, behind_first_word}
use Rattle.basics.specs.Alike.{bytes_equal}
use Rattle.text_line.specs.Digits.{hex_decoding_of, hex_decoding_within_room, hex_decoded_size_and_problem}
use Rattle.text_line.specs.Digits.{buffer_line_if_up_to4096}

-- a problem by its number: 1 the line is too long, 2 unknown word, 3 not a pair of hexadecimal digits, 4 no room for
-- the bytes, 5 something follows, 6 no number up to 4,096
abbrev pub wrong_line : {A : Type 0} → ℕ → Result A LineProblem
wrong_line p = Err (record { number = p })

-- a word, or none, and its characters
pub record WordText : Type 0 where
  pub text : Bytes
  pub word : Option LineWord

-- the words: none, "start", "answer", "link-failed", "stop", "buffer" and "session"
abbrev pub line_word_table : List WordText
line_word_table =
    record { text = []; word = None }
    ∷ record { text = 115 ∷ 116 ∷ 97 ∷ 114 ∷ 116 ∷ []; word = Some Start }
    ∷ record { text = 97 ∷ 110 ∷ 115 ∷ 119 ∷ 101 ∷ 114 ∷ []; word = Some Answer }
    ∷ record { text = 108 ∷ 105 ∷ 110 ∷ 107 ∷ 45 ∷ 102 ∷ 97 ∷ 105 ∷ 108 ∷ 101 ∷ 100 ∷ []; word = Some LinkFailed }
    ∷ record { text = 115 ∷ 116 ∷ 111 ∷ 112 ∷ []; word = Some Stop }
    ∷ record { text = 98 ∷ 117 ∷ 102 ∷ 102 ∷ 101 ∷ 114 ∷ []; word = Some Buffer }
    ∷ record { text = 115 ∷ 101 ∷ 115 ∷ 115 ∷ 105 ∷ 111 ∷ 110 ∷ []; word = Some Session }
    ∷ []

-- the word of a table with these characters
abbrev pub word_in_table : List WordText → Bytes → Result (Option LineWord) LineProblem
word_in_table [] w = wrong_line 2
word_in_table (e ∷ es) w = when bytes_equal w e.text then Ok e.word else word_in_table es w

-- which word it is
unfoldable pub line_word_of : Bytes → Result (Option LineWord) LineProblem
line_word_of w = word_in_table line_word_table w

-- a line with only blanks after its words
unfoldable pub line_if_only_blanks_follow : Bytes → Result Line LineProblem → Result Line LineProblem
line_if_only_blanks_follow rest line =
    when length (after_longest_prefix (is_character_of_kind Blank) rest) =? 0 then line else wrong_line 5

-- a start or an answer with the bytes that were decoded
unfoldable pub line_if_hex_decoded : (BytesCount → Line) → HexDecoded → Result Line LineProblem
line_if_hex_decoded line d =
    when d.problem =? 0 then Ok (line (record { size = d.size }))
    else wrong_line d.problem

-- what a line means, and the caller's bytes then
pub record LineMeaning : Type 0 where
  pub line : Result Line LineProblem
  pub buffer : Bytes

-- a line that brings no bytes leaves the caller's bytes
abbrev pub line_without_bytes : Result Line LineProblem → Bytes → LineMeaning
line_without_bytes line out = record { line = line; buffer = out }

-- a line that brings the bytes that a text spells, as many as there is room for
abbrev pub line_with_decoded_bytes : (BytesCount → Line) → Bytes → Bytes → LineMeaning
line_with_decoded_bytes line text out =
    let r = hex_decoding_within_room (length out) (hex_decoding_of text) in
    record { line = line_if_hex_decoded line (hex_decoded_size_and_problem r); buffer = written_over_front r.bytes out }

-- by the first word, from what follows it
unfoldable pub meaning_by_word : Result (Option LineWord) LineProblem → Bytes → Bytes → LineMeaning
meaning_by_word (Ok None) rest out = line_without_bytes (Ok Line.Blank) out
meaning_by_word (Ok (Some Start)) rest out = line_with_decoded_bytes Line.Start rest out
meaning_by_word (Ok (Some Answer)) rest out = line_with_decoded_bytes Line.Answer rest out
meaning_by_word (Ok (Some LinkFailed)) rest out = line_without_bytes (line_if_only_blanks_follow rest (Ok Line.LinkFailed)) out
meaning_by_word (Ok (Some Stop)) rest out = line_without_bytes (line_if_only_blanks_follow rest (Ok Line.Stop)) out
meaning_by_word (Ok (Some Buffer)) rest out =
    line_without_bytes (line_if_only_blanks_follow (behind_first_word rest) (buffer_line_if_up_to4096 (first_word rest))) out
meaning_by_word (Ok (Some Session)) rest out = line_without_bytes (line_if_only_blanks_follow rest (Ok Line.Session)) out
meaning_by_word (Err problem) rest out = line_without_bytes (Err problem) out

-- a line of at most 8,192 characters: what it means without its comment
unfoldable pub line_meaning : Bytes → Bytes → LineMeaning
line_meaning line out =
    let text = uncommented line in
    when 8192 <? length line then line_without_bytes (wrong_line 1) out
    else meaning_by_word (line_word_of (first_word text)) (behind_first_word text) out

-- the line r and the caller's bytes at exit are those of a meaning
pub record ReturnsLineMeaning (returned_line : Result Line LineProblem) (buffer_after : Bytes) (meaning : LineMeaning) : Type 0 where
  pub line : returned_line ≡ meaning.line
  pub buffer : buffer_after ≡ meaning.buffer
