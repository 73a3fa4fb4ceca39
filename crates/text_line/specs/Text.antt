-- The text of a line as characters: its comment, its blanks and its words.
-- Assumes nothing.
use Rattle.std.specs.Prelude.{Bool, not, [], ◌∷◌}
use Rattle.basics.specs.Choice.{when◌then◌else◌, ◌or◌, ◌=?◌}
use Rattle.basics.specs.Types.{Byte, Bytes}
use Rattle.text_line.specs.declared.CharacterKind.{CharacterKind}
use Rattle.text_line.specs.declared.CharacterKind.TheVariants.{Blank, NotBlank, NotHash}

-- a blank is a space, a tab or a carriage return
unfoldable pub is_blank : Byte → Bool
is_blank c = c =? 32 or c =? 9 or c =? 13

-- kinds of characters: a blank, no blank, and no '#'
abbrev pub is_character_of_kind : CharacterKind → Byte → Bool
is_character_of_kind Blank c = is_blank c
is_character_of_kind NotBlank c = not (is_blank c)
is_character_of_kind NotHash c = not (c =? 35)

-- the longest part at the front whose characters all pass a test
unfoldable pub longest_prefix : (Byte → Bool) → Bytes → Bytes
longest_prefix f [] = []
longest_prefix f (c ∷ s) = when f c then c ∷ longest_prefix f s else []

-- what follows that part
unfoldable pub after_longest_prefix : (Byte → Bool) → Bytes → Bytes
after_longest_prefix f [] = []
after_longest_prefix f (c ∷ s) = when f c then after_longest_prefix f s else (c ∷ s)

-- a line without its comment: what is before the first '#'
abbrev pub uncommented : Bytes → Bytes
uncommented s = longest_prefix (is_character_of_kind NotHash) s

-- the first word: the characters from the first that is no blank up to the next blank
abbrev pub first_word : Bytes → Bytes
first_word s = longest_prefix (is_character_of_kind NotBlank) (after_longest_prefix (is_character_of_kind Blank) s)

-- what follows the first word
abbrev pub behind_first_word : Bytes → Bytes
behind_first_word s = after_longest_prefix (is_character_of_kind NotBlank) (after_longest_prefix (is_character_of_kind Blank) s)
