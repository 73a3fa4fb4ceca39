-- `text_line::first_word` meets its contract. The front part without blanks of what follows the blanks.
-- Assumes nothing.
use mathlib.Core.Path.{ap, ◌∙◌}
use Rattle.text_line.specs.Text.{is_character_of_kind, longest_prefix}
use Rattle.text_line.specs.declared.CharacterKind.{CharacterKind}
use Rattle.text_line.proofs.Text.{front_is}
use Rattle.text_line.proofs.first_word.Goals as goal

pub returns : goal.returns
returns c =
    front_is _ _ _ c.front_length-n.ensures.0 ∙ ap (longest_prefix (is_character_of_kind CharacterKind.NotBlank))
    c.past_blanks-t.ensures
