-- `action::action_codes_of` meets its contract: each stage's pair by its rows (`map_is`).
-- Assumes nothing.
use Rattle.std.proofs.Common.{ℕ, arith, rules, ◌∙◌}
use Rattle.dictionary.specs.Rows.{dictionary_rows}
use Rattle.store.specs.Place.{bytes_or_empty_if_absent, row_value}
use Rattle.analysis.specs.Choice.{action_codes_at, no_action_codes}
use Rattle.analysis.specs.Action.{action_codes_of}
use Rattle.analysis.proofs.Arrays.{map_is}
use Rattle.analysis.proofs.Rows.{rows}
use Rattle.analysis.proofs.action.action_codes_of.Goals as goal

pub returns : goal.returns
unfolding action_codes_of
returns c =
    let b = c.args.bytes.now in
    let pair = λ (p : ℕ × ℕ × ℕ). action_codes_at p.0 (row_value dictionary_rows b p.1)
    (bytes_or_empty_if_absent (row_value dictionary_rows b p.2)) in
    map_is _ pair (0, 0, 0) no_action_codes _ _ (λ x y q k. search rules) 3 c.map.ensures.items ∙ grind (arith, rows)
