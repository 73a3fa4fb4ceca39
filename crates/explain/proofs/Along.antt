-- Explanations with the ranges judged by one walk over the store, which `ranges_along_lem` of record ties to the rule: what
-- computed examples go by. Assumes nothing.
use mathlib.Core.Path.{◌≡◌, ◌∙◌}
use mathlib.Core.List.{List, map}
use Prim.Native.Nat.{ℕ}
use Rattle.basics.specs.Choice.{if}
use Rattle.session_record.specs.declared.Session.{Session}
use Rattle.session_record.specs.Session.{store_bytes}
use Rattle.session_record.proofs.Along.{ranges_along, ranges_along_lem}
use Rattle.explain.specs.declared.Explanation.{Explanation}
use Rattle.explain.specs.Explain.{explanation_in_phase, explanation_of}
use Rattle.explain.specs.Word.{explanation_word}

-- the words of some sessions' explanations
unfoldable pub told : List Session → List ℕ
told ss = map (λ s. explanation_word (explanation_of s)) ss

-- one of them by the walk
abbrev pub told_along : Session → ℕ
told_along s = explanation_word (if (ranges_along s) (explanation_in_phase s.phase (store_bytes s)) Explanation.Refused)

pub told_along_lem : (ss : List Session) (words : List ℕ) → map told_along ss ≡ words → told ss ≡ words
unfolding told explanation_of
told_along_lem ss words e =
    (λ i. map
    (λ s. explanation_word (if (ranges_along_lem s i) (explanation_in_phase s.phase (store_bytes s)) Explanation.Refused))
    ss) ∙ e
