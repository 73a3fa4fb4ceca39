-- `mag_stripe::first` meets its contract: what `find` gives is the first nibble x (`first_found`).
-- Assumes nothing.
use Rattle.std.proofs.Common.{◌≡◌, ℕ, get_or, unwrap_or, rules, ap, ◌∙◌}
use borrow.Author.Tests.{tests}
use Rattle.basics.specs.Number.{nibbles}
use Rattle.std.proofs.lemmas.Iterator.{first_from_Range}
use Rattle.mag_stripe.proofs.Nibbles.{length_nibbles, first_found}
use Rattle.mag_stripe.proofs.first.Goals as goal

pub returns : goal.returns
returns c =
    let s = nibbles c.args.track.now in
    c.unwrap_or.ensures
    ∙ ap (λ (m : ℕ). unwrap_or c.find.result m) c.max.ensures
    ∙ first_found c.args.x c.args.from _ s _ (length_nibbles c.args.track.now)
    (first_from_Range _ _ _ _ (λ k. get_or s k 0 ≡ c.args.x) (λ k. get_or s k 0 ≡ c.args.x → ⊥) c.find.ensures.ran
    (λ x q k. search (rules, tests)) (λ x q k. search (rules, tests)))
