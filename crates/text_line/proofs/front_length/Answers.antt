-- `text_line::front_length` meets its contract. The first character of another kind ends the part.
-- Assumes nothing.
use mathlib.Core.Path.{◌≡◌, sym, ◌∙◌}
use mathlib.Core.Bool.{true, false, not}
use mathlib.Core.List.{List}
use Prim.Native.Nat.{ℕ}
use native.Mathlib.Omega.{arith}
use borrow.Author.Rules.{rules}
use borrow.Author.Tests.{tests}
use lib.ListN.{length}
use Rattle.std.proofs.lemmas.Iterator.{YieldsList-from_slice, IsFirst-from_position, index_from_first}
use Rattle.text_line.specs.Text.{is_character_of_kind, longest_prefix}
use Rattle.text_line.proofs.Text.{prefix_none, prefix_ends, prefix_grows, prefix_most}
use Rattle.text_line.proofs.front_length.Goals as goal

pub returns : goal.returns
returns c = let f = is_character_of_kind c.args.kind in
    let s = c.args.s.now in
    let p = IsFirst-from_position c.position.new.self _ c.position.result (λ x. not (f x) ≡ true) (λ x. not (f x) ≡ false)
    c.position.ensures.ran (YieldsList-from_slice s (cc)) (λ x q k. search (rules, tests)) (λ x q k. search (rules, tests)) in
    let n = index_from_first (λ (t : List ℕ). length (longest_prefix f t)) (λ x. not (f x) ≡ true) (λ x. not (f x) ≡ false)
    (prefix_none f) (prefix_ends f) (prefix_grows f) s c.position.result p in
    let m = prefix_most f s in
    let e = c.unwrap_or.ensures ∙ sym n in
    (e, omega arith)
