-- `writing::put_placed` meets its contract: by whether the object is present.
-- Assumes nothing.
use mathlib.Core.Path.{sym, subst, ◌∙◌}
use mathlib.Core.List.{[], List}
use Prim.Native.Nat.{ℕ, ◌+◌, ◌≤◌}
use lib.ListN.{length}
use Rattle.basics.proofs.Laws.{if_yes, if_no}
use Rattle.tlv.specs.Encoding.{object_bytes}
use Rattle.personalise.specs.Inner.{WritesBytesAt}
use Rattle.personalise.proofs.Over.{puts_nothing}
use Rattle.personalise.proofs.writing.put_placed.Goals as goal

pub returns-then-not-is_placed : goal.returns-then-not-is_placed
returns-then-not-is_placed c =
    let a = c.args in
    puts_nothing a.out.now a.at
    (if_no (object_bytes a.tag a.v.now) [] (sym c.is_placed.ensures ∙ c.if-not-is_placed.true))

pub put_object-requires : goal.put_object-requires
put_object-requires c = let a = c.args in
    let e = if_yes (object_bytes a.tag a.v.now) []
    (sym c.is_placed.ensures ∙ c.if-not-is_placed.false) in record { tag_bound = c.requires.tag_bound; v_in_bounds = subst (λ (x : List ℕ). a.at + length x ≤ length a.out.now) e c.requires.v_in_bounds }

pub returns : goal.returns
returns c =
    let a = c.args in
    let e = if_yes (object_bytes a.tag a.v.now) []
    (sym c.is_placed.ensures ∙ c.if-not-is_placed.false) in
    subst (WritesBytesAt _ _ a.out.now a.at) (sym e) c.put_object.ensures
