-- `reading::list_gpo` meets its contract: the AIP and the AFL by their places (proofs/Stages).
-- Assumes nothing.
use Rattle.std.specs.Prelude.{Ok}
use mathlib.Core.Path.{◌≡◌, sym, ap, ◌∙◌}
use mathlib.Core.List.{List, [], ◌∷◌}
use Prim.Native.Nat.{ℕ, ◌+◌, ◌-◌, ◌%◌, ◌≤◌}
use native.Mathlib.Omega.{arith}
use lib.ListN.{length, take, drop, set}
use Rattle.reading.specs.declared.Awaited.TheVariants.{Gpo}
use Rattle.reading.specs.Taking.{PrimitiveItem, primitive_item}
use Rattle.reading.specs.InnerItems.{packed_item, most_listed_items, tally}
use Rattle.reading.specs.Answer.{gpo_items_under80}
use Rattle.reading.specs.Inner.{ListingGivesPrimitiveBodyReading}
use Rattle.reading.proofs.Parts.{gpo_short, gpo_long, gpo_uneven, gpo_whole}
use Rattle.reading.proofs.Stages.{front_part, last_part, parts_none, parts_some}
use Rattle.reading.proofs.list_gpo.Goals.{then-n-lt-LEAST_GPO_BODY-via-then-n-lt-LEAST_GPO_BODY}
use Rattle.reading.proofs.list_gpo.Goals.{then-n-lt-LEAST_GPO_BODY-via-else-n-lt-LEAST_GPO_BODY+then-n-gt-MOST_GPO_BODY}
use Rattle.reading.proofs.list_gpo.Goals.{then-n-lt-LEAST_GPO_BODY-via-else-n-lt-LEAST_GPO_BODY+else-n-gt-MOST_GPO_BODY+then-n-ne0}
use Rattle.reading.proofs.list_gpo.Goals as goal

abbrev parts : List ℕ → List PrimitiveItem
parts v = primitive_item 0x77 0x82 (take 2 v) ∷ primitive_item 0x77 0x94 (drop 2 v) ∷ []

listed : (l : List ℕ) (start n : ℕ) → length l ≡ most_listed_items → 2 ≤ start → start + n ≤ 256 → {x y : ℕ}
    → x ≡ packed_item 0x82 0x77 start 2
    → y ≡ packed_item 0x94 0x77 (start + 2) (n - 2) → 6 ≤ n → n ≤ 250 → (n - 2) % 4 ≡ 0
    → ListingGivesPrimitiveBodyReading Gpo gpo_items_under80 start n (Ok (tally 1 2)) (set (set l 0 x) 1 y)
listed l start n e a b {x} {y} p q m k u =
    rw (p, q)
    (parts_some Gpo gpo_items_under80 start n _ 2 parts
    (λ v z. gpo_whole v (omega arith) (omega arith) (ap (λ (i : ℕ). (i - 2) % 4) z ∙ u))
    (λ s i. last_part s start n a b i (front_part s start n a b i l e 0x82 2 (omega arith)) 0x94 2 (omega arith)
    (omega arith)))

pub returns-then-n-lt-LEAST_GPO_BODY : goal.returns-then-n-lt-LEAST_GPO_BODY
returns-then-n-lt-LEAST_GPO_BODY c =
    parts_none Gpo gpo_items_under80 _ _ _
    (λ v e.
    elim c.then-n-lt-LEAST_GPO_BODY.branch [
      | then-n-lt-LEAST_GPO_BODY-via-then-n-lt-LEAST_GPO_BODY w ↦
          gpo_short v (omega (arith, w.if-n-lt-LEAST_GPO_BODY.true))
      | then-n-lt-LEAST_GPO_BODY-via-else-n-lt-LEAST_GPO_BODY+then-n-gt-MOST_GPO_BODY w ↦
          gpo_long v (omega (arith, w.if-n-gt-MOST_GPO_BODY.true))
      | then-n-lt-LEAST_GPO_BODY-via-else-n-lt-LEAST_GPO_BODY+else-n-gt-MOST_GPO_BODY+then-n-ne0 w ↦
          gpo_uneven v (λ z. w.if-n-ne0.true (ap (λ (k : ℕ). (k - 2) % 4) (sym e) ∙ z))
    ])
    c.malformed.ensures

pub returns : goal.returns
returns c =
    let a = c.args in
    listed a.items.now a.start a.n c.told-items c.requires.0 c.requires.1 c.packed_item.ensures c.packed_item-2.ensures
    c.if-n-lt-LEAST_GPO_BODY.false c.if-n-gt-MOST_GPO_BODY.false c.if-n-ne0.false
