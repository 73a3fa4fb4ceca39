-- `reading::list_cryptogram` meets its contract: the CID, the ATC, the AC and, if any bytes are left, the IAD by their
-- places (proofs/Stages).
-- Assumes nothing.
use Rattle.std.specs.Prelude.{Ok, Some}
use mathlib.Core.Logic.{inl, inr}
use mathlib.Core.Path.{◌≡◌, ap, ◌∙◌}
use mathlib.Core.List.{List, [], ◌∷◌, ◌++◌}
use Prim.Native.Nat.{ℕ, ◌+◌, ◌-◌, ◌≤◌}
use native.Mathlib.Omega.{arith}
use lib.ListN.{length, take, drop, set, length-drop}
use Rattle.reading.specs.Taking.{PrimitiveItem, primitive_item}
use Rattle.reading.specs.InnerItems.{packed_item, most_listed_items, tally}
use Rattle.reading.specs.Inner.{ListingGivesPrimitiveBodyReading}
use Rattle.reading.specs.Answer.{iad_item_if_any, cryptogram_items_under80}
use Rattle.reading.proofs.Parts.{cryptogram_short, cryptogram_long, cryptogram_whole, iad_none, iad_some}
use Rattle.reading.proofs.Stages.{PartList, value, front_part, next_part, last_part, parts_none}
use Rattle.reading.proofs.Stages.{parts_some}
use Rattle.reading.specs.declared.Awaited.TheVariants.{Cryptogram}
use Rattle.reading.proofs.list_cryptogram.Goals as goal

-- its three parts that must be there
abbrev three : List ℕ → List PrimitiveItem
three v = primitive_item 0x77 0x9F27 (take 1 v) ∷ primitive_item 0x77 0x9F36
    (take 2 (drop 1 v)) ∷ primitive_item 0x77 0x9F26 (take 8 (drop 3 v)) ∷ []

-- what is left of the value
left : (v : List ℕ) (n : ℕ) → length v ≡ n → length (drop 11 v) ≡ n - 11
left v n e = length-drop 11 v ∙ ap (λ (k : ℕ). k - 11) e

-- the parts of a value, with what is left of it
some-parts : (v : List ℕ) (is : List PrimitiveItem) → 11 ≤ length v → length v ≤ 43 → iad_item_if_any (drop 11 v) ≡ is
    → cryptogram_items_under80 v ≡ Some (three v ++ is)
some-parts v is a b e =
    cryptogram_whole v a b
    ∙ ap (λ (js : List PrimitiveItem). Some (three v ++ js)) e

module _ (l : List ℕ) (start n : ℕ) (e : length l ≡ most_listed_items) (a : 2 ≤ start) (b : start + n ≤ 256) {x y z : ℕ}
    (p : x ≡ packed_item 0x9F27 0x77 start 1) (q : y ≡ packed_item 0x9F36 0x77 (start + 1) 2)
    (r : z ≡ packed_item 0x9F26 0x77 (start + 3) 8) where
  by-places : 11 ≤ n → (s : List ℕ) → start + n ≤ length s
      → PartList s 3 (set (set (set l 0 x) 1 y) 2 z) (three (value s start n))
  by-places m s i =
      let cid = front_part s start n a b i l e 0x9F27 1 (omega arith) in
      let atc = next_part s start n a b i cid 0x9F36 1 (omega arith) 2 (omega arith) in
      rw (p, q, r) (next_part s start n a b i atc 0x9F26 3 (omega arith) 8 (omega arith))

  all_three : n ≡ 11
      → ListingGivesPrimitiveBodyReading Cryptogram cryptogram_items_under80 start n (Ok (tally 1 3))
      (set (set (set l 0 x) 1 y) 2 z)
  all_three m =
      parts_some Cryptogram cryptogram_items_under80 start n _ 3 three
      (λ v u. some-parts v [] (omega arith) (omega arith) (iad_none (drop 11 v) (left v n u ∙ omega arith)))
      (by-places (omega arith))

  and-rest : {w : ℕ} → w ≡ packed_item 0x9F10 0x77 (start + 11) (n - 11) → 11 ≤ n → n ≤ 43 → (n ≡ 11 → ⊥)
      → ListingGivesPrimitiveBodyReading Cryptogram cryptogram_items_under80 start n (Ok (tally 1 4))
      (set (set (set (set l 0 x) 1 y) 2 z) 3 w)
  and-rest {w} o m k d =
      rw o
      (parts_some Cryptogram cryptogram_items_under80 start n _ 4
      (λ (v : List ℕ). three v ++ (primitive_item 0x77 0x9F10 (drop 11 v) ∷ []))
      (λ v u. some-parts v _ (omega arith) (omega arith) (iad_some (drop 11 v) (λ i. d (omega (arith, left v n u)))))
      (λ s i. last_part s start n a b i (by-places m s i) 0x9F10 11 (omega arith) m))

pub returns-then-n-lt-LEAST_AC_BODY : goal.returns-then-n-lt-LEAST_AC_BODY
returns-then-n-lt-LEAST_AC_BODY c =
    parts_none Cryptogram cryptogram_items_under80 _ _ _
    (λ v e.
    elim c.then-n-lt-LEAST_AC_BODY.either [
      | inl w ↦ cryptogram_short v (omega arith)
      | inr w ↦ cryptogram_long v (omega arith)
    ])
    c.malformed.ensures

pub returns-then-n-eq-LEAST_AC_BODY : goal.returns-then-n-eq-LEAST_AC_BODY
returns-then-n-eq-LEAST_AC_BODY c =
    let a = c.args in
    all_three a.items.now a.start a.n c.told-items c.requires.0 c.requires.1 c.packed_item.ensures
    c.packed_item-2.ensures c.packed_item-3.ensures c.if-n-eq-LEAST_AC_BODY.true

pub returns : goal.returns
returns c =
    let a = c.args in
    and-rest a.items.now a.start a.n c.told-items c.requires.0 c.requires.1 c.packed_item.ensures
    c.packed_item-2.ensures c.packed_item-3.ensures c.packed_item-4.ensures c.if-n-lt-LEAST_AC_BODY.false
    c.if-n-gt-MOST_AC_BODY.false c.if-n-eq-LEAST_AC_BODY.false
