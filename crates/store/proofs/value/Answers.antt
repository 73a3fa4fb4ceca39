-- `store::value` meets its contract: the bytes after the length byte, up to the stored length or the store's end.
-- Assumes nothing.
use mathlib.Core.Path.{◌≡◌, refl, sym, ap, ◌∙◌}
use mathlib.Core.Logic.{◌⊎◌, inl, inr}
use mathlib.Core.List.{List}
use Prim.Native.Nat.{ℕ, ◌+◌, ◌-◌, ◌≤◌, ◌<◌, min}
use native.Mathlib.Omega.{arith}
use lib.ListN.{length, get_or, take, drop, drop_of_length-le}
use lib.Seq.{take-nil}
use Rattle.std.proofs.lemmas.List.{take_min, take_rest}
use Rattle.basics.proofs.Order.{le-or-gt}
use Rattle.dictionary.specs.Rows.{dictionary_rows}
use Rattle.store.specs.declared.RowOffsetAndMaxLength.{RowOffsetAndMaxLength}
use Rattle.store.specs.Place.{row_offset, row_length_plus_one_or_zero, bytes_or_empty_if_absent, row_value}
use Rattle.store.specs.Inner.{row_offset_and_max_length}
use Rattle.store.proofs.Laws.{length_byte_at, stored_length, value_bytes, no_place}
use Rattle.store.proofs.value.Goals as goal

-- what is behind the length byte, as far as the stored length
cut : (b : List ℕ) (k start n : ℕ) → start ≡ row_offset dictionary_rows k + 1 → n ≡ stored_length dictionary_rows b k
    → take n (drop (min (length b) start) b) ≡ bytes_or_empty_if_absent (row_value dictionary_rows b k)
cut b k start n s e = go (le-or-gt (length b) (row_offset dictionary_rows k))
  where
    go : (length b ≤ row_offset dictionary_rows k) ⊎ (row_offset dictionary_rows k < length b)
        → take n (drop (min (length b) start) b) ≡ bytes_or_empty_if_absent (row_value dictionary_rows b k)
    go (inl h) =
        let m : length b ≤ min (length b) start = omega arith in
        ap (take n) (drop_of_length-le b m) ∙ take-nil n ∙ sym (ap bytes_or_empty_if_absent (no_place dictionary_rows b k h))
    go (inr h) =
        let m : min (length b) start ≡ row_offset dictionary_rows k + 1 = omega arith in
        rw (m, e) (sym (value_bytes dictionary_rows b k h))

-- a part of what is behind a place, as far as it goes
sliced : (b : List ℕ) (n i : ℕ) {m : ℕ} → m ≡ min n (length (take (length b - i) (drop i b)))
    → take m (take (length b - i) (drop i b)) ≡ take n (drop i b)
sliced b n i e = rw (e, take_min, take_rest) refl

-- the length that the byte at the place's start gives
length-stored : (b : List ℕ) (k n x : ℕ) (p : RowOffsetAndMaxLength) → p ≡ row_offset_and_max_length k
    → x ≡ get_or b p.at 0 → n ≡ min (x - 1) p.most → n ≡ stored_length dictionary_rows b k
unfolding stored_length
length-stored b k n x p e ex en =
    en ∙ ap (λ (m : ℕ). min (m - 1) p.most) (ex ∙ ap (λ (q : RowOffsetAndMaxLength). get_or b q.at 0) e ∙ sym
    (length_byte_at dictionary_rows b k))
    ∙ ap (λ (q : RowOffsetAndMaxLength). min (row_length_plus_one_or_zero dictionary_rows b k - 1) q.most) e

pub returns : goal.returns
returns c =
    let o = c.span_of-span in
    let start = ap (λ (p : RowOffsetAndMaxLength). p.at + 1) o.ensures.value in
    let l = length-stored _ _ _ _ _ o.ensures.value c.byte_at.ensures c.value_length-n.ensures.value in
    sliced c.args.bytes.now c.value_length-n.result c.min.result c.min-2.ensures ∙ ap (λ (i : ℕ). take c.value_length-n.result (drop i c.args.bytes.now)) c.min.ensures
    ∙ cut _ _ _ _ start l
