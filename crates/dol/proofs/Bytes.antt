-- A filling from a store of bytes is bytes: it is made of parts of the store and of runs of 00 and FF.
-- Assumes nothing.
use Rattle.std.specs.Prelude.{Some, None, Option}
use mathlib.Core.Path.{◌≡◌, ap, subst, subst⁻¹}
use mathlib.Core.List.{List, [], ◌∷◌, ◌++◌}
use mathlib.Core.Logic.{inl, inr}
use Prim.Native.Nat.{ℕ, zero, suc, ◌+◌, ◌-◌, ◌<◌}
use native.Mathlib.Omega.{arith}
use lib.Dec.{leb, eqb}
use lib.ListN.{length, take, drop, replicate}
use lib.Seq.{get_or-drop}
use Rattle.basics.proofs.Laws.{if_ind}
use Rattle.basics.proofs.Order.{le-or-gt}
use Rattle.tlv.specs.Tag.{is_template}
use Rattle.tlv.proofs.Laws.{Bytes}
use Rattle.dictionary.specs.Rows.{Row, row_in, find_row, form_n, form_cn}
use Rattle.store.specs.Place.{StoredValue, absent, present, bytes_or_empty_if_absent, row_offset, row_value}
use Rattle.store.proofs.Laws.{stored_length, value_bytes, no_place}
use Rattle.dol.specs.declared.DolEntry.{DolEntry}
use Rattle.dol.specs.Filling.{zero_bytes, truncated_to_length, padding_byte, padded_to_length, fitted_to_length}
use Rattle.dol.specs.Filling.{dol_value_bytes, dol_bytes_of_row_found, dol_entry_bytes, dol_data, dol_data_if_parsed}

-- ---- lists

pub bytes_nil : Bytes []
bytes_nil i = omega arith

pub bytes_cons : (x : ℕ) (s : List ℕ) → x < 256 → Bytes s → Bytes (x ∷ s)
bytes_cons x s h b zero = h
bytes_cons x s h b (suc i) = b i

pub bytes_append : (s t : List ℕ) → Bytes s → Bytes t → Bytes (s ++ t)
bytes_append [] t b d = d
bytes_append (x ∷ s) t b d = bytes_cons x (s ++ t) (b 0) (bytes_append s t (λ i. b (suc i)) d)

bytes_take : (n : ℕ) (s : List ℕ) → Bytes s → Bytes (take n s)
bytes_take zero s b = bytes_nil
bytes_take (suc n) [] b = bytes_nil
bytes_take (suc n) (x ∷ s) b = bytes_cons x (take n s) (b 0) (bytes_take n s (λ i. b (suc i)))

bytes_drop : (n : ℕ) (s : List ℕ) → Bytes s → Bytes (drop n s)
bytes_drop n s b i = rw (get_or-drop n s i 0) (b (n + i))

bytes_run : (n x : ℕ) → x < 256 → Bytes (replicate n x)
bytes_run zero x h = bytes_nil
bytes_run (suc n) x h = bytes_cons x (replicate n x) h (bytes_run n x h)

-- ---- a value

cut-bytes : (form n : ℕ) (v : List ℕ) → Bytes v → Bytes (truncated_to_length form n v)
unfolding truncated_to_length
cut-bytes form n v b = if_ind Bytes (eqb form form_n) _ _ (λ _. bytes_drop (length v - n) v b) (λ _. bytes_take n v b)

padding_small : (form : ℕ) → padding_byte form < 256
unfolding padding_byte
padding_small form = if_ind (λ (x : ℕ). x < 256) (eqb form form_cn) _ _ (λ _. omega arith) (λ _. omega arith)

padded_bytes : (form n : ℕ) (v : List ℕ) → Bytes v → Bytes (padded_to_length form n v)
unfolding padded_to_length
padded_bytes form n v b =
    if_ind Bytes (eqb form form_n) _ _
    (λ _. bytes_append (zero_bytes (n - length v)) v (bytes_run (n - length v) 0 (omega arith)) b)
    (λ _. bytes_append v (replicate (n - length v) (padding_byte form)) b
    (bytes_run (n - length v) (padding_byte form) (padding_small form)))

pub fitted_bytes : (form n : ℕ) (v : List ℕ) → Bytes v → Bytes (fitted_to_length form n v)
unfolding fitted_to_length
fitted_bytes form n v b = if_ind Bytes (leb n (length v)) _ _ (λ _. cut-bytes form n v b) (λ _. padded_bytes form n v b)

-- ---- a filling

module _ (table : List Row) (store : List ℕ) (b : Bytes store) where
  stored_bytes : (k : ℕ) → Bytes (bytes_or_empty_if_absent (row_value table store k))
  stored_bytes k = elim (le-or-gt (length store) (row_offset table k)) [
    | inl h ↦ subst⁻¹ Bytes (ap bytes_or_empty_if_absent (no_place table store k h)) bytes_nil
    | inr h ↦
        let o = row_offset table k + 1 in
        subst⁻¹ Bytes (value_bytes table store k h) (bytes_take (stored_length table store k) (drop o store)
        (bytes_drop o store b))
  ]

  of_value : (form n : ℕ) (x : StoredValue) → Bytes (bytes_or_empty_if_absent x) → Bytes (dol_value_bytes form n x)
  of_value form n absent d = bytes_run n 0 (omega arith)
  of_value form n (present v) d = fitted_bytes form n v d

  of_found : (n : ℕ) (x : Option ℕ) → Bytes (dol_bytes_of_row_found table store n x)
  of_found n None = bytes_run n 0 (omega arith)
  of_found n (Some k) = of_value (row_in table k).form n (row_value table store k) (stored_bytes k)

  entry_bytes : (e : DolEntry) → Bytes (dol_entry_bytes table store e)
  unfolding dol_entry_bytes
  entry_bytes e =
      if_ind Bytes (is_template e.tag) _ _ (λ _. bytes_run e.asked 0 (omega arith))
      (λ _. of_found e.asked (find_row table e.tag))

  filling_bytes : (es : List DolEntry) → Bytes (dol_data table store es)
  unfolding dol_data
  filling_bytes [] = bytes_nil
  filling_bytes (e ∷ es) = bytes_append (dol_entry_bytes table store e) (dol_data table store es) (entry_bytes e)
      (filling_bytes es)

  pub filled_bytes : (x : Option (List DolEntry)) (v : List ℕ) → dol_data_if_parsed table store x ≡ Some v → Bytes v
  unfolding dol_data_if_parsed
  filled_bytes None v p = let z : ◌≡◌ {A = ℕ} 0 1 = cc in absurd (omega arith)
  filled_bytes (Some es) v p = let e : dol_data table store es ≡ v = cc in subst Bytes e (filling_bytes es)
