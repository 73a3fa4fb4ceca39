-- Filling a list: an entry's bytes by what its tag is, and what joins and measures a filling, by induction over
-- the entries.
-- Assumes nothing.
use Rattle.std.specs.Prelude.{Some, None, Option}
use mathlib.Core.Path.{◌≡◌, refl, sym, ap, ap₂, ◌∙◌}
use mathlib.Core.Bool.{true, false}
use mathlib.Core.List.{List, [], ◌∷◌, ◌++◌, append_assoc}
use Prim.Native.Nat.{ℕ, ◌+◌}
use native.Mathlib.Omega.{arith}
use lib.ListN.{length, length-append, length-replicate}
use Rattle.basics.proofs.Laws.{if_yes, if_no, if_ind}
use Rattle.tlv.specs.Tag.{is_template}
use Rattle.dictionary.specs.Rows.{Row, row_in, find_row}
use Rattle.store.specs.Place.{StoredValue, absent, present, bytes_or_empty_if_absent, is_present, row_value}
use Rattle.dol.specs.declared.DolEntry.{DolEntry}
use Rattle.dol.specs.Entries.{dol_entries, dol_total_length}
use Rattle.dol.specs.Filling.{zero_bytes, fitted_to_length, dol_value_bytes, dol_bytes_of_row_found, dol_entry_bytes}
use Rattle.dol.specs.Filling.{dol_data, dol_data_if_parsed, dol_filled}
use Rattle.dol.proofs.Fitting.{fitted_length}
use Rattle.dol.proofs.Entries.{entries_end, entries_join}

-- ---- an entry's bytes by what its tag is

module _ (table : List Row) (store : List ℕ) (e : DolEntry) where
  pub of_template : is_template e.tag ≡ true → dol_entry_bytes table store e ≡ zero_bytes e.asked
  unfolding dol_entry_bytes
  of_template t = if_yes _ _ t

  of_primitive : (x : Option ℕ) → is_template e.tag ≡ false → find_row table e.tag ≡ x
      → dol_entry_bytes table store e ≡ dol_bytes_of_row_found table store e.asked x
  unfolding dol_entry_bytes
  of_primitive x t p = if_no _ _ t ∙ ap (dol_bytes_of_row_found table store e.asked) p

  pub of_unknown : is_template e.tag ≡ false → find_row table e.tag ≡ None
      → dol_entry_bytes table store e ≡ zero_bytes e.asked
  of_unknown t p = of_primitive None t p

  module _ (k : ℕ) (t : is_template e.tag ≡ false) (p : find_row table e.tag ≡ Some k) where
    pub by_value : (x : StoredValue) → row_value table store k ≡ x
        → dol_entry_bytes table store e ≡ dol_value_bytes (row_in table k).form e.asked x
    by_value x q = of_primitive (Some k) t p ∙ ap (dol_value_bytes (row_in table k).form e.asked) q

-- ---- lengths

module _ (table : List Row) (store : List ℕ) where
  value_length : (form n : ℕ) (x : StoredValue) → length (dol_value_bytes form n x) ≡ n
  value_length form n absent = length-replicate n 0
  value_length form n (present v) = fitted_length form n v

  found_length : (n : ℕ) (x : Option ℕ) → length (dol_bytes_of_row_found table store n x) ≡ n
  found_length n None = length-replicate n 0
  found_length n (Some k) = value_length (row_in table k).form n (row_value table store k)

  -- an entry's bytes are as many as it requests
  pub entry_length : (e : DolEntry) → length (dol_entry_bytes table store e) ≡ e.asked
  unfolding dol_entry_bytes
  entry_length e =
      if_ind (λ (l : List ℕ). length l ≡ e.asked) (is_template e.tag) _ _
      (λ _. length-replicate e.asked 0) (λ _. found_length e.asked (find_row table e.tag))

  -- a filling has as many bytes as are requested in all
  pub filling_length : (es : List DolEntry) → length (dol_data table store es) ≡ dol_total_length es
  unfolding dol_data dol_total_length
  filling_length [] = refl
  filling_length (e ∷ es) = length-append (dol_entry_bytes table store e) _ ∙ ap₂ ◌+◌ (entry_length e) (filling_length es)

  -- ---- one list after another

  pub filling_join : (es fs : List DolEntry) → dol_data table store (es ++ fs) ≡ dol_data table store es
      ++ dol_data table store fs
  unfolding dol_data
  filling_join [] fs = refl
  filling_join (e ∷ es) fs =
      ap (λ (r : List ℕ). dol_entry_bytes table store e ++ r) (filling_join es fs) ∙ sym
      (append_assoc (dol_entry_bytes table store e) _ _)

  pub filled_some : (x : Option (List DolEntry)) (es : List DolEntry) → x ≡ Some es → dol_data_if_parsed table store x
      ≡ Some (dol_data table store es)
  unfolding dol_data_if_parsed
  filled_some x es p = rw p

  -- where a filling is, there are its entries
  filled_entries : (x : Option (List DolEntry)) (v : List ℕ) → dol_data_if_parsed table store x ≡ Some v
      → (es : List DolEntry) × (x ≡ Some es) × (dol_data table store es ≡ v)
  unfolding dol_data_if_parsed
  filled_entries None v p = let z : ◌≡◌ {A = ℕ} 0 1 = cc in absurd (omega arith)
  filled_entries (Some es) v p = let e : dol_data table store es ≡ v = cc in (es, refl, e)

  -- the filling of two whole lists concatenated is their fillings concatenated
  pub filled_join : (s t v w : List ℕ) → dol_filled table store s ≡ Some v → dol_filled table store t ≡ Some w
      → dol_filled table store (s ++ t) ≡ Some (v ++ w)
  filled_join s t v w p q =
      let a = filled_entries (dol_entries s) v p in
      let b = filled_entries (dol_entries t) w q in
      filled_some _ _ (entries_join s t a.0 b.0 a.1 b.1) ∙ ap Some
      (filling_join a.0 b.0 ∙ ap₂ ◌++◌ a.2 b.2)

  -- nothing is requested, nothing is filled
  pub filled_nothing : dol_filled table store [] ≡ Some []
  unfolding dol_data
  filled_nothing = filled_some _ [] (entries_end [] refl)
