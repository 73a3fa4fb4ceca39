-- What the store gives by a row is what the rules name by its tag: its bytes, and whether it is present.
-- Assumes nothing.
use Rattle.std.specs.Prelude.{Some}
use mathlib.Core.Bool.{Bool}
use mathlib.Core.List.{List}
use mathlib.Core.Path.{◌≡◌, sym, ap, ◌∙◌}
use Prim.Native.Nat.{ℕ}
use Rattle.dictionary.specs.Rows.{dictionary_rows, find_row}
use Rattle.store.specs.Place.{bytes_or_empty_if_absent, is_present, row_value}
use Rattle.store.proofs.Laws.{by_row}
use Rattle.store.specs.Held.{has_object, stored_bytes}

module _ (b : List ℕ) (t : ℕ) {k : ℕ} (at : find_row dictionary_rows t ≡ Some k) where
  pub bytes_by_row : {s : List ℕ} → s ≡ bytes_or_empty_if_absent (row_value dictionary_rows b k) → s ≡ stored_bytes b t
  bytes_by_row e = e ∙ ap bytes_or_empty_if_absent (sym (by_row dictionary_rows b t k at))

  pub there_by_row : {f : Bool} → f ≡ is_present (row_value dictionary_rows b k) → f ≡ has_object b t
  there_by_row e = e ∙ ap is_present (sym (by_row dictionary_rows b t k at))
