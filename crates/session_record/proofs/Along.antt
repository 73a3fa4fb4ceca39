-- The ranges of a record by one walk over the rows and the bytes, each place dropped once it is judged: what computed
-- examples go by, since the rule finds each row by its tag and each place from the store's front. Assumes nothing.
use mathlib.Core.Path.{◌≡◌, refl, sym, ap, ap₂, ◌∙◌}
use mathlib.Core.Bool.{Bool, true}
use mathlib.Core.List.{List, [], ◌∷◌, map}
use Prim.Native.Nat.{ℕ, suc, ◌<◌}
use native.Mathlib.Omega.{arith}
use lib.Dec.{eqb}
use lib.ListN.{length, take, drop}
use lib.Seq.{drop-drop}
use Rattle.basics.specs.Choice.{both, every}
use Rattle.dictionary.specs.Rows.{Row, dictionary_rows, row_in, store_size}
use Rattle.store.specs.Place.{row_size_in_store, row_offset, row_place_bytes}
use Rattle.store.proofs.Rows.{rows_length}
use Rattle.session_record.specs.declared.Session.{Session}
use Rattle.session_record.specs.Session.{store_bytes}
use Rattle.session_record.specs.Inner.{place_length_and_value_fit_row}
use Rattle.session_record.specs.Ranges.{stored_object_absent_or_fits_row, all_stored_objects_fit_rows, in_phase_ranges}
use Rattle.session_record.specs.Ranges.{session_record_in_ranges}
use Rattle.session_record.proofs.Fit.{object_place}

-- what is in the places of a table's rows fits
unfoldable pub fit_along : List Row → List ℕ → Bool
fit_along [] b = true
fit_along (r ∷ rs) b = both (place_length_and_value_fit_row r (take (row_size_in_store r) b))
    (fit_along rs (drop (row_size_in_store r) b))

along : (f : Row → Bool) (table : List Row) (b : List ℕ)
    → ((k : ℕ) → k < length table → f (row_in table k) ≡ place_length_and_value_fit_row (row_in table k)
    (row_place_bytes table b k)) → every f table ≡ fit_along table b
unfolding every fit_along row_place_bytes row_offset
along f [] b h = refl
along f (r ∷ rs) b h =
    ap₂ both (h 0 (omega arith))
    (along f rs (drop (row_size_in_store r) b)
    (λ k l. h (suc k) (omega arith) ∙ ap (λ (p : List ℕ). place_length_and_value_fit_row (row_in rs k)
    (take (row_size_in_store (row_in rs k)) p)) (sym (drop-drop (row_offset rs k) (row_size_in_store r) b))))

pub all_along : (b : List ℕ) → all_stored_objects_fit_rows b ≡ fit_along dictionary_rows b
unfolding all_stored_objects_fit_rows
all_along b = along (stored_object_absent_or_fits_row b) dictionary_rows b
    (λ k h. object_place b k (omega (arith, rows_length)))

-- the whole test
abbrev pub ranges_along : Session → Bool
ranges_along s = both (eqb (length (store_bytes s)) store_size)
    (both (fit_along dictionary_rows (store_bytes s)) (in_phase_ranges s.phase s.count (store_bytes s)))

pub ranges_along_lem : (s : Session) → session_record_in_ranges s ≡ ranges_along s
unfolding session_record_in_ranges
ranges_along_lem s =
    ap (λ (x : Bool). both (eqb (length (store_bytes s)) store_size)
    (both x (in_phase_ranges s.phase s.count (store_bytes s)))) (all_along (store_bytes s))

-- of a list of records
pub each_along : {A : Type 0} (f : A → Session) (xs : List A) → map (λ x. session_record_in_ranges (f x)) xs
    ≡ map (λ x. ranges_along (f x)) xs
each_along f xs = λ i. map (λ x. ranges_along_lem (f x) i) xs
