-- What a loading leaves of a store. A store that is loaded comes by a run whose objects are all set (`load_by`), and
-- what each put keeps holds at the end (`load_holds`); from these its size, that every object fits, rows that a start
-- may not set, and the terminal's type.
-- Assumes nothing.
use Rattle.std.specs.Prelude.{Some, None, Option}
use mathlib.Core.Path.{◌≡◌, refl, sym, ap, subst, ◌∙◌}
use mathlib.Core.Bool.{true, false}
use mathlib.Core.Logic.{◌⊎◌, inl, inr}
use mathlib.Core.List.{List, [], ◌∷◌, ◌++◌}
use Prim.Native.Nat.{ℕ, ◌≤◌, ◌<◌}
use native.Mathlib.Omega.{arith}
use lib.ListN.{length, get_or}
use borrow.Author.Tests.{leb-true, eq-eqb, ne_eqb, not-true}
use Rattle.basics.specs.Choice.{if}
use Rattle.basics.specs.Number.{has_bit_of_weight}
use Rattle.basics.proofs.Laws.{if_yes, if_ind, both_left, both_right, either_false}
use Rattle.basics.proofs.Order.{equal_or_not}
use Rattle.basics.proofs.Table.{at}
use Rattle.tlv.specs.Primitives.{Object, primitive_objects}
use Rattle.dictionary.specs.Rows.{dictionary_rows, row_at, blank_row, row_found_shifted, find_row, row_count, store_size}
use Rattle.dictionary.specs.Rows.{set_by_start, required_at_start}
use Rattle.dictionary.specs.Named.{row_number_of_tag_or_zero}
use Rattle.dictionary.specs.Form.{length_and_digits_fit_row}
use Rattle.dictionary.specs.TerminalType.{listed_terminal_type}
use Rattle.dictionary.proofs.Find.{found}
use Rattle.dictionary.proofs.Fit.{fits_length}
use Rattle.store.specs.Place.{StoredValue, bytes_or_empty_if_absent, is_present, row_value, object_value, put_row}
use Rattle.store.proofs.Laws.{Fits, put_length, put-get, put_other, by_row}
use Rattle.store.proofs.Rows.{rows_length, fits_row}
use Rattle.store.specs.Held.{has_object, stored_byte}
use Rattle.session_record.specs.Ranges.{is_present_if_required_at_start, all_required_at_start_present, all_stored_objects_fit_rows}
use Rattle.std.specs.Prelude.{Result, Ok, Err}
use Rattle.session_record.specs.declared.Refusal.{Refusal}
use Rattle.start_data.specs.StartData.{is_listed_if_terminal_type, start_may_set_object_in_row, set_object_of_row_found}
use Rattle.start_data.specs.StartData.{set_start_object, continue_setting, set_start_objects, LoadedStore, refusal}
use Rattle.start_data.specs.StartData.{loaded, loaded_if_all_required, loaded_after_setting, loaded_from_objects}
use Rattle.start_data.specs.StartData.{most_start_bytes, load_start_bytes, LoadResultAndStoreMatchLoaded}
use Rattle.start_data.proofs.Ways.{load_long}
use Rattle.start_data.proofs.Fit.{put_fits}

-- ---- the call's answer, read back

pub was_taken : {r : Result Unit Refusal} {b c : List ℕ} (x : LoadedStore) → LoadResultAndStoreMatchLoaded r c b x
    → r ≡ Ok tt → x ≡ loaded c
was_taken (refusal n) l e = let d = l.said in cc
was_taken (loaded d) l e = ap loaded (sym l.store)

pub was_refused : {r : Result Unit Refusal} {b c : List ℕ} {q : Refusal} (x : LoadedStore)
    → LoadResultAndStoreMatchLoaded r c b x → r ≡ Err q → (x ≡ refusal q.number) × (c ≡ b)
was_refused {r} {b} {c} {q} (refusal n) l e =
    let d = l.said in
    let z : record { number = n } ≡ q = cc in
    (ap (λ (y : Refusal). refusal y.number) z, l.store)
was_refused (loaded d) l e = let d = l.said in let z : ◌≡◌ {A = ℕ} 0 1 = cc in absurd (omega arith)

-- ---- how a store comes to be loaded

pub record LoadedBy (b s c : List ℕ) : Type 0 where
  pub short : length s ≤ most_start_bytes
  pub objects : List Object
  pub is_run : primitive_objects s ≡ Some objects
  pub all_set : set_start_objects b objects ≡ Some c
  pub complete : all_required_at_start_present c ≡ true

never : {A : Type 0} {n : ℕ} {c : List ℕ} → refusal n ≡ loaded c → A
never e = let z : ◌≡◌ {A = ℕ} 0 1 = cc in absurd (omega arith)

module _ (b s c : List ℕ) where
  required_by : (d : List ℕ) → loaded_if_all_required d ≡ loaded c → (d ≡ c) × (all_required_at_start_present c ≡ true)
  required_by d = if_ind (λ (x : LoadedStore). x ≡ loaded c → (d ≡ c) × (all_required_at_start_present c ≡ true)) _ _ _
      (λ t e. let z : d ≡ c = cc in (z, ap all_required_at_start_present (sym z) ∙ t)) (λ t e. never e)

  set_by : (x : Option (List ℕ)) → loaded_after_setting x ≡ loaded c → (x ≡ Some c) × (all_required_at_start_present c ≡ true)
  set_by None e = never e
  set_by (Some d) e = let w = required_by d e in (ap Some w.0, w.1)

  run_by : length s ≤ most_start_bytes → (x : Option (List Object)) → primitive_objects s ≡ x
      → loaded_from_objects b x ≡ loaded c → LoadedBy b s c
  run_by l None p e = never e
  run_by l (Some os) p e = let w = set_by (set_start_objects b os) e in
      record { short = l; objects = os; is_run = p; all_set = w.0; complete = w.1 }

  pub load_by : load_start_bytes b s ≡ loaded c → LoadedBy b s c
  unfolding load_start_bytes
  load_by = if_ind (λ (x : LoadedStore). x ≡ loaded c → LoadedBy b s c) _ _ _
      (λ t. run_by (leb-true _ _ t) (primitive_objects s) refl) (λ t e. never e)

  -- all that a start must bring is present
  pub load_brought : load_start_bytes b s ≡ loaded c → all_required_at_start_present c ≡ true
  load_brought e = (load_by e).complete

-- ---- what each put keeps

-- an object that is put into row k of the store b
pub record Put (b : List ℕ) (k : ℕ) (o : Object) : Type 0 where
  pub row : k < row_count
  pub tag : (row_at k).tag ≡ o.tag
  pub start : has_bit_of_weight (row_at k).setters set_by_start ≡ true
  pub fits : length_and_digits_fit_row (row_at k) o.value ≡ true
  pub free : is_present (row_value dictionary_rows b k) ≡ false
  pub type : is_listed_if_terminal_type o.tag o.value ≡ true

pub put_of : (b : List ℕ) (o : Object) (k : ℕ) → find_row dictionary_rows o.tag ≡ Some k
    → start_may_set_object_in_row b k o ≡ true → Put b k o
unfolding start_may_set_object_in_row
put_of b o k e s =
    let f = found dictionary_rows o.tag k e in
    let s₁ = both_right _ _ s in
    let s₂ = both_right _ _ s₁ in
    record {
      row = omega (arith, rows_length);
      tag = f.1;
      start = both_left _ _ s;
      fits = both_left _ _ s₁;
      free =
          not-true _ (both_left _ _ s₂);
      type = both_right _ _ s₂;
    }

-- it fits its place
pub put_place : (b : List ℕ) (k : ℕ) (o : Object) → length b ≡ store_size → Put b k o
    → Fits dictionary_rows b k o.value
put_place b k o l p = fits_row b k o.value l p.row (fits_length (row_at k) o.value p.fits).1

-- what holds of a store, and is kept by each put, holds of the store that is loaded
module _ (P : List ℕ → Type 0)
    (step : (b : List ℕ) (k : ℕ) (o : Object) → length b ≡ store_size → Put b k o → P b
    → P (put_row dictionary_rows b k o.value)) where
  abbrev Holds : List ℕ → Type 0
  Holds b = (length b ≡ store_size) × P b

  abbrev OfSet : Option (List ℕ) → Type 0
  OfSet None = Unit {0}
  OfSet (Some c) = Holds c

  found_holds : (b : List ℕ) (o : Object) → Holds b → (x : Option ℕ) → find_row dictionary_rows o.tag ≡ x
      → OfSet (set_object_of_row_found b o x)
  found_holds b o h None e = h
  found_holds b o h (Some k) e =
      if_ind OfSet _ _ _
      (λ s. let p = put_of b o k e s in (
        put_length dictionary_rows b k o.value (put_place b k o h.0 p) ∙ h.0,
        step b k o h.0 p h.1,
      )) (λ s. tt)

  then_holds : (x : Option (List ℕ)) (k : List ℕ → Option (List ℕ)) → ((c : List ℕ) → Holds c → OfSet (k c)) → OfSet x
      → OfSet (continue_setting x k)
  then_holds None k h i = tt
  then_holds (Some c) k h i = h c i

  object_holds : (b : List ℕ) (o : Object) → Holds b → OfSet (set_start_object b o)
  unfolding set_start_object
  object_holds b o h = found_holds b o h (find_row dictionary_rows o.tag) refl

  all_holds : (os : List Object) (b : List ℕ) → Holds b → OfSet (set_start_objects b os)
  unfolding set_start_objects
  all_holds [] b h = h
  all_holds (o ∷ os) b h = then_holds (set_start_object b o) _ (all_holds os) (object_holds b o h)

  -- objects after which every such store refuses the rest
  then_none : (x : Option (List ℕ)) (k : List ℕ → Option (List ℕ)) → ((c : List ℕ) → Holds c → k c ≡ None) → OfSet x
      → continue_setting x k ≡ None
  then_none None k h i = refl
  then_none (Some c) k h i = h c i

  pub none_after : (rest : List Object) → ((c : List ℕ) → Holds c → set_start_objects c rest ≡ None)
      → (os : List Object) (b : List ℕ) → Holds b → set_start_objects b (os ++ rest) ≡ None
  unfolding set_start_objects
  none_after rest n [] b h = n b h
  none_after rest n (o ∷ os) b h = then_none (set_start_object b o) _ (none_after rest n os) (object_holds b o h)

  pub load_holds : (b s c : List ℕ) → load_start_bytes b s ≡ loaded c → length b ≡ store_size → P b
      → (length c ≡ store_size) × P c
  load_holds b s c e l h =
      let y = load_by b s c e in
      rw y.all_set at (all_holds y.objects b (l, h))

module _ (b s c : List ℕ) (e : load_start_bytes b s ≡ loaded c) (l : length b ≡ store_size) where
  -- the store keeps its size
  pub load_size : length c ≡ store_size
  load_size = (load_holds (λ d. Unit {0}) (λ d k o m p t. tt) b s c e l tt).0

  -- where every stored object fitted, every one fits
  pub load_fits : all_stored_objects_fit_rows b ≡ true → all_stored_objects_fit_rows c ≡ true
  load_fits f = (load_holds (λ d. all_stored_objects_fit_rows d ≡ true)
      (λ d k o m p g. put_fits d k o.value m p.row p.fits g) b s c e l f).1

  -- a row that no put goes to
  kept : (k : ℕ)
      → ((d : List ℕ) (j : ℕ) (o : Object) → Put d j o → row_value dictionary_rows d k ≡ row_value dictionary_rows b k
      → k ≡ j → ⊥) → row_value dictionary_rows c k ≡ row_value dictionary_rows b k
  kept k away =
      (load_holds (λ d. row_value dictionary_rows d k ≡ row_value dictionary_rows b k)
      (λ d j o m p g. put_other dictionary_rows d j o.value (put_place d j o m p) k (away d j o p g) ∙ g) b s c e l
      refl).1

  -- rows that a start may not set are untouched
  pub load_untouched : (k : ℕ) → has_bit_of_weight (row_at k).setters set_by_start ≡ false
      → row_value dictionary_rows c k ≡ row_value dictionary_rows b k
  load_untouched k n =
      kept k (λ d j o p g q. let r = p.start in let w = ap (λ (i : ℕ). has_bit_of_weight (row_at i).setters set_by_start) q
      in let z : ◌≡◌ {A = ℕ} 0 1 = cc in omega arith)

  -- the same by tag
  pub load_untouched_of : (t k : ℕ) → find_row dictionary_rows t ≡ Some k → has_bit_of_weight (row_at k).setters set_by_start
      ≡ false → object_value c t ≡ object_value b t
  load_untouched_of t k f n = by_row dictionary_rows c t k f ∙ load_untouched k n ∙ sym (by_row dictionary_rows b t k f)

  -- an object that was present, empty or not, is as it was
  pub load_kept : (k : ℕ) → is_present (row_value dictionary_rows b k) ≡ true
      → row_value dictionary_rows c k ≡ row_value dictionary_rows b k
  load_kept k h =
      kept k (λ d j o p g q. let r = p.free in let w = ap (λ (i : ℕ). is_present (row_value dictionary_rows d i)) q in
      let v = ap is_present g in let z : ◌≡◌ {A = ℕ} 0 1 = cc in omega arith)

-- ---- the terminal's type, which has a row, and which a start must bring

abbrev type_row : ℕ
type_row = row_number_of_tag_or_zero 0x9F35

type_found : find_row dictionary_rows 0x9F35 ≡ Some type_row
unfolding row_number_of_tag_or_zero if dictionary_rows row_found_shifted find_row
type_found = refl

type_tag : (row_at type_row).tag ≡ 0x9F35
type_tag = (found dictionary_rows 0x9F35 type_row type_found).1

type_must : (row_at type_row).must ≡ required_at_start
unfolding row_number_of_tag_or_zero if dictionary_rows row_found_shifted find_row
type_must = refl

-- where a store holds a terminal type, it is listed
abbrev TypeListed : List ℕ → Type 0
TypeListed b = is_present (row_value dictionary_rows b type_row) ≡ true
    → listed_terminal_type (get_or (bytes_or_empty_if_absent (row_value dictionary_rows b type_row)) 0 0) ≡ true

is_listed : (t : ℕ) (v : List ℕ) → t ≡ 0x9F35 → is_listed_if_terminal_type t v ≡ true → listed_terminal_type (get_or v 0 0)
    ≡ true
unfolding is_listed_if_terminal_type
is_listed t v e h = sym (if_yes _ _ (eq-eqb t 0x9F35 e)) ∙ h

type_kept : (b : List ℕ) (k : ℕ) (o : Object) → length b ≡ store_size → Put b k o → TypeListed b
    → TypeListed (put_row dictionary_rows b k o.value)
type_kept b k o l p h = go (equal_or_not type_row k)
  where
    go : (type_row ≡ k) ⊎ (type_row ≡ k → ⊥) → TypeListed (put_row dictionary_rows b k o.value)
    go (inl e) = λ t.
        ap (λ (x : StoredValue). listed_terminal_type (get_or (bytes_or_empty_if_absent x) 0 0))
        (ap (row_value dictionary_rows (put_row dictionary_rows b k o.value)) e ∙ put-get dictionary_rows b k o.value
        (put_place b k o l p))
        ∙ is_listed o.tag o.value (sym (ap (λ (i : ℕ). (row_at i).tag) e ∙ p.tag) ∙ type_tag) p.type
    go (inr ne) = subst (λ (x : StoredValue). is_present x ≡ true
        → listed_terminal_type (get_or (bytes_or_empty_if_absent x) 0 0) ≡ true)
        (sym (put_other dictionary_rows b k o.value (put_place b k o l p) type_row ne)) h

-- a store that holds all that a start must bring holds a terminal type
brought_type : (c : List ℕ) → all_required_at_start_present c ≡ true → has_object c 0x9F35 ≡ true
unfolding all_required_at_start_present is_present_if_required_at_start
brought_type c e =
    sym (ap (has_object c) type_tag) ∙ sym
    (either_false _ (ne_eqb (row_at type_row).must 0 (λ z. omega (arith, type_must)))) ∙ at
    (is_present_if_required_at_start c) dictionary_rows blank_row e type_row (found dictionary_rows 0x9F35 type_row type_found).0

-- where the store held no terminal type, the one that is loaded is listed
pub load_listed : (b s c : List ℕ) → load_start_bytes b s ≡ loaded c → length b ≡ store_size → has_object b 0x9F35 ≡ false
    → listed_terminal_type (stored_byte c 0x9F35 1) ≡ true
load_listed b s c e l n =
    let none_yet : is_present (row_value dictionary_rows b type_row) ≡ false =
    ap is_present (sym (by_row dictionary_rows b 0x9F35 type_row type_found)) ∙ n in
    let there : is_present (row_value dictionary_rows c type_row) ≡ true =
    ap is_present (sym (by_row dictionary_rows c 0x9F35 type_row type_found)) ∙ brought_type c (load_brought b s c e) in
    ap (λ (x : StoredValue). listed_terminal_type (get_or (bytes_or_empty_if_absent x) 0 0))
    (by_row dictionary_rows c 0x9F35 type_row type_found)
    ∙ (load_holds TypeListed type_kept b s c e l (λ t. cc)).1 there

-- ---- every input over 1,024 bytes gives the same

pub load_long_same : (b d s t : List ℕ) → most_start_bytes < length s → most_start_bytes < length t
    → load_start_bytes b s ≡ load_start_bytes d t
load_long_same b d s t p q = load_long b s p ∙ sym (load_long d t q)
