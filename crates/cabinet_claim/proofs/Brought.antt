-- What a start loads is what its bytes bring: in the store that is loaded into an empty one, a known tag has the
-- value of the first object of that tag in the start bytes. An object that is present refuses a second one, so none
-- comes over it.
-- Assumes nothing.
use Rattle.std.specs.Prelude.{Some, None, Option}
use mathlib.Core.Path.{◌≡◌, refl, sym, ap, ◌∙◌}
use mathlib.Core.Bool.{true, false}
use mathlib.Core.Logic.{inl, inr}
use mathlib.Core.List.{List, [], ◌∷◌}
use Prim.Native.Nat.{ℕ, zero, suc, ◌≤◌}
use native.Mathlib.Omega.{arith}
use lib.ListN.{length, replicate, length-replicate}
use borrow.Author.Tests.{eq-eqb, ne_eqb}
use Rattle.basics.proofs.Laws.{if_yes, if_no, bool_cases}
use Rattle.basics.proofs.Order.{equal_or_not}
use Rattle.tlv.specs.declared.TlvHeader.{TlvHeader}
use Rattle.tlv.specs.Object.{header_value, behind_object}
use Rattle.tlv.specs.Primitives.{Object, tlv_object, prepend_object, primitive_at_front, object_then_rest, primitive_objects}
use Rattle.tlv.proofs.Tree.{shorter_behind}
use Rattle.tlv.proofs.Primitives.{primitive_fits, unroll, primitives_end}
use Rattle.dictionary.specs.Named.{row_amount}
use Rattle.dictionary.specs.Rows.{dictionary_rows, row_at, find_row, store_size}
use Rattle.dictionary.proofs.Find.{found}
use Rattle.dictionary.proofs.Fit.{fits_length}
use Rattle.dictionary.proofs.Named.{at_9f02}
use Rattle.store.specs.Place.{StoredValue, absent, present, bytes_or_empty_if_absent, is_present, object_value, put_row}
use Rattle.store.proofs.Laws.{by_row}
use Rattle.analysis.specs.Digits.{amount_of}
use Rattle.session_record.proofs.Stored.{empty_lacks, put_size, put_here, put_away}
use Rattle.start_data.specs.StartData.{start_may_set_object_in_row, set_object_of_row_found, set_start_object, continue_setting}
use Rattle.start_data.specs.StartData.{set_start_objects, loaded, load_start_bytes}
use Rattle.start_data.proofs.Laws.{put_of, load_by}
use Rattle.cabinet_lookup.specs.Value.{objects_from_front, leading_primitive_objects, first_value_of_tag, value_or_default}
use Rattle.cabinet_lookup.proofs.Laws.{held_unroll}
use Rattle.cabinet.specs.State.{stored_amount_authorized}
use Rattle.cabinet_claim.specs.Account.{start_amount_in}

never : {A B : Type 0} {x : B} → ◌≡◌ {A = Option B} None (Some x) → A
never e = let z : ◌≡◌ {A = ℕ} 0 1 = cc in absurd (omega arith)

-- ---- a run of start bytes is held whole by a list

-- the object at the front, and a run after it
behind_run : (n : ℕ) (s : List ℕ) → length s ≤ suc n
    → ((v : List ℕ) → length v ≤ n → (os : List Object) → primitive_objects v ≡ Some os → leading_primitive_objects v ≡ os)
    → (os : List Object) (g : TlvHeader) → primitive_at_front s ≡ Some g → (x : Option (List Object))
    → primitive_objects (behind_object s g) ≡ x
    → prepend_object (tlv_object g.tag (header_value s g)) x ≡ Some os → tlv_object g.tag (header_value s g)
    ∷ leading_primitive_objects (behind_object s g) ≡ os
unfolding prepend_object
behind_run n s h more os g e None q r = never r
behind_run n s h more os g e (Some qs) q r =
    let t : tlv_object g.tag (header_value s g) ∷ qs ≡ os = cc in
    let m = shorter_behind (primitive_fits s g e) in
    ap (λ (y : List Object). tlv_object g.tag (header_value s g) ∷ y) (more (behind_object s g) (omega arith) qs q) ∙ t

no_run : (os : List Object) → primitive_objects [] ≡ Some os → leading_primitive_objects [] ≡ os
no_run os p = held_unroll [] ∙ at (primitive_at_front []) refl
  where
    at : (x : Option TlvHeader) → primitive_at_front [] ≡ x → objects_from_front leading_primitive_objects [] x ≡ os
    at None e = let q : Some [] ≡ Some os = sym (primitives_end [] refl) ∙ p in cc
    at (Some g) e = let f = primitive_fits [] g e in absurd (omega arith)

one_run : (n : ℕ) (s : List ℕ) → length s ≤ suc n
    → ((v : List ℕ) → length v ≤ n → (os : List Object) → primitive_objects v ≡ Some os → leading_primitive_objects v ≡ os)
    → (os : List Object) → primitive_objects s ≡ Some os → leading_primitive_objects s ≡ os
one_run n [] h more os p = no_run os p
one_run n (b ∷ s) h more os p = held_unroll (b ∷ s) ∙ at (primitive_at_front (b ∷ s)) refl
  where
    at : (x : Option TlvHeader) → primitive_at_front (b ∷ s) ≡ x → objects_from_front leading_primitive_objects (b ∷ s) x ≡ os
    at None e = never (sym (unroll (b ∷ s) ∙ ap (object_then_rest primitive_objects (b ∷ s)) e) ∙ p)
    at (Some g) e = behind_run n (b ∷ s) h more os g e (primitive_objects (behind_object (b ∷ s) g)) refl
        (sym (unroll (b ∷ s) ∙ ap (object_then_rest primitive_objects (b ∷ s)) e) ∙ p)

run_upto : (n : ℕ) (s : List ℕ) → length s ≤ suc n → (os : List Object) → primitive_objects s ≡ Some os
    → leading_primitive_objects s ≡ os
run_upto zero s h os p = one_run zero s h (λ v m. no_more v m) os p
  where
    no_more : (v : List ℕ) → length v ≤ 0 → (os : List Object) → primitive_objects v ≡ Some os
        → leading_primitive_objects v ≡ os
    no_more [] m os p = no_run os p
    no_more (b ∷ v) m os p = absurd (omega arith)
run_upto (suc n) s h os p = one_run (suc n) s h (λ v m qs q. run_upto n v m qs q) os p

run_held : (s : List ℕ) (os : List Object) → primitive_objects s ≡ Some os → leading_primitive_objects s ≡ os
run_held s os p = run_upto (length s) s (omega arith) os p

-- ---- the objects of a start, one after the other

-- a value that is looked up, as a store has it
abbrev as_value : Option (List ℕ) → StoredValue
as_value None = absent
as_value (Some v) = present v

module _ (t k : ℕ) (known : find_row dictionary_rows t ≡ Some k) where
  -- an object of another tag leaves the value of this one
  other : (b : List ℕ) (o : Object) (d : List ℕ) → length b ≡ store_size → (o.tag ≡ t → ⊥) → set_start_object b o ≡ Some d
      → (length d ≡ store_size) × (object_value d t ≡ object_value b t)
  unfolding set_start_object
  other b o d l ne e = go (find_row dictionary_rows o.tag) refl e
    where
      go : (x : Option ℕ) → find_row dictionary_rows o.tag ≡ x → set_object_of_row_found b o x ≡ Some d
          → (length d ≡ store_size) × (object_value d t ≡ object_value b t)
      go None f e = let z : b ≡ d = cc in (ap length (sym z) ∙ l, ap (λ (y : List ℕ). object_value y t) (sym z))
      go (Some j) f e = elim (bool_cases (start_may_set_object_in_row b j o)) [
        | inl s ↦
            let p = put_of b o j f s in
            let q : Some (put_row dictionary_rows b j o.value) ≡ Some d = sym (if_yes _ _ s) ∙ e in
            let z : put_row dictionary_rows b j o.value ≡ d = cc in
            let g = (fits_length (row_at j) o.value p.fits).1 in
            let away : find_row dictionary_rows t ≡ Some j → ⊥ = λ y. ne (sym p.tag ∙ (found dictionary_rows t j y).1) in (
              ap length (sym z) ∙ put_size b j o.value l p.row g,
              ap (λ (y : List ℕ). object_value y t) (sym z) ∙
                  put_away b j o.value l p.row g t away,
            )
        | inr s ↦ never (sym (if_no _ _ s) ∙ e)
      ]

  -- one of this tag puts its value where none was
  here : (b : List ℕ) (o : Object) (d : List ℕ) → length b ≡ store_size → o.tag ≡ t → set_start_object b o ≡ Some d
      → (length d ≡ store_size) × (object_value d t ≡ present o.value) × (is_present (object_value b t) ≡ false)
  unfolding set_start_object
  here b o d l q e = go (find_row dictionary_rows o.tag) refl e
    where
      go : (x : Option ℕ) → find_row dictionary_rows o.tag ≡ x → set_object_of_row_found b o x ≡ Some d
          → (length d ≡ store_size) × (object_value d t ≡ present o.value) × (is_present (object_value b t) ≡ false)
      go None f e = let y : Some k ≡ None = sym known ∙ ap (find_row dictionary_rows) (sym q) ∙ f in
          let z : ◌≡◌ {A = ℕ} 0 1 = cc in absurd (omega arith)
      go (Some j) f e = elim (bool_cases (start_may_set_object_in_row b j o)) [
        | inl s ↦
            let p = put_of b o j f s in
            let y : Some (put_row dictionary_rows b j o.value) ≡ Some d = sym (if_yes _ _ s) ∙ e in
            let z : put_row dictionary_rows b j o.value ≡ d = cc in
            let g = (fits_length (row_at j) o.value p.fits).1 in
            let row : find_row dictionary_rows t ≡ Some j = ap (find_row dictionary_rows) (sym q) ∙ f in (
              ap length (sym z) ∙ put_size b j o.value l p.row g,
              ap (λ (y : List ℕ). object_value y t) (sym z) ∙ put_here b j o.value l p.row g t row,
              ap is_present (by_row dictionary_rows b t j row) ∙ p.free,
            )
        | inr s ↦ never (sym (if_no _ _ s) ∙ e)
      ]

  -- a value that is present stays
  stays_behind : (o : Object) (os : List Object) (b c : List ℕ) → length b ≡ store_size
      → is_present (object_value b t) ≡ true
      → ((d : List ℕ) → length d ≡ store_size → is_present (object_value d t) ≡ true → set_start_objects d os ≡ Some c
      → object_value c t ≡ object_value d t)
      → (x : Option (List ℕ)) → set_start_object b o ≡ x → continue_setting x (λ d. set_start_objects d os) ≡ Some c
      → object_value c t ≡ object_value b t
  stays_behind o os b c l h more None q e = never e
  stays_behind o os b c l h more (Some d) q e = elim (equal_or_not o.tag t) [
    | inl m ↦ let w = (here b o d l m q).2 in let z : ◌≡◌ {A = ℕ} 0 1 = cc in absurd (omega arith)
    | inr m ↦ let w = other b o d l m q in more d w.0 (ap is_present w.1 ∙ h) e ∙ w.1
  ]

  stays : (os : List Object) (b c : List ℕ) → length b ≡ store_size → is_present (object_value b t) ≡ true
      → set_start_objects b os ≡ Some c → object_value c t ≡ object_value b t
  unfolding set_start_objects
  stays [] b c l h e = let z : b ≡ c = cc in ap (λ (y : List ℕ). object_value y t) (sym z)
  stays (o ∷ os) b c l h e = stays_behind o os b c l h (λ d m n f. stays os d c m n f) (set_start_object b o) refl e

  -- where none was there, the first object's value is there at the end
  first_behind : (o : Object) (os : List Object) (b c : List ℕ) → length b ≡ store_size → object_value b t ≡ absent
      → ((d : List ℕ) → length d ≡ store_size → object_value d t ≡ absent → set_start_objects d os ≡ Some c
      → object_value c t ≡ as_value (first_value_of_tag t os))
      → (x : Option (List ℕ)) → set_start_object b o ≡ x → continue_setting x (λ d. set_start_objects d os) ≡ Some c
      → object_value c t ≡ as_value (first_value_of_tag t (o ∷ os))
  unfolding first_value_of_tag
  first_behind o os b c l h more None q e = never e
  first_behind o os b c l h more (Some d) q e = elim (equal_or_not o.tag t) [
    | inl m ↦
        let w = here b o d l m q in
        stays os d c w.0 (ap is_present w.1) e ∙ w.1 ∙ sym (ap as_value (if_yes _ _ (eq-eqb _ _ m)))
    | inr m ↦
        let w = other b o d l m q in
        more d w.0 (w.1 ∙ h) e ∙ sym (ap as_value (if_no _ _ (ne_eqb _ _ m)))
  ]

  first : (os : List Object) (b c : List ℕ) → length b ≡ store_size → object_value b t ≡ absent
      → set_start_objects b os ≡ Some c → object_value c t ≡ as_value (first_value_of_tag t os)
  unfolding set_start_objects first_value_of_tag
  first [] b c l h e = let z : b ≡ c = cc in ap (λ (y : List ℕ). object_value y t) (sym z) ∙ h
  first (o ∷ os) b c l h e = first_behind o os b c l h (λ d m n f. first os d c m n f) (set_start_object b o) refl e

-- ---- the amount of a start

pub brought_amount : (bytes c : List ℕ) → load_start_bytes (replicate store_size 0) bytes ≡ loaded c
    → stored_amount_authorized c ≡ start_amount_in bytes
unfolding value_or_default first_value_of_tag
brought_amount bytes c e =
    let y = load_by (replicate store_size 0) bytes c e in
    ap (λ (v : StoredValue). amount_of (bytes_or_empty_if_absent v))
    (first 0x9F02 row_amount at_9f02 y.objects (replicate store_size 0) c (length-replicate {A = ℕ} store_size 0)
    (empty_lacks 0x9F02) y.all_set
    ∙ ap (λ (os : List Object). as_value (first_value_of_tag 0x9F02 os)) (sym (run_held bytes y.objects y.is_run)))
    ∙ ap amount_of (bytes_of (first_value_of_tag 0x9F02 (leading_primitive_objects bytes)))
  where
    bytes_of : (x : Option (List ℕ)) → bytes_or_empty_if_absent (as_value x) ≡ value_or_default x
        (value_or_default (first_value_of_tag 0x9F02 (leading_primitive_objects [])) [])
    bytes_of None = ap (λ (os : List Object). value_or_default (first_value_of_tag 0x9F02 os) [])
        (sym (run_held [] [] (primitives_end [] refl)))
    bytes_of (Some v) = refl
