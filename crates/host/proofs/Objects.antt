-- What holds of an object read back, way by way as the code takes it, and that a value has at most 254 bytes, so that
-- its word determines which of the five it is; and of bytes that are wiped: they hold no record.
-- Assumes nothing.
use Rattle.std.specs.Prelude.{Some, None, Option}
use mathlib.Core.Path.{◌≡◌, refl, sym, ap, subst⁻¹, ◌∙◌}
use mathlib.Core.Bool.{true, false, not}
use mathlib.Core.Logic.{◌⊎◌, inl, inr}
use mathlib.Core.List.{List, ◌++◌}
use Prim.Native.Nat.{ℕ, ◌≤◌, ◌<◌}
use native.Mathlib.Omega.{arith}
use lib.Dec.{eqb, ltb}
use lib.ListN.{length, get_or, take, drop, replicate, length-take, length-replicate, get_or-replicate}
use borrow.Author.Tests.{lt-ltb, le-ltb}
use Rattle.basics.specs.Front.{written_over_front}
use Rattle.basics.specs.Reason.{refusal_record_out_of_ranges}
use Rattle.basics.proofs.Laws.{if_yes, if_no, if_ind}
use Rattle.basics.proofs.Order.{le-or-gt}
use Rattle.dictionary.specs.Rows.{dictionary_rows, store_size, find_row}
use Rattle.dictionary.proofs.Find.{found}
use Rattle.store.specs.Place.{bytes_or_empty_if_absent, is_present, row_value, row_offset}
use Rattle.store.specs.Held.{lacks_object, stored_bytes}
use Rattle.store.proofs.Laws.{stored_length, value_bytes, no_place, by_row, unknown_absent}
use Rattle.store.proofs.Rows.{row_inside, rows_length}
use Rattle.session_record.specs.declared.Session.{Session}
use Rattle.session_record.specs.Session.{store_bytes, session_of}
use Rattle.session_record.specs.Ranges.{session_record_in_ranges}
use Rattle.layout.specs.declared.SessionRecordHead.{SessionRecordHead}
use Rattle.layout.specs.Layout.{layout_version, record_head_size, session_record_size, decoded_session, decoded_record_head}
use Rattle.layout.specs.Word.{refusal_word}
use Rattle.layout.proofs.Laws.{held_none, held_session, decoded_short, decoded_version}
use Rattle.host.specs.Object.{object_absent_word, tag_unknown_word, length_needed_word, ObjectCopied}
use Rattle.host.specs.Object.{ReturnsObjectCopied, row_is_found, object_copied_from_store}
use Rattle.host.specs.Object.{object_copied_from_session}

-- ---- an object of a store

-- a value has at most 254 bytes
pub value_small : (b : List ℕ) (t k : ℕ) (v : List ℕ) → find_row dictionary_rows t ≡ Some k
    → v ≡ bytes_or_empty_if_absent (row_value dictionary_rows b k) → length v ≤ 254
unfolding stored_length
value_small b t k v e g = rw g (go (le-or-gt (length b) (row_offset dictionary_rows k)))
  where
    go : (length b ≤ row_offset dictionary_rows k) ⊎ (row_offset dictionary_rows k < length b)
        → length (bytes_or_empty_if_absent (row_value dictionary_rows b k)) ≤ 254
    go (inl f) = rw (no_place dictionary_rows b k f) (omega arith)
    go (inr f) = rw (value_bytes dictionary_rows b k f) (simp length-take (omega (
      arith,
      row_inside k (omega (
        arith,
        (found dictionary_rows t k e).0,
        rows_length,
      )),
    )))

module _ (b : List ℕ) (t : ℕ) (l : List ℕ) where
  pub object_unknown : find_row dictionary_rows t ≡ None
      → ReturnsObjectCopied tag_unknown_word l (object_copied_from_store b t l)
  unfolding object_copied_from_store
  object_unknown e = subst⁻¹ (ReturnsObjectCopied tag_unknown_word l)
      (if_yes _ _ (ap (λ (f : Option ℕ). not (row_is_found f)) e)) (record { word = refl; buffer = refl })

  module _ (k : ℕ) (e : find_row dictionary_rows t ≡ Some k) where
    known_no : not (row_is_found (find_row dictionary_rows t)) ≡ false
    known_no = ap (λ (f : Option ℕ). not (row_is_found f)) e

    pub object_absent : is_present (row_value dictionary_rows b k) ≡ false
        → ReturnsObjectCopied object_absent_word l (object_copied_from_store b t l)
    unfolding object_copied_from_store
    object_absent f =
        subst⁻¹ (ReturnsObjectCopied object_absent_word l)
        (if_no _ _ known_no ∙ if_yes _ _ (ap not (ap is_present (by_row dictionary_rows b t k e) ∙ f)))
        (record { word = refl; buffer = refl })

    module _ (f : is_present (row_value dictionary_rows b k) ≡ true) (v : List ℕ)
        (g : v ≡ bytes_or_empty_if_absent (row_value dictionary_rows b k)) where
      value-is : stored_bytes b t ≡ v
      value-is = ap bytes_or_empty_if_absent (by_row dictionary_rows b t k e) ∙ sym g

      lacks_no : lacks_object b t ≡ false
      lacks_no = ap not (ap is_present (by_row dictionary_rows b t k e) ∙ f)

      pub object_needed : length l < length v → ReturnsObjectCopied (length_needed_word (length v)) l
          (object_copied_from_store b t l)
      unfolding object_copied_from_store
      object_needed h =
          subst⁻¹ (ReturnsObjectCopied (length_needed_word (length v)) l)
          (if_no _ _ known_no ∙ if_no _ _ lacks_no ∙ if_yes _ _ (ap (λ (x : List ℕ). ltb (length l) (length x)) value-is
          ∙ lt-ltb _ _ h))
          (record { word = ap (λ (x : List ℕ). length_needed_word (length x)) (sym value-is); buffer = refl })

      pub object_copied : (m : List ℕ) → length v ≤ length l → m ≡ v
          → ReturnsObjectCopied (length v) (m ++ drop (length v) l) (object_copied_from_store b t l)
      unfolding object_copied_from_store
      object_copied m h c =
          subst⁻¹ (ReturnsObjectCopied (length v) (m ++ drop (length v) l))
          (if_no _ _ known_no ∙ if_no _ _ lacks_no ∙ if_no _ _ (ap (λ (x : List ℕ). ltb (length l) (length x)) value-is
          ∙ le-ltb _ _ h))
          (record {
            word = ap length (sym value-is);
            buffer = ap (λ (x : List ℕ). x ++ drop (length v) l) c ∙ ap
                (λ (x : List ℕ). written_over_front x l) (sym value-is);
          })

-- ---- an object of the session that bytes hold

module _ (t : ℕ) (l : List ℕ) where
  pub object_no_record : (x : Option Session) → decoded_record_head x ≡ None → (w : ℕ)
      → w ≡ refusal_word refusal_record_out_of_ranges → ReturnsObjectCopied w l (object_copied_from_session x t l)
  unfolding object_copied_from_session
  object_no_record x e w f = subst⁻¹ (λ (y : Option Session). ReturnsObjectCopied w l (object_copied_from_session y t l))
      (held_none x e) (record { word = f; buffer = refl })

  module _ (s : List ℕ) (h : SessionRecordHead) (e : decoded_record_head (decoded_session s) ≡ Some h)
    where
      pub object_ranges : session_record_in_ranges
          (session_of h.phase h.count (take store_size (drop record_head_size s)))
          ≡ false
          → (w : ℕ) → w ≡ refusal_word refusal_record_out_of_ranges
          → ReturnsObjectCopied w l (object_copied_from_session (decoded_session s) t l)
      unfolding object_copied_from_session
      object_ranges f w g = subst⁻¹ (ReturnsObjectCopied w l)
          (ap (λ (x : Option Session). object_copied_from_session x t l)
          (held_session s h e) ∙ if_no _ _ f) (record { word = g; buffer = refl })

      pub object_session : session_record_in_ranges
          (session_of h.phase h.count (take store_size (drop record_head_size s))) ≡ true
          → (w : ℕ) (m : List ℕ)
          → ReturnsObjectCopied w m (object_copied_from_store (take store_size (drop record_head_size s)) t l)
          → ReturnsObjectCopied w m (object_copied_from_session (decoded_session s) t l)
      unfolding object_copied_from_session
      object_session f w m d = subst⁻¹ (ReturnsObjectCopied w m)
          (ap (λ (x : Option Session). object_copied_from_session x t l) (held_session s h e) ∙ if_yes _ _ f) d

-- ---- what a word reports

-- no value of a store has more than 254 bytes
pub bytes_small : (b : List ℕ) (t : ℕ) → length (stored_bytes b t) ≤ 254
bytes_small b t = go (find_row dictionary_rows t) refl
  where
    go : (x : Option ℕ) → find_row dictionary_rows t ≡ x → length (stored_bytes b t) ≤ 254
    go None e = rw (unknown_absent dictionary_rows b t e) (omega arith)
    go (Some k) e = value_small b t k (stored_bytes b t) e (ap bytes_or_empty_if_absent (by_row dictionary_rows b t k e))

-- the value of a tag at the front of the caller's bytes
abbrev valued : Session → ℕ → List ℕ → ObjectCopied
valued s t l = record {
  word = length (stored_bytes (store_bytes s) t);
  buffer =
      written_over_front (stored_bytes (store_bytes s) t) l;
}

module _ (s : Session) (t : ℕ) (l : List ℕ) where
  -- a word up to 254 is the length of a value that was written
  pub object_value_lem : (object_copied_from_session (Some s) t l).word ≤ 254 → object_copied_from_session (Some s) t l
      ≡ valued s t l
  unfolding object_copied_from_session object_copied_from_store
  object_value_lem =
      if_ind P (session_record_in_ranges s) _ _
      (λ r. if_ind P _ _ _ (λ u h. absurd (omega arith))
      (λ u. if_ind P _ _ _ (λ v h. absurd (omega arith))
      (λ v. if_ind P _ _ _ (λ w h. absurd (omega arith)) (λ w h. refl))))
      (λ r h. absurd (omega arith))
    where
      P : ObjectCopied → Type 0
      P c = c.word ≤ 254 → c ≡ valued s t l

-- any other word leaves the caller's bytes
pub object_kept : (x : Option Session) (t : ℕ) (l : List ℕ) → 254 < (object_copied_from_session x t l).word
    → (object_copied_from_session x t l).buffer ≡ l
unfolding object_copied_from_session object_copied_from_store
object_kept None t l = λ h. refl
object_kept (Some s) t l =
    if_ind P (session_record_in_ranges s) _ _
    (λ r. if_ind P _ _ _ (λ u h. refl)
    (λ u. if_ind P _ _ _ (λ v h. refl)
    (λ v. if_ind P _ _ _ (λ w h. refl) (λ w h. absurd (omega (arith, bytes_small (store_bytes s) t))))))
    (λ r h. refl)
  where
    P : ObjectCopied → Type 0
    P c = 254 < c.word → c.buffer ≡ l

-- ---- wiping

-- wiped bytes hold no record
pub wiped_none : (n : ℕ) → decoded_session (replicate n 0) ≡ None
wiped_none n = go (le-or-gt session_record_size n)
  where
    go : (session_record_size ≤ n) ⊎ (n < session_record_size) → decoded_session (replicate n 0) ≡ None
    go (inl h) =
        let z : get_or {A = ℕ} (replicate n 0) 0 0 ≡ 0 = get_or-replicate {A = ℕ} n 0 0 0 (omega arith) in
        decoded_version (replicate n 0) (ap (λ (x : ℕ). eqb x layout_version) z)
    go (inr h) = decoded_short (replicate n 0) (rw length-replicate h)
