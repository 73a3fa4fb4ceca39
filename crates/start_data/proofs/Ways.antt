-- The ways out of a loading, one law for each, in the order of the refusals; and what the answer of the call
-- says of them.
-- Assumes nothing.
use Rattle.std.specs.Prelude.{Option, Some, None}
use mathlib.Core.Path.{◌≡◌, refl, sym, ap, subst, ◌∙◌}
use mathlib.Core.Bool.{true, false}
use mathlib.Core.List.{List}
use Prim.Native.Nat.{ℕ, ◌≤◌, ◌<◌}
use lib.ListN.{length}
use borrow.Author.Tests.{le-leb, lt-leb}
use Rattle.basics.proofs.Laws.{if_yes, if_no, no}
use Rattle.basics.specs.Reason.{refusal_bad_start_bytes}
use Rattle.std.specs.Prelude.{Result, Ok, Err, is_err}
use Rattle.session_record.specs.declared.Refusal.{Refusal}
use Rattle.tlv.specs.Primitives.{Object, primitive_objects, are_primitive_objects_parsed}
use Rattle.start_data.specs.StartData.{set_parsed_start_objects, LoadedStore, refusal, loaded, loaded_after_setting}
use Rattle.start_data.specs.StartData.{loaded_from_objects, most_start_bytes, load_start_bytes}
use Rattle.start_data.specs.StartData.{LoadResultAndStoreMatchLoaded}
use Rattle.start_data.specs.Inner.{ReportsLoaded}

-- ---- the ways out

module _ (b s : List ℕ) where
  pub load_long : most_start_bytes < length s → load_start_bytes b s ≡ refusal refusal_bad_start_bytes
  unfolding load_start_bytes
  load_long h = if_no _ _ (lt-leb _ _ h)

  module _ (l : length s ≤ most_start_bytes) where
    short : load_start_bytes b s ≡ loaded_from_objects b (primitive_objects s)
    unfolding load_start_bytes
    short = if_yes _ _ (le-leb _ _ l)

    pub load_broken : are_primitive_objects_parsed (primitive_objects s) ≡ false
        → load_start_bytes b s ≡ refusal refusal_bad_start_bytes
    load_broken e = short ∙ go (primitive_objects s) e
      where
        go : (x : Option (List Object)) → are_primitive_objects_parsed x ≡ false
            → loaded_from_objects b x ≡ refusal refusal_bad_start_bytes
        go None p = refl
        go (Some os) p = cc

    -- the objects decide
    pub objects : are_primitive_objects_parsed (primitive_objects s) ≡ true
        → load_start_bytes b s ≡ loaded_after_setting (set_parsed_start_objects b (primitive_objects s))
    unfolding set_parsed_start_objects
    objects e = short ∙ go (primitive_objects s) e
      where
        go : (x : Option (List Object)) → are_primitive_objects_parsed x ≡ true
            → loaded_from_objects b x ≡ loaded_after_setting (set_parsed_start_objects b x)
        go None p = cc
        go (Some os) p = refl

-- ---- the answer

pub refuses : {r : Result Unit Refusal} {n : ℕ} (b : List ℕ) {x : LoadedStore} → r ≡ Err (record { number = n })
    → x ≡ refusal n → LoadResultAndStoreMatchLoaded r b b x
refuses {r} b e f = subst (LoadResultAndStoreMatchLoaded r b b) (sym f) (record { said = e; store = refl })

-- a store that is cleared again is as it came
refuses_as : {r : Result Unit Refusal} {n : ℕ} (b c : List ℕ) {x : LoadedStore} → c ≡ b
    → r ≡ Err (record { number = n }) → x ≡ refusal n → LoadResultAndStoreMatchLoaded r c b x
refuses_as {r} b c {x} s e f = subst (λ (y : List ℕ). LoadResultAndStoreMatchLoaded r y b x) (sym s) (refuses b e f)

-- ---- the answer of the part that sets objects, and what the call makes of it

pub reports_absent : (c : List ℕ) {n : ℕ} {x : LoadedStore} → x ≡ refusal n → ReportsLoaded (Err (record { number = n })) c x
reports_absent c {n} e = subst (ReportsLoaded (Err (record { number = n })) c) (sym e) refl

pub reports_taken : {c : List ℕ} {x : LoadedStore} → x ≡ loaded c → ReportsLoaded (Ok tt) c x
reports_taken {c} e = subst (ReportsLoaded (Ok tt) c) (sym e) (refl, refl)

module _ {r : Result Unit Refusal} (b c : List ℕ) {x : LoadedStore} (y : LoadedStore) (f : x ≡ y)
    (s : ReportsLoaded r c y) where
  pub refuses_cleared : (d : List ℕ) → is_err r ≡ true → d ≡ b → LoadResultAndStoreMatchLoaded r d b x
  refuses_cleared d e z = go y f s
    where
      go : (y : LoadedStore) → x ≡ y → ReportsLoaded r c y → LoadResultAndStoreMatchLoaded r d b x
      go (refusal n) f s = refuses_as b d z s f
      go (loaded k) f s = no (sym (ap is_err s.0) ∙ e)

  pub loads_kept : is_err r ≡ false → LoadResultAndStoreMatchLoaded r c b x
  loads_kept e = go y f s
    where
      go : (y : LoadedStore) → x ≡ y → ReportsLoaded r c y → LoadResultAndStoreMatchLoaded r c b x
      go (refusal n) f s = no (sym e ∙ ap is_err s)
      go (loaded k) f s = subst (LoadResultAndStoreMatchLoaded r c b) (sym f) (record { said = s.0; store = s.1 })
