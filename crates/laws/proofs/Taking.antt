-- Objects of two lists that share no tag, taken in either order. What an object does is the same on every store
-- (`effect`): nothing, a refusal, or a put into the row of its tag where that holds no bytes. Puts into two rows
-- commute, so two objects do (`swap`), one object and a list (`past_list`), and two lists (`past_lists`). Nothing here
-- examines a row of the table.
-- Assumes nothing.
use Rattle.std.specs.Prelude.{Option, Some, None}
use mathlib.Core.Path.{◌≡◌, refl, sym, ap, ap₂, subst, ◌∙◌}
use mathlib.Core.Bool.{Bool, true, false, not}
use mathlib.Core.Logic.{inl, inr}
use mathlib.Core.List.{List, [], ◌∷◌, ◌++◌}
use Prim.Native.Nat.{ℕ, ◌≤◌, ◌<◌}
use native.Mathlib.Omega.{arith}
use lib.Dec.{eqb}
use lib.ListN.{length}
use Rattle.basics.specs.Choice.{if, both}
use Rattle.basics.proofs.Laws.{if_yes, if_no, bool_cases}
use Rattle.tlv.specs.Tag.{is_private}
use Rattle.dictionary.specs.Rows.{dictionary_rows, row_at, find_row, row_count, store_size}
use Rattle.dictionary.proofs.Find.{found}
use Rattle.dictionary.proofs.Fit.{fits_length}
use Rattle.store.specs.Place.{StoredValue, bytes_or_empty_if_absent, is_row_absent_or_empty, put_row}
use Rattle.store.proofs.Laws.{Fits, put_length, put_other, put_put}
use Rattle.store.proofs.Rows.{rows_length, fits_row}
use Rattle.reading.specs.Taking.{PrimitiveItem, card_may_set, row_allows_value_from_card, StoringState, storing_state}
use Rattle.reading.specs.Taking.{store_item, store_all_items}
use Rattle.reading.proofs.Laws.{item_unknown, item_skipped, item_barred, item_put, item_again, may_come_fits, next_good}
use Rattle.reading.proofs.Laws.{next_bad}
use Rattle.reading.proofs.Kept.{All}

module _ (answer : ℕ) where
  -- ---- what one object does

  -- it is put into row k where that is free
  record Stored (i : PrimitiveItem) (k : ℕ) : Type 0 where
    row : k < row_count
    tag : (row_at k).tag ≡ i.tag
    short : length i.value ≤ (row_at k).greatest
    puts : (b : List ℕ) → store_item answer b i ≡ storing_state (is_row_absent_or_empty dictionary_rows b k)
        (if (is_row_absent_or_empty dictionary_rows b k) (put_row dictionary_rows b k i.value) b)

  data Effect (i : PrimitiveItem) : Type 0 where
    skipped : ((b : List ℕ) → store_item answer b i ≡ storing_state true b) → Effect i
    barred : ((b : List ℕ) → store_item answer b i ≡ storing_state false b) → Effect i
    stored : (k : ℕ) → Stored i k → Effect i

  effect : (i : PrimitiveItem) → Effect i
  effect i = go (find_row dictionary_rows i.tag) refl
    where
      known : (k : ℕ) → find_row dictionary_rows i.tag ≡ Some k → Effect i
      known k e = elim (bool_cases (both (is_private i.tag) (not (card_may_set (row_at k))))) [
        | inl s ↦ skipped (λ b. item_skipped answer b i (find_row dictionary_rows i.tag) refl k e s)
        | inr s ↦ elim (bool_cases (row_allows_value_from_card answer (row_at k) i.around i.value)) [
          | inl m ↦
              let f = found dictionary_rows i.tag k e in
              let l = fits_length (row_at k) i.value (may_come_fits answer (row_at k) i.around i.value m) in
              stored k (record {
                row = omega (arith, rows_length);
                tag = f.1;
                short = l.1;
                puts = λ b.
                    elim (bool_cases (is_row_absent_or_empty dictionary_rows b k)) [
                      | inl t ↦ item_put answer b i (find_row dictionary_rows i.tag) refl k e s m t ∙ sym
                          (ap₂ storing_state t (if_yes _ _ t))
                      | inr t ↦ item_again answer b i (find_row dictionary_rows i.tag) refl k e s m t ∙ sym
                          (ap₂ storing_state t (if_no _ _ t))
                    ];
              })
          | inr m ↦ barred (λ b. item_barred answer b i (find_row dictionary_rows i.tag) refl k e s m)
        ]
      ]

      go : (x : Option ℕ) → find_row dictionary_rows i.tag ≡ x → Effect i
      go None e = skipped (λ b. item_unknown answer b i (find_row dictionary_rows i.tag) refl e)
      go (Some k) e = known k e

  -- a store of its size, and an object that it takes
  pub record Takes (b : List ℕ) (i : PrimitiveItem) (c : List ℕ) : Type 0 where
    size : length b ≡ store_size
    is : store_item answer b i ≡ storing_state true c

  -- ---- a put that was made

  module _ {b c : List ℕ} {i : PrimitiveItem} {k : ℕ} (s : Stored i k) (t : Takes b i c) where
    fit : Fits dictionary_rows b k i.value
    fit = fits_row b k i.value t.size s.row s.short

    same : storing_state (is_row_absent_or_empty dictionary_rows b k)
        (if (is_row_absent_or_empty dictionary_rows b k) (put_row dictionary_rows b k i.value) b) ≡ storing_state true c
    same = sym (s.puts b) ∙ t.is

    free : is_row_absent_or_empty dictionary_rows b k ≡ true
    free = ap (λ (w : StoringState). w.good) same

    written : put_row dictionary_rows b k i.value ≡ c
    written = sym (if_yes _ _ free) ∙ ap (λ (w : StoringState). w.store) same

    sized : length c ≡ store_size
    sized = ap length (sym written) ∙ put_length dictionary_rows b k i.value fit ∙ t.size

    -- another row is free as it was
    other_free : (j : ℕ) → (j ≡ k → ⊥) → is_row_absent_or_empty dictionary_rows c j ≡ is_row_absent_or_empty dictionary_rows b j
    other_free j ne =
        ap (λ (x : List ℕ). is_row_absent_or_empty dictionary_rows x j) (sym written)
        ∙ ap (λ (x : StoredValue). eqb (length (bytes_or_empty_if_absent x)) 0)
        (put_other dictionary_rows b k i.value fit j ne)

  -- the object that is put where its row is free
  puts_free : (b : List ℕ) {i : PrimitiveItem} {k : ℕ} (s : Stored i k) → is_row_absent_or_empty dictionary_rows b k ≡ true
      → store_item answer b i ≡ storing_state true (put_row dictionary_rows b k i.value)
  puts_free b {i} {k} s e = s.puts b ∙ ap₂ storing_state e (if_yes _ _ e)

  -- a refusal takes nothing
  never : {b c : List ℕ} {i : PrimitiveItem} {A : Type 0} → ((x : List ℕ) → store_item answer x i ≡ storing_state false x)
      → Takes b i c → A
  never {b} {c} h t =
      let e : storing_state false b ≡ storing_state true c = sym (h b) ∙ t.is in
      let f : false ≡ true = ap (λ (w : StoringState). w.good) e in
      let z : ◌≡◌ {A = ℕ} 0 1 = cc in
      absurd (omega arith)

  takes_size : {b c : List ℕ} {i : PrimitiveItem} → Takes b i c → length c ≡ store_size
  takes_size {b} {c} {i} t = go (effect i)
    where
      go : Effect i → length c ≡ store_size
      go (skipped h) = let e : storing_state true b ≡ storing_state true c = sym (h b) ∙ t.is in
          ap (λ (w : StoringState). length w.store) (sym e) ∙ t.size
      go (barred h) = never h t
      go (stored k s) = sized s t

  -- ---- two objects

  -- the store that both orders come to: j after i, and i after j
  record Meets (c d : List ℕ) (i j : PrimitiveItem) : Type 0 where
    store : List ℕ
    second : Takes c j store
    first : Takes d i store

  -- an object that does nothing
  nothing : {b c d : List ℕ} {i j : PrimitiveItem} → ((x : List ℕ) → store_item answer x i ≡ storing_state true x)
      → Takes b i c → Takes b j d → Meets c d i j
  nothing {b} {c} {d} {i} {j} h t u =
      let e : storing_state true b ≡ storing_state true c = sym (h b) ∙ t.is in
      let same_store : b ≡ c = ap (λ (w : StoringState). w.store) e in
      record {
        store = d;
        second = subst (λ (x : List ℕ). Takes x j d) same_store u;
        first =
            record { size = takes_size u; is = h d };
      }

  turned : {c d : List ℕ} {i j : PrimitiveItem} → Meets c d i j → Meets d c j i
  turned m = record { store = m.store; second = m.first; first = m.second }

  -- two rows, which differ since the tags do
  two_rows : {b c d : List ℕ} {i j : PrimitiveItem} {k l : ℕ} → (i.tag ≡ j.tag → ⊥) → Stored i k → Stored j l
      → Takes b i c → Takes b j d → Meets c d i j
  two_rows {b} {c} {d} {i} {j} {k} {l} ne s s' t u =
      record {
        store = put_row dictionary_rows c l j.value;
        second = record {
          size = sized s t;
          is = puts_free c s' (other_free s t l (λ e. apart_rows (sym e)) ∙ free s' u);
        };
        first = record {
          size = sized s' u;
          is = puts_free d s (other_free s' u k apart_rows ∙ free s t) ∙ ap
              (storing_state true) meet;
        };
      }
    where
      apart_rows : k ≡ l → ⊥
      apart_rows e = ne (sym s.tag ∙ ap (λ (n : ℕ). (row_at n).tag) e ∙ s'.tag)

      meet : put_row dictionary_rows d k i.value ≡ put_row dictionary_rows c l j.value
      meet =
          ap (λ (x : List ℕ). put_row dictionary_rows x k i.value) (sym (written s' u))
          ∙ sym (put_put dictionary_rows b k l i.value j.value apart_rows (fit s t) (fit s' u))
          ∙ ap (λ (x : List ℕ). put_row dictionary_rows x l j.value) (written s t)

  swap : {b c d : List ℕ} {i j : PrimitiveItem} → (i.tag ≡ j.tag → ⊥) → Takes b i c → Takes b j d → Meets c d i j
  swap {b} {c} {d} {i} {j} ne t u = go (effect i) (effect j)
    where
      go : Effect i → Effect j → Meets c d i j
      go (skipped h) y = nothing h t u
      go (barred h) y = never h t
      go (stored k s) (skipped h) = turned (nothing h u t)
      go (stored k s) (barred h) = never h u
      go (stored k s) (stored l s') = two_rows ne s s' t u

  -- ---- one object and a list, two lists

  -- the objects of a list are all taken, one after the other
  pub data Run : List ℕ → List PrimitiveItem → List ℕ → Type 0 where
    done : {b : List ℕ} → length b ≡ store_size → Run b [] b
    more : {b c d : List ℕ} {i : PrimitiveItem} {is : List PrimitiveItem} → Takes b i c → Run c is d → Run b (i ∷ is) d

  pub run_size : {b c : List ℕ} {is : List PrimitiveItem} → Run b is c → length c ≡ store_size
  run_size (done l) = l
  run_size (more t r) = run_size r

  pub run_join : {b c d : List ℕ} {is js : List PrimitiveItem} → Run b is c → Run c js d → Run b (is ++ js) d
  run_join (done l) r = r
  run_join (more t q) r = more t (run_join q r)

  past_list : {b c d : List ℕ} {i : PrimitiveItem} {js : List PrimitiveItem} → All (λ j. i.tag ≡ j.tag → ⊥) js
      → Takes b i c → Run b js d
      → (e : List ℕ) × Run c js e × Takes d i e
  past_list {c = c} a t (done l) = (c, done (takes_size t), t)
  past_list a t (more u r) =
      let m = swap a.0 t u in
      let p = past_list a.1 m.first r in
      (p.0, more m.second p.1, p.2)

  pub past_lists : {b c d : List ℕ} {is js : List PrimitiveItem} → All (λ i. All (λ j. i.tag ≡ j.tag → ⊥) js) is
      → Run b is c → Run b js d
      → (e : List ℕ) × Run c js e × Run d is e
  past_lists {d = d} a (done l) r = (d, r, done (run_size r))
  past_lists a (more t q) r =
      let p = past_list a.0 t r in
      let z = past_lists a.1 q p.1 in
      (z.0, z.1, more p.2 z.2)

  -- ---- as the reading takes them

  pub run_is : {b c : List ℕ} {is : List PrimitiveItem} → Run b is c → store_all_items answer (storing_state true b) is
      ≡ storing_state true c
  unfolding store_all_items
  run_is (done l) = refl
  run_is {b = b} (more {i = i} {is = is} t r) = ap (λ (w : StoringState). store_all_items answer w is)
      (next_good answer b i refl ∙ t.is) ∙ run_is r

  bad_stays : (b : List ℕ) (is : List PrimitiveItem) → store_all_items answer (storing_state false b) is
      ≡ storing_state false b
  unfolding store_all_items
  bad_stays b [] = refl
  bad_stays b (i ∷ is) = ap (λ (w : StoringState). store_all_items answer w is) (next_bad answer b i refl) ∙ bad_stays b
      is

  -- the first object of a list that is taken whole, and the ones after it
  first_of : (b : List ℕ) (i : PrimitiveItem) (is : List PrimitiveItem) (c : List ℕ)
      → store_all_items answer (storing_state true b) (i ∷ is) ≡ storing_state true c
      → (d : List ℕ) × (store_item answer b i ≡ storing_state true d)
      × (store_all_items answer (storing_state true d) is ≡ storing_state true c)
  unfolding store_all_items
  first_of b i is c e = by (store_item answer b i).good (store_item answer b i).store refl
    where
      behind : (w : StoringState) → store_item answer b i ≡ w → store_all_items answer w is ≡ storing_state true c
      behind w p = ap (λ (x : StoringState). store_all_items answer x is) (sym p ∙ sym (next_good answer b i refl)) ∙ e

      by : (g : Bool) (d : List ℕ) → store_item answer b i ≡ storing_state g d
          → (d : List ℕ) × (store_item answer b i ≡ storing_state true d)
          × (store_all_items answer (storing_state true d) is ≡ storing_state true c)
      by true d p = (d, p, behind (storing_state true d) p)
      by false d p =
          let f : storing_state false d ≡ storing_state true c = sym (bad_stays d is) ∙ behind (storing_state false d) p in
          let q : false ≡ true = ap (λ (w : StoringState). w.good) f in
          let z : ◌≡◌ {A = ℕ} 0 1 = cc in
          absurd (omega arith)

  pub run_of : (b : List ℕ) (is : List PrimitiveItem) (c : List ℕ) → length b ≡ store_size
      → store_all_items answer (storing_state true b) is ≡ storing_state true c → Run b is c
  unfolding store_all_items
  run_of b [] c l e = subst (Run b []) (ap (λ (w : StoringState). w.store) e) (done l)
  run_of b (i ∷ is) c l e =
      let f = first_of b i is c e in
      let t : Takes b i f.0 = record { size = l; is = f.1 } in
      more t (run_of f.0 is c (takes_size t) f.2)
