-- The AFL and the AIP that an accepted answer to GPO leaves in the store are those that its card bytes bring: by
-- induction over the objects, since a 94 or an 82 that the rules allow has bytes, is in a 77, and is the first.
-- Assumes nothing.
use Rattle.std.specs.Prelude.{Some, None, Option}
use mathlib.Core.Path.{◌≡◌, refl, sym, ap, subst, ◌∙◌}
use mathlib.Core.Bool.{Bool, true, false, not}
use mathlib.Core.Logic.{◌⊎◌, inl, inr}
use mathlib.Core.List.{List, [], ◌∷◌}
use Prim.Native.Nat.{ℕ, ◌-◌, ◌≤◌, ◌<◌}
use native.Mathlib.Omega.{arith}
use lib.Dec.{eqb}
use lib.ListN.{length, take, drop}
use borrow.Author.Tests.{eqb-true, leb-true, eq-eqb, ne_eqb, lt-ltb}
use Rattle.basics.specs.Choice.{if, both}
use Rattle.basics.proofs.Laws.{if_ind, if_yes, if_no, both_yes, both_left, both_right, both_no_left}
use Rattle.basics.proofs.Order.{equal_or_not}
use Rattle.dictionary.specs.Named.{row_aip, row_afl}
use Rattle.dictionary.specs.Rows.{dictionary_rows, row_at, find_row, store_size, in_template77}
use Rattle.dictionary.specs.Form.{length_and_digits_fit_row}
use Rattle.dictionary.proofs.Find.{found}
use Rattle.dictionary.proofs.Named.{at_82, at_94}
use Rattle.dictionary.proofs.Fit.{fits_length}
use Rattle.store.specs.Place.{bytes_or_empty_if_absent, row_value, object_value, put_row}
use Rattle.store.proofs.Laws.{Fits, put_length, put-get, put_other, by_row}
use Rattle.store.proofs.Rows.{rows_length, fits_row}
use Rattle.reading.specs.declared.Awaited.{Awaited}
use Rattle.reading.specs.Taking.{PrimitiveItem, primitive_item, primitive_items, card_may_set, is_template_in_set}
use Rattle.reading.specs.Taking.{allowed_in_template, row_allows_value_from_card, row_allows_value_and_absent_or_empty}
use Rattle.reading.specs.Taking.{StoringState, storing_state, store_known_item, store_item_of_row_found, store_item}
use Rattle.reading.specs.Taking.{store_next_item, store_all_items}
use Rattle.reading.specs.Answer.{ReadingOutcome, ResponseBody, primitive, template, response_bit, parse_response_body}
use Rattle.reading.specs.Answer.{body_object_count, gpo_items_under80, primitive_body_items, template_body_items, read_body_items}
use Rattle.reading.specs.Answer.{read_parsed_body, read_body, is_body_to_be_read, read_answer}
use Rattle.reading.proofs.Kept.{All, all_holds}
use Rattle.session_claim.specs.Order.{is_non_empty_object_directly_inside77, first_non_empty_value_directly_inside77}
use Rattle.session_claim.specs.Order.{afl_in_gpo_body, aip_in_gpo_body, afl_in_gpo_response, aip_in_gpo_response}
use Rattle.basics.proofs.Laws.{no}

-- the row k of a tag t whose object is in a 77 alone and is never empty
record Row77 (t k : ℕ) : Type 0 where
  finds : find_row dictionary_rows t ≡ Some k
  tagged : (row_at k).tag ≡ t
  only : (row_at k).templates ≡ in_template77
  least : 1 ≤ (row_at k).least
  settable : card_may_set (row_at k) ≡ true

least_94 : (row_at row_afl).least ≡ 4
unfolding dictionary_rows
least_94 = refl

least_82 : (row_at row_aip).least ≡ 2
unfolding dictionary_rows
least_82 = refl

row_94 : Row77 0x94 row_afl
unfolding dictionary_rows
row_94 = record { finds = at_94; tagged = refl; only = refl; least = omega (arith, least_94); settable = refl }

row_82 : Row77 0x82 row_aip
unfolding dictionary_rows
row_82 = record { finds = at_82; tagged = refl; only = refl; least = omega (arith, least_82); settable = refl }

-- a test that passes where it cannot by its first answer passes by its second
by_second : (a b : ℕ) (x y : Bool) → x ≡ false → if (eqb a b) x y ≡ true → y ≡ true
by_second a b x y n e = go (eqb a b) refl
  where
    go : (z : Bool) → eqb a b ≡ z → y ≡ true
    go true q = no (sym n ∙ sym (if_yes _ _ q) ∙ e)
    go false q = sym (if_no _ _ q) ∙ e

-- what may be in 77 alone is in no other template
only_77 : (around : ℕ) → is_template_in_set in_template77 around ≡ true → around ≡ 0x77
only_77 around e = go (equal_or_not around 0x77)
  where
    others : (around ≡ 0x77 → ⊥) → false ≡ true
    others n =
        by_second around 0x6F false _ refl
        (by_second around 0xBF0C false _ refl
        (by_second around 0xA5 false _ refl (sym (if_no _ _ (ne_eqb around 0x77 n)) ∙ by_second around 0x70 false _ refl
        e)))

    go : (around ≡ 0x77) ⊎ (around ≡ 0x77 → ⊥) → around ≡ 0x77
    go (inl y) = y
    go (inr n) = no (others n)

-- after an object that is not allowed nothing is good
bad_stays : (answer : ℕ) (w : StoringState) (is : List PrimitiveItem) → w.good ≡ false
    → (store_all_items answer w is).good ≡ false
unfolding store_all_items store_next_item
bad_stays answer w [] e = e
bad_stays answer w (i ∷ is) e = bad_stays answer (store_next_item answer w i) is
    (ap (λ (x : StoringState). x.good) (if_no _ _ e) ∙ e)

abbrev any : PrimitiveItem → Type 0
any i = Unit {0}

all_any : (is : List PrimitiveItem) → All any is
all_any [] = tt
all_any (i ∷ is) = (tt, all_any is)

module _ (tag row : ℕ) (r : Row77 tag row) where
  -- the bytes of the row
  abbrev held : List ℕ → List ℕ
  held b = bytes_or_empty_if_absent (row_value dictionary_rows b row)

  -- one with bytes stays
  stays : (answer : ℕ) (w : StoringState) (is : List PrimitiveItem) (v : List ℕ) → length w.store ≡ store_size
      → 0 < length v → held w.store ≡ v
      → held (store_all_items answer w is).store ≡ v
  stays answer w is v l n e =
      (all_holds (λ b. held b ≡ v) any answer
      (λ b k i m q p h. ap bytes_or_empty_if_absent
      (put_other dictionary_rows b k i.value
      (fits_row b k i.value m p.row (fits_length (row_at k) i.value p.fits).1) row
      (λ z. let f = eqb-true _ 0 p.free in
      let g : length (held b) ≡ 0 = ap (λ (j : ℕ). length (bytes_or_empty_if_absent (row_value dictionary_rows b j))) z ∙ f in
      omega (arith, ap length h))) ∙ h) w is (all_any is) (l, e)).1

  -- what is in a template that its row names
  stands : (around : ℕ) → allowed_in_template (row_at row) around ≡ true → around ≡ 0x77
  unfolding allowed_in_template
  stands around e = only_77 around (subst (λ (ts : ℕ). is_template_in_set ts around ≡ true) r.only e)

  not_named : (i : PrimitiveItem) → (i.tag ≡ tag → ⊥) → is_non_empty_object_directly_inside77 tag i ≡ false
  not_named i n = both_no_left _ _ (ne_eqb i.tag tag n)

  -- the first of a list is the one that is held after the rest of it
  abbrev Brings : ℕ → List PrimitiveItem → StoringState → List PrimitiveItem → Type 0
  Brings answer all w is =
      (store_all_items answer w is).good ≡ true → 0 < length (held (store_all_items answer w is).store)
      → first_non_empty_value_directly_inside77 tag all ≡ Some (held (store_all_items answer w is).store)

  -- one object, where the rest brings its own
  module _ (answer : ℕ) (b : List ℕ) (i : PrimitiveItem) (is : List PrimitiveItem) (l : length b ≡ store_size)
      (e : held b ≡ [])
      (rest : (c : List ℕ) → length c ≡ store_size → held c ≡ [] → Brings answer is (storing_state true c) is) where
    abbrev Goes : StoringState → Type 0
    Goes w = Brings answer (i ∷ is) w is

    skip : is_non_empty_object_directly_inside77 tag i ≡ false → (c : List ℕ) → length c ≡ store_size → held c ≡ []
        → Goes (storing_state true c)
    unfolding first_non_empty_value_directly_inside77
    skip f c m d g h = if_no _ _ f ∙ rest c m d g h

    bad : Goes (storing_state false b)
    bad g h = no (sym (bad_stays answer (storing_state false b) is refl) ∙ g)

    is_row : (k : ℕ) → find_row dictionary_rows i.tag ≡ Some k → i.tag ≡ tag → k ≡ row
    is_row k f t = let z : Some k ≡ Some row = sym f ∙ ap (find_row dictionary_rows) t ∙ r.finds in cc

    put : (k : ℕ) → find_row dictionary_rows i.tag ≡ Some k → row_allows_value_and_absent_or_empty answer b k i.around
        i.value ≡ true → Goes (storing_state true (put_row dictionary_rows b k i.value))
    unfolding row_allows_value_and_absent_or_empty row_allows_value_from_card first_non_empty_value_directly_inside77
    put k f a = go (equal_or_not i.tag tag)
      where
        here_fits : both (allowed_in_template (row_at k) i.around) (length_and_digits_fit_row (row_at k) i.value) ≡ true
        here_fits = both_right _ _ (both_right _ _ (both_left _ _ a))

        fit : Fits dictionary_rows b k i.value
        fit = fits_row b k i.value l (omega (arith, rows_length, (found dictionary_rows i.tag k f).0))
            (fits_length (row_at k) i.value (both_right _ _ here_fits)).1

        size : length (put_row dictionary_rows b k i.value) ≡ store_size
        size = put_length dictionary_rows b k i.value fit ∙ l

        go : (i.tag ≡ tag) ⊎ (i.tag ≡ tag → ⊥) → Goes (storing_state true (put_row dictionary_rows b k i.value))
        go (inr n) =
            skip (not_named i n) (put_row dictionary_rows b k i.value) size
            (ap bytes_or_empty_if_absent
            (put_other dictionary_rows b k i.value fit row
            (λ z. n (sym (found dictionary_rows i.tag k f).1 ∙ ap (λ (j : ℕ). (row_at j).tag) (sym z) ∙ r.tagged))) ∙
            e)
        go (inl t) = λ g h.
            let q = is_row k f t in
            let s : allowed_in_template (row_at row) i.around ≡ true =
            subst (λ (j : ℕ). allowed_in_template (row_at j) i.around ≡ true) q (both_left _ _ here_fits) in
            let y : (row_at row).least ≤ length i.value = subst (λ (j : ℕ). (row_at j).least ≤ length i.value) q
            (fits_length (row_at k) i.value (both_right _ _ here_fits)).0 in
            let n : 0 < length i.value = omega (arith, r.least) in
            let here : held (put_row dictionary_rows b k i.value) ≡ i.value =
            subst (λ (j : ℕ). bytes_or_empty_if_absent (row_value dictionary_rows (put_row dictionary_rows b k i.value) j)
            ≡ i.value) q (ap bytes_or_empty_if_absent (put-get dictionary_rows b k i.value fit)) in
            if_yes _ _
            (both_yes _ _ (eq-eqb i.tag tag t) (both_yes _ _ (eq-eqb i.around 0x77 (stands i.around s))
            (lt-ltb 0 (length i.value) n)))
            ∙ ap Some
            (sym (stays answer (storing_state true (put_row dictionary_rows b k i.value)) is i.value size n here))

    known : (k : ℕ) → find_row dictionary_rows i.tag ≡ Some k → Goes (store_known_item answer b i k)
    known k f =
        if_ind Goes _ _ _
        (λ s. skip
        (not_named i
        (λ t. no
        (sym (subst (λ (j : ℕ). not (card_may_set (row_at j)) ≡ false) (sym (is_row k f t)) (ap not r.settable)) ∙
        both_right _ _ s))) b l e)
        (λ s. if_ind Goes _ _ _ (put k f) (λ a. bad))

    one : Goes (store_next_item answer (storing_state true b) i)
    unfolding store_item store_next_item
    one = subst Goes (sym (if_yes _ _ refl)) (go (find_row dictionary_rows i.tag) refl)
      where
        go : (x : Option ℕ) → find_row dictionary_rows i.tag ≡ x → Goes (store_item_of_row_found answer b i x)
        go None f =
            skip (not_named i (λ t. let z : None ≡ Some row = sym f ∙ ap (find_row dictionary_rows) t ∙ r.finds in
            let n : ◌≡◌ {A = ℕ} 0 1 = cc in omega arith)) b l e
        go (Some k) f = known k f

  brings : (answer : ℕ) (b : List ℕ) (is : List PrimitiveItem) → length b ≡ store_size → held b ≡ []
      → Brings answer is (storing_state true b) is
  unfolding store_all_items
  brings answer b [] l e = λ g h. let z = ap length e in absurd (omega arith)
  brings answer b (i ∷ is) l e = one answer b i is l e (λ c m d. brings answer c is m d)

  -- a reading that gives no reason, and leaves a value with bytes
  abbrev Found-in : Option (List ℕ) → ReadingOutcome → Type 0
  Found-in x o = o.reason ≡ 0 → 0 < length (held o.store) → x ≡ Some (held o.store)

  parts_brought : (b : List ℕ) → length b ≡ store_size → held b ≡ [] → (n : ℕ) (is : List PrimitiveItem)
      → Found-in (first_non_empty_value_directly_inside77 tag is) (read_body_items Awaited.Gpo b n (Some is))
  parts_brought b l e n is =
      if_ind (Found-in (first_non_empty_value_directly_inside77 tag is)) _ _ _
      (λ g z h. brings (response_bit Awaited.Gpo) b is l e g h) (λ g z. absurd (omega arith))

  -- the whole answer, by what its body brings
  read_brought : (from : Option ResponseBody → Option (List ℕ)) (b : List ℕ)
      → ((x : Option ResponseBody) → Found-in (from x) (read_parsed_body Awaited.Gpo b x))
      → (card : List ℕ) → Found-in (from (parse_response_body (take (length card - 2) card)))
      (read_answer Awaited.Gpo b card)
  unfolding read_answer read_body is_body_to_be_read
  read_brought from b tree card =
      if_ind P _ _ _
      (λ c. if_ind P _ _ _ (λ d. if_ind P _ _ _ (λ q. tree (parse_response_body (take (length card - 2) card)))
      (λ q. no (sym q))) (λ d z. absurd (omega arith)))
      (λ c z. absurd (omega arith))
    where
      P : ReadingOutcome → Type 0
      P = Found-in (from (parse_response_body (take (length card - 2) card)))

  -- on a store without the object, by tag
  by_tag : {x : Option (List ℕ)} (b card : List ℕ) → Found-in x (read_answer Awaited.Gpo b card)
      → (read_answer Awaited.Gpo b card).reason ≡ 0
      → 0 < length (bytes_or_empty_if_absent (object_value (read_answer Awaited.Gpo b card).store tag))
      → x ≡ Some (bytes_or_empty_if_absent (object_value (read_answer Awaited.Gpo b card).store tag))
  by_tag b card f z h =
      let same : bytes_or_empty_if_absent (object_value (read_answer Awaited.Gpo b card).store tag)
      ≡ held (read_answer Awaited.Gpo b card).store = ap bytes_or_empty_if_absent
      (by_row dictionary_rows _ tag row r.finds) in
      f z (subst (λ (v : List ℕ). 0 < length v) same h) ∙ ap Some (sym same)

  lacks_row : (b : List ℕ) → bytes_or_empty_if_absent (object_value b tag) ≡ [] → held b ≡ []
  lacks_row b e = sym (ap bytes_or_empty_if_absent (by_row dictionary_rows b tag row r.finds)) ∙ e

-- ---- under 80: the two items, the AIP's first

abbrev two : List ℕ → List PrimitiveItem
two v = primitive_item 0x77 0x82 (take 2 v) ∷ primitive_item 0x77 0x94 (drop 2 v) ∷ []

second_item : (v x : List ℕ) → first_non_empty_value_directly_inside77 0x94 (two v) ≡ Some x → Some (drop 2 v) ≡ Some x
unfolding first_non_empty_value_directly_inside77
second_item v x q =
    go (sym (if_no _ _ (not_named 0x94 row_afl row_94 (primitive_item 0x77 0x82 (take 2 v)) (λ z. omega arith))) ∙ q)
  where
    go : if (is_non_empty_object_directly_inside77 0x94 (primitive_item 0x77 0x94 (drop 2 v))) (Some (drop 2 v)) None ≡ Some x
        → Some (drop 2 v) ≡ Some x
    go = if_ind (λ (y : Option (List ℕ)). y ≡ Some x → Some (drop 2 v) ≡ Some x) _ _ _ (λ t r. r)
        (λ t r. let z : ◌≡◌ {A = ℕ} 0 1 = cc in absurd (omega arith))

first-item : (v x : List ℕ) → first_non_empty_value_directly_inside77 0x82 (two v) ≡ Some x → Some (take 2 v) ≡ Some x
unfolding first_non_empty_value_directly_inside77
first-item v x q = go q
  where
    other : (y : Option (List ℕ)) → y ≡ if (is_non_empty_object_directly_inside77 0x82 (primitive_item 0x77 0x94 (drop 2 v)))
        (Some (drop 2 v)) None → y ≡ Some x → Some (take 2 v) ≡ Some x
    other y e f =
        let g : None ≡ Some x =
        sym (if_no _ _ (not_named 0x82 row_aip row_82 (primitive_item 0x77 0x94 (drop 2 v)) (λ z. omega arith))) ∙ sym e ∙
        f in
        let z : ◌≡◌ {A = ℕ} 0 1 = cc in absurd (omega arith)

    go : if (is_non_empty_object_directly_inside77 0x82 (primitive_item 0x77 0x82 (take 2 v))) (Some (take 2 v))
        (if (is_non_empty_object_directly_inside77 0x82 (primitive_item 0x77 0x94 (drop 2 v))) (Some (drop 2 v)) None)
        ≡ Some x → Some (take 2 v) ≡ Some x
    go = if_ind (λ (y : Option (List ℕ)). y ≡ Some x → Some (take 2 v) ≡ Some x) _ _ _ (λ t r. r) (λ t. other _ refl)

-- ---- the body, for each of the two

module _ (b : List ℕ) (l : length b ≡ store_size) where
  afl_tree : held 0x94 row_afl row_94 b ≡ [] → (x : Option ResponseBody)
      → Found-in 0x94 row_afl row_94 (afl_in_gpo_body x) (read_parsed_body Awaited.Gpo b x)
  unfolding primitive_body_items gpo_items_under80 template_body_items
  afl_tree e None = λ z h. absurd (omega arith)
  afl_tree e (Some (primitive t v)) =
      if_ind P _ _ _
      (λ c. if_ind P _ _ _
      (λ d z h. if_yes _ _
      (both_yes _ _ c (lt-ltb 2 (length v) (omega (arith, leb-true 6 (length v) (both_left _ _ (both_left _ _ d)))))) ∙
      second_item v _ (parts_brought 0x94 row_afl row_94 b l e 1 _ z h))
      (λ d z. absurd (omega arith)))
      (λ c z. absurd (omega arith))
    where
      P : Option (List PrimitiveItem) → Type 0
      P y = Found-in 0x94 row_afl row_94 (afl_in_gpo_body (Some (primitive t v))) (read_body_items Awaited.Gpo b 1 y)
  afl_tree e (Some (template t f)) =
      if_ind (λ (y : Option (List PrimitiveItem)). Found-in 0x94 row_afl row_94
      (first_non_empty_value_directly_inside77 0x94 (primitive_items t f))
      (read_body_items Awaited.Gpo b (body_object_count (template t f)) y)) _ _ _
      (λ c. parts_brought 0x94 row_afl row_94 b l e (body_object_count (template t f)) (primitive_items t f))
      (λ c z. absurd (omega arith))

  aip_tree : held 0x82 row_aip row_82 b ≡ [] → (x : Option ResponseBody)
      → Found-in 0x82 row_aip row_82 (aip_in_gpo_body x) (read_parsed_body Awaited.Gpo b x)
  unfolding primitive_body_items gpo_items_under80 template_body_items
  aip_tree e None = λ z h. absurd (omega arith)
  aip_tree e (Some (primitive t v)) =
      if_ind P _ _ _
      (λ c. if_ind P _ _ _
      (λ d z h. if_yes _ _
      (both_yes _ _ c (lt-ltb 1 (length v) (omega (arith, leb-true 6 (length v) (both_left _ _ (both_left _ _ d)))))) ∙
      first-item v _ (parts_brought 0x82 row_aip row_82 b l e 1 _ z h))
      (λ d z. absurd (omega arith)))
      (λ c z. absurd (omega arith))
    where
      P : Option (List PrimitiveItem) → Type 0
      P y = Found-in 0x82 row_aip row_82 (aip_in_gpo_body (Some (primitive t v))) (read_body_items Awaited.Gpo b 1 y)
  aip_tree e (Some (template t f)) =
      if_ind (λ (y : Option (List PrimitiveItem)). Found-in 0x82 row_aip row_82
      (first_non_empty_value_directly_inside77 0x82 (primitive_items t f))
      (read_body_items Awaited.Gpo b (body_object_count (template t f)) y)) _ _ _
      (λ c. parts_brought 0x82 row_aip row_82 b l e (body_object_count (template t f)) (primitive_items t f))
      (λ c z. absurd (omega arith))

-- ---- an accepted answer to GPO, on a store without the object, brings the one that it leaves

module _ (b card : List ℕ) (l : length b ≡ store_size) (z : (read_answer Awaited.Gpo b card).reason ≡ 0) where
  pub afl_brought : bytes_or_empty_if_absent (object_value b 0x94) ≡ []
      → 0 < length (bytes_or_empty_if_absent (object_value (read_answer Awaited.Gpo b card).store 0x94))
      → afl_in_gpo_response card ≡ Some (bytes_or_empty_if_absent (object_value (read_answer Awaited.Gpo b card).store 0x94))
  unfolding afl_in_gpo_response
  afl_brought e h =
      by_tag 0x94 row_afl row_94 b card
      (read_brought 0x94 row_afl row_94 afl_in_gpo_body b (afl_tree b l (lacks_row 0x94 row_afl row_94 b e)) card) z h

  pub aip_brought : bytes_or_empty_if_absent (object_value b 0x82) ≡ []
      → 0 < length (bytes_or_empty_if_absent (object_value (read_answer Awaited.Gpo b card).store 0x82))
      → aip_in_gpo_response card ≡ Some (bytes_or_empty_if_absent (object_value (read_answer Awaited.Gpo b card).store 0x82))
  unfolding aip_in_gpo_response
  aip_brought e h =
      by_tag 0x82 row_aip row_82 b card
      (read_brought 0x82 row_aip row_82 aip_in_gpo_body b (aip_tree b l (lacks_row 0x82 row_aip row_82 b e)) card) z h
