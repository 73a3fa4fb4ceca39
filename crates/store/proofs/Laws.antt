-- What a put leaves, for every table and every store that is large enough for it: its own row holds the value, every
-- other place is untouched, puts of two rows commute. A put is a run of stores at a place, and the places lie apart;
-- and a store copied whole.
-- Assumes nothing.
use Rattle.std.specs.Prelude.{Some, None}
use mathlib.Core.Path.{◌≡◌, refl, sym, ap, ap₂, ◌∙◌}
use mathlib.Core.Bool.{Bool, true, false, not}
use mathlib.Core.Logic.{◌⊎◌, inl, inr}
use mathlib.Core.List.{List, [], ◌∷◌, ◌++◌, append_assoc, append-nil}
use Prim.Native.Nat.{ℕ, zero, suc, ◌+◌, ◌-◌, ◌≤◌, ◌<◌, min}
use native.Mathlib.Nat.{add-zero}
use native.Mathlib.Numerals.{add-one}
use native.Mathlib.Omega.{arith}
use lib.Dec.{eqb}
use lib.ListN.{length, get_or, take, drop, set, replicate, length-take, drop_of_length-le, get_or-eq_default}
use lib.Seq.{drop-cons, take_at, drop_at, take_all, take-take, length-take-le, get_or-take, get_or-drop, sets, sets-eq}
use lib.Seq.{length-sets, set_comm, drop-set-add, drop-set-lt, take-set-le, take-suc-set, take-length, append_snoc}
use lib.Seq.{paste}
use borrow.Author.Tests.{eq-eqb, ne_eqb}
use Rattle.basics.specs.Choice.{if}
use Rattle.basics.proofs.Laws.{if_yes, if_no}
use Rattle.basics.proofs.Order.{le-or-gt, sides}
use Rattle.dictionary.specs.Rows.{Row, row_in, find_row}
use Rattle.store.specs.Place.{StoredValue, absent, present, bytes_or_empty_if_absent, is_present, row_size_in_store}
use Rattle.store.specs.Place.{row_offset, store_size_of, row_place_bytes, value_in_place, row_value}
use Rattle.store.specs.Place.{row_length_plus_one_or_zero, length_and_value_written_at, put_row, value_of_row_found}
use Rattle.store.specs.Place.{object_value_in}
use Rattle.store.proofs.Places.{inside, apart}

take_min : (m n : ℕ) (l : List ℕ) → take m (take n l) ≡ take (min m n) l
take_min m n l = go (le-or-gt m n)
  where
    go : (m ≤ n) ⊎ (n < m) → take m (take n l) ≡ take (min m n) l
    go (inl h) = let e : min m n ≡ m = omega arith in take-take m n l h ∙ ap (λ (i : ℕ). take i l) (sym e)
    go (inr h) =
        let e : min m n ≡ n = omega arith in
        let s : length (take n l) ≤ m = simp length-take (omega arith) in
        take_all m (take n l) s ∙ ap (λ (i : ℕ). take i l) (sym e)

-- ---- what a place holds, by its length byte

-- how many bytes row k's value may have by its length byte: at most the greatest length
unfoldable pub stored_length : List Row → List ℕ → ℕ → ℕ
stored_length table b k = min (row_length_plus_one_or_zero table b k - 1) (row_in table k).greatest

pub byte_there : (p : List ℕ) → is_present (value_in_place p) ≡ not (eqb (get_or p 0 0) 0)
unfolding value_in_place
byte_there [] = refl
byte_there (n ∷ v) = go (eqb n 0) refl
  where
    go : (x : Bool) → eqb n 0 ≡ x → is_present (if (eqb n 0) absent (present (take (n - 1) v))) ≡ not (eqb n 0)
    go true e = ap is_present (if_yes _ _ e) ∙ ap not (sym e)
    go false e = ap is_present (if_no _ _ e) ∙ ap not (sym e)

pub zero_absent : (p : List ℕ) → get_or p 0 0 ≡ 0 → value_in_place p ≡ absent
unfolding value_in_place
zero_absent [] e = refl
zero_absent (n ∷ v) e = if_yes _ _ (eq-eqb n 0 e)

pub held_bytes : (n : ℕ) (v : List ℕ) → (n ≡ 0 → ⊥) → value_in_place (n ∷ v) ≡ present (take (n - 1) v)
unfolding value_in_place
held_bytes n v e = if_no _ _ (ne_eqb n 0 e)

module _ (table : List Row) (b : List ℕ) (k : ℕ) where
  -- the length byte is the store's byte at the place's start
  pub length_byte_at : row_length_plus_one_or_zero table b k ≡ get_or b (row_offset table k) 0
  unfolding row_length_plus_one_or_zero row_place_bytes
  length_byte_at = get_or-take (row_size_in_store (row_in table k)) _ 0 0 (omega arith) ∙ get_or-drop (row_offset table k) b 0 0
      ∙ rw add-zero

  pub there_is : is_present (row_value table b k) ≡ not (eqb (row_length_plus_one_or_zero table b k) 0)
  unfolding row_value row_length_plus_one_or_zero
  there_is = byte_there (row_place_bytes table b k)

  pub absent_is : row_length_plus_one_or_zero table b k ≡ 0 → row_value table b k ≡ absent
  unfolding row_value row_length_plus_one_or_zero
  absent_is e = zero_absent (row_place_bytes table b k) e

  -- a length byte that is not 0 gives that many bytes less one, and at most the greatest length
  pub present_is : row_offset table k < length b → (row_length_plus_one_or_zero table b k ≡ 0 → ⊥)
      → row_value table b k
      ≡ present
      (take (row_length_plus_one_or_zero table b k - 1) (take (row_in table k).greatest (drop (row_offset table k + 1) b)))
  unfolding row_value row_place_bytes
  present_is h e =
      let n = get_or b (row_offset table k) 0 in
      let g = (row_in table k).greatest in
      ap value_in_place (ap (take (g + 1)) (drop-cons b (row_offset table k) 0 h) ∙ ap
      (λ (m : ℕ). take m (n ∷ drop (suc (row_offset table k)) b)) (add-one g))
      ∙ held_bytes n _ (λ z. e (length_byte_at ∙ z))
      ∙ ap₂ (λ (m : ℕ) (l : List ℕ). present (take (m - 1) (take g l))) (sym length_byte_at)
      (ap (λ (m : ℕ). drop m b) (sym (add-one (row_offset table k))))

  -- the value's bytes, by its stored length
  pub value_bytes : row_offset table k < length b
      → bytes_or_empty_if_absent (row_value table b k) ≡ take (stored_length table b k) (drop (row_offset table k + 1) b)
  unfolding stored_length
  value_bytes h = go (row_length_plus_one_or_zero table b k) refl
    where
      go : (n : ℕ) → row_length_plus_one_or_zero table b k ≡ n → bytes_or_empty_if_absent (row_value table b k)
          ≡ take (min (row_length_plus_one_or_zero table b k - 1) (row_in table k).greatest) (drop (row_offset table k + 1) b)
      go zero e =
          let z : min (row_length_plus_one_or_zero table b k - 1) (row_in table k).greatest ≡ 0 = omega arith in
          ap bytes_or_empty_if_absent (absent_is e) ∙ ap (λ (m : ℕ). take m (drop (row_offset table k + 1) b)) (sym z)
      go (suc n) e =
          ap bytes_or_empty_if_absent (present_is h (λ z. omega arith)) ∙ take_min (row_length_plus_one_or_zero table b k - 1)
          (row_in table k).greatest (drop (row_offset table k + 1) b)

  -- where the store ends before the place there is no value
  pub no_place : length b ≤ row_offset table k → row_value table b k ≡ absent
  no_place h = absent_is (length_byte_at ∙ get_or-eq_default b 0 h)

-- ---- a run of stores

-- a part before it, and a part after it
part_before : (vs l : List ℕ) (i o m : ℕ) → o + m ≤ i → take m (drop o (sets l i vs)) ≡ take m (drop o l)
part_before [] l i o m h = refl
part_before (x ∷ vs) l i o m h =
    let e : o + (i - o) ≡ i = omega arith in
    part_before vs (set l i x) (suc i) o m (omega arith)
    ∙ ap (λ (j : ℕ). take m (drop o (set l j x))) (sym e)
    ∙ ap (take m) (drop-set-add o l (i - o) x) ∙ take-set-le m (drop o l) (i - o) x (omega arith)

part_behind : (vs l : List ℕ) (i o : ℕ) → i + length vs ≤ o → drop o (sets l i vs) ≡ drop o l
part_behind [] l i o h = refl
part_behind (x ∷ vs) l i o h = part_behind vs (set l i x) (suc i) o (omega arith) ∙ drop-set-lt o l i x (omega arith)

-- runs that lie apart commute
set_sets : (vs l : List ℕ) (i j a : ℕ) → i + length vs ≤ j → set (sets l i vs) j a ≡ sets (set l j a) i vs
set_sets [] l i j a h = refl
set_sets (x ∷ vs) l i j a h =
    set_sets vs (set l i x) (suc i) j a (omega arith) ∙ ap (λ (r : List ℕ). sets r (suc i) vs)
    (set_comm l i j x a (λ e. omega arith))

sets_sets : (ws vs l : List ℕ) (i j : ℕ) → i + length vs ≤ j → sets (sets l i vs) j ws ≡ sets (sets l j ws) i vs
sets_sets [] vs l i j h = refl
sets_sets (y ∷ ws) vs l i j h =
    ap (λ (r : List ℕ). sets r (suc j) ws) (set_sets vs l i j y h) ∙ sets_sets ws vs (set l j y) i (suc j) (omega arith)

-- ---- a put is such a run

-- the length byte stored, and then the value copied after it
pub paste_written : (b : List ℕ) (o : ℕ) (v : List ℕ) → o + 1 + length v ≤ length b
    → paste (set b o (length v + 1)) (o + 1) v (length v) ≡ length_and_value_written_at b o v
paste_written b o v f =
    let h : o < length b = omega arith in
    let q : o < suc o + length v = omega arith in
    rw (
      add-one o,
      take-length v,
      take-suc-set b o (length v + 1) h,
      drop-set-lt (suc o + length v) b o (length v + 1)
          q,
    )
    (append_assoc (take o b ++ ((length v + 1) ∷ [])) v (drop (suc o + length v) b) ∙ append_snoc (take o b)
    (length v + 1) (v ++ drop (suc o + length v) b))

-- the value v fits row k of the table, and the store is large enough
pub record Fits (table : List Row) (b : List ℕ) (k : ℕ) (v : List ℕ) : Type 0 where
  pub row : k < length table
  pub value : length v ≤ (row_in table k).greatest
  pub store : store_size_of table ≤ length b

module _ (table : List Row) (b : List ℕ) (k : ℕ) (v : List ℕ) (f : Fits table b k v) where
  pub lies : row_offset table k + 1 + length v ≤ length b
  lies = omega (arith, inside table k f.row)

  pub put_sets : put_row table b k v ≡ sets b (row_offset table k) ((length v + 1) ∷ v)
  unfolding put_row
  put_sets =
      let e : row_offset table k + 1 + length v ≡ row_offset table k + suc (length v) = omega arith in
      let h : row_offset table k + suc (length v) ≤ length b = omega (arith, lies) in
      ap (λ (m : ℕ). take (row_offset table k) b ++ ((length v + 1) ∷ (v ++ drop m b))) e
      ∙ sym (sets-eq ((length v + 1) ∷ v) b (row_offset table k) h ∙ append_assoc (take (row_offset table k) b)
      ((length v + 1) ∷ v) (drop (row_offset table k + suc (length v)) b))

  -- the store keeps its length
  pub put_length : length (put_row table b k v) ≡ length b
  put_length = ap length put_sets ∙ length-sets b (row_offset table k) ((length v + 1) ∷ v)

  -- its own row holds the value
  pub put-get : row_value table (put_row table b k v) k ≡ present v
  unfolding row_value row_place_bytes put_row
  put-get =
      let g = (row_in table k).greatest in
      let o = row_offset table k in
      let rest = drop (o + 1 + length v) b in
      let z : length v + 1 - 1 ≡ length v = omega arith in
      ap (λ (l : List ℕ). value_in_place (take (g + 1) l))
      (drop_at (take o b) _ o (length-take-le o b (omega (arith, lies))))
      ∙ ap (λ (m : ℕ). value_in_place (take m ((length v + 1) ∷ (v ++ rest)))) (add-one g)
      ∙ held_bytes (length v + 1) _ (λ e. omega arith)
      ∙ ap present (ap (λ (m : ℕ). take m (take g (v ++ rest))) z ∙ take-take (length v) g (v ++ rest) f.value ∙
      take_at v rest (length v) refl)

  -- every other place is untouched
  pub place_other : (j : ℕ) → (j ≡ k → ⊥) → row_place_bytes table (put_row table b k v) j ≡ row_place_bytes table b j
  unfolding row_place_bytes
  place_other j ne = ap (λ (l : List ℕ). take (row_size_in_store (row_in table j)) (drop (row_offset table j) l)) put_sets ∙
      go (sides j k ne)
    where
      go : (j < k) ⊎ (k < j)
          → take (row_size_in_store (row_in table j))
          (drop (row_offset table j) (sets b (row_offset table k) ((length v + 1) ∷ v)))
          ≡ take (row_size_in_store (row_in table j)) (drop (row_offset table j) b)
      go (inl h) = part_before ((length v + 1) ∷ v) b _ _ _ (apart table j k h (omega (arith, f.row)))
      go (inr h) =
          let behind : row_offset table k + suc (length v) ≤ row_offset table j =
          omega (arith, apart table k j h f.row, f.value) in
          ap (take (row_size_in_store (row_in table j))) (part_behind ((length v + 1) ∷ v) b (row_offset table k)
          (row_offset table j) behind)

  pub put_other : (j : ℕ) → (j ≡ k → ⊥) → row_value table (put_row table b k v) j ≡ row_value table b j
  unfolding row_value
  put_other j ne = ap value_in_place (place_other j ne)

-- puts of two rows commute
pub put_put : (table : List Row) (b : List ℕ) (j k : ℕ) (v w : List ℕ) → (j ≡ k → ⊥) → Fits table b j v
    → Fits table b k w
    → put_row table (put_row table b j v) k w ≡ put_row table (put_row table b k w) j v
put_put table b j k v w ne f g = go (sides j k ne)
  where
    after : {l m : ℕ} {x y : List ℕ} → Fits table b l x → Fits table b m y → Fits table (put_row table b l x) m y
    after {l} {m} {x} {y} p q = record {
      row = q.row;
      value = q.value;
      store = rw (put_length table b l x p)
          q.store;
    }

    two : (l m : ℕ) (x y : List ℕ) → l < m → Fits table b l x → Fits table b m y → put_row table (put_row table b l x) m y
        ≡ put_row table (put_row table b m y) l x
    two l m x y h p q =
        let ol = row_offset table l in
        let om = row_offset table m in
        put_sets table (put_row table b l x) m y (after p q) ∙ ap (λ (r : List ℕ). sets r om ((length y + 1) ∷ y))
        (put_sets table b l x p)
        ∙ sets_sets ((length y + 1) ∷ y) ((length x + 1) ∷ x) b ol om
        (omega (arith, apart table l m h p.row, p.value))
        ∙ sym (put_sets table (put_row table b m y) l x (after q p) ∙ ap (λ (r : List ℕ). sets r ol ((length x + 1) ∷ x))
        (put_sets table b m y q))

    go : (j < k) ⊎ (k < j) → put_row table (put_row table b j v) k w ≡ put_row table (put_row table b k w) j v
    go (inl h) = two j k v w h f g
    go (inr h) = sym (two k j w v h g f)

-- ---- the empty store, and the full one

-- the store that holds nothing
abbrev pub empty_of : List Row → List ℕ
empty_of table = replicate (store_size_of table) 0

-- the values vs in the places of rows k, k + 1 and so on
unfoldable pub put_all : List Row → List ℕ → ℕ → List (List ℕ) → List ℕ
put_all table b k [] = b
put_all table b k (v ∷ vs) = put_all table (put_row table b k v) (suc k) vs

zeros : (n i : ℕ) → ◌≡◌ {A = ℕ} (get_or (replicate n 0) i 0) 0
zeros zero i = refl
zeros (suc n) zero = refl
zeros (suc n) (suc i) = zeros n i

-- the empty store holds nothing
pub empty_holds_nothing : (table : List Row) (k : ℕ) → row_value table (empty_of table) k ≡ absent
empty_holds_nothing table k = absent_is table (empty_of table) k
    (length_byte_at table (empty_of table) k ∙ zeros (store_size_of table) (row_offset table k))

-- values for rows k on, each of which fits its row
pub data Values (table : List Row) : ℕ → List (List ℕ) → Type 0 where
  none : {k : ℕ} → Values table k []
  more : {k : ℕ} {v : List ℕ} {vs : List (List ℕ)} → k < length table → length v ≤ (row_in table k).greatest
      → Values table (suc k) vs → Values table k (v ∷ vs)

module _ (table : List Row) where
  kept_length : (b : List ℕ) (k : ℕ) (vs : List (List ℕ)) → store_size_of table ≤ length b → Values table k vs
      → store_size_of table ≤ length (put_all table b k vs)
  unfolding put_all
  kept_length b k [] h none = h
  kept_length b k (v ∷ vs) h (more r g w) =
      kept_length (put_row table b k v) (suc k) vs
      (rw (put_length table b k v (record { row = r; value = g; store = h })) h) w

  -- rows before the first are untouched
  before_kept : (b : List ℕ) (k : ℕ) (vs : List (List ℕ)) → store_size_of table ≤ length b → Values table k vs → (j : ℕ)
      → j < k
      → row_value table (put_all table b k vs) j ≡ row_value table b j
  unfolding put_all
  before_kept b k [] h none j lt = refl
  before_kept b k (v ∷ vs) h (more r g w) j lt =
      let f : Fits table b k v = record { row = r; value = g; store = h } in
      before_kept (put_row table b k v) (suc k) vs (rw (put_length table b k v f) h) w j (omega arith) ∙ put_other table
      b k v f j (λ e. omega arith)

  -- every row can be put at its greatest length at once, and all read back
  pub all_read_back : (b : List ℕ) (k : ℕ) (vs : List (List ℕ)) → store_size_of table ≤ length b → Values table k vs
      → (i : ℕ) → i < length vs
      → row_value table (put_all table b k vs) (k + i) ≡ present (get_or vs i [])
  unfolding put_all
  all_read_back b k [] h none i lt = absurd (omega arith)
  all_read_back b k (v ∷ vs) h (more r g w) zero lt =
      let f : Fits table b k v = record { row = r; value = g; store = h } in
      rw add-zero (before_kept (put_row table b k v) (suc k) vs (rw (put_length table b k v f) h) w k (omega arith) ∙
      put-get table b k v f)
  all_read_back b k (v ∷ vs) h (more r g w) (suc i) lt =
      let f : Fits table b k v = record { row = r; value = g; store = h } in
      let e : k + suc i ≡ suc k + i = omega arith in
      ap (row_value table (put_all table b k (v ∷ vs))) e
      ∙ all_read_back (put_row table b k v) (suc k) vs (rw (put_length table b k v f) h) w i (omega arith)

-- ---- by tag

pub by_row : (table : List Row) (b : List ℕ) (t k : ℕ) → find_row table t ≡ Some k
    → object_value_in table b t ≡ row_value table b k
unfolding object_value_in
by_row table b t k e = ap (value_of_row_found table b) e

pub unknown_absent : (table : List Row) (b : List ℕ) (t : ℕ) → find_row table t ≡ None
    → object_value_in table b t ≡ absent
unfolding object_value_in
unknown_absent table b t e = ap (value_of_row_found table b) e

-- ---- a store copied whole

pub copied : (a b d : List ℕ) → length a ≡ length b → d ≡ take (length a) a ++ drop (length a) b → d ≡ a
copied a b d l e = let h : length b ≤ length a = omega arith in e ∙ rw (take-length a, drop_of_length-le b h)
    (append-nil a)
