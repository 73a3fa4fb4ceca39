-- Bytes written into a buffer: writing one after another is writing at once.
-- Assumes nothing.
use mathlib.Core.Path.{◌≡◌, sym, ap, ◌∙◌}
use mathlib.Core.List.{List, [], ◌∷◌, ◌++◌, append_assoc}
use Prim.Native.Nat.{ℕ, suc, ◌+◌, ◌-◌, ◌≤◌}
use native.Mathlib.Nat.{zero-add, add-zero, add_assoc}
use native.Mathlib.Numerals.{add-one}
use native.Mathlib.Omega.{arith}
use lib.ListN.{length, take, drop, set, length-append, length-take, length-drop, take-append-drop}
use lib.Seq.{take_at, drop_at, drop-drop, sets, sets-eq}
use Rattle.basics.specs.Front.{written_over_front}
use Rattle.personalise.specs.Inner.{bytes_written_over, WritesBytesAt}

pub over_nothing : (s : List ℕ) (at : ℕ) → bytes_written_over s at [] ≡ s
unfolding bytes_written_over
over_nothing s at = rw add-zero (take-append-drop at s)

-- nothing is written
pub puts_nothing : (s : List ℕ) (at : ℕ) {v : List ℕ} → v ≡ [] → WritesBytesAt at s s at v
puts_nothing s at e = record {
  next = sym (add-zero at) ∙ ap (λ (x : List ℕ). at + length x) (sym e);
  wrote =
      sym (over_nothing s at) ∙ ap (bytes_written_over s at) (sym e);
}

-- at the front
pub over-front : (s v : List ℕ) → bytes_written_over s 0 v ≡ written_over_front v s
unfolding bytes_written_over
over-front s v = rw zero-add

module _ (s : List ℕ) (at : ℕ) (v : List ℕ) (h : at + length v ≤ length s) where
  front_length : length (take at s ++ v) ≡ at + length v
  front_length = simp (length-append, length-take) (omega arith)

  front_is : bytes_written_over s at v ≡ (take at s ++ v) ++ drop (at + length v) s
  unfolding bytes_written_over
  front_is = sym (append_assoc (take at s) v _)

  -- the buffer keeps its length
  pub over_length : length (bytes_written_over s at v) ≡ length s
  over_length = rw front_is (simp (length-append, length-take, length-drop) (omega arith))

  -- stored one by one
  pub over_sets : sets s at v ≡ bytes_written_over s at v
  over_sets = sets-eq v s at h ∙ sym front_is

  -- concatenated
  pub over_join : (w : List ℕ) → bytes_written_over (bytes_written_over s at v) (at + length v) w ≡ bytes_written_over s at
      (v ++ w)
  unfolding bytes_written_over
  over_join w =
      let n = at + length v in
      ap (λ (l : List ℕ). take n l ++ (w ++ drop (n + length w) l)) front_is
      ∙ rw (
        take_at (take at s ++ v) (drop n s) n front_length,
        ←
            (drop-drop (length w) n ((take at s ++ v) ++ drop n s)),
        drop_at (take at s ++ v) (drop n s) n front_length,
        drop-drop,
        length-append,
        ← (add_assoc at (length v) (length w)),
      )
      (simp append_assoc)

  -- by one function and then another
  module _ {k : ℕ} {t : List ℕ} (p : WritesBytesAt k t s at v) where
    pub puts_length : length t ≡ length s
    puts_length = ap length p.wrote ∙ over_length

    pub puts_then : {n : ℕ} {u : List ℕ} (w : List ℕ) → WritesBytesAt n u t k w → WritesBytesAt n u s at (v ++ w)
    puts_then w q = record {
      next = q.next ∙ rw (p.next, length-append) (add_assoc at (length v) (length w));
      wrote = q.wrote ∙ rw (p.wrote, p.next) (over_join w);
    }

    -- what is still to be written
    pub puts_next : (w : List ℕ) → bytes_written_over s at (v ++ w) ≡ bytes_written_over t k w
    puts_next w = sym (rw (p.wrote, p.next) (over_join w))

-- a part of the buffer that was borrowed, and comes back with v copied into it
pub over_part : (s : List ℕ) (at : ℕ) (v ys : List ℕ) → at + length v ≤ length s
    → ys ≡ v
    → take at s ++ (ys ++ drop (at + length v - at) (drop at s)) ≡ bytes_written_over s at v
unfolding bytes_written_over
over_part s at v ys h q =
    let e : at + length v - at ≡ length v = omega arith in
    rw (q, e, drop-drop (length v) at s)

-- stores one by one, of bytes that are v
pub sets_put : (s : List ℕ) (at : ℕ) (w : List ℕ) {v : List ℕ} → at + length w ≤ length s → v ≡ w
    → WritesBytesAt (at + length w) (sets s at w) s at v
sets_put s at w h e = record {
  next = ap (λ (l : List ℕ). at + length l) (sym e);
  wrote = over_sets s at w h ∙ ap
      (bytes_written_over s at) (sym e);
}

-- two and three stores, as code makes them
pub two_put : (s : List ℕ) (at x y : ℕ) {v : List ℕ} → at + 2 ≤ length s → v ≡ x ∷ y ∷ []
    → WritesBytesAt (at + 2) (set (set s at x) (at + 1) y) s at v
two_put s at x y h e = let n = add-one at in rw n (sets_put s at (x ∷ y ∷ []) h e)

pub three_put : (s : List ℕ) (at x y z : ℕ) {v : List ℕ} → at + 3 ≤ length s → v ≡ x ∷ y ∷ z ∷ []
    → WritesBytesAt (at + 3) (set (set (set s at x) (at + 1) y) (at + 2) z) s at v
three_put s at x y z h e =
    let n = add-one at in
    let m : at + 2 ≡ suc (suc at) = omega arith in
    rw (n, m) (sets_put s at (x ∷ y ∷ z ∷ []) h e)

-- ---- tag, length and value, concatenated

module _ (s : List ℕ) (at : ℕ) (t l v : List ℕ) (h : at + (length t + (length l + length v)) ≤ length s) where
  pub tag_room : at + length t ≤ length s
  tag_room = omega arith

  module _ {k : ℕ} {x : List ℕ} (p : WritesBytesAt k x s at t) where
    pub length_room : k + length l ≤ length x
    length_room = omega (arith, puts_length s at t tag_room p, p.next)

    module _ {m : ℕ} {y : List ℕ} (q : WritesBytesAt m y x k l) where
      pub value_room : m + length v ≤ length y
      value_room = omega (arith, puts_length s at t tag_room p, p.next, puts_length x k l length_room q, q.next)

      pub all_put : {n : ℕ} {z : List ℕ} → WritesBytesAt n z y m v → WritesBytesAt n z s at (t ++ (l ++ v))
      all_put r = puts_then s at t tag_room p (l ++ v) (puts_then x k l length_room q v r)
