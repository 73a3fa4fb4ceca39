-- Bytes written into a buffer: writing one after another is writing at once, and what covers them leaves
-- nothing of them.
-- Assumes nothing.
use Rattle.std.specs.Prelude.{Option, Some}
use mathlib.Core.Path.{◌≡◌, refl, sym, ap, ◌∙◌}
use mathlib.Core.List.{List, [], ◌∷◌, ◌++◌, append-nil, append_assoc}
use Prim.Native.Nat.{ℕ, ◌+◌, ◌-◌, ◌≤◌, ◌<◌}
use native.Mathlib.Nat.{add-zero, add_assoc}
use native.Mathlib.Numerals.{add-one}
use native.Mathlib.Omega.{arith}
use lib.ListN.{length, take, drop, set, replicate, length-append, length-take, length-drop, take-append-drop}
use lib.ListN.{drop_of_length-le, length-replicate, replicate-append-replicate}
use lib.Seq.{take_at, drop_at, drop-drop, take-length, set_split, length-take-le, sets, sets-eq}
use borrow.Rule.Slice.PartMut.{put_mid}
use Rattle.dol.specs.Measure.{buffer_with_bytes_at, buffer_with_filled_dol_at}

pub over_nothing : (b : List ℕ) (at : ℕ) → buffer_with_bytes_at b at [] ≡ b
unfolding buffer_with_bytes_at
over_nothing b at = rw add-zero (take-append-drop at b)

module _ (b : List ℕ) (at : ℕ) (v : List ℕ) (h : at + length v ≤ length b) where
  front_length : length (take at b ++ v) ≡ at + length v
  front_length = simp (length-append, length-take) (omega arith)

  front_is : buffer_with_bytes_at b at v ≡ (take at b ++ v) ++ drop (at + length v) b
  unfolding buffer_with_bytes_at
  front_is = sym (append_assoc (take at b) v _)

  -- the buffer keeps its length
  pub over_length : length (buffer_with_bytes_at b at v) ≡ length b
  over_length = rw front_is (simp (length-append, length-take, length-drop) (omega arith))

  -- the bytes after stay
  pub over_behind : (n : ℕ) → at + length v ≤ n → drop n (buffer_with_bytes_at b at v) ≡ drop n b
  over_behind n l =
      let m = n - (at + length v) in
      let e : n ≡ at + length v + m = omega arith in
      rw (e, front_is) (sym (drop-drop m _ _) ∙ ap (drop m) (drop_at (take at b ++ v) _ _ front_length) ∙ drop-drop m _
      b)

  -- the bytes written are there
  pub over_there : take (length v) (drop at (buffer_with_bytes_at b at v)) ≡ v
  unfolding buffer_with_bytes_at
  over_there = ap (take (length v)) (drop_at (take at b) _ at (length-take-le at b (omega arith))) ∙ take_at v _ _ refl

  -- concatenated
  pub over_join : (w : List ℕ) → buffer_with_bytes_at (buffer_with_bytes_at b at v) (at + length v) w ≡ buffer_with_bytes_at b at
      (v ++ w)
  unfolding buffer_with_bytes_at
  over_join w =
      let n = at + length v in
      ap (λ (l : List ℕ). take n l ++ (w ++ drop (n + length w) l)) front_is
      ∙ rw (
        take_at (take at b ++ v) (drop n b) n front_length,
        ←
            (drop-drop (length w) n ((take at b ++ v) ++ drop n b)),
        drop_at (take at b ++ v) (drop n b) n front_length,
        drop-drop,
        length-append,
        ← (add_assoc at (length v) (length w)),
      )
      (simp append_assoc)

  -- written so in two steps
  pub over_then : (k : ℕ) (w x y : List ℕ) → k ≡ at + length v → x ≡ buffer_with_bytes_at b at v
      → y ≡ buffer_with_bytes_at x k w → y ≡ buffer_with_bytes_at b at (v ++ w)
  over_then k w x y e p q = q ∙ rw (p, e) (over_join w)

  -- what is written over the front, as far as those bytes or further, leaves nothing of them
  pub over_cover : (w : List ℕ) → at + length v ≤ length w → buffer_with_bytes_at (buffer_with_bytes_at b at v) 0 w
      ≡ buffer_with_bytes_at b 0 w
  unfolding buffer_with_bytes_at
  over_cover w l = ap (λ (r : List ℕ). w ++ r) (over_behind (0 + length w) (omega arith))

-- a filling that is there is written
pub over_some : (b : List ℕ) (at : ℕ) (x : Option (List ℕ)) (v : List ℕ) → x ≡ Some v
    → buffer_with_filled_dol_at b at x ≡ buffer_with_bytes_at b at v
unfolding buffer_with_filled_dol_at
over_some b at x v e = ap (buffer_with_filled_dol_at b at) e

-- a part of the buffer that was borrowed, and comes back as the bytes v
pub over_part : (b : List ℕ) (at n : ℕ) (v : List ℕ) {ys : List ℕ} → ys ≡ v → length v ≡ n
    → put_mid at (at + n - at) b ys ≡ buffer_with_bytes_at b at v
unfolding buffer_with_bytes_at
over_part b at n v p l = let e : at + n - at ≡ length v = omega arith in rw (p, e, drop-drop (length v) at b)
