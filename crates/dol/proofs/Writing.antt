-- Filling into a buffer, entry by entry: what is written so far, with the filling of the rest after it, is the filling
-- of the list.
-- Assumes nothing.
use Rattle.std.specs.Prelude.{Option, Some, None}
use mathlib.Core.Path.{◌≡◌, refl, sym, ap, ◌∙◌}
use mathlib.Core.List.{List, [], ◌∷◌}
use Prim.Native.Nat.{ℕ, ◌+◌, ◌≤◌}
use native.Mathlib.Omega.{arith}
use lib.ListN.{length, drop}
use Rattle.tlv.proofs.Laws.{tail, tail-is}
use Rattle.dictionary.specs.Rows.{Row}
use Rattle.dol.specs.declared.DolEntry.{DolEntry}
use Rattle.dol.specs.Entries.{dol_entry_at, prepend_dol_entry, dol_entries, dol_total_length}
use Rattle.dol.specs.Filling.{dol_entry_bytes, dol_data, dol_data_if_parsed, dol_filled}
use Rattle.dol.specs.Measure.{FilledDolFitsAt, buffer_with_bytes_at, buffer_with_filled_dol_at}
use Rattle.dol.proofs.Buffer.{over_nothing, over_length, over_join}
use Rattle.dol.proofs.Entries.{entries_end, entries_broken, entries-more, entry_inside}
use Rattle.dol.proofs.Filling.{entry_length}

-- a broken list has no room
no_room : (s : List ℕ) (at n : ℕ) → (length s ≡ 0 → ⊥) → dol_entry_at s ≡ None → FilledDolFitsAt (dol_entries s) at n
    → ⊥
no_room s at n h p r = rw (entries_broken s h p) at r

-- an entry has room, and so has what is after it
entry_room : (s : List ℕ) (e : DolEntry) (k at n : ℕ) → dol_entry_at s ≡ Some (e, k)
    → FilledDolFitsAt (dol_entries s) at n → (at + e.asked ≤ n) × FilledDolFitsAt (dol_entries (drop k s))
    (at + e.asked) n
unfolding prepend_dol_entry dol_total_length
entry_room s e k at n p r = go (dol_entries (drop k s)) (rw (entries-more s e k p) at r)
  where
    go : (x : Option (List DolEntry)) → FilledDolFitsAt (prepend_dol_entry e x) at n
        → (at + e.asked ≤ n) × FilledDolFitsAt x (at + e.asked) n
    go None q = absurd q
    go (Some es) q = (omega arith, omega arith)

-- an entry takes two bytes at least of the list, all in it, and has room
pub entry_goes : (s : List ℕ) {x : Option (DolEntry × ℕ)} (e : DolEntry) (k at n : ℕ) → x ≡ dol_entry_at s → x ≡ Some (e, k)
    → FilledDolFitsAt (dol_entries s) at n → (2 ≤ k) × (k ≤ length s) × (at + e.asked ≤ n)
entry_goes s e k at n p q r =
    let g = sym p ∙ q in
    let i = entry_inside s e k g in
    (i.0, i.1, (entry_room s e k at n g r).0)

module _ (table : List Row) (store : List ℕ) where
  -- nothing is left to fill
  fill_end : (b s : List ℕ) (at : ℕ) → length s ≡ 0 → buffer_with_filled_dol_at b at (dol_filled table store s) ≡ b
  unfolding buffer_with_filled_dol_at dol_data_if_parsed dol_data
  fill_end b s at h = ap (λ (x : Option (List DolEntry)). buffer_with_filled_dol_at b at (dol_data_if_parsed table store x))
      (entries_end s h) ∙ over_nothing b at

  -- where no entry is, a list with room ends
  pub fill_stop : (b s : List ℕ) (at : ℕ) → dol_entry_at s ≡ None → FilledDolFitsAt (dol_entries s) at (length b)
      → buffer_with_filled_dol_at b at (dol_filled table store s) ≡ b
  fill_stop b [] at p r = fill_end b [] at refl
  fill_stop b (x ∷ s) at p r = absurd (no_room (x ∷ s) at (length b) (λ z. omega arith) p r)

  -- an entry's bytes, and after them the filling of the rest
  fill_more : (b s : List ℕ) (at : ℕ) (e : DolEntry) (k : ℕ) → dol_entry_at s ≡ Some (e, k)
      → FilledDolFitsAt (dol_entries s) at (length b)
      → buffer_with_filled_dol_at b at (dol_filled table store s) ≡ buffer_with_filled_dol_at
      (buffer_with_bytes_at b at (dol_entry_bytes table store e)) (at + e.asked) (dol_filled table store (drop k s))
  unfolding buffer_with_filled_dol_at dol_data_if_parsed dol_data prepend_dol_entry dol_total_length
  fill_more b s at e k p r =
      ap (λ (x : Option (List DolEntry)). buffer_with_filled_dol_at b at (dol_data_if_parsed table store x))
      (entries-more s e k p)
      ∙ go (dol_entries (drop k s)) (rw (entries-more s e k p) at r)
    where
      go : (x : Option (List DolEntry)) → FilledDolFitsAt (prepend_dol_entry e x) at (length b)
          → buffer_with_filled_dol_at b at (dol_data_if_parsed table store (prepend_dol_entry e x)) ≡ buffer_with_filled_dol_at
          (buffer_with_bytes_at b at (dol_entry_bytes table store e)) (at + e.asked) (dol_data_if_parsed table store x)
      go None q = absurd q
      go (Some es) q =
          let l = entry_length table store e in
          let h : at + length (dol_entry_bytes table store e) ≤ length b = omega arith in
          sym (over_join b at (dol_entry_bytes table store e) h (dol_data table store es)) ∙ rw l

  -- an iteration of the loop: F is the whole filling, b' the buffer with the entry written
  pub fill_step : (F b b' s : List ℕ) (at n : ℕ) (e : DolEntry) (k : ℕ) → dol_entry_at s ≡ Some (e, k)
      → F ≡ buffer_with_filled_dol_at b at (dol_filled table store s) → FilledDolFitsAt (dol_entries s) at (length b)
      → b' ≡ buffer_with_bytes_at b at (dol_entry_bytes table store e) → n ≡ e.asked
      → (F ≡ buffer_with_filled_dol_at b' (at + n) (dol_filled table store (tail s k))) × (length b' ≡ length b)
      × FilledDolFitsAt (dol_entries (tail s k)) (at + n) (length b')
  fill_step F b b' s at n e k p f r w q =
      let m = entry_room s e k at (length b) p r in
      let h : at + length (dol_entry_bytes table store e) ≤ length b = omega (arith, entry_length table store e) in
      let l : length b' ≡ length b = ap length w ∙ over_length b at (dol_entry_bytes table store e) h in
      (f ∙ fill_more b s at e k p r ∙ rw (w, q, tail-is s k), l, rw (l, q, tail-is s k) m.1)
