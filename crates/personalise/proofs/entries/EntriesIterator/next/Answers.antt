-- `Entries` gives the entries of its bytes in order: by whether four bytes are left.
-- Assumes nothing.
use mathlib.Core.Path.{sym, ap, ◌∙◌}
use native.Mathlib.Omega.{arith}
use mathlib.Core.List.{List, ◌∷◌}
use Prim.Native.Nat.{ℕ, ◌≤◌}
use lib.ListN.{length, drop}
use Rattle.afl.specs.Entry.{first_afl_entry}
use Rattle.afl.specs.Records.{afl_entries}
use Rattle.afl.proofs.Records.{entries_front, entries_short}
use Rattle.personalise.proofs.Proposed.{front_take}
use Rattle.personalise.proofs.entries.EntriesIterator.next.Goals as goal

pub returns-in_err-bytes-clause-steps : goal.returns-in_err-bytes-clause-steps
returns-in_err-bytes-clause-steps c =
    let n = entries_short _ c.in_err-bytes.ensures.cases in
    rw c.from_residual.ensures (n, n)

pub returns : goal.returns
returns c =
    let k = c.in_ok-bytes.ensures.cases in
    let s = c.args.self.now.0.now in
    let h : 4 ≤ length s = omega (arith, k.2) in
    let e = entries_front s h ∙ ap (λ x. x ∷ afl_entries (drop 4 s)) (sym (front_take s h) ∙ ap first_afl_entry (sym k.0) ∙ sym c.entry_of.ensures)
    ∙ ap (λ (r : List ℕ). c.entry_of.result ∷ afl_entries r) (sym k.1) in
    let l = ap length e in
    record { steps = e; goes = record { on = λ f. (tt, tt, omega arith); keeps = tt; rests = λ f. tt } }
