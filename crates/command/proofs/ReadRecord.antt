-- READ RECORD: when the command is written, and what a caller learns of it.
-- Assumes nothing.
use Rattle.std.specs.Prelude.{Option, Some, None}
use mathlib.Core.Path.{◌≡◌, refl, sym, ap, ◌∙◌}
use mathlib.Core.List.{List}
use Prim.Native.Nat.{ℕ, ◌≤◌, ◌<◌}
use native.Mathlib.Omega.{arith}
use lib.ListN.{length, take, length-drop}
use borrow.Author.Tests.{le-leb, lt-leb, lt-ltb, le-ltb}
use Rattle.basics.specs.Front.{written_over_front}
use Rattle.basics.proofs.Laws.{if_yes, if_no, both_yes, both_no_left, both_no_right}
use Rattle.afl.specs.declared.CardRecord.{CardRecord}
use Rattle.command.specs.WithList.{buffer_with_command}
use Rattle.command.specs.ReadRecord.{read_record_command, read_record_command_if_fits, command_length_or_zero}

pub written_yes : (r : CardRecord) (buffer : List ℕ) → 5 ≤ length buffer → r.sfi < 32
    → read_record_command_if_fits buffer r ≡ Some (read_record_command r)
unfolding read_record_command_if_fits
written_yes r buffer h f = if_yes _ _ (both_yes _ _ (le-leb 5 (length buffer) h) (lt-ltb r.sfi 32 f))

pub written_short : (r : CardRecord) (buffer : List ℕ) → length buffer < 5 → read_record_command_if_fits buffer r ≡ None
unfolding read_record_command_if_fits
written_short r buffer h = if_no _ _ (both_no_left _ _ (lt-leb 5 (length buffer) h))

pub written_widen : (r : CardRecord) (buffer : List ℕ) → 32 ≤ r.sfi → read_record_command_if_fits buffer r ≡ None
unfolding read_record_command_if_fits
written_widen r buffer h = if_no _ _ (both_no_right _ _ (le-ltb r.sfi 32 h))

-- what a call states of its result n and of the buffer b that it leaves
pub wrote : (n : ℕ) (b buffer : List ℕ) (x y : Option (List ℕ)) → x ≡ y → n ≡ command_length_or_zero y
    → b ≡ buffer_with_command y buffer
    → (n ≡ command_length_or_zero x) × (b ≡ buffer_with_command x buffer)
wrote n b buffer x y e p q =
    (p ∙ ap command_length_or_zero (sym e), q ∙ ap (λ (z : Option (List ℕ)). buffer_with_command z buffer) (sym e))

-- what a caller learns that provides five bytes or more, for a record with a file number of five bits
pub wrote_yes : (n : ℕ) (b : List ℕ) (r : CardRecord) (buffer : List ℕ)
    → (n ≡ command_length_or_zero (read_record_command_if_fits buffer r))
    × (b ≡ buffer_with_command (read_record_command_if_fits buffer r) buffer) → 5 ≤ length buffer → r.sfi < 32
    → (n ≡ 5) × (b ≡ written_over_front (read_record_command r) buffer)
wrote_yes n b r buffer w h f = let e = written_yes r buffer h f in
    (w.0 ∙ ap command_length_or_zero e, w.1 ∙ ap (λ (z : Option (List ℕ)). buffer_with_command z buffer) e)

-- the five bytes handed out are the command
pub command_front : (r : CardRecord) (buffer : List ℕ) → take 5 (written_over_front (read_record_command r) buffer)
    ≡ read_record_command r
command_front r buffer = refl

-- the buffer keeps its length
pub command_length : (r : CardRecord) (buffer : List ℕ) → 5 ≤ length buffer
    → length (written_over_front (read_record_command r) buffer) ≡ length buffer
command_length r buffer h = simp length-drop (omega arith)
