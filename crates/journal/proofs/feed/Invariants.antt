-- `journal::feed` meets its contract. The invariant: the checker is the first one after the bytes so far.
-- Assumes nothing.
use mathlib.Core.Path.{◌≡◌}
use lib.ListN.{take}
use Rattle.journal.specs.Inner.{checker_after_bytes}
use Rattle.journal.proofs.feed.Given as goal

abbrev pub invariant-loop-byte : goal.invariant-loop-byte
invariant-loop-byte l = l.next ≡ checker_after_bytes l.initial.next (take l.byte-index l.part)
