-- `find::walk` meets its contract. The invariant is `Reached` (proofs/Steps), which has a law for each way through an
-- iteration. The measure counts what is left twice and each open template once: an object takes two bytes at least, and
-- an end closes a template.
-- Assumes nothing.
use Prim.Native.Nat.{◌+◌, ◌-◌, ◌*◌}
use lib.ListN.{length}
use Rattle.find.specs.Inner.{ends_around}
use Rattle.find.proofs.Steps.{Reached}
use Rattle.find.proofs.walk.Given as goal

abbrev pub invariant-objects : goal.invariant-objects
invariant-objects l = Reached l.bytes l.tag (ends_around l.open.ends l.open.depth) l.at l.end l.found

abbrev pub decreases-objects : goal.decreases-objects
decreases-objects l = 2 * (length l.bytes - l.at) + length (ends_around l.open.ends l.open.depth)
