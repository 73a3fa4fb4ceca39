-- `flat::walk` meets its contract. The invariant is `Reached` (proofs/Frames): within the innermost template a step is
-- that of `Run` (proofs/Runs); an end closes it, a template is pushed. The measure counts what is left of the bytes
-- twice and each open level once.
-- Assumes nothing.
use Rattle.tlv.specs.Tree.{parse_tree}
use Rattle.reading.specs.InnerItems.{WalkListsTree}
use Rattle.reading.proofs.Items.{part}
use Rattle.reading.proofs.Frames.{open_at, Reached, ahead}
use Rattle.reading.proofs.flat.walk.Given as goal

abbrev pub invariant-loop-at : goal.invariant-loop-at
invariant-loop-at l =
    let e = (open_at l.initial.templates 0).end in
    Reached l.bytes e (WalkListsTree l.bytes l.tag (parse_tree 3 (part l.bytes l.initial.at e)) 1 0 l.initial.items) l.templates
    l.depth l.at l.tally.objects l.tally.items l.items

abbrev pub decreases-loop-at : goal.decreases-loop-at
decreases-loop-at l = ahead (open_at l.initial.templates 0).end l.depth l.at
