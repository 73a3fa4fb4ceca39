-- `objects::count` meets its contract: how many objects `PrimitiveObjects` gives.
-- Assumes nothing.
use mathlib.Core.Path.{refl, sym, ap, ◌∙◌}
use mathlib.Core.Logic.{inl}
use native.Mathlib.Omega.{arith}
use lib.ListN.{length}
use Rattle.std.proofs.lemmas.Iterator.Consumers.{YieldsList-from_first, count_from_yields_List}
use Rattle.tlv.specs.Primitives.{leading_primitive_objects, object_read}
use Rattle.personalise.proofs.Listed.{listed_or_empty, objects_most}
use Rattle.personalise.proofs.objects.count.Goals as goal

pub count-requires-clause-fits : goal.count-requires-clause-fits
count-requires-clause-fits c = let m = objects_most c.args.objects.bytes.now in inl (omega arith)

pub returns : goal.returns
returns c =
    count_from_yields_List _ _ c.count.ensures.ran
    (YieldsList-from_first object_read (λ s. leading_primitive_objects s.0.now) {s = record { 0 = c.args.objects.bytes }} _ refl)
    ∙ sym (ap length (listed_or_empty c.args.objects.bytes.now c.args.objects.allowed.0))
