-- `start_data::set_objects` meets its contract. The invariant: setting what the iterator has left in the working store as
-- it stands is setting the whole. Assumes nothing.
use mathlib.Core.Path.{◌≡◌}
use Rattle.tlv.specs.Primitives.{primitive_objects, leading_primitive_objects}
use Rattle.start_data.specs.StartData.{set_start_objects, set_parsed_start_objects}
use Rattle.start_data.proofs.set_objects.Given as goal

abbrev pub invariant-loop-object : goal.invariant-loop-object
invariant-loop-object l = set_parsed_start_objects l.initial.store (primitive_objects l.terminal)
    ≡ set_start_objects l.store (leading_primitive_objects l.object-iterator.0.now)
