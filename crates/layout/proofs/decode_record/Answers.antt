-- `layout::decode_record` meets its contract: nothing is touched where there is no record; else the store is
-- copied whole.
-- Assumes nothing.
use Rattle.std.specs.Prelude.{Option}
use mathlib.Core.Path.{sym, ap, ◌∙◌}
use Rattle.session_record.specs.declared.Session.{Session}
use Rattle.layout.specs.Layout.{decoded_store_or_unchanged}
use Rattle.layout.proofs.Laws.{held_some}
use Rattle.layout.proofs.decode_record.Goals as goal

pub slice_bounds-copy_from_slice-end-2 : goal.slice_bounds-copy_from_slice-end-2
slice_bounds-copy_from_slice-end-2 c =
    (held_some c.args.bytes.now _ (sym c.decode_record_head.ensures ∙ c.in_ok-head.was)).0

pub returns : goal.returns
returns c =
    let k = held_some c.args.bytes.now _ (sym c.decode_record_head.ensures ∙ c.in_ok-head.was) in record {
      held = sym c.in_ok-head.was ∙ c.decode_record_head.ensures;
      store =
          c.copy_from_slice.ensures.after
          ∙ sym (ap (λ (x : Option Session). decoded_store_or_unchanged x c.args.store.now) k.1);
    }
