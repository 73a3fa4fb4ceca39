-- `cabinet::put_amounts` meets its contract: eight bytes each, concatenated (`put_both`).
-- Assumes nothing.
use mathlib.Core.Path.{ap₂, ◌∙◌}
use mathlib.Core.List.{List}
use Prim.Native.Nat.{ℕ, ◌+◌}
use borrow.Rule.Slice.PartMut.{put_mid}
use Rattle.layout.specs.Layout.{session_record_size, big_endian_bytes}
use Rattle.layout.proofs.Number.{bytes_length}
use Rattle.cabinet.proofs.State.{put_both}
use Rattle.cabinet.proofs.put_amounts.Goals as goal

pub returns : goal.returns
returns c =
    let l = c.args.state.now in
    ap₂ (λ (a b : List ℕ). put_mid (session_record_size + 8) 8 (put_mid session_record_size 8 l a) b)
    (c.copy_from_slice.ensures.after ∙ c.amount_bytes.ensures)
    (c.copy_from_slice-2.ensures.after ∙ c.amount_bytes-2.ensures)
    ∙ put_both l (big_endian_bytes 8 c.args.amounts.remaining) (big_endian_bytes 8 c.args.amounts.reserved) c.requires
    (bytes_length 8 _)
