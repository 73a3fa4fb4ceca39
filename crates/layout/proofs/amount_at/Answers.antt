-- `layout::amount_at` meets its contract: eight bytes are read as the number of the definition (`eight_number`).
-- Assumes nothing.
use mathlib.Core.Path.{◌≡◌, ap, ◌∙◌}
use Prim.Native.Nat.{ℕ, ◌+◌, ◌-◌}
use native.Mathlib.Omega.{arith}
use lib.ListN.{take, drop}
use Rattle.basics.specs.Number.{big_endian_number}
use Rattle.layout.proofs.Number.{eight_number}
use Rattle.layout.proofs.amount_at.Goals as goal

pub returns : goal.returns
returns c =
    let a = c.args in
    let copy = c.copy_from_slice.ensures in
    let eight : a.at + 8 - a.at ≡ 8 = omega arith in
    c.from_be_bytes.ensures ∙ eight_number _ copy.len
    ∙ ap big_endian_number (copy.after ∙ ap (λ (n : ℕ). take n (drop a.at a.bytes.now)) eight)
