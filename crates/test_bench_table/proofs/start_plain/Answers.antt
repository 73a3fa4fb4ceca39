-- The bytes before the list are a part of the array.
-- Assumes nothing.
use native.Mathlib.Omega.{arith}
use mathlib.Core.Path.{◌≡◌}
use lib.ListN.{length, length-take}
use borrow.Author.Rules.{rules}
use Rattle.test_bench_table.proofs.start_plain.Goals as goal

pub slice_bounds-start-end : goal.slice_bounds-start-end
slice_bounds-start-end c =
    let h : length c.terminal-bytes.result ≡ 129 = search rules in
    omega (arith, length-take 123 c.terminal-bytes.result)
