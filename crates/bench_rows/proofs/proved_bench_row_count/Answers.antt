-- The rows are proved in proofs/Table. Assumes nothing.
use mathlib.Core.Path.{refl}
use Rattle.bench_rows.proofs.Table.{table}
use Rattle.bench_rows.proofs.proved_bench_row_count.Goals as goal

pub returns : goal.returns
returns c = (refl, table)
