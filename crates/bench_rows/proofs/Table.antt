-- The table, row by row. Assumes nothing.
use Rattle.bench_rows.specs.BenchTable.{BenchTable}
use Rattle.bench_rows.proofs.Reading.{empty, version, results_sent, private, four_levels, five_levels}
use Rattle.bench_rows.proofs.Beginning.{begins}
use Rattle.bench_rows.proofs.Filling.{fills}
use Rattle.bench_rows.proofs.Choosing.{chooses}

pub table : BenchTable
table = record {
  empty = empty;
  version = version;
  results_sent = results_sent;
  private = private;
  four_levels = four_levels;
  five_levels = five_levels;
  begins = begins;
  fills = fills;
  chooses = chooses;
}
