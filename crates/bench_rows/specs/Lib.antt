pub mod BenchTable
