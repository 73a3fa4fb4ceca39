-- The rows of the choice: those of the analysis, at every store. Assumes nothing.
use mathlib.Core.List.{List}
use Prim.Native.Nat.{ℕ}
use Rattle.analysis.proofs.Bench as analysis
use Rattle.bench_rows.specs.BenchTable.{ZeroTacsAndNoIacDenial, BenchChoices}

pub chooses : (store : List ℕ) → ZeroTacsAndNoIacDenial store → BenchChoices store
chooses store p =
    let plain : analysis.Plain store = record {
      denial_card = p.card_denial;
      denial_terminal =
          p.denial;
      online_terminal = p.online;
      default_terminal = p.default;
    } in
    let w = analysis.choice_rows store plain in
    record { no_9f0f = w.0; zero_9f0f = w.1.0; no_9f0d = w.1.1 }
