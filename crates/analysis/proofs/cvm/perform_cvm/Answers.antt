-- `cvm::perform_cvm` meets its contract: the rules of a list are what is left after its first eight bytes.
-- Assumes nothing.
use Rattle.std.proofs.Common.{arith, refl}
use Rattle.analysis.specs.Cvm.{cvm_processing}
use Rattle.analysis.proofs.CvmSteps.{by_bytes, rules_behind_amounts}
use Rattle.analysis.proofs.Tests.{choices}
use Rattle.analysis.proofs.cvm.perform_cvm.Goals as goal

pub returns-in-Some : goal.returns-in-Some
unfolding cvm_processing
returns-in-Some c =
    let h = rules_behind_amounts c.in-Some.list.now c.get.result _ _ c.get.ensures.lookup c.unwrap_or.ensures refl in
    grind (arith, choices, by_bytes c.in-Some.list.now c.args.terms, h)
