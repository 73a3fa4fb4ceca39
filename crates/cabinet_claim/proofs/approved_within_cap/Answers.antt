-- The claim is proofs/Calls', for every list of calls; that the calls are the kernel's is proofs/AsKernel's.
-- Assumes nothing.
use mathlib.Core.Path.{refl}
use Rattle.cabinet_claim.proofs.Calls.{always}
use Rattle.cabinet_claim.proofs.AsKernel.{as_kernel}
use Rattle.cabinet_claim.proofs.approved_within_cap.Goals as goal

pub returns : goal.returns
returns c = record { most = refl; claim = always; kernel = as_kernel }
