-- The claim is proofs/Trace's, for every list of calls, and so are the ranges of each; the CVMs are proofs/Methods'.
-- Assumes nothing.
use mathlib.Core.Path.{refl}
use Rattle.session_claim.proofs.Trace.{always, call_keeps}
use Rattle.session_claim.proofs.ReportedCvm.{tells_cvm}
use Rattle.session_claim.proofs.every_session_follows_published_order.Goals as goal

pub returns : goal.returns
returns c = record { most = refl; claim = always; ranges = call_keeps; cvms = tells_cvm }
