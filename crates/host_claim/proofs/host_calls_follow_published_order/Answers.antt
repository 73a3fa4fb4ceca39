-- The claim is proofs/Calls', for every list of calls; that a call is the session's is proofs/Bytes'.
-- Assumes nothing.
use mathlib.Core.Path.{refl}
use Rattle.host_claim.proofs.Calls.{always}
use Rattle.host_claim.proofs.Bytes.{as_session}
use Rattle.host_claim.proofs.host_calls_follow_published_order.Goals as goal

pub returns : goal.returns
returns c = record { claim = always; «open» = (λ l. record { word = refl; session = refl }); session = as_session }
