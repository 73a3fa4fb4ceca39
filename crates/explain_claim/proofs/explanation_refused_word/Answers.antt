-- The claim is proofs/Calls', for every list of calls.
-- Assumes nothing.
use Rattle.explain_claim.proofs.Chosen.{one_rank}
use Rattle.explain_claim.proofs.Calls.{always}
use Rattle.explain_claim.proofs.explanation_refused_word.Goals as goal

pub returns : goal.returns
returns c = record { word = c.explanation_word.ensures; claim = always; rank = one_rank }
