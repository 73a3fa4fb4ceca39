-- `call_in`: the step on the copied bytes is the step on all of them, and the buffer goes back into its place.
-- Assumes nothing.
use Rattle.call_list.proofs.Loop.{placed}
use Rattle.call_list.proofs.call_in.Goals as goal

pub returns : goal.returns
returns c = placed _ _ _ _ _ c.requires c.min-n.ensures c.first_bytes-incoming.ensures c.make.ensures
