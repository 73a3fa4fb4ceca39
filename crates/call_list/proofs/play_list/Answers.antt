-- `play_list`: one law for each way out; the claim and the reading back are cited.
-- Assumes nothing.
use mathlib.Core.Path.{refl}
use Rattle.call_list.proofs.Back.{read_back}
use Rattle.call_list.proofs.Whole.{ready, runs_not, runs_played}
use Rattle.call_list.proofs.play_list.Goals as goal

pub returns-then-is_err : goal.returns-then-is_err
returns-then-is_err c = record {
  plays_list_in_bytes = runs_not _ _ _ _ c.if-is_err.ensures.value (rw c.fresh_session-session.ensures refl)
      c.playable-said.ensures;
  every_list = read_back;
}

pub play_all-session-requires : goal.play_all-session-requires
play_all-session-requires c = (ready _ _ _ c.if-is_err.ensures.value c.playable-said.ensures).0

pub returns : goal.returns
returns c = record {
  plays_list_in_bytes = runs_played _ _ _ _ _ _ c.if-is_err.ensures.value c.playable-said.ensures c.play_all-session.ensures;
  every_list = read_back;
}
