-- `session::refuse_track` meets its contract: the reading's reason, or that of the track; the store stays.
-- Assumes nothing.
use Rattle.session.proofs.Laws.{did_end, unsound_read, unsound_kept}
use Rattle.session.proofs.refuse_track.Goals as goal

pub returns-in_default : goal.returns-in_default
returns-in_default c buf =
    did_end c.fail_reading.ensures
    (unsound_read c.args.bytes.now c.args.card.now c.judge_answer-verdict.result c.requires
    c.judge_answer-verdict.ensures c.in_default.not-Accepted)

pub returns : goal.returns
returns c buf =
    did_end c.end_for.ensures (unsound_kept c.args.bytes.now c.args.card.now
    c.judge_answer-verdict.result c.requires c.judge_answer-verdict.ensures c.in-Accepted.is)
