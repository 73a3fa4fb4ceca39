-- `session::take_checksum` meets its contract: a track that cannot take the digits apart, the reading is accepted or
-- not, and each has its law.
-- Assumes nothing.
use mathlib.Core.Path.{sym, ◌∙◌}
use Rattle.reading.specs.declared.Awaited.{Awaited}
use Rattle.analysis.specs.Cvm.{cvm_number_not_applicable}
use Rattle.session.specs.MagStripe.{next_if_track_takes_digits, next_on_checksum_response}
use Rattle.session.proofs.Laws.{did_next, did_end, read_goes, read_ends, taken_sound}
use Rattle.session.proofs.take_checksum.Goals as goal

pub refuse_track-requires : goal.refuse_track-requires
refuse_track-requires c = sym c.can_track_take_digits.ensures ∙ c.in_default.if-can_track_take_digits-false

pub returns-in_default : goal.returns-in_default
returns-in_default c buf = c.refuse_track.ensures buf

pub returns-in_default-verdict : goal.returns-in_default-verdict
unfolding next_on_checksum_response
returns-in_default-verdict c buf =
    let a = c.args in
    did_end c.fail_reading.ensures
    (read_ends Awaited.Checksum cvm_number_not_applicable a.store.now a.card.now
    (next_if_track_takes_digits a.store.now) c.read_answer-verdict.ensures.given c.in_default-verdict.not-Accepted)

pub returns : goal.returns
unfolding next_on_checksum_response
returns c buf =
    let a = c.args in
    did_next
    (read_goes Awaited.Checksum cvm_number_not_applicable a.store.now a.card.now
    (next_if_track_takes_digits a.store.now) c.read_answer-verdict.ensures.given c.in-Accepted.is
    ∙ taken_sound a.store.now _ (sym c.can_track_take_digits.ensures ∙ c.in-true.is))
    (c.checksum_outcome.ensures buf)
