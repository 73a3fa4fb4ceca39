-- `session::take_response` meets its contract: what is awaited decides; of the last two no command follows, whatever the buffer.
-- Assumes nothing.
use mathlib.Core.Path.{ap}
use Rattle.session.specs.Answer.{next_on_response}
use Rattle.session.proofs.Laws.{did_next}
use Rattle.session.proofs.take_response.Goals as goal

pub returns-in-Cryptogram : goal.returns-in-Cryptogram
returns-in-Cryptogram c = did_next (ap (next_on_response _ _) c.in-Cryptogram.is)
    (c.take_cryptogram.ensures _)

pub returns-in-Checksum : goal.returns-in-Checksum
returns-in-Checksum c = did_next (ap (next_on_response _ _) c.in-Checksum.is)
    (c.take_checksum.ensures _)
