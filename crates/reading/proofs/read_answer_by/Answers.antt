-- `reading::read_answer_by` meets its contract: its objects are listed, judged and stored (`whole`).
-- Assumes nothing.
use Rattle.reading.proofs.Stages.{whole}
use Rattle.reading.proofs.read_answer_by.Goals as goal

pub returns : goal.returns
returns g c = whole _ _ _ c.list_objects-listing.ensures c.take_listed.ensures c.take_listed.array_long
