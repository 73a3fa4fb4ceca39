-- The examples are computed in proofs/. Assumes nothing.
use Rattle.worked_examples.proofs.Gpo.{on_gpo_lem}
use Rattle.worked_examples.proofs.Records.{on_last_record, on_last_mag_stripe}
use Rattle.worked_examples.proofs.Cryptogram.{on_cryptogram_lem}
use Rattle.worked_examples.proofs.Checksum.{on_checksum_lem}
use Rattle.worked_examples.proofs.Encodings.{encodings}
use Rattle.worked_examples.proofs.Lists.{lists}
use Rattle.worked_examples.proofs.Refusals.{refusals}
use Rattle.worked_examples.proofs.Journal.{journal}
use Rattle.worked_examples.proofs.CallLists.{lists_of_calls}
use Rattle.worked_examples.proofs.examples_hold.Goals as goal

pub returns : goal.returns
returns c = record { gpo = on_gpo_lem; records = on_last_record; mag_stripe = on_last_mag_stripe; cryptogram = on_cryptogram_lem; checksum = on_checksum_lem; encodings = encodings; lists = lists; refusals = refusals; journal = journal; call_lists = lists_of_calls }
