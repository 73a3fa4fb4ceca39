-- `session::after_gpo` meets its contract: two tests in turn, then the first record of the AFL if that satisfies its
-- rules, with the limit.
-- Assumes nothing.
use native.Mathlib.Omega.{arith}
use mathlib.Core.Path.{sym, ◌∙◌}
use Rattle.basics.specs.Choice.{if}
use Rattle.dictionary.proofs.Named.{at_94}
use Rattle.afl.proofs.Laws.{record_accepted}
use Rattle.session_record.proofs.Tags.{bytes_are}
use Rattle.session.specs.Answer.{next_after_gpo_read}
use Rattle.session.proofs.Laws.{found_there}
use Rattle.session.proofs.after_gpo.Goals as goal

pub returns-in_default : goal.returns-in_default
unfolding next_after_gpo_read if
returns-in_default c = grind arith

pub returns-in_default-is_emv_or_mag_stripe_mode : goal.returns-in_default-is_emv_or_mag_stripe_mode
unfolding next_after_gpo_read if
returns-in_default-is_emv_or_mag_stripe_mode c = grind arith

pub returns-in_default-kth_record_of_accepted_afl : goal.returns-in_default-kth_record_of_accepted_afl
unfolding next_after_gpo_read if
returns-in_default-kth_record_of_accepted_afl c = grind (arith, bytes_are c.args.bytes.now _ _ at_94)

pub ask_record-requires : goal.ask_record-requires
ask_record-requires c = (found_there _ _ c.kth_record_of_accepted_afl.ensures c.in-Some.is).0

pub returns : goal.returns
unfolding next_after_gpo_read if
returns c =
    let accepted = record_accepted _ _ _ (sym c.kth_record_of_accepted_afl.ensures ∙ c.in-Some.is) in
    grind (arith, bytes_are c.args.bytes.now _ _ at_94, accepted)
