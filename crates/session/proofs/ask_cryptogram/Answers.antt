-- `session::ask_cryptogram` meets its contract: what was written determines which way `request_command_or_end_for_dol` goes.
-- Assumes nothing.
use mathlib.Core.Path.{refl, ap, ◌∙◌}
use Prim.Native.Nat.{ℕ}
use Rattle.basics.specs.Reason.{reason_dol_broken_or_bad_length}
use Rattle.command.specs.WithList.{dol_command_of, buffer_with_command, generate_ac}
use Rattle.analysis.specs.Choice.{generate_ac_p1}
use Rattle.session_record.specs.declared.AwaitedResponse.{AwaitedResponse}
use Rattle.session_record.specs.Session.{ending_for_reason}
use Rattle.session.specs.declared.NextStep.{NextStep}
use Rattle.session.specs.Answer.{request_cryptogram}
use Rattle.session.proofs.Laws.{handed_none, handed_some}
use Rattle.session.proofs.ask_cryptogram.Goals as goal

pub returns-in_default : goal.returns-in_default
unfolding request_cryptogram
returns-in_default c =
    let a = c.args in
    let p = c.generate_ac_p1-p1.ensures in
    handed_none a.bytes.now (AwaitedResponse.Cryptogram a.asked) a.command.now
    (generate_ac (generate_ac_p1 a.asked.choice) a.bytes.now)
    (c.generate_ac.ensures.said ∙ ap (λ (n : ℕ). dol_command_of (generate_ac n a.bytes.now)) p)
    (c.generate_ac.ensures.kept ∙ ap (λ (n : ℕ). buffer_with_command (generate_ac n a.bytes.now) a.command.now)
    p)
    c.in_default.is
    (c.end_for.ensures ∙ ap (NextStep.End (ending_for_reason reason_dol_broken_or_bad_length))
    c.cvm_number.ensures)

pub returns : goal.returns
unfolding request_cryptogram
returns c =
    let a = c.args in
    let p = c.generate_ac_p1-p1.ensures in
    handed_some a.bytes.now (AwaitedResponse.Cryptogram a.asked) a.command.now
    (generate_ac (generate_ac_p1 a.asked.choice) a.bytes.now)
    (c.generate_ac.ensures.said ∙ ap (λ (n : ℕ). dol_command_of (generate_ac n a.bytes.now)) p)
    (c.generate_ac.ensures.kept ∙ ap (λ (n : ℕ). buffer_with_command (generate_ac n a.bytes.now) a.command.now)
    p)
    c.in-Some.is refl
