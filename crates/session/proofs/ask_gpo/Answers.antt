-- `session::ask_gpo` meets its contract: what was written determines which way `request_command_or_end_for_dol` goes.
-- Assumes nothing.
use mathlib.Core.Path.{refl}
use Rattle.command.specs.WithList.{get_processing_options}
use Rattle.session_record.specs.declared.AwaitedResponse.{AwaitedResponse}
use Rattle.session.specs.Start.{request_gpo}
use Rattle.session.proofs.Laws.{handed_none, handed_some}
use Rattle.session.proofs.ask_gpo.Goals as goal

pub returns-in_default : goal.returns-in_default
unfolding request_gpo
returns-in_default c =
    let a = c.args in
    let g = c.get_processing_options.ensures in
    handed_none a.bytes.now AwaitedResponse.Gpo a.command.now (get_processing_options a.bytes.now)
    g.said g.kept c.in_default.is c.end_for.ensures

pub returns : goal.returns
unfolding request_gpo
returns c =
    let a = c.args in
    let g = c.get_processing_options.ensures in
    handed_some a.bytes.now AwaitedResponse.Gpo a.command.now (get_processing_options a.bytes.now)
    g.said g.kept c.in-Some.is refl
