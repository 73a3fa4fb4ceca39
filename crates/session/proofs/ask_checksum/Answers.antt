-- `session::ask_checksum` meets its contract: what was written determines which way `request_command_or_end_for_dol` goes.
-- Assumes nothing.
use mathlib.Core.Path.{refl}
use Rattle.command.specs.WithList.{compute_cryptographic_checksum}
use Rattle.session.specs.MagStripe.{awaited_checksum_with_limit, request_checksum}
use Rattle.session.proofs.Laws.{handed_none, handed_some}
use Rattle.session.proofs.ask_checksum.Goals as goal

pub returns-in_default : goal.returns-in_default
unfolding request_checksum
returns-in_default c =
    let a = c.args in
    let g = c.compute_cryptographic_checksum.ensures in
    handed_none a.bytes.now (awaited_checksum_with_limit a.limit) a.command.now
    (compute_cryptographic_checksum a.bytes.now) g.said g.kept c.in_default.is
    c.end_for.ensures

pub returns : goal.returns
unfolding request_checksum
returns c =
    let a = c.args in
    let g = c.compute_cryptographic_checksum.ensures in
    handed_some a.bytes.now (awaited_checksum_with_limit a.limit) a.command.now
    (compute_cryptographic_checksum a.bytes.now) g.said g.kept c.in-Some.is
    refl
