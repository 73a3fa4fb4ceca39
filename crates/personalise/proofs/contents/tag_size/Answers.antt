-- `contents::tag_size` meets its contract: by the number of bytes of a tag.
-- Assumes nothing.
use mathlib.Core.Path.{sym, ap}
use native.Mathlib.Omega.{arith}
use lib.ListN.{length}
use Rattle.personalise.proofs.Forms.{tag_one, tag_two, tag_three}
use Rattle.personalise.proofs.contents.tag_size.Goals as goal

pub returns-then-tag-lt256 : goal.returns-then-tag-lt256
returns-then-tag-lt256 c = (sym (ap length (tag_one _ c.if-tag-lt256.true)), omega arith)

pub returns-then-tag-lt65536 : goal.returns-then-tag-lt65536
returns-then-tag-lt65536 c = (sym (ap length (tag_two _ c.if-tag-lt256.false c.if-tag-lt65536.true)), omega arith)

pub returns : goal.returns
returns c = (sym (ap length (tag_three _ c.if-tag-lt65536.false)), omega arith)
