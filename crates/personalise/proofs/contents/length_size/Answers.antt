-- `contents::length_size` meets its contract: by the two forms of a length below 256.
-- Assumes nothing.
use mathlib.Core.Path.{sym, ap}
use native.Mathlib.Omega.{arith}
use lib.ListN.{length}
use Rattle.personalise.proofs.Forms.{length_short, length_long}
use Rattle.personalise.proofs.contents.length_size.Goals as goal

pub returns-then-len-lt128 : goal.returns-then-len-lt128
returns-then-len-lt128 c = (sym (ap length (length_short _ c.if-len-lt128.true)), omega arith)

pub returns : goal.returns
returns c = (sym (ap length (length_long _ c.if-len-lt128.false c.requires)), omega arith)
