-- `writing::put_length` meets its contract: the stores, one by one, are the length's bytes.
-- Assumes nothing.
use mathlib.Core.Path.{ap}
use mathlib.Core.List.{[], ◌∷◌}
use native.Mathlib.Omega.{arith}
use lib.ListN.{length, length-set}
use Rattle.personalise.proofs.Forms.{length_short, length_long}
use Rattle.personalise.proofs.Over.{sets_put, two_put}
use Rattle.personalise.proofs.writing.put_length.Goals as goal

pub bounds-out-at : goal.bounds-out-at
bounds-out-at c = let l = ap length (length_short c.args.len c.if-len-lt128.true) in omega arith

pub returns-then-len-lt128 : goal.returns-then-len-lt128
returns-then-len-lt128 c =
    let a = c.args in
    let e = length_short a.len c.if-len-lt128.true in
    let l = ap length e in
    sets_put a.out.now a.at (a.len ∷ []) (omega arith) e

pub bounds-out-at-2 : goal.bounds-out-at-2
bounds-out-at-2 c = let l = ap length (length_long c.args.len c.if-len-lt128.false c.requires.0) in omega arith

pub bounds-out-at-3 : goal.bounds-out-at-3
bounds-out-at-3 c = let l = ap length (length_long c.args.len c.if-len-lt128.false c.requires.0) in simp length-set (omega arith)

pub returns : goal.returns
returns c =
    let a = c.args in
    let e = length_long a.len c.if-len-lt128.false c.requires.0 in
    let l = ap length e in
    two_put a.out.now a.at 0x81 a.len (omega arith) e
