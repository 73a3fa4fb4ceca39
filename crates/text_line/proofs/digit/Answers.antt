-- `text_line::digit` meets its contract. By the three runs of digits.
-- Assumes nothing.
use mathlib.Core.Path.{sym}
use mathlib.Core.Logic.{inl, inr}
use native.Mathlib.Omega.{arith}
use Rattle.text_line.proofs.Digits.{digit_small, digit_capital, digit_letter, digit_none}
use Rattle.text_line.proofs.digit.Goals as goal

pub returns-in-48-to-57 : goal.returns-in-48-to-57
returns-in-48-to-57 c = (sym (digit_small c.args.c (omega arith) (omega arith)), omega arith)

pub returns-in-65-to-70 : goal.returns-in-65-to-70
returns-in-65-to-70 c = let e = digit_capital c.args.c (omega arith) (omega arith) in (sym e, omega arith)

pub returns-in-97-to-102 : goal.returns-in-97-to-102
returns-in-97-to-102 c = let e = digit_letter c.args.c (omega arith) (omega arith) in (sym e, omega arith)

pub returns-in_default : goal.returns-in_default
returns-in_default c = (sym (digit_none c.args.c (inl (omega arith)) (inl (omega arith)) (inl (omega arith))), omega arith)

pub returns-in_default-2 : goal.returns-in_default-2
returns-in_default-2 c = (sym (digit_none c.args.c (inr (omega arith)) (inl (omega arith)) (inl (omega arith))), omega arith)

pub returns-in_default-3 : goal.returns-in_default-3
returns-in_default-3 c = (sym (digit_none c.args.c (inr (omega arith)) (inr (omega arith)) (inl (omega arith))), omega arith)

pub returns-in_default-4 : goal.returns-in_default-4
returns-in_default-4 c = (sym (digit_none c.args.c (inr (omega arith)) (inr (omega arith)) (inr (omega arith))), omega arith)
