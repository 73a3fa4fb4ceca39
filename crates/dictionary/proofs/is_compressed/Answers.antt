-- `dictionary::is_compressed` meets its contract. The first byte that is not two decimal digits decides.
-- Assumes nothing.
use mathlib.Core.Path.{◌∙◌}
use native.Mathlib.Omega.{arith}
use borrow.Author.Tests.{ne_eqb}
use Rattle.std.proofs.lemmas.List.Sums.{prefix_len-le-length}
use Rattle.dictionary.specs.Inner.{is_decimal_byte}
use Rattle.dictionary.proofs.Digits.{behind, is_other, is_half, is_wrong, all_digits}
use Rattle.dictionary.proofs.is_compressed.Goals as goal

pub slice_bounds-t-8-count : goal.slice_bounds-t-8-count
slice_bounds-t-8-count c = omega (arith, prefix_len-le-length is_decimal_byte c.args.v.now)

pub slice_bounds-t-9-start : goal.slice_bounds-t-9-start
slice_bounds-t-9-start c = omega (arith, prefix_len-le-length is_decimal_byte c.args.v.now)

pub returns-in-empty : goal.returns-in-empty
returns-in-empty c = all_digits _ (behind _ c.digit_bytes.ensures) c.in-empty.len_below

pub returns-then-b-eq15 : goal.returns-then-b-eq15
returns-then-b-eq15 c =
    c.only_fs.ensures
    ∙ is_half _ (behind _ c.digit_bytes.ensures) (omega arith) c.if-b-lt10.true c.if-b-eq15.true

pub returns-else-b-eq15 : goal.returns-else-b-eq15
returns-else-b-eq15 c =
    ne_eqb _ _ c.if-b-eq15.false
    ∙ is_wrong _ (behind _ c.digit_bytes.ensures) (omega arith) c.if-b-lt10.true c.if-b-eq15.false

pub returns-in_default : goal.returns-in_default
returns-in_default c =
    c.only_fs-in_default.ensures ∙ is_other _ (behind _ c.digit_bytes.ensures) (omega arith) c.if-b-lt10.false
