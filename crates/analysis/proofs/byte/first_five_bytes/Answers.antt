-- `byte::first_five_bytes` meets its contract: the first five bytes one by one (`front_five`).
-- Assumes nothing.
use Rattle.std.proofs.Common.{rules, get_or, sym, ◌∙◌}
use Rattle.analysis.proofs.Arrays.{from_fn_is}
use Rattle.analysis.proofs.Value.{front_five}
use Rattle.analysis.proofs.byte.first_five_bytes.Goals as goal

pub returns : goal.returns
returns c =
    from_fn_is _ (λ k. get_or c.args.s.now k 0) 0 _ (λ k y q r. search rules) 5 c.from_fn.ensures.items
    ∙ sym (front_five c.args.s.now)
