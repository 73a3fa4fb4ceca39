-- `cabinet::admit` meets its contract: the buffer's size first, then what the state reports.
-- Assumes nothing.
use Rattle.std.specs.Prelude.{Err}
use Rattle.std.specs.Option.{ok_or}
use borrow.Author.Tests.{lt-ltb, le-ltb}
use mathlib.Core.Path.{sym, ap, ap₂, ◌∙◌}
use Prim.Native.Nat.{ℕ}
use Rattle.basics.proofs.Laws.{if_yes, if_no}
use Rattle.cabinet.specs.Inner.{admission_by_state_and_buffer_size}
use Rattle.cabinet.proofs.admit.Goals as goal

pub returns-then-size-lt-LEAST_BUFFER : goal.returns-then-size-lt-LEAST_BUFFER
unfolding admission_by_state_and_buffer_size
returns-then-size-lt-LEAST_BUFFER c = ap (λ (w : ℕ). Err w) c.refusal_word.ensures ∙ sym
    (if_yes _ _ (lt-ltb _ _ c.if-size-lt-LEAST_BUFFER.true))

pub returns : goal.returns
unfolding admission_by_state_and_buffer_size
returns c =
    c.ok_or.ensures.value
    ∙ ap₂ (λ x w. ok_or x w) c.holding_in.ensures c.refusal_word-2.ensures
    ∙ sym (if_no _ _ (le-ltb _ _ c.if-size-lt-LEAST_BUFFER.false))
