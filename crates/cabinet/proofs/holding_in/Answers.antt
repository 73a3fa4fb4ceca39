-- `cabinet::holding_in` meets its contract: each way out is one of the tests of a state, the session's ranges apart.
-- Assumes nothing.
use Rattle.std.specs.Prelude.{Some}
use mathlib.Core.Path.{◌≡◌, sym, ap₂, ◌∙◌}
use Prim.Native.Nat.{ℕ, ◌+◌}
use lib.Dec.{leb}
use Rattle.layout.proofs.Laws.{held_none, held_session}
use Rattle.cabinet.specs.State.{greatest_twelve_digit_amount}
use Rattle.cabinet.proofs.Laws.{holding_short, holding_none_lem, holding_undue, holding_over, holding_fits}
use Rattle.cabinet.proofs.holding_in.Goals as goal

-- the test of the sum, by the amounts that were read
summed : {b m n : _} {x y : ℕ} → b ≡ leb (m + n) greatest_twelve_digit_amount → m ≡ x → n ≡ y
    → leb (x + y) greatest_twelve_digit_amount ≡ b
summed e f g = sym (e ∙ ap₂ (λ (x y : ℕ). leb (x + y) greatest_twelve_digit_amount) f g)

pub returns-then-state-lt-STATE_SIZE : goal.returns-then-state-lt-STATE_SIZE
returns-then-state-lt-STATE_SIZE c = sym (holding_short _ c.if-state-lt-STATE_SIZE.true)

pub returns-in_err-head : goal.returns-in_err-head
returns-in_err-head c =
    rw c.from_residual.ensures (sym
    (holding_none_lem _ c.if-state-lt-STATE_SIZE.false (held_none _ (sym c.decode_record_head.ensures ∙ c.in_err-head.was))))

pub returns-then-reserved-due : goal.returns-then-reserved-due
returns-then-reserved-due c =
    sym
    (holding_undue _ c.if-state-lt-STATE_SIZE.false _ _ (held_session _ _ (sym c.decode_record_head.ensures ∙ c.in_ok-head.was))
    (λ e. c.if-reserved-due.true (c.amount_at-reserved.ensures ∙ e ∙ sym c.due.ensures)))

pub returns-then-not-is_within : goal.returns-then-not-is_within
returns-then-not-is_within c =
    sym
    (holding_over _ c.if-state-lt-STATE_SIZE.false _ _ (held_session _ _ (sym c.decode_record_head.ensures ∙ c.in_ok-head.was))
    (summed c.is_within.ensures c.amount_at-remaining.ensures c.amount_at-reserved.ensures ∙ c.if-not-is_within.true))

pub returns : goal.returns
returns c =
    ap₂
    (λ (n a : ℕ). Some
    (record { phase = c.in_ok-head.head.phase; count = c.in_ok-head.head.count; amounts = record { remaining = n; reserved = a } }))
    c.amount_at-remaining.ensures c.amount_at-reserved.ensures
    ∙ sym
    (holding_fits _ c.if-state-lt-STATE_SIZE.false _ _ (held_session _ _ (sym c.decode_record_head.ensures ∙ c.in_ok-head.was))
    (sym c.amount_at-reserved.ensures ∙ c.if-reserved-due.false ∙ c.due.ensures)
    (summed c.is_within.ensures c.amount_at-remaining.ensures c.amount_at-reserved.ensures ∙ c.if-not-is_within.false))
