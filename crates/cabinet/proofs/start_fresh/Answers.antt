-- `cabinet::start_fresh` meets its contract: the kernel's start on a fresh session, its refusal, then 30; else store
-- and command are copied over.
-- Assumes nothing.
use mathlib.Core.Path.{ap, ◌∙◌}
use mathlib.Core.List.{List}
use Prim.Native.Nat.{ℕ, ◌-◌, ◌≤◌}
use native.Mathlib.Omega.{arith}
use lib.ListN.{length, replicate, length-replicate}
use borrow.Rule.Slice.PartMut.{put_mid}
use Rattle.dictionary.specs.Rows.{store_size}
use Rattle.session.specs.Steps.{least_buffer}
use Rattle.layout.specs.Layout.{record_head_size}
use Rattle.cabinet.specs.declared.Amounts.{Amounts}
use Rattle.cabinet.specs.Inner.{state_after_transition}
use Rattle.cabinet.proofs.Laws.{not_refused, fresh_store, fresh_size, fresh_length, fresh_refused}
use Rattle.cabinet.proofs.Laws.{fresh_left, fresh_taken}
use Rattle.cabinet.proofs.start_fresh.Goals as goal

-- the buffer of its own has room
own : least_buffer ≤ length {A = ℕ} (replicate least_buffer 0)
own = omega (arith, length-replicate {A = ℕ} least_buffer 0)

pub returns-in-Refused : goal.returns-in-Refused
returns-in-Refused c =
    fresh_refused c.args.terminal.now c.args.state.now _ c.args.command.now c.args.remaining own
    c.requires.least_buffer_in_bounds _ _ _
    c.start_on_parts-transition.ensures
    c.in-Refused.refusal _ c.refusal_word.ensures c.in-Refused.is

pub returns-then-remaining-amount : goal.returns-then-remaining-amount
returns-then-remaining-amount c =
    let q = c.amount_in-amount.ensures in
    fresh_left c.args.terminal.now c.args.state.now _ c.args.command.now c.args.remaining own
    c.requires.least_buffer_in_bounds _ _ _
    c.start_on_parts-transition.ensures
    (not_refused c.start_on_parts-transition.result.answer
    c.in_default.not-Refused) _ c.refusal_word-then-remaining-amount.ensures
    (omega (arith, c.if-remaining-amount.true, q))

pub hand_over-requires : goal.hand_over-requires
hand_over-requires c =
    let d = c.start_on_parts-transition.ensures in
    let s = fresh_size c.args.terminal.now c.args.state.now _ c.args.command.now c.args.remaining
    own c.requires.least_buffer_in_bounds _ _ _ d in
    let m = fresh_length c.args.terminal.now c.args.state.now _ c.args.command.now
    c.args.remaining own c.requires.least_buffer_in_bounds _ _ _ d in
    (omega (arith, s, m), omega (arith, s, length-replicate {A = ℕ} least_buffer 0, c.requires.least_buffer_in_bounds))

pub returns : goal.returns
returns c =
    let l = c.args.state.now in
    let d =
    c.start_on_parts-transition.ensures in
    let b =
    c.start_on_parts-transition.new.store in
    let a =
    c.amount_in-amount.ensures in
    let z = fresh_store c.args.terminal.now l _ c.args.command.now c.args.remaining own c.requires.least_buffer_in_bounds
    _ _ _ d in
    let k = c.copy_from_slice.ensures.after in
    let f = c.finish.ensures in
    let n =
    c.amount_in-amount.result in
    let amounts : Amounts = record { remaining = c.args.remaining - n; reserved = n } in
    fresh_taken c.args.terminal.now l _ c.args.command.now c.args.remaining own c.requires.least_buffer_in_bounds _ _ _
    d
    (not_refused
    c.start_on_parts-transition.result.answer
    c.in_default.not-Refused) c.requires.cabinet_state_size_in_bounds
    (omega (
      arith,
      c.if-remaining-amount.false,
      a,
    )) _ _ _ amounts (ap (λ (x : ℕ). c.args.remaining - x) a) a (
      f.0,
      f.1 ∙ ap
          (λ (x : List ℕ). state_after_transition
          c.start_on_parts-transition.result amounts
          (put_mid record_head_size store_size l x)) k,
    )
    c.hand_over.ensures
