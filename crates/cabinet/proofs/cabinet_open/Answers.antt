-- `cabinet::cabinet_open` meets its contract: too few bytes, then the cap; else a fresh record with the
-- amounts after it.
-- Assumes nothing.
use borrow.Author.Tests.{lt-ltb, le-ltb}
use mathlib.Core.Path.{sym, ap, ◌∙◌}
use mathlib.Core.List.{List}
use Prim.Native.Nat.{ℕ}
use Rattle.basics.proofs.Laws.{if_yes, if_no}
use Rattle.session_record.specs.declared.Phase.{Phase}
use Rattle.session_record.specs.Session.{session_of, fresh_session}
use Rattle.session_record.proofs.Phases.{store_size_lem, fresh_keeps}
use Rattle.layout.specs.Layout.{session_written_over_front_if_room}
use Rattle.cabinet.specs.declared.Amounts.{Amounts}
use Rattle.cabinet.specs.Calls.{cabinet_open_word, cabinet_open_state}
use Rattle.cabinet.specs.Inner.{state_with_amounts}
use Rattle.cabinet.proofs.State.{amounts_behind}
use Rattle.cabinet.proofs.cabinet_open.Goals as goal

pub returns-then-state-lt-STATE_SIZE : goal.returns-then-state-lt-STATE_SIZE
unfolding cabinet_open_word cabinet_open_state
returns-then-state-lt-STATE_SIZE c = let t = lt-ltb _ _ c.if-state-lt-STATE_SIZE.true in
    record { word = c.refusal_word.ensures ∙ sym (if_yes _ _ t); state = sym (if_yes _ _ t) }

pub returns-then-cap-gt-MOST_AMOUNT : goal.returns-then-cap-gt-MOST_AMOUNT
unfolding cabinet_open_word cabinet_open_state
returns-then-cap-gt-MOST_AMOUNT c =
    let e = le-ltb _ _ c.if-state-lt-STATE_SIZE.false in
    let t = lt-ltb _ _ c.if-cap-gt-MOST_AMOUNT.true in
    record {
      word = c.refusal_word-then-cap-gt-MOST_AMOUNT.ensures ∙ sym (if_no _ _ e ∙ if_yes _ _ t);
      state =
          sym (if_no _ _ e ∙ if_yes _ _ t);
    }

pub returns : goal.returns
unfolding cabinet_open_word cabinet_open_state
returns c =
    let a =
    c.args in
    let l = a.state.now in
    let amounts : Amounts = record { remaining = a.cap; reserved = 0 } in
    let h = c.if-state-lt-STATE_SIZE.false
    in
    let e = le-ltb _ _ h in
    let t =
    le-ltb _ _ c.if-cap-gt-MOST_AMOUNT.false in
    record {
      word = sym (if_no _ _ e ∙ if_no _ _ t);
      state =
          c.put_amounts.ensures
          ∙ ap (state_with_amounts amounts)
          (c.encode_record.ensures.bytes ∙ ap
          (λ (b : List ℕ). session_written_over_front_if_room (session_of Phase.Fresh 0 b) l)
          c.empty-store.ensures)
          ∙ amounts_behind fresh_session (store_size_lem fresh_session fresh_keeps) l amounts h
          ∙ sym (if_no _ _ e ∙ if_no _ _ t);
    }
