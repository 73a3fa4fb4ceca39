-- `cabinet::finish` meets its contract: a refusal writes nothing; else the head, and the amounts by the answer.
-- Assumes nothing.
use mathlib.Core.Path.{sym, ap, ap₂, ◌∙◌}
use mathlib.Core.List.{List}
use Prim.Native.Nat.{ℕ}
use Rattle.session.specs.Calls.{is_refusal}
use Rattle.session_record.specs.declared.CallResult.{CallResult}
use Rattle.layout.specs.Word.{result_word}
use Rattle.cabinet.specs.declared.Amounts.{Amounts}
use Rattle.cabinet.specs.Inner.{state_with_amounts, amounts_after_result}
use Rattle.cabinet.proofs.Laws.{finished_taken}
use Rattle.cabinet.proofs.finish.Goals as goal
use Rattle.cabinet.proofs.finish.Goals.{in-Command, in-Outcome}

pub returns : goal.returns
returns c =
    let a = c.args in
    elim c.match-answer.branch [
      | in-Command w ↦ (
        c.result_word-2.ensures ∙ ap result_word w.answer-is,
        c.put_amounts.ensures
            ∙ ap₂ (λ (x : Amounts) (y : List ℕ). state_with_amounts x y)
            (w.after-is ∙ sym (ap (λ (x : CallResult). amounts_after_result x a.amounts) w.in-Command.is))
            c.write_record_head.ensures
            ∙ finished_taken a.transition.answer a.transition a.amounts a.state.now (ap is_refusal w.in-Command.is),
      )
      | in-Outcome w ↦ (
        c.result_word-2.ensures ∙ ap result_word (w.answer-is ∙ sym w.in-Outcome.is),
        c.put_amounts.ensures
            ∙ ap₂ (λ (x : Amounts) (y : List ℕ). state_with_amounts x y)
            (w.after-is ∙ (λ i. record { remaining = w.left_after.ensures i; reserved = 0 }) ∙ sym
            (ap (λ (x : CallResult). amounts_after_result x a.amounts) w.in-Outcome.is))
            c.write_record_head.ensures
            ∙ finished_taken a.transition.answer a.transition a.amounts a.state.now (ap is_refusal w.in-Outcome.is),
      )
    ]
