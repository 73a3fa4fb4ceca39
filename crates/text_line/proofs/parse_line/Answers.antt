-- `text_line::parse_line` meets its contract. Past the length the first word decides.
-- Assumes nothing.
use Rattle.std.specs.Prelude.{Some, Ok, Err}
use mathlib.Core.Path.{refl, ap, ◌∙◌}
use borrow.Author.Tests.{lt-ltb}
use Rattle.std.proofs.lemmas.Result.{err_from_is_err_and}
use Rattle.basics.proofs.Laws.{if_yes}
use Rattle.text_line.specs.declared.Line.{Line}
use Rattle.text_line.specs.Line.{line_if_hex_decoded, meaning_by_word, line_meaning}
use Rattle.text_line.proofs.Meaning.{meaning_by, says_as, counted}
use Rattle.text_line.proofs.parse_line.Goals as goal

pub returns-then-line-gt-MOST : goal.returns-then-line-gt-MOST
unfolding line_meaning
returns-then-line-gt-MOST c = says_as (if_yes _ _ (lt-ltb _ _ c.if-line-gt-MOST.true)) (record { line = refl; buffer = refl })

pub returns-in_default : goal.returns-in_default
unfolding meaning_by_word
returns-in_default c =
    says_as (meaning_by _ _ _ _ _ _ _ c.if-line-gt-MOST.false c.uncommented-text.ensures c.after_first_word-rest.ensures
    c.first_word.ensures c.word_named.ensures (c.in_ok-word.was ∙ ap Ok c.in_default.is)) (record { line = refl; buffer = refl })

pub returns-in-Start : goal.returns-in-Start
unfolding meaning_by_word
returns-in-Start c =
    says_as (meaning_by _ _ _ _ _ _ _ c.if-line-gt-MOST.false c.uncommented-text.ensures c.after_first_word-rest.ensures
    c.first_word.ensures c.word_named.ensures (c.in_ok-word.was ∙ ap Ok (c.in-Some.is ∙ ap Some c.in-Start.is)))
    (record {
      line = counted Line.Start c.decode_hex.result _ _ c.count_of.ensures c.map.ensures.cases
          ∙ ap (line_if_hex_decoded Line.Start) c.decode_hex.ensures.report;
      buffer =
          c.decode_hex.ensures.buffer;
    })

pub returns-in-Answer : goal.returns-in-Answer
unfolding meaning_by_word
returns-in-Answer c =
    says_as (meaning_by _ _ _ _ _ _ _ c.if-line-gt-MOST.false c.uncommented-text.ensures c.after_first_word-rest.ensures
    c.first_word.ensures c.word_named.ensures (c.in_ok-word.was ∙ ap Ok (c.in-Some.is ∙ ap Some c.in-Answer.is)))
    (record {
      line = counted Line.Answer c.decode_hex-in-Answer.result _ _ c.count_of-in-Answer.ensures c.map-in-Answer.ensures.cases
          ∙ ap (line_if_hex_decoded Line.Answer) c.decode_hex-in-Answer.ensures.report;
      buffer =
          c.decode_hex-in-Answer.ensures.buffer;
    })

pub returns-in-LinkFailed : goal.returns-in-LinkFailed
unfolding meaning_by_word
returns-in-LinkFailed c =
    says_as (meaning_by _ _ _ _ _ _ _ c.if-line-gt-MOST.false c.uncommented-text.ensures c.after_first_word-rest.ensures
    c.first_word.ensures c.word_named.ensures (c.in_ok-word.was ∙ ap Ok (c.in-Some.is ∙ ap Some c.in-LinkFailed.is)))
    (record { line = c.alone.ensures; buffer = refl })

pub returns-in-Stop : goal.returns-in-Stop
unfolding meaning_by_word
returns-in-Stop c =
    says_as (meaning_by _ _ _ _ _ _ _ c.if-line-gt-MOST.false c.uncommented-text.ensures c.after_first_word-rest.ensures
    c.first_word.ensures c.word_named.ensures (c.in_ok-word.was ∙ ap Ok (c.in-Some.is ∙ ap Some c.in-Stop.is)))
    (record { line = c.alone-in-Stop.ensures; buffer = refl })

pub returns-in-Buffer : goal.returns-in-Buffer
unfolding meaning_by_word
returns-in-Buffer c =
    let e = c.size_line.ensures in
    let w = c.first_word-in-Buffer.ensures in
    let t = c.after_first_word.ensures in
    says_as (meaning_by _ _ _ _ _ _ _ c.if-line-gt-MOST.false c.uncommented-text.ensures c.after_first_word-rest.ensures
    c.first_word.ensures c.word_named.ensures (c.in_ok-word.was ∙ ap Ok (c.in-Some.is ∙ ap Some c.in-Buffer.is)))
    (record { line = c.alone-in-Buffer.ensures ∙ rw (e, w, t); buffer = refl })

pub returns-in-Session : goal.returns-in-Session
unfolding meaning_by_word
returns-in-Session c =
    says_as (meaning_by _ _ _ _ _ _ _ c.if-line-gt-MOST.false c.uncommented-text.ensures c.after_first_word-rest.ensures
    c.first_word.ensures c.word_named.ensures (c.in_ok-word.was ∙ ap Ok (c.in-Some.is ∙ ap Some c.in-Session.is)))
    (record { line = c.alone-in-Session.ensures; buffer = refl })

pub returns-in_err-word : goal.returns-in_err-word
unfolding meaning_by_word
returns-in_err-word c =
    let e = err_from_is_err_and c.from_residual.result c.from_residual.ensures.1 in
    says_as (meaning_by _ _ _ _ _ _ _ c.if-line-gt-MOST.false c.uncommented-text.ensures c.after_first_word-rest.ensures
    c.first_word.ensures c.word_named.ensures c.in_err-word.was)
    (record { line = e.1 ∙ ap Err e.2; buffer = refl })
