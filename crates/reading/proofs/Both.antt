-- Two readings that keep the promises of `read_answer` from equal stores are the same: a verdict is determined
-- by its number.
-- Assumes nothing.
use mathlib.Core.Path.{◌≡◌, refl, sym, ap, ap₂, ◌∙◌}
use mathlib.Core.List.{List}
use Prim.Native.Nat.{ℕ, zero, suc}
use Rattle.reading.specs.declared.Awaited.{Awaited}
use Rattle.reading.specs.declared.ResponseVerdict.{ResponseVerdict}
use Rattle.reading.specs.declared.ResponseVerdict.TheVariants.{Accepted, BadStatus, Malformed, NotAllowed}
use Rattle.reading.specs.declared.Reading.{Reading}
use Rattle.reading.specs.Answer.{verdict_number, ReadingOutcome, read_answer}
use Rattle.reading.specs.Inner.{reading_of}
use Rattle.reading.specs.Both.{ReadAnswerPromises, ReadersAgree}

verdict_of : ℕ → ResponseVerdict
verdict_of zero = Accepted
verdict_of (suc zero) = BadStatus
verdict_of (suc (suc zero)) = Malformed
verdict_of (suc (suc (suc n))) = NotAllowed

verdict_is : (v : ResponseVerdict) → v ≡ verdict_of (verdict_number v)
unfolding verdict_of
verdict_is Accepted = refl
verdict_is BadStatus = refl
verdict_is Malformed = refl
verdict_is NotAllowed = refl

module _ {a : Awaited} {s b : List ℕ} {r : Reading} {c : List ℕ} (p : ReadAnswerPromises a s b r c) where
  pub agree : {d : List ℕ} {q : Reading} {e : List ℕ} → ReadAnswerPromises a s d q e → b ≡ d
      → ReadersAgree (record { recursive = r; flat = q }) c e
  agree {d} {q} {e} o z =
      let same : read_answer a b s ≡ read_answer a d s = ap (λ (x : List ℕ). read_answer a x s) z in
      let number : verdict_number r.verdict ≡ verdict_number q.verdict = p.given.reason
      ∙ ap (λ (x : ReadingOutcome). x.reason) same ∙ sym o.given.reason in
      let objects : r.objects ≡ q.objects = p.given.objects ∙ ap (λ (x : ReadingOutcome). x.objects) same
      ∙ sym o.given.objects in
      let verdict : r.verdict ≡ q.verdict = verdict_is r.verdict ∙ ap verdict_of number
      ∙ sym (verdict_is q.verdict) in
      record {
        readings = ap₂ reading_of verdict objects;
        stores = p.given.store ∙ ap (λ (x : ReadingOutcome). x.store) same ∙ sym o.given.store;
      }
