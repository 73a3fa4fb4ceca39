-- What a line means by its first word. Assumes nothing.
use mathlib.Core.Path.{◌≡◌, sym, ap, subst, ◌∙◌}
use mathlib.Core.Logic.{inl, inr}
use lib.Dec.{eqb}
use mathlib.Core.List.{List}
use Prim.Native.Nat.{ℕ, ◌≤◌}
use lib.ListN.{length}
use borrow.Author.Tests.{le-ltb}
use Rattle.basics.proofs.Laws.{if_yes, if_no, bool_cases}
use Rattle.text_line.specs.declared.LineByteCount.{LineByteCount as BytesCount}
use Rattle.text_line.specs.declared.HexDecoded.{HexDecoded}
use Rattle.text_line.specs.Inner.{hex_decoded_count}
use Rattle.text_line.specs.Line.{line_if_hex_decoded}
use Rattle.std.specs.Prelude.{Option, Result, Ok, Err}
use Rattle.std.specs.Result.{MatchResult, IsOkAnd}
use Rattle.text_line.specs.declared.Line.{Line}
use Rattle.text_line.specs.declared.LineProblem.{LineProblem}
use Rattle.text_line.specs.declared.LineWord.{LineWord}
use Rattle.text_line.specs.Text.{uncommented, first_word, behind_first_word}
use Rattle.text_line.specs.Line.{line_word_of, LineMeaning, meaning_by_word, line_meaning, ReturnsLineMeaning}

pub meaning_by : (line out text rest first : List ℕ) (w v : Result (Option LineWord) LineProblem) → length line ≤ 8192
    → text ≡ uncommented line → rest ≡ behind_first_word text → first ≡ first_word text → w ≡ line_word_of first → w ≡ v
    → line_meaning line out ≡ meaning_by_word v rest out
unfolding line_meaning
meaning_by line out text rest first w v h a b d n e =
    if_no _ _ (le-ltb 8192 (length line) h) ∙ rw (← a, ← b, ← d, ← n, e)

pub says_as : {r : Result Line LineProblem} {exit : List ℕ} {m n : LineMeaning} → m ≡ n → ReturnsLineMeaning r exit n
    → ReturnsLineMeaning r exit m
says_as e s = rw e s

-- ---- a start or an answer

Mapped : (BytesCount → Line) → Result BytesCount LineProblem → Result Line LineProblem → Type 0
Mapped line r m = MatchResult r (λ x. IsOkAnd m (λ y. y ≡ line x)) (λ e. m ≡ Err e)

ok_is : (line : BytesCount → Line) (x : BytesCount) (m : Result Line LineProblem) → IsOkAnd m (λ y. y ≡ line x) → m ≡ Ok (line x)
ok_is line x (Ok y) k = ap Ok k
ok_is line x (Err e) k = absurd k

-- the count that was decoded, as a line
pub counted : (line : BytesCount → Line) (d : HexDecoded) (r : Result BytesCount LineProblem) (m : Result Line LineProblem)
    → r ≡ hex_decoded_count d → MatchResult r (λ x. IsOkAnd m (λ y. y ≡ line x)) (λ e. m ≡ Err e)
    → m ≡ line_if_hex_decoded line d
unfolding Mapped hex_decoded_count line_if_hex_decoded
counted line d r m e k = elim (bool_cases (eqb d.problem 0)) [
  | inl y ↦ ok_is line (record { size = d.size }) m (subst (λ (t : Result BytesCount LineProblem). Mapped line t m) (e ∙ if_yes _ _ y) k)
      ∙ sym (if_yes _ _ y)
  | inr n ↦ subst (λ (t : Result BytesCount LineProblem). Mapped line t m) (e ∙ if_no _ _ n) k ∙ sym (if_no _ _ n)
]
