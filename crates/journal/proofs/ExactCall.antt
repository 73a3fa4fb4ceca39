-- A whole record of bytes that stands for a call is what that call is written as: the length's two bytes come back, and
-- what is after the bytes that it counts is as many zeros.
-- Assumes nothing.
use Rattle.std.specs.Prelude.{Option, Some, None}
use mathlib.Core.Path.{◌≡◌, refl, sym, ap, ap₂, subst, ◌∙◌}
use mathlib.Core.Bool.{true}
use mathlib.Core.Logic.{◌⊎◌, inl, inr}
use mathlib.Core.List.{List, [], ◌∷◌, ◌++◌}
use Prim.Native.Nat.{ℕ, zero, suc, ◌+◌, ◌-◌, ◌*◌, ◌≤◌, ◌<◌}
use native.Mathlib.Omega.{arith}
use lib.ListN.{length, get_or, take, drop, replicate, length-drop, length-replicate, take-append-drop, get_or-append}
use lib.ListN.{get_or-eq_default}
use lib.Seq.{length-take-le, get_or-append-add}
use borrow.Author.Tests.{eqb-true, le-leb, lt-leb}
use Rattle.basics.specs.Choice.{if, every}
use Rattle.basics.proofs.Laws.{if_yes, if_no, if_ind, both_left, both_right}
use Rattle.basics.proofs.Order.{le-or-gt}
use Rattle.store.specs.Held.{is_zero_byte}
use Rattle.session.specs.Calls.{Call, answer}
use Rattle.journal.specs.Record.{journal_record_size, length_then_padded_bytes, journal_record_length_field}
use Rattle.journal.specs.Record.{journal_record_data, journal_length_and_zero_padding_valid, is_too_long_answer_record}
use Rattle.journal.specs.Record.{journal_command_buffer, answer_of259_zero_bytes}
use Rattle.journal.specs.Record.{journal_call_record, start_call_from_record, answer_call_from_record}
use Rattle.journal.specs.Record.{call_from_journal_record}
use Rattle.journal.specs.ConformingRecords.{AllEntriesBelow256, CallBytesAllBelow256}
use Rattle.journal.proofs.Reading.{fits_length, size_start, size_answer}

-- ---- bytes

pub bytes_front : (r more : List ℕ) → AllEntriesBelow256 (r ++ more) → AllEntriesBelow256 r
bytes_front r more g i = elim (le-or-gt (length r) i) [
  | inl h ↦ omega (arith, get_or-eq_default r 0 h)
  | inr h ↦ omega (arith, get_or-append r more 0 i h, g i)
]

pub bytes_behind : (r more : List ℕ) → AllEntriesBelow256 (r ++ more) → AllEntriesBelow256 more
bytes_behind r more g i = omega (arith, get_or-append-add r more i 0, g (length r + i))

bytes_take : (n : ℕ) (l : List ℕ) → AllEntriesBelow256 l → AllEntriesBelow256 (take n l)
bytes_take n l g = bytes_front (take n l) (drop n l) (subst AllEntriesBelow256 (sym (take-append-drop n l)) g)

bytes_drop : (n : ℕ) (l : List ℕ) → AllEntriesBelow256 l → AllEntriesBelow256 (drop n l)
bytes_drop n l g = bytes_behind (take n l) (drop n l) (subst AllEntriesBelow256 (sym (take-append-drop n l)) g)

bytes_zeros : (n : ℕ) → AllEntriesBelow256 (replicate n 0)
bytes_zeros zero i = omega arith
bytes_zeros (suc n) zero = omega arith
bytes_zeros (suc n) (suc i) = bytes_zeros n i

-- ---- zeros

zeros_only : (l : List ℕ) → every is_zero_byte l ≡ true → l ≡ replicate (length l) 0
unfolding every
zeros_only [] e = refl
zeros_only (x ∷ l) e = ap₂ (λ (a : ℕ) (t : List ℕ). a ∷ t) (eqb-true x 0 (both_left _ _ e))
    (zeros_only l (both_right _ _ e))

fits_zeros : (n : ℕ) (r : List ℕ) → journal_length_and_zero_padding_valid n r ≡ true
    → every is_zero_byte (drop (journal_record_length_field r) (drop 3 r)) ≡ true
unfolding journal_length_and_zero_padding_valid
fits_zeros n r e = both_right _ _ e

long_length : (r : List ℕ) → is_too_long_answer_record r ≡ true → journal_record_length_field r ≡ 65535
unfolding is_too_long_answer_record
long_length r e = eqb-true (journal_record_length_field r) 65535 (both_left _ _ e)

long_zeros : (r : List ℕ) → is_too_long_answer_record r ≡ true → every is_zero_byte (drop 3 r) ≡ true
unfolding is_too_long_answer_record
long_zeros r e = both_right _ _ e

-- ---- a length and its bytes

bytes_same : {a b c d : ℕ} {s t : List ℕ} → a ≡ b → c ≡ d → s ≡ t → a ∷ c ∷ s ≡ b ∷ d ∷ t
bytes_same p q r = cc

module _ (n a b : ℕ) (body : List ℕ) (high : a < 256) (low : b < 256) (whole : length body ≡ n) where
  sized_back : (k : ℕ) → journal_length_and_zero_padding_valid n (k ∷ a ∷ b ∷ body) ≡ true
      → length_then_padded_bytes n (journal_record_data (k ∷ a ∷ b ∷ body)) ≡ a ∷ b ∷ body
  sized_back k f =
      let m : a * 256 + b ≤ n = fits_length n (k ∷ a ∷ b ∷ body) f in
      let l : length (take (a * 256 + b) body) ≡ a * 256 + b = length-take-le (a * 256 + b) body (omega arith) in
      let g : n - length (take (a * 256 + b) body) ≡ length (drop (a * 256 + b) body) =
      omega (arith, length-drop (a * 256 + b) body) in
      bytes_same (omega arith) (omega arith)
      (ap (λ (x : ℕ). take (a * 256 + b) body ++ replicate x 0) g
      ∙ ap (λ (v : List ℕ). take (a * 256 + b) body ++ v)
      (sym (zeros_only (drop (a * 256 + b) body) (fits_zeros n (k ∷ a ∷ b ∷ body) f)))
      ∙ take-append-drop (a * 256 + b) body)

  long_back : (k : ℕ) → is_too_long_answer_record (k ∷ a ∷ b ∷ body) ≡ true → 255 ∷ 255 ∷ replicate n 0 ≡ a ∷ b ∷ body
  long_back k f =
      let l : a * 256 + b ≡ 65535 = long_length (k ∷ a ∷ b ∷ body) f in
      bytes_same (omega arith) (omega arith)
      (ap (λ (x : ℕ). replicate x 0) (sym whole) ∙ sym (zeros_only body (long_zeros (k ∷ a ∷ b ∷ body) f)))

-- ---- each kind

pub same_some : {A : Type 0} {a b : A} → Some a ≡ Some b → a ≡ b
same_some e = cc

pub nothing : {A P : Type 0} {a : A} → None ≡ Some a → P
nothing e = let z : ◌≡◌ {A = ℕ} 0 1 = cc in absurd (omega arith)

abbrev Is : List ℕ → Call → Option Call → Type 0
Is r c o = o ≡ Some c → journal_call_record c ≡ r

found : (r : List ℕ) (c d : Call) → journal_call_record d ≡ r → Is r c (Some d)
found r c d e q = subst (λ (x : Call). journal_call_record x ≡ r) (same_some q) e

start_is : (r : List ℕ) (c : Call) → AllEntriesBelow256 r → length r ≡ 1027 → get_or r 0 0 ≡ 1
    → Is r c (start_call_from_record r)
start_is [] c g l e = absurd (omega arith)
start_is (k ∷ []) c g l e = absurd (omega arith)
start_is (k ∷ a ∷ []) c g l e = absurd (omega arith)
start_is (k ∷ a ∷ b ∷ body) c g l e =
    if_ind (Is (k ∷ a ∷ b ∷ body) c) _ _ _
    (λ f. found (k ∷ a ∷ b ∷ body) c _
    (ap₂ (λ (x : ℕ) (v : List ℕ). x ∷ v) (sym e) (sized_back 1024 a b body (g 1) (g 2) (omega arith) k f)))
    (λ f q. nothing q)

module _ (k a b : ℕ) (body : List ℕ) (g : AllEntriesBelow256 (k ∷ a ∷ b ∷ body)) (l : length body ≡ 258) (e : k ≡ 2)
  where
    long_is : is_too_long_answer_record (k ∷ a ∷ b ∷ body) ≡ true
        → journal_call_record (answer answer_of259_zero_bytes journal_command_buffer) ≡ k ∷ a ∷ b ∷ body
    long_is f =
        ap₂ (λ (x : ℕ) (v : List ℕ). x ∷ v) (sym e)
        (if_no _ _ (lt-leb (length answer_of259_zero_bytes) 258 (omega (arith, length-replicate {A = ℕ} 259 0))) ∙
        long_back
        258 a b body (g 1) (g 2) l k f)

    brought_is : journal_length_and_zero_padding_valid 258 (k ∷ a ∷ b ∷ body) ≡ true
        → journal_call_record (answer (journal_record_data (k ∷ a ∷ b ∷ body)) journal_command_buffer) ≡ k ∷ a ∷ b ∷ body
    brought_is f =
        let m : a * 256 + b ≤ 258 = fits_length 258 (k ∷ a ∷ b ∷ body) f in
        let n : length (take (a * 256 + b) body) ≤ 258 = omega (arith, length-take-le (a * 256 + b) body (omega arith))
        in
        ap₂ (λ (x : ℕ) (v : List ℕ). x ∷ v) (sym e)
        (if_yes _ _ (le-leb (length (take (a * 256 + b) body)) 258 n) ∙ sized_back 258 a b body (g 1) (g 2) l k f)

answer_is : (r : List ℕ) (c : Call) → AllEntriesBelow256 r → length r ≡ 261 → get_or r 0 0 ≡ 2
    → Is r c (answer_call_from_record r)
answer_is [] c g l e = absurd (omega arith)
answer_is (k ∷ []) c g l e = absurd (omega arith)
answer_is (k ∷ a ∷ []) c g l e = absurd (omega arith)
answer_is (k ∷ a ∷ b ∷ body) c g l e =
    if_ind (Is (k ∷ a ∷ b ∷ body) c) _ _ _
    (λ f. found (k ∷ a ∷ b ∷ body) c _ (long_is k a b body g (omega arith) e f))
    (λ f. if_ind (Is (k ∷ a ∷ b ∷ body) c) _ _ _
    (λ h. found (k ∷ a ∷ b ∷ body) c _ (brought_is k a b body g (omega arith) e h)) (λ h q. nothing q))

-- a record of its kind byte alone
alone : (k : ℕ) (r : List ℕ) → length r ≡ 1 → get_or r 0 0 ≡ k → k ∷ [] ≡ r
alone k [] l e = absurd (omega arith)
alone k (x ∷ []) l e = ap (λ (y : ℕ). y ∷ []) (sym e)
alone k (x ∷ y ∷ s) l e = absurd (omega arith)

size_alone : (k : ℕ) → (k ≡ 3) ⊎ (k ≡ 4) → journal_record_size k ≡ 1
unfolding journal_record_size if
size_alone k (inl e) = ap journal_record_size e
size_alone k (inr e) = ap journal_record_size e

pub call_is : (r : List ℕ) (c : Call) → AllEntriesBelow256 r → length r ≡ journal_record_size (get_or r 0 0)
    → call_from_journal_record r ≡ Some c → journal_call_record c ≡ r
unfolding call_from_journal_record
call_is r c g l =
    if_ind (Is r c) _ _ _ (λ e. let k = eqb-true (get_or r 0 0) 1 e in start_is r c g (l ∙ size_start (get_or r 0 0) k) k)
    (λ _. if_ind (Is r c) _ _ _ (λ e. let k = eqb-true (get_or r 0 0) 2 e in
    answer_is r c g (l ∙ size_answer (get_or r 0 0) k) k)
    (λ _. if_ind (Is r c) _ _ _ (λ e. let k = eqb-true (get_or r 0 0) 3 e in
    found r c _ (alone 3 r (l ∙ size_alone (get_or r 0 0) (inl k)) k))
    (λ _. if_ind (Is r c) _ _ _ (λ e. let k = eqb-true (get_or r 0 0) 4 e in
    found r c _ (alone 4 r (l ∙ size_alone (get_or r 0 0) (inr k)) k))
    (λ _ q. nothing q))))

-- ---- and the call is of bytes

abbrev Brings : Call → Option Call → Type 0
Brings c o = o ≡ Some c → CallBytesAllBelow256 c

brings : (c d : Call) → CallBytesAllBelow256 d → Brings c (Some d)
brings c d g q = subst CallBytesAllBelow256 (same_some q) g

pub call_bytes : (r : List ℕ) (c : Call) → AllEntriesBelow256 r → call_from_journal_record r ≡ Some c
    → CallBytesAllBelow256 c
unfolding call_from_journal_record
call_bytes r c g =
    let z : AllEntriesBelow256 journal_command_buffer = bytes_zeros 261 in
    let b : AllEntriesBelow256 (journal_record_data r) = bytes_take (journal_record_length_field r) (drop 3 r)
    (bytes_drop 3 r g) in
    if_ind (Brings c) _ _ _ (λ _. if_ind (Brings c) _ _ _ (λ _. brings c _ (b, z)) (λ _ q. nothing q))
    (λ _. if_ind (Brings c) _ _ _
    (λ _. if_ind (Brings c) _ _ _ (λ _. brings c _ (bytes_zeros 259, z))
    (λ _. if_ind (Brings c) _ _ _ (λ _. brings c _ (b, z)) (λ _ q. nothing q)))
    (λ _. if_ind (Brings c) _ _ _ (λ _. brings c _ z)
    (λ _. if_ind (Brings c) _ _ _ (λ _. brings c _ z) (λ _ q. nothing q))))
