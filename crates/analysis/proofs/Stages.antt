-- The choice, walked: a byte's bits are the stage's bits eight at a time, and the first stage that is consulted and
-- holds a bit decides.
-- Assumes nothing.
use Rattle.std.specs.Prelude.{Option, Some, None, is_some}
use mathlib.Core.Bool.{Bool, true, false}
use mathlib.Core.List.{List}
use mathlib.Core.Logic.{inl, inr}
use mathlib.Core.Path.{◌≡◌, sym, ap, ap₂, ◌∙◌}
use Prim.Native.Nat.{ℕ, zero, suc, ◌+◌, ◌-◌, ◌*◌, ◌/◌, ◌%◌, ◌≤◌, ◌<◌}
use native.Mathlib.Nat.{zero-div}
use native.Mathlib.Omega.{arith}
use lib.ListN.{get_or}
use Rattle.basics.proofs.Order.{le-or-gt}
use Rattle.basics.specs.Choice.{if, both, either}
use Rattle.analysis.specs.Bits.{has_bit_counted_from_zero_at_byte1b8, byte_has_bit}
use Rattle.analysis.specs.Choice.{tvr_bit_is_in_either_action_code, lowest_bit_from_start_within_count, lowest_tvr_bit_in_codes}
use Rattle.analysis.specs.Choice.{is_some_bit, no_action_codes, some_tvr_bit_in_codes_of_stage, online_capability_of_type, choice_by_stages}
use Rattle.analysis.specs.Choice.{terminal_action_analysis}
use Rattle.analysis.specs.Inner.{tvr_byte_bit_in_codes, stage_consulted, choice_forced_at_stage, choice_without_forcing_bit}
use Rattle.analysis.specs.declared.choice.ActionCodes.{ActionCodes}
use Rattle.analysis.specs.declared.choice.OnlineCapability.TheVariants.{OnlineOnly, OnlineCapable, OfflineOnly}
use Rattle.analysis.specs.declared.choice.OnlineCapability.TheVariants.{Unlisted}
use Rattle.analysis.specs.declared.choice.OnlineCapability.{OnlineCapability}
use Rattle.analysis.proofs.Lowest.{Found, lowest_is, lowest_none, found, none_passes}

-- bit k of byte i, both counted from 0
pub bit_at : (s : List ℕ) (i k : ℕ) → k < 8 → has_bit_counted_from_zero_at_byte1b8 s (i * 8 + k) ≡ byte_has_bit (get_or s i 0)
    (8 - k)
unfolding has_bit_counted_from_zero_at_byte1b8
bit_at s i k h =
    let e : (i * 8 + k) / 8 + 1 - 1 ≡ i = omega arith in
    let d : 8 - (i * 8 + k) % 8 ≡ 8 - k = omega arith in
    ap₂ (λ (j b : ℕ). byte_has_bit (get_or s j 0) b) e d

-- what is known of the lowest bit that a stage holds
pub lowest_held : (result : List ℕ) (pair : ActionCodes) (k : ℕ) → lowest_tvr_bit_in_codes result pair ≡ Some k
    → Found (tvr_bit_is_in_either_action_code result pair) 40 0 k
unfolding lowest_tvr_bit_in_codes
lowest_held result pair k e = found (tvr_bit_is_in_either_action_code result pair) 40 0 k e

pub none_held : (result : List ℕ) (pair : ActionCodes) → lowest_tvr_bit_in_codes result pair ≡ None → (m : ℕ) → m < 40
    → tvr_bit_is_in_either_action_code result pair m ≡ false
unfolding lowest_tvr_bit_in_codes
none_held result pair e m h = none_passes (tvr_bit_is_in_either_action_code result pair) 40 0 e m (omega arith) (omega arith)

module _ (result : List ℕ) (pair : ActionCodes) where
  -- no bit below n is held
  abbrev pub Clear : ℕ → Type 0
  Clear n = (m : ℕ) → m < n → tvr_bit_is_in_either_action_code result pair m ≡ false

  -- byte i of the TVR and of the two codes
  abbrev pub at_byte : ℕ → ℕ → Bool
  at_byte i = tvr_byte_bit_in_codes (get_or result i 0) (get_or pair.card i 0) (get_or pair.terminal i 0)

  held_at : (i k : ℕ) → k < 8 → tvr_bit_is_in_either_action_code result pair (i * 8 + k) ≡ at_byte i k
  unfolding tvr_bit_is_in_either_action_code tvr_byte_bit_in_codes
  held_at i k h = simp (bit_at result i k h, bit_at pair.card i k h, bit_at pair.terminal i k h)

  -- the same at a bit's number
  held_of : (i m : ℕ) → i * 8 ≤ m → m < i * 8 + 8 → tvr_bit_is_in_either_action_code result pair m ≡ at_byte i (m - i * 8)
  held_of i m u v =
      let e : m ≡ i * 8 + (m - i * 8) = omega arith in
      ap (tvr_bit_is_in_either_action_code result pair) e ∙ held_at i (m - i * 8) (omega arith)

  -- the bytes before are clear, and this one has a bit: it is the lowest
  pub byte_found : (i k : ℕ) → i < 5 → Clear (i * 8) → lowest_bit_from_start_within_count (at_byte i) 0 8 ≡ Some k
      → lowest_tvr_bit_in_codes result pair ≡ Some (i * 8 + k)
  unfolding lowest_tvr_bit_in_codes
  byte_found i k h clear e =
      let r = found (at_byte i) 8 0 k e in
      lowest_is (tvr_bit_is_in_either_action_code result pair) 40 0 (i * 8 + k)
      (record {
        least = omega arith;
        within = omega arith;
        passes = held_at i k (omega arith) ∙ r.passes;
        below = λ m u v. elim (le-or-gt (i * 8) m) [
          | inl g ↦ held_of i m g (omega arith) ∙ r.below (m - i * 8)
              (omega arith) (omega arith)
          | inr l ↦ clear m l
        ];
      })

  -- .. or is clear as well
  pub byte_clear : (i : ℕ) → Clear (i * 8) → lowest_bit_from_start_within_count (at_byte i) 0 8 ≡ None → Clear ((i + 1) * 8)
  byte_clear i clear e m v =
      elim (le-or-gt (i * 8) m) [
        | inl g ↦ held_of i m g (omega arith) ∙ none_passes (at_byte i) 8 0 e (m - i * 8) (omega arith) (omega arith)
        | inr l ↦ clear m l
      ]

  pub all_clear : Clear 40 → lowest_tvr_bit_in_codes result pair ≡ None
  unfolding lowest_tvr_bit_in_codes
  all_clear clear = lowest_none (tvr_bit_is_in_either_action_code result pair) 40 0 (λ m u v. clear m (omega arith))

nothing_in_zero : (card terminal m : ℕ) → tvr_byte_bit_in_codes 0 card terminal m ≡ false
unfolding tvr_byte_bit_in_codes both
nothing_in_zero card terminal m = simp zero-div

-- a zero byte of the TVR holds nothing
pub zero_byte : (card terminal : ℕ) → lowest_bit_from_start_within_count (tvr_byte_bit_in_codes 0 card terminal) 0 8 ≡ None
zero_byte card terminal = lowest_none (tvr_byte_bit_in_codes 0 card terminal) 8 0 (λ m u v. nothing_in_zero card terminal m)

-- ---- the stages

-- whether a stage holds a bit, as the code tests it
pub stage_test : (result : List ℕ) (pairs : List ActionCodes) (s : ℕ) (o : Option ℕ) (b : Bool)
    → o ≡ lowest_tvr_bit_in_codes result (get_or pairs s no_action_codes) → b ≡ is_some o
    → some_tvr_bit_in_codes_of_stage result pairs s ≡ b
unfolding some_tvr_bit_in_codes_of_stage
stage_test result pairs s None b e f = sym (ap is_some_bit e) ∙ sym f
stage_test result pairs s (Some k) b e f = sym (ap is_some_bit e) ∙ sym f

-- no stage before s is consulted and holds a bit
abbrev pub Unforced : OnlineCapability → (ℕ → Bool) → ℕ → Type 0
Unforced r h s = (m : ℕ) → m < s → both (stage_consulted r m) (h m) ≡ false

-- the first stage that is consulted and holds a bit forces the choice
by_stage : (r : OnlineCapability) (h : ℕ → Bool) (s : ℕ) → s < 3 → stage_consulted r s ≡ true → h s ≡ true
    → Unforced r h s → choice_by_stages r (h 0) (h 1) (h 2) ≡ choice_forced_at_stage s
unfolding if both either
by_stage r h zero l c e before = rw e
by_stage OnlineOnly h (suc zero) l c e before = cc
by_stage OnlineCapable h (suc zero) l c e before = let z : h 0 ≡ false = before 0 (omega arith) in rw (z, e)
by_stage OfflineOnly h (suc zero) l c e before = cc
by_stage Unlisted h (suc zero) l c e before = cc
by_stage OnlineOnly h (suc (suc zero)) l c e before = cc
by_stage OnlineCapable h (suc (suc zero)) l c e before = cc
by_stage OfflineOnly h (suc (suc zero)) l c e before = let z : h 0 ≡ false = before 0 (omega arith) in rw (z, e)
by_stage Unlisted h (suc (suc zero)) l c e before = cc
by_stage r h (suc (suc (suc s))) l c e before = absurd (omega arith)

-- where none is, the type alone gives it
by_type : (r : OnlineCapability) (h : ℕ → Bool) → Unforced r h 3 → choice_by_stages r (h 0) (h 1) (h 2)
    ≡ choice_without_forcing_bit r
unfolding both either
by_type OnlineOnly h none = let z : h 0 ≡ false = none 0 (omega arith) in rw z
by_type OnlineCapable h none =
    let z : h 0 ≡ false = none 0 (omega arith) in
    let o : h 1 ≡ false = none 1 (omega arith) in
    rw (z, o)
by_type OfflineOnly h none =
    let z : h 0 ≡ false = none 0 (omega arith) in
    let d : h 2 ≡ false = none 2 (omega arith) in
    rw (z, d)
by_type Unlisted h none = let z : h 0 ≡ false = none 0 (omega arith) in rw z

module _ (result : List ℕ) (kind : ℕ) (pairs : List ActionCodes) (r : OnlineCapability)
    (is : r ≡ online_capability_of_type kind) where
  pub choice_by_stage : (s : ℕ) → s < 3 → stage_consulted r s ≡ true → some_tvr_bit_in_codes_of_stage result pairs s ≡ true
      → Unforced r (some_tvr_bit_in_codes_of_stage result pairs) s → terminal_action_analysis result kind pairs
      ≡ choice_forced_at_stage s
  unfolding terminal_action_analysis
  choice_by_stage s l c e before = rw (← is) (by_stage r (some_tvr_bit_in_codes_of_stage result pairs) s l c e before)

  pub choice_by_type : Unforced r (some_tvr_bit_in_codes_of_stage result pairs) 3 → terminal_action_analysis result kind pairs
      ≡ choice_without_forcing_bit r
  unfolding terminal_action_analysis
  choice_by_type none = rw (← is) (by_type r (some_tvr_bit_in_codes_of_stage result pairs) none)
