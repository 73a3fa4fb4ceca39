-- A cabinet that bytes hold: the bytes are enough and hold its session, the session is in its ranges, and the
-- amounts fit.
-- Assumes nothing.
use Rattle.std.specs.Prelude.{Option, Some, None}
use mathlib.Core.Path.{◌≡◌, sym, ap, subst, ◌∙◌}
use mathlib.Core.Bool.{true}
use mathlib.Core.Logic.{inl, inr}
use mathlib.Core.List.{List}
use Prim.Native.Nat.{ℕ, ◌+◌, ◌≤◌}
use native.Mathlib.Omega.{arith}
use lib.Dec.{leb}
use lib.ListN.{length}
use borrow.Author.Tests.{leb-true, le-leb, eqb-true, eq-eqb}
use Rattle.basics.proofs.Laws.{if_yes, if_no, bool_cases, both_yes, both_left, both_right}
use Rattle.session_record.specs.declared.Session.{Session}
use Rattle.session_record.specs.Session.{store_bytes}
use Rattle.session_record.specs.Ranges.{session_record_in_ranges}
use Rattle.layout.specs.Layout.{decoded_session}
use Rattle.cabinet.specs.State.{Cabinet, cabinet, greatest_twelve_digit_amount, cabinet_state_size, remaining_in_cabinet_state}
use Rattle.cabinet.specs.State.{reserved_in_cabinet_state, running_session_amount_or_zero, reserved_matches_session_and_sum_in_range}
use Rattle.cabinet.specs.State.{cabinet_session_and_amounts_valid, decoded_cabinet_of_session, decoded_cabinet_if_valid}

pub record Ordered (c : Cabinet) (l : List ℕ) : Type 0 where
  pub enough : cabinet_state_size ≤ length l
  pub ranges : session_record_in_ranges c.session ≡ true
  pub due : c.reserved ≡ running_session_amount_or_zero c.session.phase (store_bytes c.session)
  pub sum : c.remaining + c.reserved ≤ greatest_twelve_digit_amount

pub record Held (c : Cabinet) (l : List ℕ) : Type 0 where
  pub order : Ordered c l
  pub session : decoded_session l ≡ Some c.session

never : {A : Type 0} {c : Cabinet} → ◌≡◌ {A = Option Cabinet} None (Some c) → A
never e = let z : ◌≡◌ {A = ℕ} 0 1 = cc in absurd (omega arith)

module _ (c : Cabinet) (l : List ℕ) (h : cabinet_state_size ≤ length l) where
  by_order : (s : Session) (d : Cabinet) → d.session ≡ s → decoded_session l ≡ Some s → cabinet_session_and_amounts_valid d
      ≡ true → d ≡ c → Held c l
  unfolding reserved_matches_session_and_sum_in_range
  by_order s d p q o e =
      subst (λ (x : Cabinet). Held x l) e
      (record {
        order = record {
          enough = h;
          ranges = both_left _ _ o;
          due = eqb-true _ _ (both_left _ _ (both_right _ _ o));
          sum = leb-true _ _ (both_right _ _ (both_right _ _ o));
        };
        session = q ∙ ap Some (sym p);
      })

  by_record : (x : Option Session) → decoded_session l ≡ x → decoded_cabinet_of_session l x ≡ Some c → Held c l
  by_record None q f = never f
  by_record (Some s) q f =
      elim
      (bool_cases (cabinet_session_and_amounts_valid (cabinet s (remaining_in_cabinet_state l) (reserved_in_cabinet_state l)))) [
        | inl o ↦ let e : Some (cabinet s (remaining_in_cabinet_state l) (reserved_in_cabinet_state l)) ≡ Some c =
            sym (if_yes _ _ o) ∙ f in by_order s (cabinet s (remaining_in_cabinet_state l) (reserved_in_cabinet_state l))
            (λ i. s) q o
            (cc)
        | inr o ↦ never (sym (if_no _ _ o) ∙ f)
      ]

pub held_is : (c : Cabinet) (l : List ℕ) → decoded_cabinet_if_valid l ≡ Some c → Held c l
unfolding decoded_cabinet_if_valid
held_is c l e = elim (bool_cases (leb cabinet_state_size (length l))) [
  | inl t ↦ by_record c l (leb-true _ _ t) (decoded_session l) (λ i. decoded_session l) (sym (if_yes _ _ t) ∙ e)
  | inr t ↦ never (sym (if_no _ _ t) ∙ e)
]

pub held_ordered : (c : Cabinet) (l : List ℕ) → decoded_cabinet_if_valid l ≡ Some c → Ordered c l
held_ordered c l e = (held_is c l e).order

pub in_order : {c : Cabinet} {l : List ℕ} → Ordered c l → cabinet_session_and_amounts_valid c ≡ true
unfolding reserved_matches_session_and_sum_in_range
in_order o = both_yes _ _ o.ranges (both_yes _ _ (eq-eqb _ _ o.due) (le-leb _ _ o.sum))
