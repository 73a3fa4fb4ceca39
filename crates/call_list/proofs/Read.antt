-- The laws of reading calls from bytes. Each call takes up bytes, so the bound of the recursion does not matter
-- (`unroll`); then one law for each way out of a step.
-- Assumes nothing.
use Rattle.std.specs.Prelude.{Some, None, Option}
use mathlib.Core.Path.{◌≡◌, refl, sym, ap, subst, ◌∙◌}
use mathlib.Core.Bool.{true, false}
use mathlib.Core.List.{List, [], ◌∷◌}
use Prim.Native.Nat.{ℕ, suc, ◌+◌, ◌≤◌, ◌<◌}
use native.Mathlib.Omega.{arith}
use lib.ListN.{length, drop, length-drop}
use lib.Dec.{leb}
use borrow.Author.Tests.{leb-true, le-leb, lt-leb}
use Rattle.basics.proofs.Laws.{if_ind, if_ap, if_yes, if_no, both_yes, both_no_left, both_no_right, both_left}
use Rattle.basics.proofs.Laws.{both_right}
use Rattle.basics.proofs.Recursion.{AsksShorter, recurse_unroll}
use Rattle.session.specs.Calls.{Call}
use Rattle.call_list.specs.declared.CallHeader.{CallHeader}
use Rattle.call_list.specs.Encoding.{call_header_size, call_end_offset, call_header_in, is_call_kind_with_allowed_length}
use Rattle.call_list.specs.Encoding.{begins_with_whole_call, call_by_header, prepend_call}
use Rattle.call_list.specs.Encoding.{parse_calls_step, parsed_calls}
use Rattle.call_list.specs.Inner.{call_front_in, call_then_rest, calls_counted_in}

-- ---- the call at the front

pub whole_size : (s : List ℕ) → begins_with_whole_call s ≡ true → call_header_size ≤ length s
unfolding begins_with_whole_call
whole_size s e = leb-true call_header_size (length s) (both_left _ _ e)

pub whole_end : (s : List ℕ) → begins_with_whole_call s ≡ true → call_end_offset (call_header_in s) ≤ length s
unfolding begins_with_whole_call
whole_end s e = leb-true (call_end_offset (call_header_in s)) (length s) (both_right _ _ (both_right _ _ e))

pub front_whole : (s : List ℕ) (h : CallHeader) → call_front_in s ≡ Some h → (begins_with_whole_call s ≡ true)
    × (call_header_in s ≡ h)
unfolding call_front_in
front_whole s h =
    if_ind (λ (x : Option CallHeader). x ≡ Some h → (begins_with_whole_call s ≡ true) × (call_header_in s ≡ h))
    (begins_with_whole_call s) (Some (call_header_in s)) None
    (λ w e. (w, cc)) (λ w e. let z : ◌≡◌ {A = ℕ} 0 1 = cc in absurd (omega arith))

pub front_is : (s : List ℕ) → begins_with_whole_call s ≡ true → call_front_in s ≡ Some (call_header_in s)
unfolding call_front_in
front_is s w = if_yes _ _ w

pub front_end : (s : List ℕ) (h : CallHeader) → call_front_in s ≡ Some h → call_end_offset h ≤ length s
front_end s h e = let w = front_whole s h e in subst (λ (x : CallHeader). call_end_offset x ≤ length s) w.1
    (whole_end s w.0)

-- what the code finds of a header h
module _ (s : List ℕ) (h : CallHeader) (e : h ≡ call_header_in s) where
  pub front_kind : is_call_kind_with_allowed_length h.kind h.incoming ≡ false → call_front_in s ≡ None
  unfolding call_front_in begins_with_whole_call
  front_kind k =
      if_no _ _
      (both_no_right _ _
      (both_no_left _ _ (ap (λ (x : CallHeader). is_call_kind_with_allowed_length x.kind x.incoming) (sym e) ∙ k)))

  pub front_outside : leb (call_end_offset h) (length s) ≡ false → call_front_in s ≡ None
  unfolding call_front_in begins_with_whole_call
  front_outside k =
      if_no _ _
      (both_no_right _ _ (both_no_right _ _ (ap (λ (x : CallHeader). leb (call_end_offset x) (length s)) (sym e) ∙ k)))

  pub front_call : call_header_size ≤ length s → is_call_kind_with_allowed_length h.kind h.incoming ≡ true
      → leb (call_end_offset h) (length s) ≡ true → call_front_in s ≡ Some h
  unfolding call_front_in begins_with_whole_call
  front_call l k m =
      if_yes _ _
      (both_yes _ _ (le-leb call_header_size (length s) l)
      (both_yes _ _ (ap (λ (x : CallHeader). is_call_kind_with_allowed_length x.kind x.incoming) (sym e) ∙ k)
      (ap (λ (x : CallHeader). leb (call_end_offset x) (length s)) (sym e) ∙ m))) ∙ ap Some (sym e)

pub front_short : (s : List ℕ) → length s < call_header_size → call_front_in s ≡ None
unfolding call_front_in begins_with_whole_call
front_short s l = if_no _ _ (both_no_left _ _ (lt-leb call_header_size (length s) l))

-- ---- the bound of the recursion does not matter

abbrev Reader : Type 0
Reader = List ℕ → Option (List Call)

more_same : (k k' : Reader) (s : List ℕ) → ((v : List ℕ) → length v < length s → k v ≡ k' v)
    → (x : Option CallHeader) → call_front_in s ≡ x → call_then_rest k s x ≡ call_then_rest k' s x
more_same k k' s same None e = refl
more_same k k' s same (Some h) e =
    ap (prepend_call (call_by_header s h))
    (same (drop (call_end_offset h) s) (omega (arith, length-drop (call_end_offset h) s, front_end s h e)))

-- a step by the front that the code finds
next-front : (k : Reader) (b : ℕ) (s : List ℕ) → parse_calls_step k (b ∷ s) ≡ call_then_rest k (b ∷ s) (call_front_in (b ∷ s))
unfolding call_front_in
next-front k b s =
    sym (if_ap (call_then_rest k (b ∷ s)) (begins_with_whole_call (b ∷ s)) (Some (call_header_in (b ∷ s)))
    None)

next_same : AsksShorter parse_calls_step
next_same k k' [] same = refl
next_same k k' (b ∷ s) same =
    next-front k b s ∙ more_same k k' (b ∷ s) same (call_front_in (b ∷ s)) refl ∙ sym (next-front k' b s)

pub unroll : (s : List ℕ) → parsed_calls s ≡ parse_calls_step parsed_calls s
unfolding parsed_calls
unroll s = recurse_unroll None parse_calls_step next_same s

-- ---- one law for each way out of a step

pub calls_end : (s : List ℕ) → length s ≡ 0 → parsed_calls s ≡ Some []
calls_end [] z = unroll []
calls_end (b ∷ s) z = absurd (omega arith)

at : (s : List ℕ) → (length s ≡ 0 → ⊥) → (x : Option CallHeader) → call_front_in s ≡ x
    → parsed_calls s ≡ call_then_rest parsed_calls s x
at [] n x e = absurd (n refl)
at (b ∷ s) n x e = unroll (b ∷ s) ∙ next-front parsed_calls b s ∙ ap (call_then_rest parsed_calls (b ∷ s)) e

pub calls_malformed : (s : List ℕ) → (length s ≡ 0 → ⊥) → call_front_in s ≡ None → parsed_calls s ≡ None
calls_malformed s n e = at s n None e

pub calls_call : (s : List ℕ) → (length s ≡ 0 → ⊥) → (h : CallHeader) → call_front_in s ≡ Some h
    → parsed_calls s ≡ prepend_call (call_by_header s h) (parsed_calls (drop (call_end_offset h) s))
calls_call s n h e = at s n (Some h) e

-- ---- counting them

-- n calls before those that are counted
abbrev pub more : ℕ → Option ℕ → Option ℕ
more n None = None
more n (Some m) = Some (n + m)

pub more_none : (x : Option ℕ) → more 0 x ≡ x
more_none None = refl
more_none (Some m) = ap Some (omega arith)

more_call : (n : ℕ) (c : Call) (x : Option (List Call)) → more n (calls_counted_in (prepend_call c x))
    ≡ more (n + 1) (calls_counted_in x)
more_call n c None = refl
more_call n c (Some cs) = let e : n + suc (length cs) ≡ n + 1 + length cs = omega arith in ap Some e

pub counted_call : (n : ℕ) (s : List ℕ) (h : CallHeader) → (length s ≡ 0 → ⊥) → call_front_in s ≡ Some h
    → more n (calls_counted_in (parsed_calls s)) ≡ more (n + 1) (calls_counted_in (parsed_calls (drop (call_end_offset h) s)))
counted_call n s h z e = ap (λ (x : Option (List Call)). more n (calls_counted_in x)) (calls_call s z h e) ∙ more_call n
    (call_by_header s h) (parsed_calls (drop (call_end_offset h) s))
