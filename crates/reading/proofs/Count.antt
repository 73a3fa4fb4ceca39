-- The count that the reading's steps give is that of the whole tree. The tree of a body that is one object is that
-- object at four levels, with its contents' tree at three.
-- Assumes nothing.
use Rattle.std.specs.Prelude.{Some, None, Option}
use mathlib.Core.Path.{◌≡◌, refl, sym, ap, ◌∙◌}
use mathlib.Core.Logic.{inl, inr}
use mathlib.Core.List.{List, []}
use Prim.Native.Nat.{ℕ, ◌+◌, ◌-◌, ◌*◌, ◌≤◌}
use native.Mathlib.Omega.{arith}
use lib.ListN.{length, take, length-take, drop_of_length-le}
use borrow.Author.Tests.{eq-eqb, ne_eqb}
use Rattle.basics.proofs.Laws.{if_yes, if_no, if_ind, bool_cases, both_true, both_no_left}
use Rattle.basics.proofs.Order.{equal_or_not}
use Rattle.tlv.specs.declared.TlvHeader.{TlvHeader}
use Rattle.tlv.specs.Object.{header_of, header_value, behind_object}
use Rattle.tlv.specs.Tree.{Forest, end, object_count, prepend_leaf, prepend_node, parse_tree}
use Rattle.tlv.proofs.NextObject.{next-empty, next_object}
use Rattle.tlv.proofs.Tree.{parse_end, parse_leaf, parse_node, parse_count}
use Rattle.reading.specs.declared.Awaited.{Awaited}
use Rattle.reading.specs.declared.Reading.{Reading}
use Rattle.reading.specs.Taking.{PrimitiveItem}
use Rattle.reading.specs.Answer.{ReadingOutcome, ReadingAndStoreMatchOutcome, ResponseBody}
use Rattle.reading.specs.Answer.{template_body, parse_response_body}
use Rattle.reading.specs.Answer.{body_object_count, response_body_items, read_body_items, read_parsed_body, read_body}
use Rattle.reading.specs.Answer.{read_answer}
use Rattle.reading.specs.Count.{object_spans_all_bytes, tree_object_count, object_count_in_body, object_count_in_answer}
use Rattle.reading.proofs.Parts.{body_broken, body_behind, body_template, body_primitive}

-- ---- a body

-- the count of the body that the steps go by, 0 where there is none
abbrev step_count : Option ResponseBody → ℕ
step_count None = 0
step_count (Some b) = body_object_count b

leaf_alone : (t : ℕ) (v : List ℕ) → tree_object_count (prepend_leaf t v (Some end)) ≡ 1
unfolding prepend_leaf object_count
leaf_alone t v = refl

node_alone : (t : ℕ) (x : Option Forest) → tree_object_count (prepend_node t x (Some end)) ≡ step_count (template_body t x)
unfolding prepend_node object_count
node_alone t None = refl
node_alone t (Some f) = omega arith

module _ (s : List ℕ) where
  no_object : header_of s ≡ None → object_count_in_body s ≡ 0
  unfolding object_count_in_body
  no_object e = if_no _ _ (ap (object_spans_all_bytes s) e)

  module _ (h : TlvHeader) (e : header_of s ≡ Some h) where
    with_more : (h.start + h.len ≡ length s → ⊥) → object_count_in_body s ≡ 0
    unfolding object_count_in_body
    with_more n = if_no _ _ (ap (object_spans_all_bytes s) e ∙ ne_eqb _ _ n)

    module _ (z : h.start + h.len ≡ length s) where
      of_tree : (x : Option Forest) → parse_tree 4 s ≡ x → object_count_in_body s ≡ tree_object_count x
      unfolding object_count_in_body
      of_tree x p = if_yes _ _ (ap (object_spans_all_bytes s) e ∙ eq-eqb _ _ z) ∙ ap tree_object_count p

      none_behind : parse_tree 4 (behind_object s h) ≡ Some end
      none_behind = let l : length s ≤ h.start + h.len = omega arith in
          rw (drop_of_length-le s l) (parse_end 4 [] (next-empty [] refl))

      alone : object_count_in_body s ≡ step_count (parse_response_body s)
      alone = elim (bool_cases h.template) [
        | inl t ↦
            of_tree _ (parse_node 4 s h (next_object s h e) t (λ z. omega arith)
            ∙ ap (prepend_node h.tag (parse_tree 3 (header_value s h))) none_behind)
            ∙ node_alone h.tag (parse_tree 3 (header_value s h)) ∙ sym (ap step_count (body_template s h e z t))
        | inr t ↦
            of_tree _ (parse_leaf 4 s h (next_object s h e) t ∙ ap (prepend_leaf h.tag (header_value s h)) none_behind)
            ∙ leaf_alone h.tag (header_value s h) ∙ sym (ap step_count (body_primitive s h e z t))
      ]

  by_steps : object_count_in_body s ≡ step_count (parse_response_body s)
  by_steps = go (header_of s) refl
    where
      go : (x : Option TlvHeader) → header_of s ≡ x → object_count_in_body s ≡ step_count (parse_response_body s)
      go None e = no_object e ∙ sym (ap step_count (body_broken s e))
      go (Some h) e = elim (equal_or_not (h.start + h.len) (length s)) [
        | inl z ↦ alone h e z
        | inr n ↦ with_more h e n ∙ sym (ap step_count (body_behind s h e n))
      ]

-- ---- the reading's steps do not change it

module _ (a : Awaited) (b : List ℕ) where
  parts_count : (n : ℕ) (x : Option (List PrimitiveItem)) → (read_body_items a b n x).objects ≡ n
  parts_count n None = refl
  parts_count n (Some is) = if_ind (λ (o : ReadingOutcome). o.objects ≡ n) _ _ _ (λ g. refl) (λ g. refl)

  tree_count : (x : Option ResponseBody) → (read_parsed_body a b x).objects ≡ step_count x
  tree_count None = refl
  tree_count (Some body) = parts_count (body_object_count body) (response_body_items a body)

  pub body_count : (s : List ℕ) → (read_body a b s).objects ≡ object_count_in_body s
  unfolding read_body
  body_count s = tree_count (parse_response_body s) ∙ sym (by_steps s)

  pub answer_count : (s : List ℕ) → (read_answer a b s).objects ≡ object_count_in_answer a s
  unfolding read_answer object_count_in_answer
  answer_count s =
      let Q : ReadingOutcome → Type 0 = λ o. o.objects ≡ object_count_in_answer a s in
      if_ind Q _ _ _
      (λ l. if_ind Q _ _ _
      (λ t. if_ind Q _ _ _
      (λ r. body_count (take (length s - 2) s) ∙ sym (if_yes _ _ (both_true _ l ∙ both_true _ t ∙ r)))
      (λ r. sym (if_no _ _ (both_true _ l ∙ both_true _ t ∙ r))))
      (λ t. sym (if_no _ _ (both_true _ l ∙ both_no_left _ _ t))))
      (λ l. sym (if_no _ _ (both_no_left _ _ l)))

-- ---- what a reading that gives these outcomes says

module _ {r : Reading} (a : Awaited) (b s : List ℕ) {c : List ℕ} where
  pub answer_tree : ReadingAndStoreMatchOutcome r c (read_answer a b s) → r.objects ≡ object_count_in_answer a s
  answer_tree g = g.objects ∙ answer_count a b s

-- ---- an object has two bytes at least, and the two status bytes belong to none

tree_half : (v : List ℕ) (x : Option Forest) → parse_tree 4 v ≡ x → 2 * tree_object_count x ≤ length v
tree_half v None e = omega arith
tree_half v (Some f) e = parse_count 4 v f e

body_half : (s : List ℕ) → 2 * object_count_in_body s ≤ length s
unfolding object_count_in_body
body_half s = if_ind (λ (n : ℕ). 2 * n ≤ length s) _ _ _ (λ _. tree_half s (parse_tree 4 s) refl) (λ _. omega arith)

pub answer_half : (a : Awaited) (s : List ℕ) → 2 * object_count_in_answer a s ≤ length s - 2
unfolding object_count_in_answer
answer_half a s =
    if_ind (λ (n : ℕ). 2 * n ≤ length s - 2) _ _ _
    (λ _. let h = body_half (take (length s - 2) s) in let l = length-take (length s - 2) s in omega arith)
    (λ _. omega arith)
