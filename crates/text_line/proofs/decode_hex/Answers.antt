-- `text_line::decode_hex` meets its contract. The invariant is `Decoding`: n bytes are in their place, the rest is
-- still to decode.
-- Assumes nothing.
use Rattle.std.specs.Prelude.{Some}
use mathlib.Core.Path.{◌≡◌, sym, ap, ◌∙◌}
use Prim.Native.Nat.{◌≤◌}
use native.Mathlib.Omega.{arith}
use lib.ListN.{length, drop, length-drop}
use Rattle.text_line.specs.declared.CharacterKind.{CharacterKind}
use Rattle.text_line.specs.Text.{is_character_of_kind, after_longest_prefix}
use Rattle.text_line.specs.Inner.{hex_pair_at_front}
use Rattle.text_line.proofs.Digits.{decoding_start, decoding_on, decoding_full, decoding_breaks}
use Rattle.text_line.proofs.Digits.{decoding_ends, pair_length}
use Rattle.text_line.proofs.Text.{tail-is, past_length}
use Rattle.text_line.proofs.decode_hex.Goals as goal

pub loop-rest-init : goal.loop-rest-init
loop-rest-init c = rw c.past_blanks-rest.ensures (decoding_start _ _)

pub returns-in_default : goal.returns-in_default
returns-in_default c =
    let lp = c.loop-rest in
    decoding_breaks _ _ _ _ _ lp.invariant (omega arith)
    (sym c.pair_at.ensures ∙ c.in_default.is)

pub returns-then-out-n : goal.returns-then-out-n
returns-then-out-n c =
    let byte-read : hex_pair_at_front c.loop-rest.rest.now ≡ Some c.in-Some.value =
    sym c.pair_at.ensures ∙ c.in-Some.is in
    let lp = c.loop-rest in
    decoding_full _ _ _ _ _ lp.invariant _ (byte-read) c.if-out-n.true

pub slice_bounds-past_blanks-count : goal.slice_bounds-past_blanks-count
slice_bounds-past_blanks-count c =
    let byte-read : hex_pair_at_front c.loop-rest.rest.now ≡ Some c.in-Some.value =
    sym c.pair_at.ensures ∙ c.in-Some.is in
    let inside : 2 ≤ length c.loop-rest.rest.now =
    pair_length _ _ (byte-read) in
    let h = inside in omega arith

pub slice_bounds-past_blanks-start : goal.slice_bounds-past_blanks-start
slice_bounds-past_blanks-start c =
    let byte-read : hex_pair_at_front c.loop-rest.rest.now ≡ Some c.in-Some.value =
    sym c.pair_at.ensures ∙ c.in-Some.is in
    let inside : 2 ≤ length c.loop-rest.rest.now =
    pair_length _ _ (byte-read) in
    let h = inside in omega arith

pub loop-rest-smaller : goal.loop-rest-smaller
loop-rest-smaller c =
    let byte-read : hex_pair_at_front c.loop-rest.rest.now ≡ Some c.in-Some.value =
    sym c.pair_at.ensures ∙ c.in-Some.is in
    let inside : 2 ≤ length c.loop-rest.rest.now =
    pair_length _ _ (byte-read) in
    let left : c.past_blanks-rest-in-loop-rest.result.now ≡ after_longest_prefix (is_character_of_kind CharacterKind.Blank) (drop 2 c.loop-rest.rest.now) =
    let rest = c.loop-rest.rest.now in
    c.past_blanks-rest-in-loop-rest.ensures ∙ ap (after_longest_prefix (is_character_of_kind CharacterKind.Blank)) (tail-is rest 2) in
    let rest = c.loop-rest.rest.now in
    let h = inside in
    let k = past_length (is_character_of_kind CharacterKind.Blank) (drop 2 rest) in
    let l = length-drop 2 rest in
    rw (left) (omega arith)

pub loop-rest-preserved : goal.loop-rest-preserved
loop-rest-preserved c =
    let byte-read : hex_pair_at_front c.loop-rest.rest.now ≡ Some c.in-Some.value =
    sym c.pair_at.ensures ∙ c.in-Some.is in
    let left : c.past_blanks-rest-in-loop-rest.result.now ≡ after_longest_prefix (is_character_of_kind CharacterKind.Blank) (drop 2 c.loop-rest.rest.now) =
    let rest = c.loop-rest.rest.now in
    c.past_blanks-rest-in-loop-rest.ensures ∙ ap (after_longest_prefix (is_character_of_kind CharacterKind.Blank)) (tail-is rest 2) in
    let lp = c.loop-rest in
    rw (left) (decoding_on _ _ _ _ _ lp.invariant _ (byte-read)
    c.if-out-n.false)

pub returns : goal.returns
returns c = decoding_ends _ _ _ _ _ c.loop-rest.invariant c.loop-rest-test.false
