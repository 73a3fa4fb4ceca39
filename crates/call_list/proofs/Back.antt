-- Every list of calls is read back from its bytes: the header gives the lengths, and they cut out the call's own bytes
-- and buffer.
-- Assumes nothing.
use Rattle.std.specs.Prelude.{Some}
use mathlib.Core.Path.{◌≡◌, refl, sym, ap, ◌∙◌}
use mathlib.Core.Bool.{true}
use mathlib.Core.List.{List, [], ◌∷◌, ◌++◌, append_assoc}
use Prim.Native.Nat.{ℕ, ◌+◌}
use native.Mathlib.Omega.{arith}
use lib.ListN.{length, take, drop, length-append}
use lib.Seq.{take_at, drop_at, drop-drop}
use borrow.Author.Tests.{le-leb}
use Rattle.basics.specs.Choice.{if, both, either}
use Rattle.basics.specs.Number.{big_endian_number}
use Rattle.session.specs.Calls.{Call, start, answer, link_failed, stop}
use Rattle.call_list.specs.declared.CallHeader.{CallHeader}
use Rattle.call_list.specs.Encoding.{big_endian_bytes, encoded_call_of_kind, encoded_calls, call_header_size}
use Rattle.call_list.specs.Encoding.{call_buffer_offset, call_end_offset}
use Rattle.call_list.specs.Encoding.{call_header_in, is_call_kind_with_allowed_length, call_of_kind, call_by_header}
use Rattle.call_list.specs.Encoding.{prepend_call, parsed_calls}
use Rattle.call_list.proofs.Read.{front_call, calls_end, calls_call}
use Rattle.call_list.proofs.Number.{high_length, high_number}

-- one call before a rest
module _ (kind : ℕ) (bytes buf rest : List ℕ) where
  abbrev s : List ℕ
  s = encoded_call_of_kind kind bytes buf ++ rest

  abbrev h : CallHeader
  h = record { kind = kind; incoming = length bytes; capacity = length buf }

  -- after the kind, after the first length, after both, after the bytes
  behind_kind : drop 1 s ≡ big_endian_bytes 8 (length bytes)
      ++ (big_endian_bytes 8 (length buf) ++ (bytes ++ (buf ++ rest)))
  behind_kind = simp append_assoc

  behind_first : drop 9 s ≡ big_endian_bytes 8 (length buf) ++ (bytes ++ (buf ++ rest))
  behind_first = ap (drop 8) behind_kind ∙ drop_at (big_endian_bytes 8 (length bytes)) _ 8 (high_length 8 (length bytes))

  behind_both : drop call_header_size s ≡ bytes ++ (buf ++ rest)
  behind_both = sym (drop-drop 8 9 s) ∙ ap (drop 8) behind_first ∙ drop_at (big_endian_bytes 8 (length buf)) _ 8
      (high_length 8 (length buf))

  behind_bytes : drop (call_buffer_offset h) s ≡ buf ++ rest
  behind_bytes = sym (drop-drop (length bytes) call_header_size s) ∙ ap (drop (length bytes)) behind_both ∙ drop_at bytes
      _ _ refl

  behind_call : drop (call_end_offset h) s ≡ rest
  behind_call = sym (drop-drop (length buf) (call_buffer_offset h) s) ∙ ap (drop (length buf)) behind_bytes ∙ drop_at buf
      rest _ refl

  size : length s ≡ call_end_offset h + length rest
  size = simp (length-append, high_length) (omega arith)

  header : h ≡ call_header_in s
  header =
      let x : big_endian_number (take 8 (drop 1 s)) ≡ length bytes =
      ap (λ (l : List ℕ). big_endian_number (take 8 l)) behind_kind ∙ ap big_endian_number
      (take_at (big_endian_bytes 8 (length bytes)) _ 8 (high_length 8 (length bytes))) ∙ high_number 7 (length bytes) in
      let y : big_endian_number (take 8 (drop 9 s)) ≡ length buf =
      ap (λ (l : List ℕ). big_endian_number (take 8 l)) behind_first ∙ ap big_endian_number
      (take_at (big_endian_bytes 8 (length buf)) _ 8 (high_length 8 (length buf))) ∙ high_number 7 (length buf) in
      cc

  call : call_by_header s h ≡ call_of_kind kind bytes buf
  call =
      ap (λ (x : List ℕ). call_of_kind kind x (take (length buf) (drop (call_buffer_offset h) s)))
      (ap (take (length bytes)) behind_both ∙ take_at bytes _ _ refl)
      ∙ ap (call_of_kind kind bytes) (ap (take (length buf)) behind_bytes ∙ take_at buf rest _ refl)

  one_back : is_call_kind_with_allowed_length kind (length bytes) ≡ true
      → parsed_calls s ≡ prepend_call (call_of_kind kind bytes buf) (parsed_calls rest)
  one_back k =
      calls_call s (λ z. omega (arith, size)) h
      (front_call s h header (omega (arith, size)) k (le-leb (call_end_offset h) (length s) (omega (arith, size))))
      ∙ ap (λ (c : Call). prepend_call c (parsed_calls (drop (call_end_offset h) s))) call ∙ ap
      (λ (l : List ℕ). prepend_call (call_of_kind kind bytes buf) (parsed_calls l)) behind_call

pub read_back : (cs : List Call) → parsed_calls (encoded_calls cs) ≡ Some cs
unfolding encoded_calls is_call_kind_with_allowed_length either both call_of_kind if
read_back [] = calls_end [] refl
read_back (start bytes buf ∷ cs) = one_back 1 bytes buf (encoded_calls cs) refl ∙ ap (prepend_call (start bytes buf))
    (read_back cs)
read_back (answer card buf ∷ cs) = one_back 2 card buf (encoded_calls cs) refl ∙ ap (prepend_call (answer card buf))
    (read_back cs)
read_back (link_failed buf ∷ cs) = one_back 3 [] buf (encoded_calls cs) refl ∙ ap (prepend_call (link_failed buf))
    (read_back cs)
read_back (stop buf ∷ cs) = one_back 4 [] buf (encoded_calls cs) refl ∙ ap (prepend_call (stop buf)) (read_back cs)
