-- The lists of `encode_record`, `write_record_head` and `decode_record_head`: a head and a store after it put in their
-- places, and heads compared.
-- Assumes nothing.
use mathlib.Core.Bool.{Bool, true, false, not}
use mathlib.Core.Path.{◌≡◌, refl, sym, ap, ◌∙◌}
use mathlib.Core.List.{List, ◌++◌}
use Prim.Native.Nat.{ℕ, ◌≤◌, ◌<◌}
use native.Mathlib.Omega.{arith}
use lib.ListN.{length, take, drop, length-take, length-drop}
use lib.Seq.{drop_at, drop-drop, length-take-le}
use borrow.Author.Tests.{le-leb, lt-leb, leb-true}
use borrow.Rule.Slice.PartMut.{put_mid, same_len_mid}
use Rattle.basics.proofs.Laws.{if_yes, if_no, if_ind}
use Rattle.dictionary.specs.Rows.{store_size}
use Rattle.session_record.specs.declared.Phase.{Phase}
use Rattle.session_record.specs.Session.{session_of}
use Rattle.layout.specs.declared.PhaseFields.{PhaseFields}
use Rattle.layout.specs.Layout.{record_head_size, session_record_size, phase_fields_of, big_endian_bytes, record_head_bytes}
use Rattle.layout.specs.Layout.{encoded_session, session_written_over_front_if_room, record_head_written_over_front_if_room}
use Rattle.layout.proofs.Number.{bytes_length}

pub head_length : (c : PhaseFields) (n : ℕ) → length (record_head_bytes c n) ≡ record_head_size
head_length c n = omega (arith, bytes_length 8 c.limit)

module _ (l : List ℕ) (p : Phase) (n : ℕ) where
  pub headed_yes : session_record_size ≤ length l → record_head_written_over_front_if_room p n l ≡ record_head_bytes
      (phase_fields_of p) n ++ drop record_head_size l
  unfolding record_head_written_over_front_if_room big_endian_bytes
  headed_yes h = if_yes _ _ (le-leb session_record_size (length l) h)

  pub headed_no : length l < session_record_size → record_head_written_over_front_if_room p n l ≡ l
  unfolding record_head_written_over_front_if_room big_endian_bytes
  headed_no h = if_no _ _ (lt-leb session_record_size (length l) h)

  pub headed_length : length (record_head_written_over_front_if_room p n l) ≡ length l
  unfolding record_head_written_over_front_if_room big_endian_bytes
  headed_length =
      if_ind (λ (x : List ℕ). length x ≡ length l) _ _ _
      (λ t. let h = leb-true session_record_size (length l) t in simp length-drop (omega arith)) (λ t. refl)

-- a head and then the store after it, or the store and then the head before it: the record of a session, and what
-- lay after it
module _ (l b : List ℕ) (p : Phase) (n : ℕ) (h : session_record_size ≤ length l) (e : length b ≡ store_size) where
  record_is : record_head_bytes (phase_fields_of p) n ++ (b ++ drop store_size (drop record_head_size l))
      ≡ session_written_over_front_if_room (session_of p n b) l
  unfolding session_written_over_front_if_room encoded_session big_endian_bytes
  record_is = ap (λ (x : List ℕ). record_head_bytes (phase_fields_of p) n ++ (b ++ x))
      (drop-drop store_size record_head_size l) ∙ sym (if_yes _ _ (le-leb session_record_size (length l) h))

  pub put_store : put_mid record_head_size store_size (record_head_written_over_front_if_room p n l) b
      ≡ session_written_over_front_if_room (session_of p n b) l
  unfolding big_endian_bytes
  put_store = ap (λ (x : List ℕ). put_mid record_head_size store_size x b) (headed_yes l p n h) ∙ record_is

  pub put_head : record_head_written_over_front_if_room p n (put_mid record_head_size store_size l b)
      ≡ session_written_over_front_if_room (session_of p n b) l
  put_head =
      let size : length b ≡ length (take store_size (drop record_head_size l)) = simp (length-take, length-drop)
      (omega arith) in
      let enough : session_record_size ≤ length (put_mid record_head_size store_size l b) =
      rw (same_len_mid record_head_size store_size l b size) h in
      headed_yes (put_mid record_head_size store_size l b) p n enough
      ∙ ap (λ (x : List ℕ). record_head_bytes (phase_fields_of p) n ++ x)
      (drop_at (take record_head_size l) (b ++ drop store_size (drop record_head_size l)) record_head_size
      (length-take-le record_head_size l (omega arith)))
      ∙ record_is

pub not_back : (a b : Bool) → not a ≡ b → a ≡ not b
not_back true b e = ap not e
not_back false b e = ap not e
