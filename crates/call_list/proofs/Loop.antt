-- One call played in place. The bytes that come in are copied up to 1,025 of them, and every step is the same on the
-- copy; the call's buffer and its reply then stand where the rest of the list begins.
-- Assumes nothing.
use Rattle.std.specs.Prelude.{Some, None, Option}
use mathlib.Core.Path.{◌≡◌, refl, sym, ap, subst, ◌∙◌}
use mathlib.Core.Bool.{true}
use mathlib.Core.Logic.{inl, inr}
use mathlib.Core.List.{List, [], ◌∷◌, ◌++◌, append-nil, append_assoc}
use Prim.Native.Nat.{ℕ, ◌+◌, ◌*◌, ◌-◌, ◌≤◌, ◌<◌, min}
use native.Mathlib.Omega.{arith}
use lib.ListN.{length, take, drop, length-append, length-take, length-drop, take-append-drop}
use lib.Seq.{take_at, drop_at, drop-drop, drop-length, take-append-add, drop-append-add, length-take-le}
use lib.Dec.{eqb}
use Rattle.basics.proofs.Laws.{if_yes, if_no, bool_cases}
use Rattle.basics.proofs.Order.{le-or-gt}
use Rattle.session_record.specs.declared.Session.{Session}
use Rattle.session_record.specs.declared.CallResult.{CallResult}
use Rattle.session_record.specs.declared.Reply.{Reply}
use Rattle.session_record.specs.Session.{fresh_session}
use Rattle.session.specs.Steps.{Step, ReturnsStep}
use Rattle.session.specs.Calls.{Call, call_step, play_calls, final_session}
use Rattle.call_list.specs.declared.CallHeader.{CallHeader}
use Rattle.call_list.specs.declared.CallPlayed.{CallPlayed}
use Rattle.call_list.specs.Encoding.{call_header_size, call_buffer_offset, call_end_offset, call_header_in}
use Rattle.call_list.specs.Encoding.{begins_with_whole_call, call_of_kind, call_by_header, prepend_call, parsed_calls}
use Rattle.call_list.specs.Inner.{call_front_in}
use Rattle.call_list.specs.Playing.{result_bytes, reply_bytes, reply_bytes_of_calls, reply_size, call_bytes_after_play}
use Rattle.call_list.specs.Playing.{PlaysCalls}
use Rattle.call_list.specs.Inner.{step_with_buffer_in_call_bytes, PlaysOneCall}
use Rattle.step_laws.proofs.Long.{start_long, answer_long}
use Rattle.call_list.proofs.Read.{front_whole, front_is, whole_end, calls_end, calls_malformed, calls_call}

-- ---- the bytes that come in

-- over 1,024 bytes give the same step, whichever they are
step_long : (s : Session) (kind : ℕ) (x y buf : List ℕ) → 1024 < length x → 1024 < length y
    → call_step s (call_of_kind kind x buf) ≡ call_step s (call_of_kind kind y buf)
unfolding call_of_kind
step_long s kind x y buf p q = elim (bool_cases (eqb kind 1)) [
  | inl e ↦ ap (call_step s) (if_yes _ _ e) ∙ start_long s x y buf p q ∙ sym (ap (call_step s) (if_yes _ _ e))
  | inr e ↦ ap (call_step s) (if_no _ _ e) ∙ elim (bool_cases (eqb kind 2)) [
    | inl f ↦ ap (call_step s) (if_yes _ _ f) ∙ answer_long s x y buf (omega arith) (omega arith) ∙ sym
        (ap (call_step s) (if_yes _ _ f))
    | inr f ↦ ap (call_step s) (if_no _ _ f) ∙ sym (ap (call_step s) (if_no _ _ f))
  ] ∙ sym (ap (call_step s) (if_no _ _ e))
]

pub copied : (s : Session) (kind n : ℕ) (v buf : List ℕ) → n ≤ length v
    → call_step s (call_of_kind kind (take (min n 1025) v) buf) ≡ call_step s (call_of_kind kind (take n v) buf)
copied s kind n v buf h = elim (le-or-gt n 1025) [
  | inl p ↦ (let e : min n 1025 ≡ n = omega arith in ap (λ (k : ℕ). call_step s (call_of_kind kind (take k v) buf)) e)
  | inr p ↦ step_long s kind (take (min n 1025) v) (take n v) buf
      (omega (arith, length-take (min n 1025) v)) (omega (arith, length-take n v))
]

-- a call made with n bytes of the copy x, and its buffer put in its place
pub placed : {r : Reply} {b : List ℕ} (s : Session) (h : CallHeader) (v x : List ℕ) (n : ℕ) → call_end_offset h ≤ length v
    → n ≡ min h.incoming 1025
    → take n x ≡ take n (drop call_header_size v)
    → ReturnsStep r b
    (call_step s
    (call_of_kind h.kind (take n x) (take (call_end_offset h - call_buffer_offset h) (drop (call_buffer_offset h) v))))
    → ReturnsStep r
    (take (call_buffer_offset h) v ++ (b ++ drop (call_end_offset h - call_buffer_offset h) (drop (call_buffer_offset h) v)))
    (step_with_buffer_in_call_bytes v h (call_step s (call_by_header v h)))
placed {r} {b} s h v x n i m e d =
    record {
      reply = d.reply ∙ ap (λ (y : Step). y.reply) same;
      buffer = ap (λ (l : List ℕ). take (call_buffer_offset h) v ++ (l ++ drop size (drop (call_buffer_offset h) v)))
          (d.buffer ∙ ap (λ (y : Step). y.buffer) same)
          ∙ ap (λ (l : List ℕ). take (call_buffer_offset h) v ++ ((call_step s (call_by_header v h)).buffer ++ l))
          (drop-drop size (call_buffer_offset h) v ∙ ap (λ (k : ℕ). drop k v) to);
    }
  where
    size : ℕ
    size = call_end_offset h - call_buffer_offset h

    is_lent : size ≡ h.capacity
    is_lent = omega arith

    to : call_buffer_offset h + size ≡ call_end_offset h
    to = omega arith

    same : call_step s (call_of_kind h.kind (take n x) (take size (drop (call_buffer_offset h) v)))
        ≡ call_step s (call_by_header v h)
    same =
        ap (λ (l : List ℕ). call_step s (call_of_kind h.kind l (take size (drop (call_buffer_offset h) v))))
        (e ∙ ap (λ (k : ℕ). take k (drop call_header_size v)) m)
        ∙ copied s h.kind h.incoming (drop call_header_size v) (take size (drop (call_buffer_offset h) v))
        (omega (arith, length-drop call_header_size v))
        ∙ ap
        (λ (k : ℕ). call_step s (call_of_kind h.kind (take h.incoming (drop call_header_size v))
        (take k (drop (call_buffer_offset h) v)))) is_lent

reply_length : (r : Reply) → length (reply_bytes r) ≡ reply_size
reply_length r = go r.answer
  where
    go : (a : CallResult) → length (result_bytes a ++ (r.session.count ∷ [])) ≡ reply_size
    go (CallResult.Command x) = refl
    go (CallResult.Outcome e) = refl
    go (CallResult.Refused x) = refl

-- ---- the call at the front of what is left

pub record FrontCall (v : List ℕ) (left : List Call) : Type 0 where
  pub more : List Call
  pub whole : begins_with_whole_call v ≡ true
  pub is : left ≡ call_by_header v (call_header_in v) ∷ more
  pub rest : parsed_calls (drop (call_end_offset (call_header_in v)) v) ≡ Some more

pub front_left : (v : List ℕ) (left : List Call) → (length v ≡ 0 → ⊥) → parsed_calls v ≡ Some left → FrontCall v left
front_left v left n e = go (call_front_in v) refl
  where
    pick : begins_with_whole_call v ≡ true → (x : Option (List Call))
        → parsed_calls (drop (call_end_offset (call_header_in v)) v) ≡ x → prepend_call (call_by_header v (call_header_in v)) x
        ≡ Some left → FrontCall v left
    pick w None q r = let z : ◌≡◌ {A = ℕ} 0 1 = cc in absurd (omega arith)
    pick w (Some more) q r = record { more = more; whole = w; is = cc; rest = q }

    go : (x : Option CallHeader) → call_front_in v ≡ x → FrontCall v left
    go None f = let y = calls_malformed v n f in let z : ◌≡◌ {A = ℕ} 0 1 = cc in absurd (omega arith)
    go (Some h) f =
        let w = (front_whole v h f).0 in
        pick w (parsed_calls (drop (call_end_offset (call_header_in v)) v)) refl
        (sym (calls_call v n (call_header_in v) (front_is v w)) ∙ e)

-- ---- a list with its end replaced

module _ (c p : List ℕ) (at : ℕ) (h : at ≤ length c) where
  here : length (take at c) ≡ at
  here = length-take-le at c h

  take_on : (n : ℕ) → take (at + n) (take at c ++ p) ≡ take at c ++ take n p
  take_on n = ap (λ (k : ℕ). take (k + n) (take at c ++ p)) (sym here) ∙ take-append-add (take at c) p n

  drop_on : (n : ℕ) → drop (at + n) (take at c ++ p) ≡ drop n p
  drop_on n = ap (λ (k : ℕ). drop (k + n) (take at c ++ p)) (sym here) ∙ drop-append-add (take at c) p n

-- nothing is after the end
pub end_put : (c p : List ℕ) (at : ℕ) → take at c ++ (p ++ drop (length c - at) (drop at c)) ≡ take at c ++ p
end_put c p at =
    ap (λ (l : List ℕ). take at c ++ (p ++ l)) (ap (λ (n : ℕ). drop n (drop at c)) (sym (length-drop at c)) ∙
    drop-length (drop at c))
    ∙ ap (λ (l : List ℕ). take at c ++ l) (append-nil p)

-- ---- the loop: from the places `at` and `out`, playing the calls left gives what playing all gives

pub record Going (c₀ r₀ : List ℕ) (all : List Call) (c r : List ℕ) (s : Session) (at out : ℕ) : Type 0 where
  pub left : List Call
  pub read : parsed_calls (drop at c) ≡ Some left
  pub inside : at ≤ length c
  pub room : out + reply_size * length left ≤ length r
  pub session : final_session fresh_session all ≡ final_session s left
  pub calls : call_bytes_after_play c₀ (play_calls fresh_session all) ≡ take at c ++ call_bytes_after_play (drop at c)
      (play_calls s left)
  pub replies : reply_bytes_of_calls (play_calls fresh_session all) ++ drop (reply_size * length all) r₀ ≡ take out r
      ++ (reply_bytes_of_calls (play_calls s left) ++ drop (out + reply_size * length left) r)

pub going_start : (c r : List ℕ) (all : List Call) (s : Session) → s ≡ fresh_session → parsed_calls c ≡ Some all
    → reply_size * length all ≤ length r → Going c r all c r s 0 0
going_start c r all s f e h =
    let z : reply_size * length all ≡ 0 + reply_size * length all = omega arith in
    record {
      left = all;
      read = e;
      inside = omega arith;
      room = omega arith;
      session = ap (λ (x : Session). final_session x all) (sym f);
      calls = ap (λ (x : Session). call_bytes_after_play c (play_calls x all)) (sym f);
      replies = ap (λ (x : Session). reply_bytes_of_calls (play_calls x all) ++ drop (reply_size * length all) r) (sym f) ∙
          ap (λ (n : ℕ). reply_bytes_of_calls (play_calls s all) ++ drop n r) z;
    }

module _ (c₀ r₀ : List ℕ) (all : List Call) (c r : List ℕ) (s : Session) (at out : ℕ) (g : Going c₀ r₀ all c r s at out)
    (n : at < length c) where
  abbrev v : List ℕ
  v = drop at c

  abbrev h : CallHeader
  h = call_header_in v

  abbrev st : Step
  st = call_step s (call_by_header v h)

  front : FrontCall v g.left
  front = front_left v g.left (λ z. omega (arith, length-drop at c)) g.read

  pub going_whole : begins_with_whole_call v ≡ true
  going_whole = front.whole

  number : length g.left ≡ 1 + length front.more
  number = ap length front.is ∙ omega arith

  pub going_room : out + reply_size ≤ length r
  going_room = omega (arith, g.room, number)

  -- the call is played, with p and q in the places of what is left of the two slices
  abbrev c' : List ℕ → List ℕ
  c' p = take at c ++ (p ++ drop (length c - at) (drop at c))

  abbrev r' : List ℕ → List ℕ
  r' q = take out r ++ (q ++ drop (length r - out) (drop out r))

  module _ (t : CallPlayed) (p q : List ℕ) (d : PlaysOneCall t p q s v (drop out r)) (lc : length (c' p) ≡ length c)
    where
      lp : length p ≡ length v
      lp = omega (
        arith,
        ap length (end_put c p at),
        length-append (take at c) p,
        length-take-le at c g.inside,
        length-drop at c,
      )

      abbrev front_part : List ℕ
      front_part = take (call_buffer_offset h) v ++ st.buffer

      p_is : p ≡ front_part ++ drop (call_end_offset h) v
      p_is = d.calls_after_lem ∙ sym (append_assoc (take (call_buffer_offset h) v) st.buffer (drop (call_end_offset h) v))

      front_size : length front_part ≡ call_end_offset h
      front_size = omega (
        arith,
        ap length p_is,
        length-append front_part (drop (call_end_offset h) v),
        length-drop
            (call_end_offset h) v,
        whole_end v front.whole,
        lp,
      )

      end_is : at + t.size ≡ at + call_end_offset h
      end_is = ap (λ (k : ℕ). at + k) d.size

      calls_taken : take (at + t.size) (take at c ++ p) ≡ take at c ++ front_part
      calls_taken =
          ap (λ (k : ℕ). take k (take at c ++ p)) end_is ∙ take_on c p at g.inside (call_end_offset h)
          ∙ ap (λ (l : List ℕ). take at c ++ l) (ap (take (call_end_offset h)) p_is ∙ take_at front_part
          (drop (call_end_offset h) v) (call_end_offset h) front_size)

      calls_left : drop (at + t.size) (take at c ++ p) ≡ drop (call_end_offset h) v
      calls_left =
          ap (λ (k : ℕ). drop k (take at c ++ p)) end_is ∙ drop_on c p at g.inside (call_end_offset h)
          ∙ ap (drop (call_end_offset h)) p_is ∙ drop_at front_part (drop (call_end_offset h) v) (call_end_offset h)
          front_size

      abbrev bytes : List ℕ
      bytes = reply_bytes st.reply

      out_in : out ≤ length r
      out_in = omega (arith, going_room)

      replies_taken : take (out + reply_size) (take out r ++ q) ≡ take out r ++ bytes
      replies_taken =
          take_on r q out out_in reply_size
          ∙ ap (λ (l : List ℕ). take out r ++ l)
          (ap (take reply_size) d.replies_after_lem ∙ take_at (reply_bytes st.reply) _ reply_size
          (reply_length st.reply))

      replies_left : (k : ℕ) → drop (out + reply_size + k) (take out r ++ q) ≡ drop (out + (reply_size + k)) r
      replies_left k =
          let e : out + reply_size + k ≡ out + (reply_size + k) = omega arith in
          ap (λ (n : ℕ). drop n (take out r ++ q)) e ∙ drop_on r q out out_in (reply_size + k)
          ∙ ap (drop (reply_size + k)) d.replies_after_lem
          ∙ ap (λ (n : ℕ). drop (n + k) (bytes ++ drop reply_size (drop out r))) (sym (reply_length st.reply))
          ∙ drop-append-add bytes (drop reply_size (drop out r)) k
          ∙ drop-drop k reply_size (drop out r) ∙ drop-drop (reply_size + k) out r

      abbrev rest : List Call
      rest = front.more

      abbrev after : Session
      after = st.reply.session

      calls_on : take (at + t.size) (take at c ++ p) ++ call_bytes_after_play (drop (at + t.size) (take at c ++ p))
          (play_calls t.session rest)
          ≡ take at c
          ++ (take (call_buffer_offset h) v
          ++ (st.buffer ++ call_bytes_after_play (drop (call_end_offset h) v) (play_calls after rest)))
      calls_on =
          ap (λ (l : List ℕ). l ++ call_bytes_after_play (drop (at + t.size) (take at c ++ p))
          (play_calls t.session rest)) calls_taken
          ∙ ap (λ (l : List ℕ). (take at c ++ front_part) ++ call_bytes_after_play l (play_calls t.session rest))
          calls_left
          ∙ ap (λ (x : Session). (take at c ++ front_part) ++ call_bytes_after_play (drop (call_end_offset h) v)
          (play_calls x rest)) d.session
          ∙ append_assoc (take at c) front_part (call_bytes_after_play (drop (call_end_offset h) v) (play_calls after rest))
          ∙ ap (λ (l : List ℕ). take at c ++ l) (append_assoc (take (call_buffer_offset h) v) st.buffer
          (call_bytes_after_play (drop (call_end_offset h) v) (play_calls after rest)))

      replies_on : take (out + reply_size) (take out r ++ q)
          ++ (reply_bytes_of_calls (play_calls t.session rest) ++ drop (out + reply_size + reply_size * length rest)
          (take out r ++ q))
          ≡ take out r ++ ((bytes ++ reply_bytes_of_calls (play_calls after rest))
          ++ drop (out + (reply_size + reply_size * length rest)) r)
      replies_on =
          ap
          (λ (l : List ℕ). l
          ++ (reply_bytes_of_calls (play_calls t.session rest) ++ drop (out + reply_size + reply_size * length rest)
          (take out r ++ q))) replies_taken
          ∙ ap (λ (l : List ℕ). (take out r ++ bytes) ++ (reply_bytes_of_calls (play_calls t.session rest) ++ l))
          (replies_left (reply_size * length rest))
          ∙ ap (λ (x : Session). (take out r ++ bytes)
          ++ (reply_bytes_of_calls (play_calls x rest) ++ drop (out + (reply_size + reply_size * length rest)) r))
          d.session
          ∙ append_assoc (take out r) bytes _
          ∙ ap (λ (l : List ℕ). take out r ++ l)
          (sym (append_assoc bytes (reply_bytes_of_calls (play_calls after rest))
          (drop (out + (reply_size + reply_size * length rest)) r)))

      transition_goes : Going c₀ r₀ all (take at c ++ p) (take out r ++ q) t.session (at + t.size) (out + reply_size)
      unfolding play_calls final_session call_bytes_after_play reply_bytes_of_calls
      transition_goes =
          let e : out + reply_size * length (call_by_header v h ∷ rest) ≡ out + (reply_size + reply_size * length rest) =
          omega arith in
          record {
            left = rest;
            read = ap parsed_calls calls_left ∙ front.rest;
            inside = omega (
              arith,
              length-append (take at c) p,
              length-take-le at c g.inside,
              length-drop at c,
              lp,
              end_is,
              whole_end v front.whole,
            );
            room =
                omega (
                  arith,
                  length-append (take out r) q,
                  length-take-le out r out_in,
                  ap length d.replies_after_lem,
                  length-append bytes (drop reply_size (drop out r)),
                  reply_length st.reply,
                  length-drop reply_size (drop out r),
                  length-drop out r,
                  g.room,
                  number,
                );
            session = g.session ∙ ap (final_session s) front.is ∙ ap (λ (x : Session). final_session x rest)
                (sym d.session);
            calls = g.calls ∙ ap (λ (x : List Call). take at c ++ call_bytes_after_play v (play_calls s x)) front.is ∙
                sym
                calls_on;
            replies =
                g.replies ∙ ap
                (λ (x : List Call). take out r
                ++ (reply_bytes_of_calls (play_calls s x) ++ drop (out + reply_size * length x)
                r)) front.is
                ∙ ap (λ (n : ℕ). take out r ++ ((bytes ++ reply_bytes_of_calls (play_calls after rest)) ++ drop n r)) e ∙
                sym
                replies_on;
          }

      pub going_transition : Going c₀ r₀ all (c' p) (r' q) t.session (at + t.size) (out + reply_size)
      going_transition =
          subst (λ (x : List ℕ). Going c₀ r₀ all x (r' q) t.session (at + t.size) (out + reply_size))
          (sym (end_put c p at))
          (subst (λ (x : List ℕ). Going c₀ r₀ all (take at c ++ p) x t.session (at + t.size) (out + reply_size))
          (sym (end_put r q out)) transition_goes)

pub going_end : (c₀ r₀ : List ℕ) (all : List Call) (c r : List ℕ) (s : Session) (at out : ℕ)
    → Going c₀ r₀ all c r s at out → length c ≤ at → PlaysCalls s c r c₀ r₀ all
unfolding play_calls final_session call_bytes_after_play reply_bytes_of_calls
going_end c₀ r₀ all c r s at out g z =
    let e : Some g.left ≡ Some [] = sym g.read ∙ calls_end (drop at c) (length-drop at c ∙ omega arith) in
    let l : g.left ≡ [] = cc in
    let k : out + reply_size * length g.left ≡ out = omega (arith, ap length l) in
    record {
      session = sym (g.session ∙ ap (final_session s) l);
      calls_after_lem = sym (g.calls ∙ ap (λ (x : List Call). take at c ++ call_bytes_after_play (drop at c) (play_calls s x))
          l ∙ take-append-drop at c);
      replies_after_lem =
          sym (g.replies ∙ ap (λ (m : ℕ). take out r ++ (reply_bytes_of_calls (play_calls s g.left) ++ drop m r)) k
          ∙ ap (λ (x : List Call). take out r ++ (reply_bytes_of_calls (play_calls s x) ++ drop out r)) l ∙ take-append-drop
          out r);
    }
