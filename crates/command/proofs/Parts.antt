-- What a measured list gives, which lists a command takes, and how a command's parts, written one by one, are the
-- command at the buffer's front.
-- Assumes nothing.
use Rattle.std.specs.Prelude.{Some, None, Option}
use Rattle.command.specs.declared.DolCommandSize.{DolCommandSize}
use mathlib.Core.Path.{◌≡◌, refl, sym, ap, ap₂, ◌∙◌}
use mathlib.Core.List.{List, [], ◌∷◌, ◌++◌, append_assoc}
use mathlib.Core.Logic.{inl, inr}
use Prim.Native.Nat.{ℕ, suc, ◌+◌, ◌-◌, ◌≤◌, ◌<◌}
use native.Mathlib.Omega.{arith}
use lib.Dec.{leb}
use lib.ListN.{length, get_or, take, drop, set, take-append-drop, length-take, length-drop, length-append}
use lib.Seq.{drop-cons, drop-drop, set_at, append_snoc, sets, sets-eq}
use borrow.Author.Tests.{lt-ltb, le-ltb, le-leb, lt-leb, leb-false}
use Rattle.basics.proofs.Laws.{if_yes, if_no, both_yes, both_no_left, both_no_right, bool_cases}
use Rattle.basics.proofs.Order.{le-or-gt}
use Rattle.tlv.specs.Encoding.{length_bytes}
use Rattle.dictionary.specs.Rows.{Row, dictionary_rows}
use Rattle.dictionary.specs.Named.{row_cdol1, row_pdol, row_udol}
use Rattle.dictionary.proofs.Named.{at_8c, at_9f38, at_9f69}
use Rattle.store.specs.Place.{bytes_or_empty_if_absent, row_value}
use Rattle.store.proofs.Laws.{by_row}
use Rattle.dol.specs.declared.DolEntry.{DolEntry}
use Rattle.dol.specs.Entries.{dol_entries, dol_total_length}
use Rattle.dol.specs.Filling.{dol_data, dol_data_if_parsed, dol_filled}
use Rattle.command.specs.WithList.{proprietary_command, command_if_data_is1_to255_bytes, command_with_dol, generate_ac}
use Rattle.command.specs.WithList.{udol_or_default, compute_cryptographic_checksum, gpo_data_tag_and_length}
use Rattle.command.specs.WithList.{gpo_data_of_filled_pdol, gpo_command_of_filled, get_processing_options, command_of_length}
use Rattle.command.specs.WithList.{dol_command_of, dol_command_reason, reason_dol_if_no_command, buffer_with_command}
use Rattle.dol.specs.Measure.{dol_total_if_at_most255, FilledDolFitsAt, buffer_with_bytes_at}
use Rattle.dol.proofs.Buffer.{over_there, over_cover}
use Rattle.dol.proofs.Entries.{whole}
use Rattle.dol.proofs.Filling.{filling_length, filled_some}

-- ---- what a measured list gives

-- a list with a total: its filling has that length, and room where so many bytes are left
pub record Fills (table : List Row) (store : List ℕ) (x : Option (List DolEntry)) (n : ℕ) : Type 0 where
  pub bytes : List ℕ
  pub is : dol_data_if_parsed table store x ≡ Some bytes
  pub long : length bytes ≡ n
  pub few : n ≤ 255
  pub room : (at m : ℕ) → at + n ≤ m → FilledDolFitsAt x at m

module _ (table : List Row) (store : List ℕ) (x : Option (List DolEntry)) where
  pub fills : (n : ℕ) → dol_total_if_at_most255 x ≡ Some n → Fills table store x n
  fills n p =
      let w = whole x n p in
      let s = w.sum in
      record {
        bytes = dol_data table store w.list;
        is = filled_some table store x w.list w.is;
        long = filling_length table store w.list ∙ s;
        few = w.few;
        room = λ at m h. rw w.is (omega arith);
      }

  -- a list without one: nothing that refuses a broken list and a filling over 255 bytes takes it
  pub unfit : (f : Option (List ℕ) → Option (List ℕ)) → f None ≡ None
      → ((v : List ℕ) → 255 < length v → f (Some v) ≡ None)
      → dol_total_if_at_most255 x ≡ None → f (dol_data_if_parsed table store x) ≡ None
  unfolding dol_total_if_at_most255 dol_data_if_parsed
  unfit f broken long p = go x p
    where
      go : (x : Option (List DolEntry)) → dol_total_if_at_most255 x ≡ None → f (dol_data_if_parsed table store x) ≡ None
      go None q = broken
      go (Some es) q = elim (bool_cases (leb (dol_total_length es) 255)) [
        | inl t ↦ let i : Some (dol_total_length es) ≡ None = sym (if_yes _ _ t) ∙ q in let z : ◌≡◌ {A = ℕ} 0 1 = cc in
            absurd (omega arith)
        | inr t ↦ long (dol_data table store es)
            (omega (arith, leb-false (dol_total_length es) 255 t, filling_length table store es))
      ]

-- the same of a list in the dictionary, by what `measure` reports
pub measured : (store list : List ℕ) {r : Option ℕ} {n : ℕ} → r ≡ dol_total_if_at_most255 (dol_entries list) → r ≡ Some n
    → Fills dictionary_rows store (dol_entries list) n
measured store list {r} {n} e p = fills dictionary_rows store (dol_entries list) n (sym e ∙ p)

-- ---- which lists a command takes

pub gpo_broken : gpo_command_of_filled None ≡ None
unfolding gpo_command_of_filled
gpo_broken = refl

pub gpo_long : (v : List ℕ) → 252 < length v → gpo_command_of_filled (Some v) ≡ None
unfolding gpo_command_of_filled
gpo_long v h = if_no _ _ (lt-leb (length v) 252 h)

pub gpo_some : (v : List ℕ) → length v ≤ 252
    → gpo_command_of_filled (Some v) ≡ Some (proprietary_command 0xA8 0 0 (gpo_data_of_filled_pdol v))
unfolding gpo_command_of_filled
gpo_some v h = if_yes _ _ (le-leb (length v) 252 h)

module _ (f : List ℕ → List ℕ) where
  pub dol_broken : command_if_data_is1_to255_bytes f None ≡ None
  unfolding command_if_data_is1_to255_bytes
  dol_broken = refl

  pub dol_empty : (v : List ℕ) → length v ≡ 0 → command_if_data_is1_to255_bytes f (Some v) ≡ None
  unfolding command_if_data_is1_to255_bytes
  dol_empty v h = if_no _ _ (both_no_left _ _ (lt-leb 1 (length v) (omega arith)))

  pub dol_long : (v : List ℕ) → 255 < length v → command_if_data_is1_to255_bytes f (Some v) ≡ None
  unfolding command_if_data_is1_to255_bytes
  dol_long v h = if_no _ _ (both_no_right _ _ (lt-leb (length v) 255 h))

  pub dol_some : (v : List ℕ) → 1 ≤ length v → length v ≤ 255 → command_if_data_is1_to255_bytes f (Some v) ≡ Some (f v)
  unfolding command_if_data_is1_to255_bytes
  dol_some v h k = if_yes _ _ (both_yes _ _ (le-leb 1 (length v) h) (le-leb (length v) 255 k))

-- the lists, by their rows
pub gpo_of : (store list : List ℕ) → list ≡ bytes_or_empty_if_absent (row_value dictionary_rows store row_pdol)
    → get_processing_options store ≡ gpo_command_of_filled (dol_filled dictionary_rows store list)
unfolding get_processing_options
gpo_of store list p = ap (λ (l : List ℕ). gpo_command_of_filled (dol_filled dictionary_rows store l))
    (ap bytes_or_empty_if_absent (by_row dictionary_rows store 0x9F38 row_pdol at_9f38) ∙ sym p)

pub cryptogram_of : (p1 : ℕ) (store list : List ℕ)
    → list ≡ bytes_or_empty_if_absent (row_value dictionary_rows store row_cdol1)
    → generate_ac p1 store ≡ command_with_dol (proprietary_command 0xAE p1 0) list store
unfolding generate_ac
cryptogram_of p1 store list p = ap (λ (l : List ℕ). command_with_dol (proprietary_command 0xAE p1 0) l store)
    (ap bytes_or_empty_if_absent (by_row dictionary_rows store 0x8C row_cdol1 at_8c) ∙ sym p)

-- the stored list where it has bytes, else the default one
pub list_own : (l : List ℕ) → (length l ≡ 0 → ⊥) → udol_or_default l ≡ l
unfolding udol_or_default
list_own [] h = absurd (h refl)
list_own (x ∷ l) h = refl

pub list_default : (l : List ℕ) → length l ≡ 0 → udol_or_default l ≡ 0x9F ∷ 0x6A ∷ 0x04 ∷ []
unfolding udol_or_default
list_default [] h = refl
list_default (x ∷ l) h = absurd (omega arith)

pub checksum_of : (store list l : List ℕ) → list ≡ bytes_or_empty_if_absent (row_value dictionary_rows store row_udol)
    → udol_or_default list ≡ l → compute_cryptographic_checksum store ≡ command_with_dol (proprietary_command 0x2A 0x8E 0x80) l
    store
unfolding compute_cryptographic_checksum
checksum_of store list l p q =
    ap (λ (x : List ℕ). command_with_dol (proprietary_command 0x2A 0x8E 0x80) (udol_or_default x) store)
    (ap bytes_or_empty_if_absent (by_row dictionary_rows store 0x9F69 row_udol at_9f69) ∙ sym p) ∙ ap
    (λ (x : List ℕ). command_with_dol (proprietary_command 0x2A 0x8E 0x80) x store) q

-- ---- the parts of a command

pub head_short : (n : ℕ) → n < 128 → gpo_data_tag_and_length n ≡ 0x83 ∷ n ∷ []
unfolding length_bytes
head_short n h = ap (λ (l : List ℕ). 0x83 ∷ l) (if_yes _ _ (lt-ltb n 0x80 h))

pub head_long : (n : ℕ) → 128 ≤ n → n < 256 → gpo_data_tag_and_length n ≡ 0x83 ∷ 0x81 ∷ n ∷ []
unfolding length_bytes
head_long n h k = ap (λ (l : List ℕ). 0x83 ∷ l) (if_no _ _ (le-ltb n 0x80 h) ∙ if_yes _ _ (lt-ltb n 0x100 k))

pub head_length : (n : ℕ) → n < 256 → (2 ≤ length (gpo_data_tag_and_length n)) × (length (gpo_data_tag_and_length n) ≤ 3)
head_length n h = elim (le-or-gt 128 n) [
  | inl k ↦ let e = ap length (head_long n k h) in (omega arith, omega arith)
  | inr k ↦ let e = ap length (head_short n k) in (omega arith, omega arith)
]

-- the place after it
pub head_placed : (n : ℕ) {at : ℕ} → n < 256 → at ≡ 5 + length (gpo_data_tag_and_length n) → (5 ≤ at) × (at ≤ 8)
head_placed n h e = let l = head_length n h in (omega arith, omega arith)

-- the header before the data, and 00 after it
module _ (ins p1 p2 : ℕ) (b : List ℕ) (end : ℕ) (h : 5 ≤ end) (k : end < length b) where
  abbrev front : List ℕ
  front = 0x80 ∷ ins ∷ p1 ∷ p2 ∷ (end - 5) ∷ []

  abbrev body : List ℕ
  body = take (end - 5) (drop 5 b)

  body_length : length body ≡ end - 5
  body_length = simp (length-take, length-drop) (omega arith)

  pub closed : set (front ++ drop 5 b) end 0 ≡ buffer_with_bytes_at b 0 (proprietary_command ins p1 p2 body)
  unfolding buffer_with_bytes_at
  closed =
      let l : length (front ++ body) ≡ end = simp body_length (omega arith) in
      let m : 0 + length (proprietary_command ins p1 p2 body) ≡ suc end = simp (length-append, body_length) (omega arith)
      in
      let e : 5 + (end - 5) ≡ end = omega arith in
      let r : drop 5 b ≡ body ++ (get_or b end 0 ∷ drop (suc end) b) = sym (take-append-drop (end - 5) (drop 5 b)) ∙ ap
      (λ (x : List ℕ). body ++ x) (drop-drop (end - 5) 5 b ∙ rw e (drop-cons b end 0 k)) in
      ap (λ (x : List ℕ). set x end 0) (ap (λ (x : List ℕ). front ++ x) r ∙ sym (append_assoc front body _))
      ∙ set_at (front ++ body) (get_or b end 0) (drop (suc end) b) 0 end l
      ∙ sym (ap₂ (λ (n : ℕ) (x : List ℕ). 0x80 ∷ ins ∷ p1 ∷ p2 ∷ n ∷ x) body_length
      (rw m (append_snoc body 0 (drop (suc end) b))))

-- the data w from place 5 on, and then closed: the command is at the front, and all after it stays
module _ (ins p1 p2 : ℕ) (b w : List ℕ) (end : ℕ) (h : 5 + length w < length b) (e : end ≡ 5 + length w) where
  pub command_length : command_of_length (end + 1) ≡ dol_command_of (Some (proprietary_command ins p1 p2 w))
  command_length = let l : end + 1 ≡ length (proprietary_command ins p1 p2 w) = simp length-append (omega arith) in
      ap command_of_length l

  pub command_front : (y z : List ℕ) → y ≡ buffer_with_bytes_at b 5 w
      → z ≡ buffer_with_bytes_at y 0 (proprietary_command ins p1 p2 (take (end - 5) (drop 5 y)))
      → z ≡ buffer_with_command (Some (proprietary_command ins p1 p2 w)) b
  unfolding buffer_with_bytes_at
  command_front y z p q =
      let f : 5 + length w ≤ length b = omega arith in
      let l : end - 5 ≡ length w = omega arith in
      let k : 5 + length w ≤ length (proprietary_command ins p1 p2 w) = simp length-append (omega arith) in
      let m : 0 + length (proprietary_command ins p1 p2 w) ≡ length (proprietary_command ins p1 p2 w) = omega arith in
      let d : take (end - 5) (drop 5 y) ≡ w = rw (l, p) (over_there b 5 w f) in
      q ∙ rw (d, p) (over_cover b 5 w f (proprietary_command ins p1 p2 w) k ∙ ap
      (λ (n : ℕ). proprietary_command ins p1 p2 w ++ drop n b) m)

-- what a call states of its result, of the whole buffer and of the reason, where there is no command, and where
-- there is one
pub none_written : (x : Option (List ℕ)) (b : List ℕ) {r : Option DolCommandSize} → r ≡ None → x ≡ None
    → (r ≡ dol_command_of x) × ((b ≡ buffer_with_command x b) × (dol_command_reason r ≡ reason_dol_if_no_command x))
none_written x b p e = rw (p, e) (refl, (refl, refl))

pub some_written : (x : Option (List ℕ)) (c b z : List ℕ) (r : Option DolCommandSize) → x ≡ Some c → r ≡ dol_command_of (Some c)
    → z ≡ buffer_with_command (Some c) b
    → (r ≡ dol_command_of x) × ((z ≡ buffer_with_command x b) × (dol_command_reason r ≡ reason_dol_if_no_command x))
some_written x c b z r e p q = rw (e, p, q) (refl, (refl, refl))
