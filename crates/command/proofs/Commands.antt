-- What holds of every command that is handed out: how it begins, how long it is, that its bytes are bytes, and the one
-- of no list. A command carries a filling that is short enough, and all else is read off that.
-- Assumes nothing.
use Rattle.std.specs.Prelude.{Option, Some, None}
use mathlib.Core.Path.{◌≡◌, refl, sym, ap, subst⁻¹, ◌∙◌}
use mathlib.Core.List.{List, [], ◌∷◌}
use mathlib.Core.Logic.{inl, inr}
use Prim.Native.Nat.{ℕ, zero, suc, ◌+◌, ◌≤◌, ◌<◌}
use native.Mathlib.Omega.{arith}
use lib.Dec.{leb}
use lib.ListN.{length, take, length-append}
use borrow.Author.Tests.{leb-true}
use Rattle.basics.specs.Choice.{if, both}
use Rattle.basics.proofs.Laws.{if_yes, if_no, both_right, bool_cases}
use Rattle.basics.proofs.Order.{le-or-gt}
use Rattle.tlv.specs.Encoding.{length_bytes}
use Rattle.tlv.proofs.Laws.{Bytes}
use Rattle.dictionary.specs.Rows.{dictionary_rows}
use Rattle.store.specs.Place.{absent, bytes_or_empty_if_absent, object_value}
use Rattle.dol.specs.Filling.{dol_filled}
use Rattle.command.specs.WithList.{proprietary_command, command_if_data_is1_to255_bytes, generate_ac}
use Rattle.command.specs.WithList.{compute_cryptographic_checksum, gpo_data_tag_and_length, gpo_data_of_filled_pdol}
use Rattle.command.specs.WithList.{gpo_command_of_filled, get_processing_options}
use Rattle.dol.proofs.Filling.{filled_nothing}
use Rattle.dol.proofs.Bytes.{bytes_nil, bytes_cons, bytes_append, filled_bytes}
use Rattle.command.proofs.Parts.{head_short, head_long, head_length}

no_command : {P : Type 0} (c : List ℕ) → None ≡ Some c → P
no_command c p = let z : ◌≡◌ {A = ℕ} 0 1 = cc in absurd (omega arith)

-- x is the filled list, c the command that carries it as its data
pub record Carried (ins p1 p2 : ℕ) (body : List ℕ → List ℕ) (x : Option (List ℕ)) (c : List ℕ) : Type 0 where
  pub bytes : List ℕ
  pub is : x ≡ Some bytes
  pub sent : c ≡ proprietary_command ins p1 p2 (body bytes)
  pub few : length bytes ≤ 255
  pub fits : length (body bytes) ≤ 255

gpo_carried : (x : Option (List ℕ)) (c : List ℕ) → gpo_command_of_filled x ≡ Some c
    → Carried 0xA8 0 0 gpo_data_of_filled_pdol x c
unfolding gpo_command_of_filled
gpo_carried None c p = no_command c p
gpo_carried (Some v) c p = elim (bool_cases (leb (length v) 252)) [
  | inl t ↦
      let h = leb-true (length v) 252 t in
      let i : Some (proprietary_command 0xA8 0 0 (gpo_data_of_filled_pdol v)) ≡ Some c = sym (if_yes _ _ t) ∙ p in
      let k = head_length (length v) (omega arith) in
      record {
        bytes = v;
        is = refl;
        sent = cc;
        few = omega arith;
        fits =
            omega (arith, length-append (gpo_data_tag_and_length (length v)) v);
      }
  | inr t ↦ no_command c (sym (if_no _ _ t) ∙ p)
]

dol_carried : (ins p1 p2 : ℕ) (x : Option (List ℕ)) (c : List ℕ)
    → command_if_data_is1_to255_bytes (proprietary_command ins p1 p2) x ≡ Some c → Carried ins p1 p2 (λ v. v) x c
unfolding command_if_data_is1_to255_bytes
dol_carried ins p1 p2 None c p = no_command c p
dol_carried ins p1 p2 (Some v) c p = elim (bool_cases (both (leb 1 (length v)) (leb (length v) 255))) [
  | inl t ↦
      let h = leb-true (length v) 255 (both_right _ _ t) in
      let i : Some (proprietary_command ins p1 p2 v) ≡ Some c = sym (if_yes _ _ t) ∙ p in
      record { bytes = v; is = refl; sent = cc; few = h; fits = h }
  | inr t ↦ no_command c (sym (if_no _ _ t) ∙ p)
]

-- the instruction is in its second byte, and it has 5 to 261 bytes
pub record Proper (ins : ℕ) (c : List ℕ) : Type 0 where
  pub starts : take 2 c ≡ 0x80 ∷ ins ∷ []
  pub least : 5 ≤ length c
  pub most : length c ≤ 261

carried_proper : (ins p1 p2 : ℕ) (body : List ℕ → List ℕ) (x : Option (List ℕ)) (c : List ℕ)
    → Carried ins p1 p2 body x c → Proper ins c
carried_proper ins p1 p2 body x c d =
    let f = d.fits in
    let l : length (proprietary_command ins p1 p2 (body d.bytes)) ≡ length (body d.bytes) + 6 = simp length-append
    (omega arith) in
    let e = ap length d.sent in
    record { starts = ap (take 2) d.sent; least = omega arith; most = omega arith }

head_bytes : (n : ℕ) → n < 256 → Bytes (gpo_data_tag_and_length n)
head_bytes n h =
    let one = bytes_cons n [] h bytes_nil in
    elim (le-or-gt 128 n) [
      | inl k ↦ subst⁻¹ Bytes (head_long n k h)
          (bytes_cons 0x83 (0x81 ∷ n ∷ []) (omega arith) (bytes_cons 0x81 (n ∷ []) (omega arith) one))
      | inr k ↦ subst⁻¹ Bytes (head_short n k) (bytes_cons 0x83 (n ∷ []) (omega arith) one)
    ]

command_bytes : (ins p1 p2 : ℕ) (w : List ℕ) → ins < 256 → p1 < 256 → p2 < 256 → length w < 256 → Bytes w
    → Bytes (proprietary_command ins p1 p2 w)
command_bytes ins p1 p2 w h k m l b zero = omega arith
command_bytes ins p1 p2 w h k m l b (suc zero) = h
command_bytes ins p1 p2 w h k m l b (suc (suc zero)) = k
command_bytes ins p1 p2 w h k m l b (suc (suc (suc zero))) = m
command_bytes ins p1 p2 w h k m l b (suc (suc (suc (suc zero)))) = l
command_bytes ins p1 p2 w h k m l b (suc (suc (suc (suc (suc i))))) = bytes_append w (0 ∷ []) b
    (bytes_cons 0 [] (omega arith) bytes_nil) i

carried_bytes : (ins p1 p2 : ℕ) (body : List ℕ → List ℕ) (x : Option (List ℕ)) (c : List ℕ)
    (d : Carried ins p1 p2 body x c)
    → ins < 256 → p1 < 256 → p2 < 256 → Bytes (body d.bytes) → Bytes c
carried_bytes ins p1 p2 body x c d h k m b = subst⁻¹ Bytes d.sent
    (command_bytes ins p1 p2 (body d.bytes) h k m (omega (arith, d.fits)) b)

module _ (store c : List ℕ) where
  pub gpo_proper : get_processing_options store ≡ Some c → Proper 0xA8 c
  unfolding get_processing_options
  gpo_proper p = carried_proper 0xA8 0 0 gpo_data_of_filled_pdol _ c (gpo_carried _ c p)

  pub cryptogram_proper : (p1 : ℕ) → generate_ac p1 store ≡ Some c → Proper 0xAE c
  unfolding generate_ac
  cryptogram_proper p1 p = carried_proper 0xAE p1 0 (λ v. v) _ c (dol_carried 0xAE p1 0 _ c p)

  pub checksum_proper : compute_cryptographic_checksum store ≡ Some c → Proper 0x2A c
  unfolding compute_cryptographic_checksum
  checksum_proper p = carried_proper 0x2A 0x8E 0x80 (λ v. v) _ c (dol_carried 0x2A 0x8E 0x80 _ c p)

  -- every byte of it is a byte
  pub gpo_bytes : Bytes store → get_processing_options store ≡ Some c → Bytes c
  unfolding get_processing_options
  gpo_bytes b p =
      let d = gpo_carried _ c p in
      let h = head_bytes (length d.bytes) (omega (arith, d.few)) in
      carried_bytes 0xA8 0 0 gpo_data_of_filled_pdol _ c d (omega arith) (omega arith) (omega arith)
      (bytes_append (gpo_data_tag_and_length (length d.bytes)) d.bytes h
      (filled_bytes dictionary_rows store b _ d.bytes d.is))

  pub cryptogram_bytes : Bytes store → (p1 : ℕ) → p1 < 256 → generate_ac p1 store ≡ Some c → Bytes c
  unfolding generate_ac
  cryptogram_bytes b p1 h p =
      let d = dol_carried 0xAE p1 0 _ c p in
      carried_bytes 0xAE p1 0 (λ v. v) _ c d (omega arith) h (omega arith)
      (filled_bytes dictionary_rows store b _ d.bytes d.is)

  pub checksum_bytes : Bytes store → compute_cryptographic_checksum store ≡ Some c → Bytes c
  unfolding compute_cryptographic_checksum
  checksum_bytes b p =
      let d = dol_carried 0x2A 0x8E 0x80 _ c p in
      carried_bytes 0x2A 0x8E 0x80 (λ v. v) _ c d (omega arith) (omega arith) (omega arith)
      (filled_bytes dictionary_rows store b _ d.bytes d.is)

-- with no list, or an empty one, GPO has the data 83 00
pub gpo_empty : (store : List ℕ) → bytes_or_empty_if_absent (object_value store 0x9F38) ≡ []
    → get_processing_options store ≡ Some (0x80 ∷ 0xA8 ∷ 0 ∷ 0 ∷ 2 ∷ 0x83 ∷ 0 ∷ 0 ∷ [])
unfolding get_processing_options gpo_command_of_filled length_bytes if
gpo_empty store e = ap (λ (l : List ℕ). gpo_command_of_filled (dol_filled dictionary_rows store l)) e ∙ ap gpo_command_of_filled
    (filled_nothing dictionary_rows store) ∙ gpo_nothing
  where
    gpo_nothing : gpo_command_of_filled (Some []) ≡ Some (0x80 ∷ 0xA8 ∷ 0 ∷ 0 ∷ 2 ∷ 0x83 ∷ 0 ∷ 0 ∷ [])
    gpo_nothing = refl

pub gpo_absent : (store : List ℕ) → object_value store 0x9F38 ≡ absent
    → get_processing_options store ≡ Some (0x80 ∷ 0xA8 ∷ 0 ∷ 0 ∷ 2 ∷ 0x83 ∷ 0 ∷ 0 ∷ [])
gpo_absent store e = gpo_empty store (ap bytes_or_empty_if_absent e)
