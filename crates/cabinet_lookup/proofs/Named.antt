-- The word of a tag names the part that a lookup returns (`named`). A length is below 2^16 (`place_small`) and a source
-- is at most 2, so a word has its parts back (`word_start`, `word_source`, `word_length`); the address goes by what is
-- found in each list (`address_both`).
-- Assumes nothing.
use Rattle.std.specs.Prelude.{Some, None, Option}
use mathlib.Core.Path.{◌≡◌, refl, sym, ap, ap₂, ◌∙◌}
use mathlib.Core.List.{List, ◌++◌}
use Prim.Native.Nat.{ℕ, ◌+◌, ◌-◌, ◌*◌, ◌≤◌, ◌<◌}
use native.Mathlib.Omega.{arith}
use lib.Dec.{eqb}
use lib.ListN.{length, drop, length-append, length-take, length-drop}
use denote.Ref.{Bor}
use Rattle.basics.specs.Choice.{if}
use Rattle.tlv.proofs.Laws.{Bytes}
use Rattle.cabinet_lookup.specs.declared.LookupSpan.{LookupSpan}
use Rattle.cabinet_lookup.specs.Value.{lookup_value}
use Rattle.cabinet_lookup.specs.Place.{lookup_span, span_bytes, span_by_site_or_defaults}
use Rattle.cabinet_lookup.specs.Place.{span_in_site_then_defaults}
use Rattle.cabinet_lookup.specs.Address.{address_after, address_in_site_or_defaults, address_of_value}
use Rattle.cabinet_lookup.specs.Word.{source_site, source_by_values, lookup_source, lookup_word_of_span, lookup_word}
use Rattle.cabinet_lookup.specs.Word.{lookup_word_start, lookup_word_source, lookup_word_length}
use Rattle.cabinet_lookup.specs.Named.{LookupWordDescribesPart}
use Rattle.cabinet_lookup.proofs.Laws.{Stands, stands, place_inside, Handed, source_few, word-is}
use Rattle.cabinet_lookup.proofs.Small.{place_small}

-- ---- the word has its parts back

module _ (a k n : ℕ) (few : k ≤ 2) (small : n < 0x10000) where
  start_back : lookup_word_start (a * 0x100000000 + k * 0x10000 + n) ≡ a
  start_back = omega arith

  source_back : lookup_word_source (a * 0x100000000 + k * 0x10000 + n) ≡ k
  source_back = omega arith

  length_back : lookup_word_length (a * 0x100000000 + k * 0x10000 + n) ≡ n
  length_back = omega arith

module _ (tag : ℕ) (site defaults : List ℕ) where
  abbrev word : ℕ
  word = lookup_word tag site defaults

  abbrev place : LookupSpan
  place = span_in_site_then_defaults tag site defaults

  module _ (b : Bytes site) (d : Bytes defaults) (short : length site + length defaults < 0x100000000) where
    of_word : (f : ℕ → ℕ) (n : ℕ) → f (lookup_word_of_span (lookup_source tag site defaults) place) ≡ n → f word ≡ n
    of_word f n e = ap f (sym (word-is tag site defaults short _ _ refl refl)) ∙ e

    pub word_start : lookup_word_start word ≡ place.start
    word_start = of_word lookup_word_start _ (start_back _ _ _ (source_few _ _) (place_small tag site defaults b d))

    pub word_source : lookup_word_source word ≡ lookup_source tag site defaults
    word_source = of_word lookup_word_source _ (source_back _ _ _ (source_few _ _) (place_small tag site defaults b d))

    pub word_length : lookup_word_length word ≡ place.len
    word_length = of_word lookup_word_length _ (length_back _ _ _ (source_few _ _) (place_small tag site defaults b d))

-- ---- the address, by what is found in each list

-- an address by the source and the start, of a site's list of n bytes
abbrev address_by : ℕ → ℕ × ℕ → ℕ × ℕ → ℕ → ℕ → ℕ × ℕ
address_by n s d k a = if (eqb k source_site) (address_after a s) (address_after (a - n) d)

module _ (site defaults : List ℕ) (s d : ℕ × ℕ) where
  address_both : (x y : Option LookupSpan) (v w : Option (List ℕ)) → Stands site x v → Stands defaults y w
      → address_in_site_or_defaults s d x y ≡ address_by (length site) s d (source_by_values v w)
      (span_by_site_or_defaults (length site) x y).start
  unfolding address_in_site_or_defaults span_by_site_or_defaults source_by_values if
  address_both (Some p) y v w f g = rw f.1
  address_both None (Some p) v w f g =
      let z : p.start ≡ length site + p.start - length site = omega arith in
      rw (f, g.1) (ap (λ (m : ℕ). address_after m d) z)
  address_both None None v w f g =
      let z : 0 ≡ length site - length site = omega arith in
      rw (f, g) (ap (λ (m : ℕ). address_after m d) z)

-- ---- the part

part_length : (l : List ℕ) (p : LookupSpan) → p.start + p.len ≤ length l → length (span_bytes l p) ≡ p.len
part_length l p h =
    let e = length-take p.len (drop p.start l) in
    let f = length-drop p.start l in
    omega arith

module _ (tag : ℕ) (site defaults part : Bor (List ℕ)) (b : Bytes site.now) (d : Bytes defaults.now) where
  abbrev Part : Type 0
  Part = Handed tag site.now defaults.now part.now

  -- a part with the bytes and the address of the tag's value is the one that the word names
  named : Part → part.ref_ptr ≡ address_of_value tag site defaults → LookupWordDescribesPart tag site defaults part
  named h a short =
      let start = word_start tag site.now defaults.now b d short in
      let source = word_source tag site.now defaults.now b d short in
      let len = word_length tag site.now defaults.now b d short in
      let i = place_inside site.now defaults.now tag (span_in_site_then_defaults tag site.now defaults.now) refl
      in
      let l = length-append site.now defaults.now in
      record {
        source = source;
        address =
            a
            ∙ address_both site.now defaults.now _ _ _ _ _ _ (stands tag site.now) (stands tag defaults.now)
            ∙ sym (ap₂ (address_by (length site.now) site.ref_ptr defaults.ref_ptr) source start);
        len =
            ap length h.1
            ∙ part_length (site.now ++ defaults.now) (span_in_site_then_defaults tag site.now defaults.now)
            (omega arith)
            ∙ sym len;
        bytes = h.1 ∙ sym (ap₂ (λ (m n : ℕ). span_bytes (site.now ++ defaults.now) (lookup_span m n)) start len);
      }

  -- the promises of a lookup, by the bytes and the address that it returns
  pub returned : Part → part.ref_ptr ≡ address_of_value tag site defaults
      → (part.now ≡ lookup_value tag site.now defaults.now)
      × ((part.now ≡ span_bytes (site.now ++ defaults.now) (span_in_site_then_defaults tag site.now defaults.now))
      × ((part.ref_ptr ≡ address_of_value tag site defaults) × LookupWordDescribesPart tag site defaults part))
  returned h a = (h.0, (h.1, (a, named h a)))
