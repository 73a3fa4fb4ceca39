-- An object that the card may set: its row, and what the row states of its tag and its length.
-- Assumes nothing.
use Rattle.std.specs.Prelude.{Option, Some, None}
use mathlib.Core.Path.{◌≡◌, refl, sym, ap, ◌∙◌}
use mathlib.Core.Bool.{true, false, not}
use Prim.Native.Nat.{ℕ, ◌<◌, ◌≤◌}
use native.Mathlib.Omega.{arith}
use lib.ListN.{length}
use borrow.Author.Tests.{ltb-true, not-true}
use Rattle.basics.specs.Choice.{if, both, every}
use Rattle.basics.proofs.Laws.{both_left}
use Rattle.basics.proofs.Table.{at}
use Rattle.tlv.specs.Tag.{tag_first_byte, is_template}
use Rattle.tlv.specs.Primitives.{Object}
use Rattle.tlv.specs.Encoding.{well_formed_tag}
use Rattle.dictionary.specs.Rows.{dictionary_rows, blank_row, row_at, find_row, row_count, in_record_response}
use Rattle.dictionary.proofs.Rule.{rows_proper, proper_row}
use Rattle.dictionary.proofs.Find.{found}
use Rattle.dictionary.proofs.Fit.{fits_length}
use Rattle.store.proofs.Rows.{rows_length, row_inside}
use Rattle.reading.specs.Taking.{row_allows_value_from_card}
use Rattle.reading.proofs.Laws.{may_come_fits}
use Rattle.personalise.specs.Objects.{tag_record_template, row_allows_value_in_record, tag_and_value_allowed_in_record}

pub record Known (o : Object) : Type 0 where
  pub place : ℕ
  pub found : find_row dictionary_rows o.tag ≡ Some place
  pub comes : row_allows_value_from_card in_record_response (row_at place) tag_record_template o.value ≡ true
  pub row : place < row_count
  pub tag : well_formed_tag o.tag ≡ true
  pub primitive : is_template o.tag ≡ false
  pub most : length o.value ≤ (row_at place).greatest
  pub short : length o.value ≤ 254

-- no row is a template's
rows_primitive : every (λ r. not (is_template r.tag)) dictionary_rows ≡ true
unfolding dictionary_rows every both is_template tag_first_byte if
rows_primitive = refl

pub known : (o : Object) → tag_and_value_allowed_in_record o ≡ true → Known o
unfolding tag_and_value_allowed_in_record
known o e = go (find_row dictionary_rows o.tag) refl e
  where
    at_row : (k : ℕ) → find_row dictionary_rows o.tag ≡ Some k → row_allows_value_from_card in_record_response (row_at k)
        tag_record_template o.value ≡ true → Known o
    at_row k q c =
        let f = found dictionary_rows o.tag k q in
        let r : k < row_count = omega (arith, rows_length) in
        let m = (fits_length (row_at k) o.value (may_come_fits in_record_response (row_at k) tag_record_template o.value
        c)).1 in
        record {
          place = k;
          found = q;
          comes = c;
          row = r;
          tag = ap well_formed_tag (sym f.1) ∙ (proper_row dictionary_rows rows_proper k f.0).tag;
          primitive = ap is_template (sym f.1) ∙ not-true _
              (at (λ x. not (is_template x.tag)) dictionary_rows blank_row rows_primitive k f.0);
          most = m;
          short = omega (arith, (row_inside k r).1);
        }

    go : (x : Option ℕ) → find_row dictionary_rows o.tag ≡ x → row_allows_value_in_record x o.value ≡ true → Known o
    go None q c = let z : ◌≡◌ {A = ℕ} 0 1 = cc in absurd (omega arith)
    go (Some k) q c = at_row k q c

pub known_tag : (o : Object) → Known o → o.tag < 0x1000000
unfolding well_formed_tag
known_tag o k = ltb-true _ _ (both_left _ _ k.tag)
