-- `session_record::row_fits` meets its contract: by the length byte, and then by the value that it gives.
-- Assumes nothing.
use mathlib.Core.Path.{sym, ap, ◌∙◌}
use Prim.Native.Nat.{ℕ, ◌-◌}
use native.Mathlib.Omega.{arith}
use lib.ListN.{take, drop}
use Rattle.dictionary.specs.Packing.{row_with_attributes_and_tag_zero}
use Rattle.dictionary.specs.Form.{digits_match_form}
use Rattle.session_record.proofs.Fit.{place_long, place_short, place_digits}
use Rattle.session_record.proofs.row_fits.Goals as goal

pub returns-then-place-stored : goal.returns-then-place-stored
returns-then-place-stored c =
    sym (place_long (row_with_attributes_and_tag_zero c.args.a) _ (sym c.requires.place_len) (omega arith))

pub returns-then-stored-a : goal.returns-then-stored-a
returns-then-stored-a c =
    sym (place_short (row_with_attributes_and_tag_zero c.args.a) _ (sym c.requires.place_len) (λ e. omega arith) (omega arith)
    (omega arith))

-- its digits decide
pub returns : goal.returns
returns c =
    let p = c.args.place.now in
    let st = c.from-stored in
    c.digits_match_form.ensures
    ∙ ap (λ (n : ℕ). digits_match_form c.args.a.form (take (n - 1) (drop 1 p))) st.ensures
    ∙ sym (place_digits (row_with_attributes_and_tag_zero c.args.a) p (sym c.requires.place_len) (λ e. omega arith) (omega arith)
    (omega arith))
