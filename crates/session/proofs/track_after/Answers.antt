-- `session::track_after` meets its contract: the stored track is copied whole, and the digits of the store go in.
-- Assumes nothing.
use mathlib.Core.Path.{sym, ap, ◌∙◌}
use lib.ListN.{length}
use Rattle.dictionary.proofs.Named.{at_9f6b}
use Rattle.session_record.proofs.Tags.{bytes_are}
use Rattle.mag_stripe.specs.Digits.{track_with_digits_if_possible}
use Rattle.session.proofs.track_after.Goals as goal

pub copy_from_slice-requires : goal.copy_from_slice-requires
copy_from_slice-requires c = c.requires ∙ sym (ap length (c.value.ensures ∙ bytes_are _ _ _ at_9f6b))

pub returns : goal.returns
returns c =
    let v = c.value.ensures ∙ bytes_are _ _ _ at_9f6b in
    let e = c.copy_from_slice.ensures.after ∙ v in
    let p = c.put_digits.ensures in
    record {
      digits =
          p.digits ∙ (λ i. track_with_digits_if_possible (e i) (c.bitmaps_in-bitmaps.ensures i) (c.values_in-values.ensures i));
      sized = p.kept.size ∙ c.copy_from_slice.ensures.len;
    }
