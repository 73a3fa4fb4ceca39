-- `mag_stripe::write_digits` meets its contract: three copies and nUN, concatenated, write all digits (`all_written`).
-- Assumes nothing.
use mathlib.Core.Path.{◌≡◌, ap, ◌∙◌}
use mathlib.Core.Bool.{true}
use mathlib.Core.List.{List}
use Prim.Native.Nat.{ℕ, ◌-◌, ◌≤◌}
use native.Mathlib.Omega.{arith}
use lib.ListN.{length, length-drop}
use Rattle.basics.specs.Number.{nibbles}
use Rattle.mag_stripe.specs.declared.DiscretionaryData.{DiscretionaryData}
use Rattle.mag_stripe.specs.declared.Bitmaps.{Bitmaps}
use Rattle.mag_stripe.specs.Track.{discretionary_data_of}
use Rattle.mag_stripe.specs.Bitmap.{bitmap_places_from_one, track_can_take_digits}
use Rattle.mag_stripe.specs.Digits.{track_digits, placed_digits_written_before_end}
use Rattle.mag_stripe.proofs.Nibbles.{length_nibbles}
use Rattle.mag_stripe.proofs.Sound.{sound_gives, Room, room}
use Rattle.mag_stripe.proofs.Writing.{up_to_drop, all_written}
use Rattle.mag_stripe.proofs.write_digits.Goals as goal

-- a track of the same length has the same room
longer : (t u : List ℕ) (end : ℕ) → length u ≡ length t → end ≤ length (nibbles t) → end ≤ length (nibbles u)
longer t u end e h = omega (arith, length_nibbles t, length_nibbles u)

-- a track that can take the digits has room for them
has_room : (t : List ℕ) (b : Bitmaps) (d : DiscretionaryData) → d ≡ discretionary_data_of t
    → track_can_take_digits t b ≡ true → Room d.end t b
has_room t b d e h = room t b d e (sound_gives t b h)

pub overflow_sub-n : goal.overflow_sub-n
overflow_sub-n c = omega (arith, (sound_gives _ _ c.requires).counter, c.bit_count.ensures, c.from-counted.ensures)

pub copy-requires : goal.copy-requires
copy-requires c =
    let r = has_room _ _ _ c.discretionary_of-end.ensures c.requires in record {
      count_bound = omega (arith, c.bit_count-bits.ensures);
      end_in_bounds = (r.inside, r.code);
      le_base = (omega arith, omega arith);
    }

pub copy-rest-requires : goal.copy-rest-requires
copy-rest-requires c =
    let r = has_room _ _ _ c.discretionary_of-end.ensures c.requires in record {
      count_bound = omega (arith, c.bit_count.ensures, c.from-counted.ensures);
      end_in_bounds = (longer _ _ _ c.copy.auto.track r.inside, r.number);
      le_base = (omega arith, omega arith);
    }

pub copy-requires-2 : goal.copy-requires-2
copy-requires-2 c =
    let r = has_room _ _ _ c.discretionary_of-end.ensures c.requires in
    let n = c.bit_count.result - c.from-counted.result in
    let ps = bitmap_places_from_one c.args.bitmaps.punatc in
    let rest = c.copy-rest.ensures.result_value in record {
      count_bound =
          omega (
            arith,
            ap length rest ∙ length-drop n ps,
            c.bit_count.ensures,
            c.from-counted.ensures,
            (sound_gives _ _ c.requires).counter,
          );
      end_in_bounds = (longer _ _ _ (c.copy-rest.auto.track ∙ c.copy.auto.track) r.inside, rw rest (up_to_drop _ n ps r.number));
      le_base = (omega arith, omega arith);
    }

pub overflow_sub-end : goal.overflow_sub-end
overflow_sub-end c = (has_room _ _ _ c.discretionary_of-end.ensures c.requires).some

pub put_nibble-requires : goal.put_nibble-requires
put_nibble-requires c =
    let r = has_room _ _ _ c.discretionary_of-end.ensures c.requires in
    let size = c.copy-2.auto.track ∙ c.copy-rest.auto.track ∙ c.copy.auto.track in
    let t = longer c.args.track.now c.copy-2.new.track _ size r.inside in
    (omega (arith, t, r.some), omega (arith, (sound_gives _ _ c.requires).few, c.bit_count.ensures, c.from-counted.ensures))

pub returns : goal.returns
returns c =
    let a = c.args in
    all_written a.bitmaps a.values c.discretionary_of-end.result.end
    c.bit_count-bits.result (c.bit_count.result - c.from-counted.result) c.from-counted.result
    (nibbles a.track.now) (nibbles c.copy.new.track) (nibbles c.copy-rest.new.track)
    (nibbles c.copy-2.new.track)
    (nibbles c.put_nibble.new.track) (bitmap_places_from_one c.copy-rest.result)
    c.bit_count-bits.ensures.0 (omega (arith, c.bit_count.ensures, c.from-counted.ensures))
    c.from-counted.ensures
    (sound_gives _ _ c.requires).counter
    (rw c.from.ensures at c.copy.ensures.track_after) c.copy-rest.ensures.track_after
    c.copy-rest.ensures.result_value (rw c.from-2.ensures at c.copy-2.ensures.track_after)
    c.put_nibble.ensures
    ∙ ap (λ (d : DiscretionaryData). placed_digits_written_before_end d.end (track_digits a.bitmaps a.values)
    (nibbles a.track.now))
    c.discretionary_of-end.ensures
