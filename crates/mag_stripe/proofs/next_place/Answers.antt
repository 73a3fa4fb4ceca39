-- `mag_stripe::next_place` meets its contract: the zeros below the lowest bit give its place, and its weight
-- is taken off.
-- Assumes nothing.
use mathlib.Core.Path.{◌≡◌}
use Prim.Native.Nat.{ℕ, ◌*◌, ◌^◌, ◌%◌, ◌≤◌, ◌<◌}
use native.Mathlib.Omega.{arith}
use native.Mathlib.Nat.{mod-eq_of_lt, one-mul}
use lib.Count.{count_trailing_zeros}
use lib.Pow.{pow-lt}
use Rattle.mag_stripe.specs.Bitmap.{set_bit_count}
use Rattle.mag_stripe.proofs.Places.{zeros_small, lowest_place}
use Rattle.mag_stripe.proofs.next_place.Goals as goal

-- a shift of 1 by fewer than 16 bits loses none
weight : (bitmap : ℕ) → bitmap < 65536 → 1 ≤ set_bit_count bitmap
    → 1 * 2 ^ count_trailing_zeros 16 bitmap % 65536 ≡ 2 ^ count_trailing_zeros 16 bitmap
weight bitmap fits h = rw one-mul (mod-eq_of_lt (pow-lt (zeros_small bitmap fits h).0))

pub overflow_shl-lowest : goal.overflow_shl-lowest
overflow_shl-lowest c = (zeros_small c.args.bitmap c.ranges.bitmap.fits c.requires).0

pub overflow_sub-result : goal.overflow_sub-result
overflow_sub-result c = rw (weight c.args.bitmap c.ranges.bitmap.fits c.requires) (zeros_small c.args.bitmap c.ranges.bitmap.fits c.requires).1

pub returns : goal.returns
returns c = rw (weight c.args.bitmap c.ranges.bitmap.fits c.requires) (lowest_place c.args.bitmap c.ranges.bitmap.fits c.requires, omega arith)
