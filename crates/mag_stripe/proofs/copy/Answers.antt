-- `mag_stripe::copy` meets its contract. The invariant, `Copying`: the digits that are left, written into the track as
-- it is, give the track of all digits.
-- Assumes nothing.
use mathlib.Core.Path.{◌∙◌}
use Prim.Native.Nat.{ℕ, ◌%◌, ◌≤◌, ◌<◌}
use native.Mathlib.Omega.{arith}
use native.Mathlib.Nat.{mod-lt}
use Rattle.mag_stripe.proofs.Nibbles.{length_nibbles}
use Rattle.mag_stripe.proofs.Writing.{copying_one, copying_some, copying_place}
use Rattle.mag_stripe.proofs.Writing.{copying_end}
use Rattle.mag_stripe.proofs.copy.Goals as goal

-- a digit in the base is a nibble
digit : (n base : ℕ) → (1 ≤ base) × (base ≤ 16) → n % base < 16
digit n base h = omega (arith, mod-lt n h.0)

pub next_place-next-requires : goal.next_place-next-requires
next_place-next-requires c = copying_some c.loop-copied.invariant.1 c.loop-copied-test.true

pub overflow_sub-end : goal.overflow_sub-end
overflow_sub-end c = copying_place c.loop-copied.invariant.1 _ _
    c.next_place-next.ensures.0

pub put_nibble-requires : goal.put_nibble-requires
put_nibble-requires c =
    let lp = c.loop-copied in
    let place = copying_place lp.invariant.1 _ _ c.next_place-next.ensures.0 in (
      omega (
        arith,
        place,
        c.next_place-next.ensures.1,
        c.requires.end_in_bounds.0,
        lp.invariant.0,
        length_nibbles
            lp.track,
        length_nibbles c.args.track.now,
      ),
      digit lp.left c.args.base c.requires.le_base,
    )

pub loop-copied-preserved : goal.loop-copied-preserved
loop-copied-preserved c =
    let lp = c.loop-copied in (
      c.put_nibble.auto.track ∙ lp.invariant.0,
      copying_one lp.invariant.1 _ _ _ (omega arith) c.next_place-next.ensures.0
          c.put_nibble.ensures,
    )

pub returns : goal.returns
returns c = let r = (copying_end c.loop-copied.invariant.1 c.loop-copied-test.false) in record { result_value = r.0; track_after = r.1 }
