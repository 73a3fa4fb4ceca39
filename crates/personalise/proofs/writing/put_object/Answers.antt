-- `writing::put_object` meets its contract: tag, length and value are written one after another.
-- Assumes nothing.
use mathlib.Core.List.{List}
use Prim.Native.Nat.{ℕ, ◌+◌, ◌≤◌}
use native.Mathlib.Omega.{arith}
use lib.ListN.{length}
use Rattle.tlv.specs.Encoding.{tag_bytes, length_bytes, object_bytes}
use Rattle.personalise.proofs.Listed.{object_length}
use Rattle.personalise.proofs.Over.{all_put}
use Rattle.personalise.proofs.writing.put_object.Goals as goal

-- the room for the three parts
room : (s : List ℕ) (at t : ℕ) (v : List ℕ) → at + length (object_bytes t v) ≤ length s
    → at + (length (tag_bytes t) + (length (length_bytes (length v)) + length v)) ≤ length s
room s at t v h = omega (arith, object_length t v)

pub returns : goal.returns
returns c =
    let a = c.args in
    all_put a.out.now a.at (tag_bytes a.tag) (length_bytes (length a.v.now)) a.v.now
    (room a.out.now a.at a.tag a.v.now c.requires.v_in_bounds) c.put_tag-behind_tag.ensures c.put_length-behind_length.ensures
    c.put_value.ensures
