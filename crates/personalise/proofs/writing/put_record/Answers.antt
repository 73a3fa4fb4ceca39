-- `writing::put_record` meets its contract: the template's tag, the length and the content are written one
-- after another.
-- Assumes nothing.
use mathlib.Core.Path.{◌≡◌, sym, ap, subst}
use mathlib.Core.List.{List}
use Prim.Native.Nat.{ℕ, ◌+◌, ◌≤◌}
use native.Mathlib.Omega.{arith}
use lib.ListN.{length}
use Rattle.tlv.specs.Encoding.{tag_bytes, length_bytes}
use Rattle.personalise.specs.Objects.{tag_record_template, parsed_objects_or_empty}
use Rattle.personalise.specs.Placements.{placements_in}
use Rattle.personalise.specs.Records.{record_content, most_record_content_bytes}
use Rattle.personalise.specs.Inner.{size_capped_at254, WritesBytesAt}
use Rattle.personalise.proofs.Forms.{tag_one, length_most}
use Rattle.personalise.proofs.Over.{tag_room, length_room, value_room, all_put}
use Rattle.personalise.proofs.writing.put_record.Goals as goal

-- the room for the three parts
room : (s : List ℕ) (at : ℕ) (v : List ℕ) → length v ≤ most_record_content_bytes → at + 256 ≤ length s
    → at + (length (tag_bytes tag_record_template) + (length (length_bytes (length v)) + length v)) ≤ length s
room s at v m h =
    let t = ap length (tag_one tag_record_template (omega arith)) in
    let l = length_most (length v) (omega arith) in
    omega arith

-- the size that was measured is the content's
exact : (n : ℕ) (v : List ℕ) → n ≡ size_capped_at254 (length v) → length v ≤ most_record_content_bytes → n ≡ length v
exact n v e m = omega arith

pub put_tag-behind_tag-requires : goal.put_tag-behind_tag-requires
put_tag-behind_tag-requires c =
    let a = c.args in
    let v = record_content (parsed_objects_or_empty a.objects.bytes.now) (placements_in a.placements.now) a.k in (
      omega arith,
      tag_room a.out.now a.at (tag_bytes tag_record_template) (length_bytes (length v)) v
          (room a.out.now a.at v c.requires.k_len_bound c.requires.at_in_bounds),
    )

pub put_length-behind_length-requires : goal.put_length-behind_length-requires
put_length-behind_length-requires c =
    let a = c.args in
    let v = record_content (parsed_objects_or_empty a.objects.bytes.now) (placements_in a.placements.now) a.k in
    let e = exact c.size-size.result v c.size-size.ensures c.requires.k_len_bound in (
      omega (arith, c.requires.k_len_bound),
      subst (λ (n : ℕ). c.put_tag-behind_tag.result + length (length_bytes n) ≤ length c.put_tag-behind_tag.new.out) (sym e)
          (length_room a.out.now a.at (tag_bytes tag_record_template) (length_bytes (length v)) v
          (room a.out.now a.at v c.requires.k_len_bound c.requires.at_in_bounds) c.put_tag-behind_tag.ensures),
    )

pub put_content-requires : goal.put_content-requires
put_content-requires c = let a = c.args in
    let v = record_content (parsed_objects_or_empty a.objects.bytes.now) (placements_in a.placements.now) a.k in
    let e = exact c.size-size.result v c.size-size.ensures c.requires.k_len_bound in
    let q = subst (λ (n : ℕ). WritesBytesAt c.put_length-behind_length.result c.put_length-behind_length.new.out c.put_tag-behind_tag.new.out
    c.put_tag-behind_tag.result (length_bytes n)) e c.put_length-behind_length.ensures in record {
      k_in_bounds = value_room a.out.now a.at (tag_bytes tag_record_template) (length_bytes (length v)) v
          (room a.out.now a.at v c.requires.k_len_bound c.requires.at_in_bounds) c.put_tag-behind_tag.ensures q;
    }

pub returns : goal.returns
returns c =
    let a = c.args in
    let v = record_content (parsed_objects_or_empty a.objects.bytes.now) (placements_in a.placements.now) a.k in
    let e = exact c.size-size.result v c.size-size.ensures c.requires.k_len_bound in
    let q = subst (λ (n : ℕ). WritesBytesAt c.put_length-behind_length.result c.put_length-behind_length.new.out c.put_tag-behind_tag.new.out
    c.put_tag-behind_tag.result (length_bytes n)) e c.put_length-behind_length.ensures in
    all_put a.out.now a.at (tag_bytes tag_record_template) (length_bytes (length v)) v
    (room a.out.now a.at v c.requires.k_len_bound c.requires.at_in_bounds) c.put_tag-behind_tag.ensures q c.put_content.ensures
