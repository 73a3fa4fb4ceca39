-- `writing::put_tag` meets its contract: the stores, one by one, are the tag's bytes.
-- Assumes nothing.
use mathlib.Core.Path.{◌≡◌}
use mathlib.Core.List.{[], ◌∷◌}
use native.Mathlib.Omega.{arith}
use lib.ListN.{length, get_or, length-set}
use Rattle.tlv.specs.Encoding.{tag_bytes}
use Rattle.personalise.proofs.Forms.{last_one, last_two, last_three, tag_least}
use Rattle.personalise.proofs.Over.{sets_put, two_put, three_put}
use Rattle.personalise.proofs.writing.put_tag.Goals as goal

pub returns-in-1 : goal.returns-in-1
returns-in-1 c =
    let a = c.args in
    let s = c.to_be_bytes.result in
    let n : 1 ≡ length (tag_bytes a.tag) = omega arith in
    sets_put a.out.now a.at (get_or s 3 0 ∷ []) (omega arith) (last_one a.tag s c.requires.0 c.to_be_bytes.ensures n)

pub bounds-out-at-in_default-2 : goal.bounds-out-at-in_default-2
bounds-out-at-in_default-2 c = simp length-set (omega (arith, tag_least c.args.tag))

pub returns-in-2 : goal.returns-in-2
returns-in-2 c =
    let a = c.args in
    let s = c.to_be_bytes.result in
    let n : 2 ≡ length (tag_bytes a.tag) = omega arith in
    two_put a.out.now a.at (get_or s 2 0) (get_or s 3 0) (omega arith) (last_two a.tag s c.requires.0 c.to_be_bytes.ensures n)

pub bounds-out-at-in_default : goal.bounds-out-at-in_default
bounds-out-at-in_default c = omega (arith, tag_least c.args.tag)

pub bounds-out-at-in_default-3 : goal.bounds-out-at-in_default-3
bounds-out-at-in_default-3 c = simp length-set (omega (arith, tag_least c.args.tag))

pub returns-in_default : goal.returns-in_default
returns-in_default c =
    let a = c.args in
    let s = c.to_be_bytes.result in
    let n : 3 ≡ length (tag_bytes a.tag) = omega (arith, tag_least a.tag) in
    three_put a.out.now a.at (get_or s 1 0) (get_or s 2 0) (get_or s 3 0) (omega arith)
    (last_three a.tag s c.requires.0 c.to_be_bytes.ensures n)
