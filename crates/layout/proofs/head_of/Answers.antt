-- `layout::head_of` meets its contract: six bytes as they are, and the limit's eight after them.
-- Assumes nothing.
use mathlib.Core.Path.{ap, ◌∙◌}
use mathlib.Core.List.{List, [], ◌∷◌, ◌++◌, append-nil}
use Prim.Native.Nat.{ℕ}
use borrow.Rule.Slice.PartMut.{put_mid}
use Rattle.layout.specs.Layout.{layout_version}
use Rattle.layout.proofs.head_of.Goals as goal

pub returns : goal.returns
returns c =
    let k = c.args.code in
    ap (λ (x : List ℕ). put_mid 6 8 (x ++ (0 ∷ 0 ∷ 0 ∷ 0 ∷ 0 ∷ 0 ∷ 0 ∷ 0 ∷ [])) c.copy_from_slice-2.new.self)
    c.copy_from_slice.ensures.after
    ∙ ap (λ (x : List ℕ). layout_version ∷ k.number ∷ k.datum ∷ k.reason ∷ c.args.count ∷ k.cvm ∷ (x ++ []))
    (c.copy_from_slice-2.ensures.after ∙ c.amount_bytes.ensures)
    ∙ ap (λ (x : List ℕ). layout_version ∷ k.number ∷ k.datum ∷ k.reason ∷ c.args.count ∷ k.cvm ∷ x) (append-nil _)
