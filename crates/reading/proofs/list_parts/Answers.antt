-- `reading::list_parts` meets its contract: by the tag, then by the answer that is awaited.
-- Assumes nothing.
use Rattle.std.specs.Prelude.{None}
use mathlib.Core.Path.{refl}
use mathlib.Core.Logic.{inl, inr}
use Rattle.reading.proofs.Parts.{wrong_tag, as_gpo, as_cryptogram, as_record, as_checksum}
use Rattle.reading.proofs.Stages.{parts_none, parts_for}
use Rattle.reading.proofs.list_parts.Goals as goal

pub returns-then-h-ne128 : goal.returns-then-h-ne128
returns-then-h-ne128 c = parts_none _ _ _ _ _ (λ v e. wrong_tag _ v c.args.awaited c.if-h-ne128.true) c.malformed.ensures

pub returns-in-Gpo : goal.returns-in-Gpo
returns-in-Gpo c = parts_for _ _ _ c.in-Gpo.is (λ v. as_gpo _ v c.if-h-ne128.false) c.list_gpo.ensures

pub returns-in-Cryptogram : goal.returns-in-Cryptogram
returns-in-Cryptogram c =
    parts_for _ _ _ c.in-Cryptogram.is (λ v. as_cryptogram _ v c.if-h-ne128.false) c.list_cryptogram.ensures

pub returns-in-Record : goal.returns-in-Record
returns-in-Record c =
    elim c.in-Record.is [
      | inl x ↦ parts_for _ _ _ x.1 (λ v. as_record _ v _)
          (parts_none _ (λ v. None) _ _ _ (λ v e. refl) c.malformed-in-Record.ensures)
      | inr x ↦ parts_for _ _ _ x (λ v. as_checksum _ v)
          (parts_none _ (λ v. None) _ _ _ (λ v e. refl) c.malformed-in-Record.ensures)
    ]
