-- `host::emv_open` meets its contract: a fresh record is written where the bytes are enough.
-- Assumes nothing.
use mathlib.Core.Path.{sym, ap, ◌∙◌}
use mathlib.Core.List.{List}
use Prim.Native.Nat.{ℕ}
use Rattle.basics.proofs.Laws.{if_yes, if_no}
use Rattle.session_record.specs.declared.Phase.{Phase}
use Rattle.session_record.specs.Session.{session_of}
use Rattle.layout.specs.Layout.{session_written_over_front_if_room}
use Rattle.host.proofs.emv_open.Goals as goal

pub returns-then-encode_record : goal.returns-then-encode_record
returns-then-encode_record c =
    record {
      word = sym (if_yes _ _ (sym c.encode_record.ensures.enough ∙ c.if-encode_record.true));
      session = c.encode_record.ensures.bytes ∙ ap
          (λ (b : List ℕ). session_written_over_front_if_room (session_of Phase.Fresh 0 b)
          c.args.session.now) c.empty-store.ensures;
    }

pub returns : goal.returns
returns c =
    record {
      word = c.refusal_word.ensures ∙ sym
          (if_no _ _ (sym c.encode_record.ensures.enough ∙ c.if-encode_record.false));
      session = c.encode_record.ensures.bytes ∙ ap
          (λ (b : List ℕ). session_written_over_front_if_room (session_of Phase.Fresh 0 b)
          c.args.session.now) c.empty-store.ensures;
    }
