-- `layout::encode_record` meets its contract: the head is written and the store is copied whole after it.
-- Assumes nothing.
use borrow.Author.Tests.{lt-leb, le-leb}
use mathlib.Core.Path.{sym, ap, ◌∙◌}
use mathlib.Core.List.{List}
use Prim.Native.Nat.{ℕ}
use borrow.Rule.Slice.PartMut.{put_mid}
use Rattle.basics.proofs.Laws.{if_no}
use Rattle.dictionary.specs.Rows.{store_size}
use Rattle.layout.specs.Layout.{record_head_size, record_head_written_over_front_if_room, session_written_over_front_if_room}
use Rattle.layout.proofs.Lists.{put_store}
use Rattle.layout.proofs.encode_record.Goals as goal

pub returns-then-bytes-lt-RECORD_SIZE : goal.returns-then-bytes-lt-RECORD_SIZE
unfolding session_written_over_front_if_room
returns-then-bytes-lt-RECORD_SIZE c = let f = lt-leb _ _ c.if-bytes-lt-RECORD_SIZE.true in record { enough = sym f; bytes = sym (if_no _ _ f) }

pub returns : goal.returns
returns c =
    let a = c.args in
    let h = c.if-bytes-lt-RECORD_SIZE.false in
    record {
      enough = sym (le-leb _ _ h);
      bytes =
          ap (λ (x : List ℕ). put_mid record_head_size store_size x c.copy_from_slice.new.self) c.write_record_head.ensures
          ∙ ap (put_mid record_head_size store_size (record_head_written_over_front_if_room a.phase a.count a.bytes.now))
          c.copy_from_slice.ensures.after
          ∙ put_store a.bytes.now a.store.now a.phase a.count h c.told-store;
    }
