-- Bytes that are wiped (docs/HOST.md). They hold no record: `wiped_none` in proofs/Objects.
-- Assumes nothing.
use Rattle.std.specs.Prelude.{◌≡◌, length, replicate}
use Rattle.basics.specs.Types.{Bytes, ResultWord}

-- every byte is 0, and the word too
pub record SessionWiped (returned_word : ResultWord) (session_bytes_before session_bytes_after : Bytes) : Type 0 where
  pub word : returned_word ≡ 0
  pub session : session_bytes_after ≡ replicate (length session_bytes_before) 0
