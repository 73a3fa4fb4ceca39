-- A verdict as one number, for tests: the record's number in the low 16 bits, and above it 0 for accepted, 1 for a
-- mismatch and 2 for truncated; and the conforming record in place of a mismatching one.
-- Assumes nothing.
use Rattle.std.specs.Prelude.{◌≡◌, ℕ, ◌+◌, ◌*◌, ◌%◌, length}
use Rattle.basics.specs.Types.{Bytes, Length, ResultWord}
use Rattle.basics.specs.Choice.{when◌then◌else◌, ◌<?◌}
use Rattle.basics.specs.Front.{written_over_front}
use Rattle.journal.specs.declared.JournalVerdict.{JournalVerdict}

-- a record's number is below this
abbrev pub verdict_kind_weight_in_word : ℕ
verdict_kind_weight_in_word = 65536

-- the number of a verdict
abbrev pub verdict_word : JournalVerdict → ResultWord
verdict_word (JournalVerdict.Accepted n) = n % verdict_kind_weight_in_word
verdict_word (JournalVerdict.Mismatch n) = verdict_kind_weight_in_word + n % verdict_kind_weight_in_word
verdict_word (JournalVerdict.Truncated n) = 2 * verdict_kind_weight_in_word + n % verdict_kind_weight_in_word

-- ---- bytes w at the front of a slice l that has room for them; a shorter one stays

-- how many bytes are given, and the slice afterwards
pub record GivesBytesIfRoom (returned_size : Length) (buffer_after expected_bytes buffer_before : Bytes) : Type 0 where
  pub size : returned_size ≡ (when length buffer_before <? length expected_bytes then 0 else length expected_bytes)
  pub bytes : buffer_after ≡ (when length buffer_before <? length expected_bytes then buffer_before else written_over_front
      expected_bytes buffer_before)
