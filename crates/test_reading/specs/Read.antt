-- One reading over the caller's store, its reason and object count as one number of 32 bits.
-- Assumes nothing.
use Rattle.std.specs.Prelude.{◌≡◌, ℕ, ◌+◌, ◌*◌, length, Option, Some, None}
use Rattle.basics.specs.Types.{StoreBytes, Response, ResultWord, SfiNumber, Length, Count}
use Rattle.basics.specs.Choice.{when◌then◌else◌, ◌=?◌}
use Rattle.dictionary.specs.Rows.{store_size}
use Rattle.reading.specs.declared.Awaited.{Awaited}
use Rattle.reading.specs.Answer.{ReadingOutcome, read_answer}

-- the number that is returned, and the store after
pub record TestReading : Type 0 where
  pub word : ResultWord
  pub store : StoreBytes

-- the returned number w and the store b are those of r
pub record ReturnsTestReading (returned_word : ResultWord) (store_after : StoreBytes) (expected : TestReading) : Type 0
  where
    pub word : returned_word ≡ expected.word
    pub store : store_after ≡ expected.store

-- a count is below this, and the reason is above it
abbrev pub reason_weight_in_word : Count
reason_weight_in_word = 0x10000

-- a reading: its reason and its count, and the store that it leaves
abbrev pub test_reading_of : ReadingOutcome → TestReading
test_reading_of o = record { word = o.reason * reason_weight_in_word + o.objects; store = o.store }

-- nothing is read: all 32 bits are set, and the store is as it was
abbrev pub nothing_read : StoreBytes → TestReading
nothing_read b = record { word = 0xFFFFFFFF; store = b }

-- the answers by number: 0 GPO, 1 a record of this file, 2 the cryptogram, 3 the checksum
unfoldable pub awaited_by_number : ℕ → SfiNumber → Option Awaited
awaited_by_number n sfi =
    when n =? 0 then Some Awaited.Gpo
    else when n =? 1 then Some (Awaited.Record (record { number = sfi }))
    else when n =? 2 then Some Awaited.Cryptogram
    else when n =? 3 then Some Awaited.Checksum
    else None

-- the same for a store of so many bytes, which must be its size
unfoldable pub awaited_by_number_if_store_sized : Length → ℕ → SfiNumber → Option Awaited
awaited_by_number_if_store_sized size n sfi =
    when size =? store_size then awaited_by_number n sfi
    else None

-- the card's answer s to what is expected, into the store b
abbrev pub test_read_awaited : Option Awaited → StoreBytes → Response → TestReading
test_read_awaited None b s = nothing_read b
test_read_awaited (Some a) b s = test_reading_of (read_answer a b s)

-- one reading
unfoldable pub test_read : ℕ → SfiNumber → StoreBytes → Response → TestReading
test_read n sfi b s = test_read_awaited (awaited_by_number_if_store_sized (length b) n sfi) b s
