-- Session ranges, clause by clause, as facts: a record passes the test of specs/Ranges exactly when these hold of it
-- (`clauses` and `clauses_pass` in Laws).
-- Assumes nothing.
use mathlib.Core.Path.{◌≡◌}
use mathlib.Core.Bool.{true}
use mathlib.Core.List.{List}
use Prim.Native.Nat.{ℕ, ◌+◌, ◌≤◌, ◌<◌}
use lib.ListN.{length, replicate}
use Rattle.dictionary.specs.Rows.{Row, row_at, row_count, store_size, required_at_start}
use Rattle.dictionary.specs.TerminalType.{listed_terminal_type}
use Rattle.store.specs.Place.{absent, present, object_value, row_size_in_store}
use Rattle.afl.specs.Records.{accepts_afl}
use Rattle.analysis.specs.Action.{transaction_limit}
use Rattle.session_record.specs.declared.AwaitedRecord.{AwaitedRecord}
use Rattle.session_record.specs.declared.RequestedCryptogram.{RequestedCryptogram}
use Rattle.session_record.specs.declared.AwaitedChecksum.{AwaitedChecksum}
use Rattle.session_record.specs.declared.Ending.{Ending}
use Rattle.session_record.specs.declared.AwaitedResponse.{AwaitedResponse}
use Rattle.session_record.specs.declared.Phase.{Phase}
use Rattle.session_record.specs.declared.Session.{Session}
use Rattle.session_record.specs.Numbers.{reason_matches_outcome}
use Rattle.session_record.specs.Session.{store_bytes}
use Rattle.store.specs.Held.{has_object, stored_bytes, stored_byte, stored_length_plus_one_or_zero}
use Rattle.session_record.specs.Ranges.{absent_or_length_and_digits_fit_row, emv_mode, mag_stripe_mode, emv_or_mag_stripe_mode}
use Rattle.session_record.specs.Ranges.{stored_afl, stored_afl_record_count}
use Rattle.session_record.specs.Ranges.{zero_tvr, most_commands}

-- the object of a row fits it: its length byte, and its value
pub record RowObjectFits (b : List ℕ) (r : Row) : Type 0 where
  pub length_byte : stored_length_plus_one_or_zero b r.tag ≤ row_size_in_store r
  pub value : absent_or_length_and_digits_fit_row r (object_value b r.tag) ≡ true

-- what is stored fits its row
abbrev pub AllObjectsFit : List ℕ → Type 0
AllObjectsFit b = (k : ℕ) → k < row_count → RowObjectFits b (row_at k)

-- every running session: the TVR, the required start objects, a terminal type of the list, no object that only the
-- answer to the last command brings
pub record RunningClauses (b : List ℕ) : Type 0 where
  pub results : has_object b 0x95 ≡ true
  pub brought : (k : ℕ) → k < row_count → (row_at k).must ≡ required_at_start → has_object b (row_at k).tag ≡ true
  pub terminal : listed_terminal_type (stored_byte b 0x9F35 1) ≡ true
  pub no_9f10 : object_value b 0x9F10 ≡ absent
  pub no_9f26 : object_value b 0x9F26 ≡ absent
  pub no_9f27 : object_value b 0x9F27 ≡ absent
  pub no_9f36 : object_value b 0x9F36 ≡ absent
  pub no_9f61 : object_value b 0x9F61 ≡ absent

-- fresh: nothing was handed out, and the store is the zero array
pub record FreshClauses (n : ℕ) (b : List ℕ) : Type 0 where
  pub count : n ≡ 0
  pub store : b ≡ replicate store_size 0

-- waiting on GPO
pub record GpoClauses (n : ℕ) (b : List ℕ) : Type 0 where
  pub runs : RunningClauses b
  pub no_82 : object_value b 0x82 ≡ absent
  pub no_94 : object_value b 0x94 ≡ absent
  pub zero_95 : object_value b 0x95 ≡ present zero_tvr
  pub count : n ≡ 1

-- waiting on the k-th record
pub record RecordClauses (p : AwaitedRecord) (n : ℕ) (b : List ℕ) : Type 0 where
  pub runs : RunningClauses b
  pub mode : emv_or_mag_stripe_mode b ≡ true
  pub zero_95 : object_value b 0x95 ≡ present zero_tvr
  pub limit : p.limit ≡ transaction_limit b
  pub afl : accepts_afl (stored_afl b) ≡ true
  pub first : 1 ≤ p.number
  pub last : p.number ≤ stored_afl_record_count b
  pub count : n ≡ 1 + p.number

-- waiting on the cryptogram; that one of the three choices was requested, and that a CVM was chosen, is in the
-- record's type
pub record CryptogramClauses (a : RequestedCryptogram) (n : ℕ) (b : List ℕ) : Type 0 where
  pub runs : RunningClauses b
  pub mode : emv_mode b ≡ true
  pub afl : accepts_afl (stored_afl b) ≡ true
  pub some_5f24 : 0 < length (stored_bytes b 0x5F24)
  pub some_5a : 0 < length (stored_bytes b 0x5A)
  pub some_8c : 0 < length (stored_bytes b 0x8C)
  pub verified : has_object b 0x9F34 ≡ true
  pub limit : a.limit ≡ transaction_limit b
  pub count : n ≡ 2 + stored_afl_record_count b

-- waiting on the checksum
pub record ChecksumClauses (c : AwaitedChecksum) (n : ℕ) (b : List ℕ) : Type 0 where
  pub runs : RunningClauses b
  pub mode : mag_stripe_mode b ≡ true
  pub zero_95 : object_value b 0x95 ≡ present zero_tvr
  pub afl : accepts_afl (stored_afl b) ≡ true
  pub some_9f6b : 0 < length (stored_bytes b 0x9F6B)
  pub some_9f65 : 0 < length (stored_bytes b 0x9F65)
  pub some_9f66 : 0 < length (stored_bytes b 0x9F66)
  pub some_9f67 : 0 < length (stored_bytes b 0x9F67)
  pub limit : c.limit ≡ transaction_limit b
  pub count : n ≡ 2 + stored_afl_record_count b

-- ended
pub record EndedClauses (e : Ending) (n : ℕ) : Type 0 where
  pub count : n ≤ most_commands
  pub reason : reason_matches_outcome e.outcome e.reason ≡ true

-- the clauses of a running session, by the response that is awaited
abbrev pub WaitingClauses : AwaitedResponse → ℕ → List ℕ → Type 0
WaitingClauses AwaitedResponse.Gpo n b = GpoClauses n b
WaitingClauses (AwaitedResponse.Record p) n b = RecordClauses p n b
WaitingClauses (AwaitedResponse.Cryptogram a) n b = CryptogramClauses a n b
WaitingClauses (AwaitedResponse.Checksum c) n b = ChecksumClauses c n b

-- the clauses of a phase
abbrev pub PhaseClauses : Phase → ℕ → List ℕ → Type 0
PhaseClauses Phase.Fresh n b = FreshClauses n b
PhaseClauses (Phase.Waiting w) n b = WaitingClauses w n b
PhaseClauses (Phase.Ended e) n b = EndedClauses e n

-- every clause; the store's size is that of its type
pub record RangesClauses (s : Session) : Type 0 where
  pub size : length (store_bytes s) ≡ store_size
  pub fits : AllObjectsFit (store_bytes s)
  pub phase : PhaseClauses s.phase s.count (store_bytes s)
