-- Small journals, computed.
-- Assumes nothing.
use mathlib.Core.Path.{◌≡◌, refl}
use mathlib.Core.List.{[], ◌∷◌}
use Rattle.basics.specs.Choice.{if}
use Rattle.basics.specs.Recursion.{recurse_with_fuel_from_length, recurse_with_fuel}
use Rattle.journal.specs.declared.JournalVerdict.{JournalVerdict}
use Rattle.journal.specs.Record.{journal_record_size}
use Rattle.journal.specs.Verdict.{verdict_from, journal_verdict_of, reply_due_after, expected_reply_at_first_mismatch}

-- no bytes; a command's first bytes; a kind that there is none of; a start's first bytes; where a call is expected no
-- one record is conforming
pub record Worked : Type 0 where
  pub empty : journal_verdict_of [] ≡ JournalVerdict.Accepted 0
  pub command_cut : journal_verdict_of (0x05 ∷ 0xFF ∷ 0xFF ∷ []) ≡ JournalVerdict.Truncated 1
  pub unknown : journal_verdict_of (0x07 ∷ []) ≡ JournalVerdict.Mismatch 1
  pub start_cut : journal_verdict_of (0x01 ∷ 0x00 ∷ []) ≡ JournalVerdict.Truncated 1
  pub call_due : expected_reply_at_first_mismatch (0x07 ∷ []) ≡ []

pub worked : Worked
unfolding expected_reply_at_first_mismatch journal_verdict_of verdict_from recurse_with_fuel_from_length recurse_with_fuel
    reply_due_after journal_record_size if
worked = record { empty = refl; command_cut = refl; unknown = refl; start_cut = refl; call_due = refl }
