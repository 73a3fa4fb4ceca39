-- The CVM that an outcome reports (document 02, Item 5).
-- Assumes nothing.
use Rattle.std.specs.Prelude.{◌≡◌, Bool, true, false, not}
use Rattle.basics.specs.Types.{Reason, CvmNumber}
use Rattle.basics.specs.Choice.{◌and◌, ◌=?◌}
use Rattle.basics.specs.Reason.{reason_dol_broken_or_bad_length}
use Rattle.analysis.specs.Cvm.{cvm_number, cvm_number_not_applicable}
use Rattle.session_record.specs.declared.RequestedCryptogram.{RequestedCryptogram}
use Rattle.session_record.specs.declared.AwaitedResponse.{AwaitedResponse}
use Rattle.session_record.specs.declared.Phase.{Phase}
use Rattle.session_record.specs.declared.CallResult.{CallResult}
use Rattle.session_record.specs.declared.OutcomeParameters.{OutcomeParameters}
use Rattle.session_record.specs.declared.Session.{Session}
use Rattle.session_record.specs.Session.{store_bytes}
use Rattle.session_record.specs.Ranges.{emv_mode}
use Rattle.session.specs.Steps.{Step}

-- a session that waits for this response, in EMV mode or not, and ends for this reason has made or held a choice: it
-- waited for the cryptogram, or in EMV mode for a record and came to CDOL1 (8C)
abbrev pub choice_made_before_end : AwaitedResponse → Bool → Reason → Bool
choice_made_before_end AwaitedResponse.Gpo emv reason = false
choice_made_before_end (AwaitedResponse.Record p) emv reason = emv and reason =? reason_dol_broken_or_bad_length
choice_made_before_end (AwaitedResponse.Cryptogram a) emv reason = true
choice_made_before_end (AwaitedResponse.Checksum c) emv reason = false

-- a session in this phase has; only a running one can
abbrev pub choice_made_in : Phase → Bool → Reason → Bool
choice_made_in Phase.Fresh emv reason = false
choice_made_in (Phase.Waiting w) emv reason = choice_made_before_end w emv reason
choice_made_in (Phase.Ended e) emv reason = false

-- the CVM of an outcome, by its reason and the phase and mode before it
pub record OutcomeCvmMatchesPhaseBefore (phase_before : Phase) (in_emv_mode : Bool) (reason : Reason) (cvm : CvmNumber) :
    Type 0 where
  -- not applicable exactly where no choice was made or held
  pub applicable : cvm =? cvm_number_not_applicable ≡ not (choice_made_in phase_before in_emv_mode reason)
  -- the one that the session held
  pub held : (a : RequestedCryptogram) → phase_before ≡ Phase.Waiting (AwaitedResponse.Cryptogram a)
      → cvm ≡ cvm_number a.cvm

-- every outcome of a step reports its CVM so
abbrev pub StepOutcomeCvmMatchesSessionBefore : Session → Step → Type 0
StepOutcomeCvmMatchesSessionBefore s st =
    (e : OutcomeParameters) → st.reply.answer ≡ CallResult.Outcome e
    → OutcomeCvmMatchesPhaseBefore s.phase (emv_mode (store_bytes s)) e.reason e.cvm
