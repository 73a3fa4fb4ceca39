-- What private functions promise, for their callers' proofs: digits byte by byte, a stage's bits within one byte, the
-- choice stage by stage, and the amount's conditions of the CVM List. This file states no rule of document 01: a reader
-- of the rules can skip it. Laws tie it to the rules: `decimal_three` and `decimal_six` (proofs/Decimal) to
-- specs/Digits; `byte_found`, `byte_clear`, `all_clear`, `choice_by_stage` and `choice_by_type` (proofs/Stages) to
-- specs/Choice; `in_currency` (proofs/CvmSteps) to specs/Cvm.
-- Assumes nothing.
use Rattle.std.specs.Prelude.{Bool, false, [], ◌∷◌, ℕ, ◌+◌, ◌-◌, ◌*◌, ◌/◌, ◌%◌, get_or}
use Rattle.basics.specs.Types.{Byte, Bytes, Offset}
use Rattle.basics.specs.Choice.{when◌then◌else◌, ◌and◌, ◌or◌, ◌<?◌, ◌=?◌}
use Rattle.analysis.specs.Bits.{byte_has_bit}
use Rattle.analysis.specs.Choice.{denial_stage, online_stage, default_stage}
use Rattle.analysis.specs.Digits.{bcd_number}
use Rattle.analysis.specs.declared.cvm.CvmConditions.{CvmConditions}
use Rattle.analysis.specs.declared.choice.OnlineCapability.{OnlineCapability}
use Rattle.analysis.specs.declared.choice.OnlineCapability.TheVariants.{OnlineOnly, OnlineCapable}
use Rattle.analysis.specs.declared.choice.OnlineCapability.TheVariants.{OfflineOnly, Unlisted}
use Rattle.analysis.specs.declared.choice.Choice.{Choice}
use Rattle.analysis.specs.declared.choice.Choice.TheVariants.{Decline, Online, Offline}

-- ---- digits

-- the two digits of one byte
unfoldable pub bcd_byte : Byte → ℕ
bcd_byte b = b / 16 * 10 + b % 16

-- the six digits of the three bytes from a place on
abbrev pub bcd_three_bytes : Bytes → Offset → ℕ
bcd_three_bytes s i = bcd_number (get_or s i 0 ∷ get_or s (i + 1) 0 ∷ get_or s (i + 2) 0 ∷ [])

-- ---- the bits of a byte

-- bit k of a byte of the TVR is in the card's code or the terminal's: 0 is b8, 7 is b1
unfoldable pub tvr_byte_bit_in_codes : Byte → Byte → Byte → ℕ → Bool
tvr_byte_bit_in_codes result card terminal k =
    byte_has_bit result (8 - k) and (byte_has_bit card (8 - k) or byte_has_bit terminal (8 - k))

-- ---- the choice, stage by stage

-- the stage that a type consults after denial
abbrev pub consulted_after_denial : OnlineCapability → ℕ → Bool
consulted_after_denial OnlineOnly stage = false
consulted_after_denial OnlineCapable stage = stage =? online_stage
consulted_after_denial OfflineOnly stage = stage =? default_stage
consulted_after_denial Unlisted stage = false

-- a stage is consulted: denial by every type
abbrev pub stage_consulted : OnlineCapability → ℕ → Bool
stage_consulted r stage = stage =? denial_stage or consulted_after_denial r stage

-- what a bit held at a stage forces
abbrev pub choice_forced_at_stage : ℕ → Choice
choice_forced_at_stage stage = when stage =? online_stage then Online else Decline

-- what is requested where no stage that is consulted holds a bit
abbrev pub choice_without_forcing_bit : OnlineCapability → Choice
choice_without_forcing_bit OnlineOnly = Online
choice_without_forcing_bit OnlineCapable = Offline
choice_without_forcing_bit OfflineOnly = Offline
choice_without_forcing_bit Unlisted = Decline

-- ---- the conditions of the CVM List

-- the amount is under or over X or Y, by the code of the condition
abbrev pub cvm_amount_condition_met : CvmConditions → Byte → Bool
cvm_amount_condition_met t condition =
    when condition =? 6 then t.amount <? t.x
    else when condition =? 7 then t.x <? t.amount
    else when condition =? 8 then t.amount <? t.y
    else when condition =? 9 then t.y <? t.amount
    else false
