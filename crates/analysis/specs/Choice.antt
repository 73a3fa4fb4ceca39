-- The choice (document 01, "Result bits and the choice"; Book C-2, 7.8), over a TVR, a terminal's type and three pairs
-- of action codes: which bit a stage holds, where the type lets the terminal decide, and what is requested.
-- Assumes nothing.
use Rattle.std.specs.Prelude.{Bool, true, false, List, [], ◌∷◌, ℕ, zero, suc, ◌%◌, get_or, Option, Some, None}
use Rattle.basics.specs.Types.{Byte, TvrBytes, Value}
use Rattle.basics.specs.Choice.{when◌then◌else◌, ◌and◌, ◌or◌, ◌=?◌}
use Rattle.analysis.specs.Bits.{has_bit_counted_from_zero_at_byte1b8}
use Rattle.analysis.specs.Digits.{is_one_of}
use Rattle.store.specs.Place.{StoredValue, absent, present}
use Rattle.analysis.specs.Value.{first_bytes_zero_padded}
use Rattle.analysis.specs.declared.choice.ActionCodes.{ActionCodes}
use Rattle.analysis.specs.declared.choice.OnlineCapability.{OnlineCapability}
use Rattle.analysis.specs.declared.choice.OnlineCapability.TheVariants.{OnlineOnly, OnlineCapable}
use Rattle.analysis.specs.declared.choice.OnlineCapability.TheVariants.{OfflineOnly, Unlisted}
use Rattle.analysis.specs.declared.choice.Choice.{Choice}
use Rattle.analysis.specs.declared.choice.Choice.TheVariants.{Decline, Online, Offline}

-- ---- the bit that a stage holds

-- a stage holds bit i: the TVR has it, and so has the card's code or the terminal's
unfoldable pub tvr_bit_is_in_either_action_code : TvrBytes → ActionCodes → ℕ → Bool
tvr_bit_is_in_either_action_code result pair i =
    has_bit_counted_from_zero_at_byte1b8 result i
    and (has_bit_counted_from_zero_at_byte1b8 pair.card i or has_bit_counted_from_zero_at_byte1b8 pair.terminal i)

-- the lowest of the n numbers from i on that passes a test
unfoldable pub lowest_bit_from_start_within_count : (ℕ → Bool) → ℕ → ℕ → Option ℕ
lowest_bit_from_start_within_count f i zero = None
lowest_bit_from_start_within_count f i (suc n) = when f i then Some i else lowest_bit_from_start_within_count f (suc i) n

-- the lowest bit, 0 to 39, that a stage holds, or none
unfoldable pub lowest_tvr_bit_in_codes : TvrBytes → ActionCodes → Option ℕ
lowest_tvr_bit_in_codes result pair = lowest_bit_from_start_within_count (tvr_bit_is_in_either_action_code result pair) 0 40

-- there is such a bit
abbrev pub is_some_bit : Option ℕ → Bool
is_some_bit (Some i) = true
is_some_bit None = false

-- ---- the action codes

-- the stages, by their place among the pairs
abbrev pub denial_stage : ℕ
denial_stage = 0

abbrev pub online_stage : ℕ
online_stage = 1

abbrev pub default_stage : ℕ
default_stage = 2

-- a code of zeros, and one of ones
abbrev pub all_zeros_action_code : Value
all_zeros_action_code = 0x00 ∷ 0x00 ∷ 0x00 ∷ 0x00 ∷ 0x00 ∷ []

abbrev pub all_ones_action_code : Value
all_ones_action_code = 0xFF ∷ 0xFF ∷ 0xFF ∷ 0xFF ∷ 0xFF ∷ []

-- the card's code for a stage: an absent one is zeros for denial and ones for the others (Book C-2's ones end in FC;
-- document 01 decides)
unfoldable pub iac_or_default : ℕ → StoredValue → Value
iac_or_default stage absent = when stage =? denial_stage then all_zeros_action_code else all_ones_action_code
iac_or_default stage (present s) = first_bytes_zero_padded 5 s

-- the pair of a stage: the card's code, which may be absent, and the terminal's
abbrev pub action_codes_at : ℕ → StoredValue → Value → ActionCodes
action_codes_at stage card terminal =
    record { card = iac_or_default stage card; terminal = first_bytes_zero_padded 5 terminal }

-- two codes of no bytes, where there is no such stage
abbrev pub no_action_codes : ActionCodes
no_action_codes = record { card = []; terminal = [] }

-- a bit of the TVR is held at a stage
unfoldable pub some_tvr_bit_in_codes_of_stage : TvrBytes → List ActionCodes → ℕ → Bool
some_tvr_bit_in_codes_of_stage result pairs stage = is_some_bit (lowest_tvr_bit_in_codes result (get_or pairs stage no_action_codes))

-- ---- the choice

-- what the last digit of the terminal type allows: 1 and 4 online only, 2 and 5 both, 3 and 6 offline only; no running
-- session has a type with another ending
unfoldable pub online_capability_by_digit : ℕ → OnlineCapability
online_capability_by_digit digit =
    when is_one_of digit 1 4 then OnlineOnly
    else when is_one_of digit 2 5 then OnlineCapable
    else when is_one_of digit 3 6 then OfflineOnly
    else Unlisted

-- the terminal's type is two digits in a byte: the last one decides
abbrev pub terminal_type_last_digit : Byte → ℕ
terminal_type_last_digit kind = kind % 16

-- by the terminal's type
abbrev pub online_capability_of_type : Byte → OnlineCapability
online_capability_of_type kind = online_capability_by_digit (terminal_type_last_digit kind)

-- what is requested, by the type and by whether a bit is held at denial, at online and at default; the rules leave an
-- unlisted type open, and here it declines
abbrev pub choice_by_stages : OnlineCapability → Bool → Bool → Bool → Choice
choice_by_stages r true o d = Decline
choice_by_stages OnlineOnly false o d = Online
choice_by_stages OfflineOnly false o true = Decline
choice_by_stages OfflineOnly false o false = Offline
choice_by_stages OnlineCapable false true d = Online
choice_by_stages OnlineCapable false false d = Offline
choice_by_stages Unlisted false o d = Decline

-- the choice from a TVR, terminal's type and pairs of codes
unfoldable pub terminal_action_analysis : TvrBytes → Byte → List ActionCodes → Choice
terminal_action_analysis result kind pairs =
    choice_by_stages (online_capability_of_type kind)
    (some_tvr_bit_in_codes_of_stage result pairs denial_stage)
    (some_tvr_bit_in_codes_of_stage result pairs online_stage)
    (some_tvr_bit_in_codes_of_stage result pairs default_stage)

-- ---- its number

-- P1 of the command that requests it (document 01, "Commands and steps"): 00 decline, 40 offline, 80 online
abbrev pub generate_ac_p1 : Choice → Byte
generate_ac_p1 Decline = 0x00
generate_ac_p1 Offline = 0x40
generate_ac_p1 Online = 0x80

-- the same rule with P1 itself, case by case: `generate_ac_p1_for` is P1 of `terminal_action_analysis` (law `p1_is`)
unfoldable pub generate_ac_p1_for : TvrBytes → Byte → List ActionCodes → Byte
generate_ac_p1_for result kind pairs =
    when some_tvr_bit_in_codes_of_stage result pairs denial_stage then 0x00
    else when is_one_of (terminal_type_last_digit kind) 1 4 then 0x80
    else when is_one_of (terminal_type_last_digit kind) 3 6 then (when some_tvr_bit_in_codes_of_stage result pairs default_stage
    then 0x00 else 0x40)
    else when is_one_of (terminal_type_last_digit kind) 2 5 then (when some_tvr_bit_in_codes_of_stage result pairs online_stage
    then 0x80 else 0x40)
    else 0x00
