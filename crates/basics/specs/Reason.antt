-- The numbers of refusals and reasons (document 01, "Calls and their numbers").
-- Assumes nothing.
use Rattle.std.specs.Prelude.{Bool, ℕ}
use Rattle.basics.specs.Choice.{when◌then◌else◌}

-- ---- refusals, by their numbers; they are checked in the order 22, 25, 21 and, of start bytes, 20, 23, 24

-- more than 1,024 start bytes, or other than whole primitive objects
abbrev pub refusal_bad_start_bytes : ℕ
refusal_bad_start_bytes = 20

-- a start once the session has begun, or another call before it has or after its end
abbrev pub refusal_wrong_phase : ℕ
refusal_wrong_phase = 21

-- the command buffer has no room for the longest command
abbrev pub refusal_buffer_too_small : ℕ
refusal_buffer_too_small = 22

-- a known object that is not a start's, does not fit its row or comes again; or a terminal type outside the list
abbrev pub refusal_bad_start_object : ℕ
refusal_bad_start_object = 23

-- a mandatory object of a start is missing
abbrev pub refusal_required_object_absent : ℕ
refusal_required_object_absent = 24

-- the session record is out of its ranges
abbrev pub refusal_record_out_of_ranges : ℕ
refusal_record_out_of_ranges = 25

-- ---- reasons

-- none: a decision was reached
abbrev pub reason_none : ℕ
reason_none = 0

-- the status of the card is not 90 00
abbrev pub reason_status_not9000 : ℕ
reason_status_not9000 = 1

-- an answer of wrong length, encoding, outer tag or body
abbrev pub reason_malformed : ℕ
reason_malformed = 2

-- an object that the card may not set so; in mag-stripe mode also a track that cannot take the digits
abbrev pub reason_object_not_allowed : ℕ
reason_object_not_allowed = 3

-- an object that the next step needs is absent; after the last record one that is empty counts as missing, too: in EMV
-- mode 5F24, 5A and 8C, in mag-stripe mode 9F6B, 9F65, 9F66 and 9F67
abbrev pub reason_object_missing : ℕ
reason_object_missing = 4

-- an AFL that breaks its rules
abbrev pub reason_afl_invalid : ℕ
reason_afl_invalid = 5

-- an amount over the reader's transaction limit
abbrev pub reason_above_limit : ℕ
reason_above_limit = 6

-- a DOL that is broken, or that fills to a length no command can carry
abbrev pub reason_dol_broken_or_bad_length : ℕ
reason_dol_broken_or_bad_length = 7

-- a cryptogram of a type that the one requested does not allow
abbrev pub reason_cryptogram_type_not_allowed : ℕ
reason_cryptogram_type_not_allowed = 8

-- the link to the card failed
abbrev pub reason_link : ℕ
reason_link = 9

-- the terminal stopped the session
abbrev pub reason_stopped : ℕ
reason_stopped = 10

-- the AIP indicates no EMV mode, and mag-stripe mode is off
abbrev pub reason_no_supported_mode : ℕ
reason_no_supported_mode = 11

-- ---- tests in their order

-- the reason of a test that has to pass: none where it does
abbrev pub reason_unless : Bool → ℕ → ℕ
reason_unless t n = when t then reason_none else n
