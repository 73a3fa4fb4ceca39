-- Start bytes (document 01, refusals 20, 23 and 24; "Dictionary"): whole primitive objects that the terminal brings.
-- Assumes nothing.
use Rattle.std.specs.Prelude.{◌≡◌, Bool, true, false, not, List, [], ◌∷◌, length, get_or, Option, Some, None}
use Rattle.basics.specs.Choice.{when◌then◌else◌, ◌and◌, ◌≤?◌, ◌=?◌}
use Rattle.basics.specs.Number.{has_bit_of_weight}
use Rattle.basics.specs.Types.{StoreBytes, StartBytes, Value, Tag, RowNumber, Length, RefusalNumber}
use Rattle.tlv.specs.Primitives.{Object, primitive_objects}
use Rattle.dictionary.specs.Rows.{dictionary_rows, row_at, find_row, set_by_start}
use Rattle.dictionary.specs.Form.{length_and_digits_fit_row}
use Rattle.dictionary.specs.TerminalType.{listed_terminal_type}
use Rattle.store.specs.Place.{is_present, row_value, put_row}
use Rattle.session_record.specs.Ranges.{all_required_at_start_present}
use Rattle.basics.specs.Reason.{refusal_bad_start_bytes, refusal_bad_start_object, refusal_required_object_absent}
use Rattle.std.specs.Prelude.{Result, Ok, Err}
use Rattle.session_record.specs.declared.Refusal.{Refusal}

-- ---- taking the objects

-- a terminal type must be listed
unfoldable pub is_listed_if_terminal_type : Tag → Value → Bool
is_listed_if_terminal_type t v =
    when t =? 0x9F35 then listed_terminal_type (get_or v 0 0)
    else true

-- a known object that a start may set, of a length and digits that fit, not present yet; a terminal type is listed
unfoldable pub start_may_set_object_in_row : StoreBytes → RowNumber → Object → Bool
start_may_set_object_in_row b k o =
    has_bit_of_weight (row_at k).setters set_by_start
    and length_and_digits_fit_row (row_at k) o.value
    and not (is_present (row_value dictionary_rows b k))
    and is_listed_if_terminal_type o.tag o.value

-- by its row in the table; an unknown one is skipped
abbrev pub set_object_of_row_found : StoreBytes → Object → Option RowNumber → Option StoreBytes
set_object_of_row_found b o None = Some b
set_object_of_row_found b o (Some k) =
    when start_may_set_object_in_row b k o then Some (put_row dictionary_rows b k o.value)
    else None

-- one object: unknown ones are skipped
unfoldable pub set_start_object : StoreBytes → Object → Option StoreBytes
set_start_object b o = set_object_of_row_found b o (find_row dictionary_rows o.tag)

-- one after the other, none where one may not be set
abbrev pub continue_setting : Option StoreBytes → (StoreBytes → Option StoreBytes) → Option StoreBytes
continue_setting None k = None
continue_setting (Some b) k = k b

-- one object after the other, none where one may not be set
unfoldable pub set_start_objects : StoreBytes → List Object → Option StoreBytes
set_start_objects b [] = Some b
set_start_objects b (o ∷ os) = continue_setting (set_start_object b o) (λ c. set_start_objects c os)

-- the objects of a run; none where there is no run
unfoldable pub set_parsed_start_objects : StoreBytes → Option (List Object) → Option StoreBytes
set_parsed_start_objects b None = None
set_parsed_start_objects b (Some os) = set_start_objects b os

-- what is reported and left of a store: all were set; or one may not be set, and the store is given up
abbrev pub ReportsWhetherObjectsSet : Bool → StoreBytes → Option StoreBytes → Type 0
ReportsWhetherObjectsSet r c None = r ≡ false
ReportsWhetherObjectsSet r c (Some d) = (r ≡ true) × (c ≡ d)

-- ---- what a start loads: a store, or a refusal by its number

-- a store with all objects, or the number of a refusal
pub data LoadedStore : Type 0 where
  refusal : RefusalNumber → LoadedStore
  loaded : StoreBytes → LoadedStore

-- all that a start must bring is present
abbrev pub loaded_if_all_required : StoreBytes → LoadedStore
loaded_if_all_required b =
    when all_required_at_start_present b then loaded b
    else refusal refusal_required_object_absent

-- an object that may not be set is 23; else what a start must bring is checked
abbrev pub loaded_after_setting : Option StoreBytes → LoadedStore
loaded_after_setting None = refusal refusal_bad_start_object
loaded_after_setting (Some b) = loaded_if_all_required b

-- bytes that are no run of primitive objects are 20; else the objects are set
abbrev pub loaded_from_objects : StoreBytes → Option (List Object) → LoadedStore
loaded_from_objects b None = refusal refusal_bad_start_bytes
loaded_from_objects b (Some os) = loaded_after_setting (set_start_objects b os)

-- the most start bytes
abbrev pub most_start_bytes : Length
most_start_bytes = 1024

-- the start bytes s into the store b
unfoldable pub load_start_bytes : StoreBytes → StartBytes → LoadedStore
load_start_bytes b s =
    when length s ≤? most_start_bytes then loaded_from_objects b (primitive_objects s)
    else refusal refusal_bad_start_bytes

-- ---- what the call returns

-- by its number, or taken
abbrev pub load_result_of : LoadedStore → (Result Unit Refusal)
load_result_of (refusal n) = Err (record { number = n })
load_result_of (loaded c) = (Ok tt)

-- a refusal leaves the store b as it came
abbrev pub store_after_load : StoreBytes → LoadedStore → StoreBytes
store_after_load b (refusal n) = b
store_after_load b (loaded c) = c

-- what is reported, and the store c that is left of b
pub record LoadResultAndStoreMatchLoaded (result : (Result Unit Refusal)) (store_after store_before : StoreBytes)
    (expected : LoadedStore) : Type 0 where
  pub said : result ≡ load_result_of expected
  pub store : store_after ≡ store_after_load store_before expected

-- ---- what holds of it, proved in proofs/ (Laws, Twice, Examples) for all stores, bytes and objects
--   load-by            a loaded store comes by at most 1,024 bytes that are a run whose objects are all set; all is
--                      brought
--   load-holds         what each put of a settable object keeps holds of the store that is loaded
--   load-brought       all that a start must bring is present
--   load-size          the store keeps its size
--   load-fits          where every stored object fitted, every one fits
--   load-untouched     rows that a start may not set are as they were
--   load-kept          objects that were there are as they were
--   load-listed        where no terminal type was present, the one that is loaded is listed
--   load-long-same     every input over 1,024 bytes gives the same
--   twice-refused      two objects of a known tag are refused, whatever is around them
