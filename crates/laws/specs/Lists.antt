-- DOLs and values (document 02, Item 12): what the laws say of one list and of one value.
-- Assumes nothing.
use Rattle.std.specs.Prelude.{◌≡◌, List, ℕ, Some}
use Rattle.basics.specs.Types.{StoreBytes, DolBytes, Value, Bytes, Length}
use Rattle.dictionary.specs.Rows.{Row}
use Rattle.dol.specs.Filling.{padded_to_length, fitted_to_length, dol_filled}

-- the bytes s are a well-formed DOL, and v is its filling from a store; how long v is plays no part
abbrev pub FillsDol : List Row → StoreBytes → DolBytes → Bytes → Type 0
FillsDol table store s v = dol_filled table store s ≡ Some v

-- a value v brought to m bytes and then to n is v brought to n at once: as padding alone, and as filling does it, which
-- truncates a value that is too long
pub record FittingTwiceIsFittingOnce (format : ℕ) (first_length second_length : Length) (value : Value) : Type 0 where
  pub padding : padded_to_length format second_length (padded_to_length format first_length value) ≡ padded_to_length format
      second_length value
  pub fitting : fitted_to_length format second_length (fitted_to_length format first_length value) ≡ fitted_to_length format
      second_length value

-- ---- what holds of it: the promises `filling` and `padding` of `records_in_any_order`, by `filled_join`,
-- `padded_twice` and `fitted_twice` (`dol`, proofs/Filling and proofs/Fitting)
