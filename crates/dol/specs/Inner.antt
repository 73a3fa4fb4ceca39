-- What `form_and_value` gives, for private functions. This file states no rule of document 01: a reader of the rules can
-- skip it.
-- Assumes nothing.
use Rattle.std.specs.Prelude.{Option, Some, None, ℕ}
use Rattle.basics.specs.Types.{Bytes, Length, Value}
use Rattle.dol.specs.Filling.{zero_bytes, fitted_to_length}

-- the bytes of an entry by the form and the value of its object, where it has any
abbrev pub dol_bytes_of_form_and_value : Length → Option (ℕ × Value) → Bytes
dol_bytes_of_form_and_value k None = zero_bytes k
dol_bytes_of_form_and_value k (Some (form, v)) = fitted_to_length form k v
