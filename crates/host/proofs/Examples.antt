-- The words of an object read back, of an explanation and of the version, computed: a wrong number is refused even
-- where definition and code agree on it.
-- Assumes nothing.
use Rattle.std.specs.Prelude.{Some, None}
use mathlib.Core.Path.{◌≡◌, refl}
use mathlib.Core.List.{List, [], ◌∷◌}
use Prim.Native.Nat.{ℕ}
use Rattle.basics.specs.Choice.{if}
use Rattle.dictionary.specs.Rows.{dictionary_rows, row_found_shifted, find_row}
use Rattle.store.specs.Place.{row_offset, row_place_bytes, value_in_place, row_value, object_value_in}
use Rattle.session_record.specs.Session.{fresh_session}
use Rattle.session_record.proofs.Phases.{fresh_keeps}
use Rattle.explain.specs.Explain.{explanation_of}
use Rattle.host.specs.Explain.{explanation_word_or_refusal}
use Rattle.host.specs.Object.{nothing_copied, object_copied_from_store, object_copied_from_session}
use Rattle.host.specs.Version.{version_word}

-- no record; a tag outside the dictionary; a tag that a store of no bytes does not hold
no_record : (t : ℕ) (l : List ℕ) → object_copied_from_session None t l ≡ nothing_copied 0x20019 l
unfolding object_copied_from_session
no_record t l = refl

unknown : object_copied_from_store [] 0x5F60 (7 ∷ []) ≡ nothing_copied 0x40000 (7 ∷ [])
unfolding object_copied_from_store if dictionary_rows find_row row_found_shifted
unknown = refl

absent : object_copied_from_store [] 0x50 (7 ∷ []) ≡ nothing_copied 0x30000 (7 ∷ [])
unfolding object_copied_from_store if dictionary_rows find_row row_found_shifted object_value_in row_value row_place_bytes
    value_in_place row_offset
absent = refl

-- 50, the first row, of two bytes: one byte of the caller's is too few, two are enough, the third stays; and 50 that is
-- present and empty
needed : object_copied_from_store (3 ∷ 0xA1 ∷ 0xA2 ∷ 0xA3 ∷ []) 0x50 (7 ∷ []) ≡ nothing_copied 0x50002 (7 ∷ [])
unfolding object_copied_from_store if dictionary_rows find_row row_found_shifted object_value_in row_value row_place_bytes
    value_in_place row_offset
needed = refl

value : object_copied_from_store (3 ∷ 0xA1 ∷ 0xA2 ∷ 0xA3 ∷ []) 0x50 (7 ∷ 8 ∷ 9 ∷ [])
    ≡ record { word = 2; buffer = 0xA1 ∷ 0xA2 ∷ 9 ∷ [] }
unfolding object_copied_from_store if dictionary_rows find_row row_found_shifted object_value_in row_value row_place_bytes
    value_in_place row_offset
value = refl

empty : object_copied_from_store (1 ∷ 0xA1 ∷ []) 0x50 [] ≡ record { word = 0; buffer = [] }
unfolding object_copied_from_store if dictionary_rows find_row row_found_shifted object_value_in row_value row_place_bytes
    value_in_place row_offset
empty = refl

-- bytes that hold no record are not explained, and a fresh session has no choice
unexplained : explanation_word_or_refusal None ≡ 0x20019
unexplained = refl

fresh : explanation_word_or_refusal (Some fresh_session) ≡ 0x40000
unfolding explanation_of if
fresh = rw fresh_keeps

-- 0.1.0, and version 5 of the layout
version : version_word ≡ 0x00010005
version = refl
