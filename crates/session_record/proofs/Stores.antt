-- Stores for computed examples, written row by row from a list of objects. Assumes nothing.
use mathlib.Core.List.{List, [], ◌∷◌, ◌++◌}
use Prim.Native.Nat.{ℕ, ◌+◌}
use lib.Dec.{eqb}
use lib.ListN.{length, take, replicate}
use Rattle.basics.specs.Choice.{if}
use Rattle.dictionary.specs.Rows.{Row, dictionary_rows}
use Rattle.store.specs.Place.{row_size_in_store}

-- a row's place with the first value that a list has for its tag; empty where there is none
abbrev pub placed : List (ℕ × List ℕ) → Row → List ℕ
placed [] r = replicate (row_size_in_store r) 0
placed ((t, v) ∷ more) r = if (eqb t r.tag)
    (take (row_size_in_store r) ((length v + 1) ∷ v ++ replicate r.greatest 0)) (placed more r)

-- the places of some rows
abbrev pub stores : List (ℕ × List ℕ) → List Row → List ℕ
stores l [] = []
stores l (r ∷ rs) = placed l r ++ stores l rs

-- the store of a list of objects
abbrev pub storing : List (ℕ × List ℕ) → List ℕ
storing l = stores l dictionary_rows

-- a list of objects without those of a tag
abbrev pub leaving : ℕ → List (ℕ × List ℕ) → List (ℕ × List ℕ)
leaving x [] = []
leaving x ((t, v) ∷ more) = if (eqb t x) (leaving x more) ((t, v) ∷ leaving x more)

-- the store of the others
abbrev pub without : ℕ → List (ℕ × List ℕ) → List ℕ
without x l = storing (leaving x l)
