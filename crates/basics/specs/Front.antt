-- Bytes at the front of the caller's slice: how a command is placed in its buffer (document 01, "Calls and
-- their numbers").
-- Assumes nothing.
use Rattle.std.specs.Prelude.{List, ◌++◌, ℕ, length, drop}

-- the bytes v at the front of the slice l: those after v stay
abbrev pub written_over_front : List ℕ → List ℕ → List ℕ
written_over_front v l = v ++ drop (length v) l
