-- Filling and padding are laws of `dol`; the records' are in proofs/Contents and proofs/Answers, how much an answer
-- holds in proofs/Room.
-- Assumes nothing.
use mathlib.Core.Path.{refl}
use mathlib.Core.List.{List}
use Prim.Native.Nat.{ℕ, ◌≤◌}
use lib.ListN.{length}
use Rattle.dol.proofs.Fitting.{padded_twice, fitted_twice}
use Rattle.dol.proofs.Filling.{filled_join}
use Rattle.laws.proofs.Contents.{contents_agree}
use Rattle.laws.specs.Lists.{FittingTwiceIsFittingOnce}
use Rattle.laws.proofs.Answers.{answers_agree, whole, accepted_whole}
use Rattle.laws.proofs.Room.{room, most_held}
use Rattle.laws.proofs.records_in_any_order.Goals as goal

padded-once : (form m n : ℕ) (v : List ℕ) → length v ≤ m → m ≤ n → FittingTwiceIsFittingOnce form m n v
padded-once form m n v h k = record { padding = padded_twice form m n v h k; fitting = fitted_twice form m n v h k }

pub returns : goal.returns
returns c = record { most = refl; filling = filled_join; records = contents_agree; answers = answers_agree; padding = padded-once; whole = whole; accepted = accepted_whole; room = room; longest = most_held }
