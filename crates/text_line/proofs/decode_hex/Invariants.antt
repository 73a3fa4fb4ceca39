-- `text_line::decode_hex` meets its contract. The invariant is `Decoding`: n bytes are in their place, the rest is
-- still to decode.
-- Assumes nothing.
use lib.ListN.{length}
use Rattle.text_line.proofs.Digits.{Decoding}
use Rattle.text_line.proofs.decode_hex.Given as goal

abbrev pub invariant-loop-rest : goal.invariant-loop-rest
invariant-loop-rest l = Decoding l.s l.initial.out l.n l.rest l.out

abbrev pub decreases-loop-rest : goal.decreases-loop-rest
decreases-loop-rest l = length l.rest
