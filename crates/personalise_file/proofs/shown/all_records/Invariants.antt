-- One record to an iteration of the loop: what is left of the bytes gets shorter.
use Rattle.std.proofs.Common.{length}
use Rattle.personalise_file.proofs.shown.all_records.Given as goal

abbrev pub decreases-loop-rest : goal.decreases-loop-rest
decreases-loop-rest g l = length l.rest
