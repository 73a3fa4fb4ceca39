-- The examples are computed in proofs/. Assumes nothing.
use Rattle.worked_words.proofs.Host as host
use Rattle.worked_words.proofs.Personalise as personalise
use Rattle.worked_words.proofs.Cabinet as cabinet
use Rattle.worked_words.proofs.word_examples_hold.Goals as goal

pub returns : goal.returns
returns c = record { host = host.words; personalise = personalise.words; cabinet = cabinet.words }
