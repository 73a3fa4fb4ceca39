-- `dictionary::part_of` meets its contract: one law for each part. Assumes nothing.
use native.Mathlib.Omega.{arith}
use Rattle.dictionary.proofs.Part.{one_byte, from_5f, from_9f, from_df, three_bytes}
use Rattle.dictionary.proofs.part_of.Goals as goal

pub returns-in-0-to-255-clause-value : goal.returns-in-0-to-255-clause-value
returns-in-0-to-255-clause-value c = one_byte _ (omega arith)

pub returns-in-0-to-40703-clause-value : goal.returns-in-0-to-40703-clause-value
returns-in-0-to-40703-clause-value c = from_5f _ (omega arith) (omega arith)

pub returns-in-0-to-57087-clause-value : goal.returns-in-0-to-57087-clause-value
returns-in-0-to-57087-clause-value c = from_9f _ (omega arith) (omega arith) (omega arith)

pub returns-in-0-to-65535-clause-value : goal.returns-in-0-to-65535-clause-value
returns-in-0-to-65535-clause-value c = from_df _ (omega arith) (omega arith) (omega arith) (omega arith)

pub returns-in_default-clause-value : goal.returns-in_default-clause-value
returns-in_default-clause-value c = three_bytes _ (omega arith) (omega arith) (omega arith) (omega arith)
