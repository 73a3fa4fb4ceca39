-- Two readers of an answer (document 02, Item 10): what each of them promises, and that they give the same store,
-- reason and object count.
-- Assumes nothing.
use Rattle.std.specs.Prelude.{◌≡◌, ◌-◌, ◌*◌, ◌≤◌, length}
use Rattle.basics.specs.Types.{StoreBytes, Response}
use Rattle.dictionary.specs.Rows.{store_size}
use Rattle.reading.specs.declared.Awaited.{Awaited}
use Rattle.reading.specs.declared.Reading.{Reading}
use Rattle.reading.specs.declared.BothReadings.{BothReadings}
use Rattle.reading.specs.Answer.{ReadingAndStoreMatchOutcome, read_answer}
use Rattle.reading.specs.Count.{object_count_in_answer}

-- the reading r of an answer s and the store c that it leaves of the store b: the four promises of `read_answer`; an
-- object has two bytes at least, and the two status bytes belong to none (of an answer under two bytes, 0 are left)
pub record ReadAnswerPromises (awaited : Awaited) (response : Response) (store_before : StoreBytes) (reading : Reading)
    (store_after : StoreBytes) : Type 0 where
  pub given : ReadingAndStoreMatchOutcome reading store_after (read_answer awaited store_before response)
  pub sized : length store_after ≡ store_size
  pub half : 2 * reading.objects ≤ length response - 2
  pub tree : reading.objects ≡ object_count_in_answer awaited response

-- both readings have the same reason and count, and the stores that they leave are the same
pub record ReadersAgree (both : BothReadings) (store_of_recursive store_of_flat : StoreBytes) : Type 0 where
  pub readings : both.recursive ≡ both.flat
  pub stores : store_of_recursive ≡ store_of_flat

-- ---- what holds of it, promised by `read_both`, for every answer and every store
--   same    from equal stores the readers agree
