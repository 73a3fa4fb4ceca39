-- What private functions report of a store and leave of it. This file states no rule of document 01: a reader of the
-- rules can skip it.
-- Assumes nothing.
use Rattle.std.specs.Prelude.{◌≡◌, true, false, Option, Result, Ok, Err}
use Rattle.basics.specs.Types.{StoreBytes}
use Rattle.basics.specs.Reason.{refusal_bad_start_object}
use Rattle.session_record.specs.declared.Refusal.{Refusal}
use Rattle.start_data.specs.StartData.{ReportsWhetherObjectsSet, LoadedStore, refusal, loaded}

-- whether objects were set, as a result: where one may not be set, the refusal is that of such an object
abbrev pub ReportsSetOrRefused : Result Unit Refusal → StoreBytes → Option StoreBytes → Type 0
ReportsSetOrRefused (Ok u) c x = ReportsWhetherObjectsSet true c x
ReportsSetOrRefused (Err q) c x = ReportsWhetherObjectsSet false c x × (q ≡ record { number = refusal_bad_start_object })

-- a store is loaded; or it is refused, and given up
abbrev pub ReportsLoaded : Result Unit Refusal → StoreBytes → LoadedStore → Type 0
ReportsLoaded r c (refusal n) = r ≡ Err (record { number = n })
ReportsLoaded r c (loaded d) = (r ≡ Ok tt) × (c ≡ d)
