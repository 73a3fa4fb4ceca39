-- The call start (document 01, "Calls and their numbers" and "Commands and steps"): the terminal's objects are loaded,
-- and GPO is the first command.
-- Assumes nothing.
use Rattle.basics.specs.Types.{StoreBytes, StartBytes, Buffer}
use Rattle.basics.specs.Reason.{refusal_wrong_phase}
use Rattle.command.specs.WithList.{get_processing_options}
use Rattle.session_record.specs.declared.AwaitedResponse.{AwaitedResponse}
use Rattle.session_record.specs.declared.Phase.{Phase}
use Rattle.session_record.specs.declared.Session.{Session}
use Rattle.session_record.specs.Session.{store_bytes}
use Rattle.session_record.specs.Ranges.{zero_tvr}
use Rattle.start_data.specs.StartData.{LoadedStore, refusal, loaded, load_start_bytes}
use Rattle.session.specs.Steps.{NextAction, request_command_or_end_for_dol, store_with_tvr, CallEffect, refuse, follow}
use Rattle.session.specs.Steps.{Step, step_if_admitted}

-- GPO carries the filled PDOL
unfoldable pub request_gpo : StoreBytes → NextAction
request_gpo b = request_command_or_end_for_dol AwaitedResponse.Gpo b (get_processing_options b)

-- a loading that is refused passes its number on (20, 23, 24); else 95 is zero at start, and GPO is requested
abbrev pub start_effect_after_loading : LoadedStore → CallEffect
start_effect_after_loading (refusal n) = refuse n
start_effect_after_loading (loaded b) = follow (request_gpo (store_with_tvr b zero_tvr))

-- a start on a session that is not fresh is refused (21)
abbrev pub start_effect : Phase → StoreBytes → StartBytes → CallEffect
start_effect Phase.Fresh b bytes = start_effect_after_loading (load_start_bytes b bytes)
start_effect (Phase.Waiting w) b bytes = refuse refusal_wrong_phase
start_effect (Phase.Ended e) b bytes = refuse refusal_wrong_phase

-- the call start
abbrev pub start_step : Session → StartBytes → Buffer → Step
start_step s bytes buf = step_if_admitted s buf (start_effect s.phase (store_bytes s) bytes)
