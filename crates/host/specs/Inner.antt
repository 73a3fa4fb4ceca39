-- What `perform` promises for its callers' proofs: of which step a closure over a session's parts is the call. A reader
-- of the rules can skip this. Assumes nothing.
use Rattle.std.specs.Borrow.{MutBor}
use Rattle.std.specs.Prelude.{ℕ}
use Rattle.basics.specs.Types.{Bytes, Buffer}
use Rattle.session_record.specs.declared.Phase.{Phase}
use Rattle.session_record.specs.declared.Session.{Session}
use Rattle.session_record.specs.declared.Transition.{Transition}
use Rattle.session_record.specs.Session.{session_of}
use Rattle.session.specs.Steps.{Step, ReturnsTransition}

-- what a call may give at a phase, a count, a store and a buffer is what the step on the session of these parts gives
abbrev pub TakesStep : (Phase → ℕ → MutBor Bytes → MutBor Buffer → Transition → MutBor Bytes → MutBor Buffer → Type 0)
    → (Session → Buffer → Step) → Type 0
TakesStep gives step =
    (p : Phase) (n : ℕ) (store : MutBor Bytes) (buf : MutBor Buffer) (t : Transition) (store' : MutBor Bytes)
    (buf' : MutBor Buffer) → gives p n store buf t store' buf'
    → ReturnsTransition t store'.now buf'.now (step (session_of p n store.now) buf.now)
