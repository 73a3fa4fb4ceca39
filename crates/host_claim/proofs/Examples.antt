-- What is read off lists of calls, computed: where an opening begins anew, which commands are handed out and which are
-- unanswered.
-- Assumes nothing.
use mathlib.Core.Path.{◌≡◌, refl}
use mathlib.Core.Bool.{true, false}
use mathlib.Core.List.{List, [], ◌∷◌, map}
use Prim.Native.Nat.{ℕ}
use Rattle.basics.specs.Choice.{if, both, either}
use Rattle.session.specs.Calls.{start, answer, link_failed}
use Rattle.host_claim.specs.Calls.{opening, on_session, HostCallMade}
use Rattle.host_claim.proofs.Read.{completed_call}
use Rattle.host_claim.specs.Words.{is_command_word, is_outcome_word, is_refusal_word, has_accepted_opening}
use Rattle.host_claim.specs.Words.{calls_since_last_accepted_opening, host_commands_handed_out, host_calls_not_refused}
use Rattle.host_claim.specs.Words.{has_answer_call, host_commands_with_no_later_answer, host_unanswered_commands}

-- a command of 8 and of 261 bytes; approved with no CVM, with a signature; ended by a failed link; refusals 21 and 25
abbrev some_words : List ℕ
some_words = 8 ∷ 261 ∷ 0x00010000 ∷ 0x01010000 ∷ 0x0F010309 ∷ 0x20015 ∷ 0x20019 ∷ []

kinds_command : map is_command_word some_words ≡ true ∷ true ∷ false ∷ false ∷ false ∷ false ∷ false ∷ []
kinds_command = refl

kinds_outcome : map is_outcome_word some_words ≡ false ∷ false ∷ true ∷ true ∷ true ∷ false ∷ false ∷ []
kinds_outcome = refl

kinds_refusal : map is_refusal_word some_words ≡ false ∷ false ∷ false ∷ false ∷ false ∷ true ∷ true ∷ []
kinds_refusal = refl

-- a start that hands out two bytes, a second one that is refused (21), an answer that hands out three, the link fails
abbrev first : HostCallMade
first = completed_call (on_session (start [] [])) 2 (1 ∷ 2 ∷ 9 ∷ 9 ∷ [])

abbrev again : HostCallMade
again = completed_call (on_session (start [] [])) 0x20015 (9 ∷ 9 ∷ [])

abbrev next : HostCallMade
next = completed_call (on_session (answer [] [])) 3 (3 ∷ 4 ∷ 5 ∷ 9 ∷ [])

abbrev broken : HostCallMade
broken = completed_call (on_session (link_failed [])) 0x0F010309 []

sent : host_commands_handed_out (first ∷ again ∷ next ∷ broken ∷ []) ≡ (1 ∷ 2 ∷ []) ∷ (3 ∷ 4 ∷ 5 ∷ []) ∷ []
unfolding host_commands_handed_out if
sent = refl

not_refused : host_calls_not_refused (first ∷ again ∷ next ∷ broken ∷ []) ≡ first ∷ next ∷ broken ∷ []
unfolding host_calls_not_refused if
not_refused = refl

-- the answer leaves its own command unanswered; a refused one answers nothing
unanswered_next : host_unanswered_commands (first ∷ again ∷ next ∷ []) ≡ (3 ∷ 4 ∷ 5 ∷ []) ∷ []
unfolding host_unanswered_commands host_calls_not_refused host_commands_with_no_later_answer has_answer_call if either
unanswered_next = refl

unanswered_first : host_unanswered_commands (first ∷ completed_call (on_session (answer [] [])) 0x20016 [] ∷ [])
    ≡ (1 ∷ 2 ∷ []) ∷ []
unfolding host_unanswered_commands host_calls_not_refused host_commands_with_no_later_answer has_answer_call if either
unanswered_first = refl

-- an opening begins anew, one that is refused (25) does not
anew : calls_since_last_accepted_opening (first ∷ completed_call opening 0 [] ∷ again ∷ completed_call opening 0 [] ∷ first
    ∷ next ∷ [])
    ≡ first ∷ next ∷ []
unfolding calls_since_last_accepted_opening has_accepted_opening if both either
anew = refl

not_anew : calls_since_last_accepted_opening (first ∷ completed_call opening 0x20019 [] ∷ next ∷ [])
    ≡ first ∷ completed_call opening 0x20019 [] ∷ next ∷ []
unfolding calls_since_last_accepted_opening has_accepted_opening if both either
not_anew = refl
