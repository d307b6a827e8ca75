-- From what is known while a refutation is read to what comes of it.
use Rattle.std.proofs.Common.{ℕ, List, [], ◌∷◌, ◌++◌, Option, Result, Ok, Err}
use Rattle.refutation_verdicts.specs.refute_check.Broken.{BreaksAt}
use Rattle.command_frame.specs.Inputs.{Texts}
use Rattle.command_inputs.specs.declared.refusal.Refusal.{Refusal}
use Rattle.refutation_verdicts.proofs.Judged.{unread_unjudged}
use Rattle.refutation_verdicts.specs.Refutations.{Refutation}
use Rattle.refutation_verdicts.specs.declared.verdict.Verdict.{Verdict}
use Rattle.refutation_input.specs.Checked.{IsChecked}
use Rattle.refutation_input.specs.declared.incoming.Incoming.{Incoming}
use Rattle.refutation_input.specs.helpers.Incoming.{IsRead}
use Rattle.check_command.specs.Meanings.{Checks}
use Rattle.check_command.specs.helpers.Known.{Knows}

-- from what is known of the inputs to what comes of them
pub unread_comes : (t : Texts) (bytes : List ℕ) (why : Refusal) → Knows t bytes (Err why) → Checks (t ++ bytes ∷ []) (Err why)
unread_comes [] bytes why h = absurd h
unread_comes (program ∷ []) bytes why h = absurd h
unread_comes (program ∷ log ∷ []) bytes why h = unread_unjudged program log (Refutation bytes) (BreaksAt bytes) why h
unread_comes (program ∷ log ∷ more ∷ rest) bytes why h = absurd h

pub read_comes : (t : Texts) (bytes : List ℕ) (s : Incoming) (x : Result (Verdict (Option ℕ)) Refusal)
    → ((program log bytes : List ℕ) → IsRead program log s bytes → IsChecked program log bytes x) → Knows t bytes (Ok s)
    → Checks (t ++ bytes ∷ []) x
read_comes [] bytes s x outcome h = absurd h
read_comes (program ∷ []) bytes s x outcome h = absurd h
read_comes (program ∷ log ∷ []) bytes s x outcome h = outcome program log bytes h
read_comes (program ∷ log ∷ more ∷ rest) bytes s x outcome h = absurd h

-- from what is known of the inputs to the refutation so far, and to what is known after a piece
pub known_read : (t : Texts) (front : List ℕ) (s : Incoming) → Knows t front (Ok s) → (program log front : List ℕ) × IsRead program log s front
known_read [] front s h = absurd h
known_read (program ∷ []) front s h = absurd h
known_read (program ∷ log ∷ []) front s h = (program, log, front, h)
known_read (program ∷ log ∷ more ∷ rest) front s h = absurd h

pub known_on : (t : Texts) (front piece : List ℕ) (s next : Incoming)
    → ((program log front : List ℕ) → IsRead program log s front → IsRead program log next (front ++ piece)) → Knows t front (Ok s)
    → Knows t (front ++ piece) (Ok next)
known_on [] front piece s next on h = absurd h
known_on (program ∷ []) front piece s next on h = absurd h
known_on (program ∷ log ∷ []) front piece s next on h = on program log front h
known_on (program ∷ log ∷ more ∷ rest) front piece s next on h = absurd h

pub unread_on : (t : Texts) (front piece : List ℕ) (why : Refusal) → Knows t front (Err why) → Knows t (front ++ piece) (Err why)
unread_on [] front piece why h = absurd h
unread_on (program ∷ []) front piece why h = absurd h
unread_on (program ∷ log ∷ []) front piece why h = h
unread_on (program ∷ log ∷ more ∷ rest) front piece why h = absurd h
