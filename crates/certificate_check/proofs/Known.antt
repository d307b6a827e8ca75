-- From what is known while a certificate is read to what comes of it.
use Rattle.std.proofs.Common.{◌≡◌, ℕ, List, [], ◌∷◌, ◌++◌, Ok, Err, sym, subst}
use Rattle.tc_compile.specs.Programs.{IsCodeOf}
use Rattle.command_frame.specs.Inputs.{Texts}
use Rattle.command_inputs.specs.declared.refusal.Refusal.{Refusal}
use Rattle.certificate_input.specs.Checked.{IsChecked}
use Rattle.certificate_input.specs.declared.incoming.Incoming.{Incoming}
use Rattle.certificate_input.specs.declared.verdict.Verdict.{Verdict}
use Rattle.certificate_input.specs.helpers.Incoming.{IsRead}
use Rattle.certificate_check.specs.Meanings.{ComesTo}
use Rattle.certificate_check.specs.helpers.Known.{Knows}

-- to what comes of the inputs
pub unread_comes : (t : Texts) (bytes : List ℕ) (why : Refusal) → Knows t bytes (Err why) → ComesTo (t ++ bytes ∷ []) (Err why)
unread_comes [] bytes why h = absurd h
unread_comes (program ∷ []) bytes why h = h
unread_comes (program ∷ more ∷ rest) bytes why h = absurd h

pub read_comes : (t : Texts) (bytes : List ℕ) (s : Incoming) (v : Verdict)
    → ((bytes : List ℕ) → IsRead s bytes → IsChecked s.code bytes v) → Knows t bytes (Ok s) → ComesTo (t ++ bytes ∷ []) (Ok v)
read_comes [] bytes s v outcome h = absurd h
read_comes (program ∷ []) bytes s v outcome h = (s.code, h.0, outcome bytes h.1)
read_comes (program ∷ more ∷ rest) bytes s v outcome h = absurd h

-- to the certificate so far, and to what is known after a piece
pub known_read : (t : Texts) (front : List ℕ) (s : Incoming) → Knows t front (Ok s) → (front : List ℕ) × IsRead s front
known_read [] front s h = absurd h
known_read (program ∷ []) front s h = (front, h.1)
known_read (program ∷ more ∷ rest) front s h = absurd h

pub known_on : (t : Texts) (front piece : List ℕ) (s next : Incoming) → next.code ≡ s.code
    → ((front : List ℕ) → IsRead s front → IsRead next (front ++ piece)) → Knows t front (Ok s) → Knows t (front ++ piece) (Ok next)
known_on [] front piece s next same on h = absurd h
known_on (program ∷ []) front piece s next same on h = (subst (IsCodeOf program) (sym same) h.0, on front h.1)
known_on (program ∷ more ∷ rest) front piece s next same on h = absurd h

pub unread_on : (t : Texts) (front piece : List ℕ) (why : Refusal) → Knows t front (Err why) → Knows t (front ++ piece) (Err why)
unread_on [] front piece why h = absurd h
unread_on (program ∷ []) front piece why h = h
unread_on (program ∷ more ∷ rest) front piece why h = absurd h
