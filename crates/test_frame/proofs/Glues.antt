-- From the bytes of a front of the last file to those of both.
use Rattle.std.proofs.Common.{◌≡◌, ◌∙◌, ℕ, List, [], ◌∷◌, ◌++◌, ap, append_assoc, subst, sym, Result, Ok, Err}
use Rattle.std.specs.Prelude.{OnOk, is_ok, if◌then◌else◌}
use Rattle.command_frame.specs.Inputs.{Texts}
use Rattle.test_frame.specs.Glue.{Glues, knows}
use Rattle.test_frame.specs.declared.glue.Glued.{Glued}

pub takes_on : (t : Texts) (front state piece : List ℕ) → knows t front state → knows t (front ++ piece) (state ++ piece)
takes_on [] front state piece h = absurd h
takes_on (first ∷ []) front state piece h = ap (λ s. s ++ piece) h ∙ append_assoc first front piece
takes_on (first ∷ last ∷ ts) front state piece h = absurd h

pub glues_all : (t : Texts) (bytes : List ℕ) (glued : Glued) → knows t bytes glued.bytes.items → Glues (t ++ bytes ∷ []) glued
glues_all [] bytes glued h = absurd h
glues_all (first ∷ []) bytes glued h = h
glues_all (first ∷ last ∷ ts) bytes glued h = absurd h

pub taken : {A E : Type 0} (r : Result A E) (old new piece : List ℕ) → new ≡ (if is_ok r then old ++ piece else old)
    → OnOk r ((t : Texts) (front : List ℕ) → knows t front old → knows t (front ++ piece) new)
taken (Ok x) old new piece e = λ t front h. subst (knows t (front ++ piece)) (sym e) (takes_on t front old piece h)
taken (Err x) old new piece e = tt
