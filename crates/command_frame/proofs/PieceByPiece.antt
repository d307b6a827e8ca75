-- From the pieces of an input to the input.
use Rattle.std.proofs.Common.{◌≡◌, inl, ap, refl, sym, subst, ℕ, List, [], ◌∷◌, ◌++◌}
use Rattle.std.specs.Prelude.{is_some, IsSome}
use Rattle.tc_io.specs.Outside.{ShelfTells, GaveReading, GaveSoFar}
use Rattle.tc_io.specs.declared.PieceFault.{PieceFault}
use Rattle.tc_io.specs.declared.PieceFault.TheVariants.{Failed}
use Rattle.command_frame.specs.Answers.{NoMemory}
use Rattle.command_frame.specs.Causes.{IsCause}
use Rattle.command_frame.specs.Inputs.{AreWithin, GaveAll, InPieces, Texts, Wanted}
use Rattle.command_frame.specs.Meaning.{Meaning}
use Rattle.command_frame.specs.helpers.Failures.{HeldStill, IsWhyMissing, failed_answer}
use Rattle.command_frame.specs.declared.failure.Failure.{Failure}
use Rattle.command_frame.proofs.AllRuns.{missing_cause}
use Rattle.command_frame.proofs.ReadAll.{gave_both, given_still, missing_first, missing_later}

-- a reading that goes on leaves what is held
pub held_so_far : (old new : ShelfTells) (name bytes : List ℕ) → GaveSoFar old new name bytes → HeldStill old new
held_so_far old new name bytes so_far = (ap (λ (t : ShelfTells). t.held) so_far.0, ap (λ (t : ShelfTells). t.faults) so_far.0)

pub still_open : (old new : ShelfTells) (name bytes : List ℕ) → GaveSoFar old new name bytes → IsSome new.open_name
still_open old new name bytes so_far = ap (λ (t : ShelfTells). is_some t.open_name) so_far.0

-- a piece fails in one way
pub only_fault : (f : PieceFault) → f ≡ Failed
only_fault Failed = refl

-- inputs within their limits, and one of any length behind them
pub within_with_none : (ws : List Wanted) (t : Texts) (name : List ℕ) → AreWithin ws t → AreWithin (ws ++ InPieces name ∷ []) (t ++ [] ∷ [])
within_with_none [] [] name h = (tt, tt)
within_with_none [] (t ∷ ts) name h = absurd h
within_with_none (w ∷ ws) [] name h = absurd h
within_with_none (w ∷ ws) (t ∷ ts) name h = (h.0, within_with_none ws ts name h.1)

-- the inputs before the last, and the last
pub gave_last : (ws : List Wanted) (old s new : ShelfTells) (t : Texts) (name bytes : List ℕ) → GaveAll ws old s t → GaveReading s new name bytes
    → GaveAll (ws ++ InPieces name ∷ []) old new (t ++ bytes ∷ [])
gave_last ws old s new t name bytes gave last = gave_both ws (InPieces name ∷ []) old s new t (bytes ∷ []) gave (new, last, refl)

module _ {A : Type 0} (m : Meaning A) (ws : List Wanted) (name : List ℕ) (are : m.inputs ≡ ws ++ InPieces name ∷ []) where
  -- why those before the last couldn't be read, or the last
  pub missing_before : (old new : ShelfTells) (f : Failure) → IsWhyMissing ws old new f → IsCause m old new (failed_answer f)
  missing_before old new f h =
      missing_cause m old new f (subst (λ vs. IsWhyMissing vs old new f) (sym are) (missing_first ws (InPieces name ∷ []) old new f h))

  pub missing_last : (old s new : ShelfTells) (t : Texts) (f : Failure) → GaveAll ws old s t → IsWhyMissing (InPieces name ∷ []) s new f
      → IsCause m old new (failed_answer f)
  missing_last old s new t f gave h =
      missing_cause m old new f (subst (λ vs. IsWhyMissing vs old new f) (sym are) (missing_later ws (InPieces name ∷ []) old s new t f gave h))

  -- there was no memory after some inputs
  pub none_before : (old new : ShelfTells) (t : Texts) → GaveAll ws old new t → IsCause m old new NoMemory
  none_before old new t gave = let still = given_still ws old new t gave in (still.1, inl still.0)

  -- all inputs
  pub gave_inputs : (old s new : ShelfTells) (t : Texts) (bytes : List ℕ) → GaveAll ws old s t → GaveReading s new name bytes
      → GaveAll m.inputs old new (t ++ bytes ∷ [])
  gave_inputs old s new t bytes gave last =
      subst (λ vs. GaveAll vs old new (t ++ bytes ∷ [])) (sym are) (gave_last ws old s new t name bytes gave last)

  pub within_inputs : (t : Texts) → AreWithin ws t → AreWithin m.inputs (t ++ [] ∷ [])
  within_inputs t h = subst (λ vs. AreWithin vs (t ++ [] ∷ [])) (sym are) (within_with_none ws t name h)
