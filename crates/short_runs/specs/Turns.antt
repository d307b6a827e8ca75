-- Pure turns in histories.
use Rattle.std.specs.Prelude.{◌≡◌, ℕ, ℤ, Bool, true, false, not, Option, Some, List, ◌∷◌, ◌++◌, slice_index_or}
use Rattle.std.specs.List.{list_any}
use Rattle.std.specs.Ordering.{int_eq}
use Rattle.std.specs.FinMap as fin
use Rattle.pure_turns.specs.tc_base.Names.{Name}
use Rattle.pure_turns.specs.tc_base.States.{Local}
use Rattle.pure_turns.specs.tc_base.declared.request.Request.{Request}
use Rattle.pure_turns.specs.tc_base.declared.request.Request.TheVariants.{Silent, Read, Exchange, Acquire, Release, OrderStores}
use Rattle.pure_turns.specs.tc_code.Code.{Code}
use Rattle.pure_turns.specs.tc_code.int_ops.Updates.{updated}
use Rattle.least_runs.specs.run_history.History.{Deed, Did}
use Rattle.least_runs.specs.run_history.Locals.{locals_in}
use Rattle.least_runs.specs.run_history.Told.{is_step_of}
use Rattle.pure_turns.specs.Live.{Liveness, AgreeWhereLive}

-- whether a step that read this value changes nothing that other threads can use; held is what its
-- thread held at the turn's beginning
abbrev pub is_pure_step : (held : List Bool) → Request → (took : ℤ) → Bool
is_pure_step held Silent took = true
is_pure_step held (Read c) took = true
is_pure_step held OrderStores took = true
is_pure_step held (Exchange c u) took = int_eq (updated u took) took
is_pure_step held (Acquire m) took = true
is_pure_step held (Release m) took = not (slice_index_or held m false)
is_pure_step held _ took = false

-- these deeds after older ones are a pure turn of a thread: it does some steps, all of them pure,
-- comes back to its place with the same value in each slot that is live there, and holds the same
pub record IsPureTurnIn (code : Code) (live : Liveness) (n : Name)
    (older turn : List Deed) : Type 0 where
  pub steps : list_any (is_step_of n) turn ≡ true
  pub first : Local
  pub last : Local
  pub begins : fin.get (locals_in code older) n ≡ Some first
  pub ends : fin.get (locals_in code (older ++ turn)) n ≡ Some last
  pub pure : (before after : List Deed) (k : ℕ) (r : Request) (took : ℤ) (other : Option Name)
      → turn ≡ before ++ Did n k r took other ∷ after → is_pure_step first.held r took ≡ true
  pub back : last.instruction ≡ first.instruction
  pub slots : AgreeWhereLive live first last
  pub held : first.held ≡ last.held

-- no part of a history is a pure turn
abbrev pub HasNoPureTurnIn : Code → Liveness → List Deed → Type 0
HasNoPureTurnIn code live h =
    (older turn newer : List Deed) (n : Name) → h ≡ older ++ turn ++ newer
    → IsPureTurnIn code live n older turn → ⊥
