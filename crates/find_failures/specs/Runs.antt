-- The runs that a search looks for.
use Rattle.std.specs.Prelude.{◌≡◌, ℕ, ◌<◌, true, List, length, Some, IsSome}
use Rattle.std.specs.FinMap as fin
use Rattle.memory_models.specs.declared.model.Model.{Model}
use Rattle.tc_base.specs.Buffers.{BufferOps}
use Rattle.tc_base.specs.Names.{Name}
use Rattle.tc_base.specs.Paths.{ThreadPath}
use Rattle.tc_base.specs.States.{Thread, State}
use Rattle.tc_base.specs.declared.failing.Failing.TheVariants as failing
use Rattle.tc_base.specs.declared.moves.Move.{Move}
use Rattle.run_log.specs.Logs.{Log, failing_of}
use Rattle.tc_code.specs.Code.{Code}
use Rattle.tc_code.specs.Run.{run, IsStuck, Reproduces}
use Rattle.log_walk.specs.thread_paths.pure_turns.Live.{Liveness, IsClosed}
use Rattle.log_walk.specs.Given.{IsOne}
use Rattle.log_walk.specs.Order.{are_to_come}
use Rattle.log_walk.specs.Rest.{all}
use Rattle.log_walk.specs.Needless.{SomeNeedless}
use Rattle.log_walk.specs.declared.bounds.Kind.{Kind}
use Rattle.log_walk.specs.declared.bounds.Kind.TheVariants.{Failure, Deadlock}
use Rattle.clap_solve.specs.Solved.{IsImpossible}

-- a log says that its run ends this way
abbrev pub Records : Kind → Log → Type 0
Records Failure log = IsSome (failing_of log)
Records Deadlock log = log.failing ≡ failing.Deadlock

-- the threads of a log of this kind make up a log, each with at most `most` outcomes
pub record IsNeeded (model : Model) (code : Code) (kind : Kind) (most : ℕ)
    (log : Log) : Type 0 where
  pub under : log.model ≡ model
  pub records : Records kind log
  pub is_one : IsOne code (record { kind = kind; most = most }) log.threads

-- some thread has more than `most` outcomes
pub record HasMany {B : Type 0} (most : ℕ) (s : State B) : Type 0 where
  pub name : Name
  pub thread : Thread B
  pub there : fin.get s.threads name ≡ Some thread
  pub many : most < length thread.local.outcomes

module _ {B : Type 0} (ops : BufferOps B) (code : Code) where
  -- a run that ends in this state ends this way
  abbrev pub EndsIn : Kind → State B → Type 0
  EndsIn Failure s = IsSome s.failed
  EndsIn Deadlock s = IsStuck ops code s

  -- no run ends this way
  abbrev pub NoneEnds : Kind → Type 0
  NoneEnds kind =
      (moves : List Move) (s : State B) → run ops code moves ≡ Some s → EndsIn kind s → ⊥

  -- each run that ends this way has a thread with more than `most` outcomes
  abbrev pub NoneEndsWithin : Kind → ℕ → Type 0
  NoneEndsWithin kind most =
      (moves : List Move) (s : State B) → run ops code moves ≡ Some s → EndsIn kind s
      → HasMany most s

  -- some moves reproduce the log
  abbrev pub IsPossible : Log → Type 0
  IsPossible log = (moves : List Move) × Reproduces ops code log moves

-- no path of these threads is needless, whichever closed table says which slots are live
abbrev pub NoneNeedless : Code → Kind → List ThreadPath → Type 0
NoneNeedless code kind ts =
    (live : Liveness) → IsClosed code live → SomeNeedless code live kind (all code kind) ts → ⊥

module _ {B : Type 0} (ops : BufferOps B) (model : Model) (code : Code) (kind : Kind) where
  -- no moves reproduce a log of these threads
  abbrev pub AreImpossible : List ThreadPath → Type 0
  AreImpossible ts =
      (log : Log) → log.model ≡ model → log.threads ≡ ts → Records kind log
      → IsImpossible ops code log

  -- no log without needless paths in which each thread has at most `most` outcomes is possible
  abbrev pub NoneWithin : ℕ → Type 0
  NoneWithin most =
      (ts : List ThreadPath) → IsOne code (record { kind = kind; most = most }) ts
      → NoneNeedless code kind ts → AreImpossible ts

  -- no log without needless paths in which each thread has fewer outcomes than `most` is possible
  abbrev pub NoneBelow : ℕ → Type 0
  NoneBelow most = (less : ℕ) → less < most → NoneWithin less

  -- no log without needless paths before the one of these threads is possible: none with fewer
  -- outcomes than its greatest number, and none without more whose paths come first
  pub record NoneBefore (ts : List ThreadPath) : Type 0 where
    pub most : ℕ
    pub within : IsOne code (record { kind = kind; most = most }) ts
    pub fewer : NoneBelow most
    pub first : (us : List ThreadPath) → IsOne code (record { kind = kind; most = most }) us
        → NoneNeedless code kind us → are_to_come (Some us) ts ≡ true → AreImpossible us

module _ {B : Type 0} (ops : BufferOps B) (model : Model) (code : Code) (live : Liveness)
    (kind : Kind) where
  -- no moves reproduce a log of these threads, unless some path is needless
  abbrev pub AreExcluded : List ThreadPath → Type 0
  AreExcluded ts =
      (SomeNeedless code live kind (all code kind) ts → ⊥) → AreImpossible ops model code kind ts

  -- the same of all threads that each have fewer outcomes than `most`
  abbrev pub AreExcludedBelow : ℕ → Type 0
  AreExcludedBelow most =
      (less : ℕ) (ts : List ThreadPath) → less < most
      → IsOne code (record { kind = kind; most = less }) ts → AreExcluded ts
