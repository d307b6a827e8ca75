-- Runs and logs in which the outcomes of each thread are allowed.
use Rattle.std.specs.Prelude.{◌≡◌, ℕ, Bool, true, nat_le, List, ◌++◌, length, Some}
use Rattle.std.specs.FinMap as fin
use Rattle.tc_record.specs.tc_base.Buffers.{BufferOps}
use Rattle.tc_record.specs.run_log.Logs.{Log}
use Rattle.tc_record.specs.tc_base.Paths.{Path, path_under}
use Rattle.tc_record.specs.tc_base.Names.{Name}
use Rattle.tc_record.specs.tc_base.States.{Thread, State}
use Rattle.least_runs.specs.memory_models.declared.model.Model.{Model}
use Rattle.tc_record.specs.tc_base.declared.moves.Move.{Move}
use Rattle.tc_record.specs.tc_code.Code.{Code}
use Rattle.tc_record.specs.tc_code.Run.{run, Reproduces}

-- the outcomes that each named thread may have
abbrev pub Allowed : Type 0
Allowed = Name → List Bool → Bool

-- at most `most` outcomes
abbrev pub at_most : ℕ → Allowed
at_most most n outcomes = nat_le (length outcomes) most

-- every prefix of allowed outcomes is allowed
abbrev pub HasBeginnings : Allowed → Type 0
HasBeginnings allowed =
    (n : Name) (first later : List Bool) → allowed n (first ++ later) ≡ true
    → allowed n first ≡ true

module _ {B : Type 0} (ops : BufferOps B) (code : Code) (allowed : Allowed) where
  -- some run leads to a state of this kind, in which each thread has allowed outcomes
  pub record ComesTo (kind : State B → Type 0) : Type 0 where
    pub moves : List Move
    pub state : State B
    pub leads : run ops code moves ≡ Some state
    pub is : kind state
    pub within : (n : Name) (t : Thread B) → fin.get state.threads n ≡ Some t
        → allowed n t.local.outcomes ≡ true

  -- some run reproduces a log of this kind and model, in which each path has allowed outcomes
  pub record ReproducesSome (model : Model) (kind : Log → Type 0) : Type 0 where
    pub log : Log
    pub is : kind log
    pub under : log.model ≡ model
    pub within : (n : Name) (p : Path) → path_under n log.threads ≡ Some p
        → allowed n p.outcomes ≡ true
    pub moves : List Move
    pub again : Reproduces ops code log moves
