-- The results of a search.
use Rattle.std.specs.Prelude.{◌≡◌, ℕ, ◌<◌, ◌≤◌, Bool, true, false, IsTrue, List, length}
use Rattle.run_log.specs.tc_base.Buffers.{BufferOps}
use Rattle.run_log.specs.Logs.{Log}
use Rattle.run_log.specs.memory_models.declared.model.Model.{Model}
use Rattle.tc_code.specs.Code.{Code}
use Rattle.store_buffers.specs.Pending.{Binding}
use Rattle.run_log.specs.Logs.{is_log}
use Rattle.path_walk.specs.Fits.{Fits}
use Rattle.path_walk.specs.Paths.{Paths, paths_of}
use Rattle.order_formula.specs.Worlds.{World}
use Rattle.cnf_core.specs.Clauses.{satisfies, value_in}
use Rattle.cdcl_core.specs.Solving.{IsAnswerOn}
use Rattle.cdcl_core.specs.declared.answer.Answer.{Answer}
use Rattle.clap_solve.specs.Clauses.{clauses_of}
use Rattle.clap_solve.specs.Posed.{IsGiven, Posed, posed_of}
use Rattle.switch_clauses.specs.switch_runs.Worlds.{world_switches}
use Rattle.least_switch.specs.Least.{HasSwitches}
use Rattle.least_switch.specs.declared.best.Best.{Best}
use Rattle.least_switch.specs.declared.bounded.Bounded.{Bounded}
use Rattle.least_switch.specs.helpers.Bounded.{IsBounded}

module _ {B : Type 0} (ops : BufferOps B) (model : Model) (code : Code) where
  -- the schedule comes from a world, for each log of these paths
  pub record IsOfWorld (paths : Paths) (w : World) (b : Best) : Type 0 where
    pub has : (log : Log) → is_log log ≡ true → Fits code log → paths_of code log ≡ paths
        → HasSwitches ops model code log b.schedule b.switches
    pub count : b.switches ≡ world_switches paths w

  module _ (log : Log) where
    abbrev pub IsBest : Best → Type 0
    IsBest b = HasSwitches ops model code log b.schedule b.switches

    abbrev pub IsBestUpTo : ℕ → Best → Type 0
    IsBestUpTo most b = IsBest b × (b.switches ≤ most)

-- the values satisfy the clauses of a log
pub record IsFirst (buffered : Bool) (bound : Binding) (code : Code) (log : Log) (p : Posed)
    (values : List Bool) : Type 0 where
  pub given : IsGiven code log
  pub posed : p ≡ posed_of buffered bound code log
  pub variables : p.paths.dead ≡ false → 0 < p.blasted.clauses.vars
  pub satisfies : IsTrue (satisfies (value_in values) p.blasted.clauses.clauses)
  pub all : p.blasted.clauses.vars ≤ length values

-- the values satisfy the clauses of a log with at most `most` switches
pub record IsSaid (buffered : Bool) (bound : Binding) (code : Code) (log : Log) (most : ℕ)
    (b : Bounded) (values : List Bool) : Type 0 where
  pub given : IsGiven code log
  pub bounded : IsBounded buffered bound code log most b
  pub satisfies : IsTrue (satisfies (value_in values) b.clauses.clauses)
  pub all : b.clauses.vars ≤ length values

-- the clauses of a log, with everything that they are made from
pub record IsPosedFor (buffered : Bool) (bound : Binding) (code : Code) (log : Log)
    (p : Posed) : Type 0 where
  pub given : IsGiven code log
  pub is : p ≡ posed_of buffered bound code log
  pub variables : p.paths.dead ≡ false → 0 < p.blasted.clauses.vars

-- the result of the search over the clauses of a log
pub record IsFirstFound {B : Type 0} (ops : BufferOps B) (model : Model) (buffered : Bool)
    (bound : Binding) (code : Code) (log : Log) (budget : ℕ)
    (x : Answer Best) : Type 0 where
  pub given : IsGiven code log
  pub found : IsAnswerOn (clauses_of buffered bound code log) budget (IsBest ops model code log) x
