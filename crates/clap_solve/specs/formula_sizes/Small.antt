-- Upper bounds on the parts of the formula of a log within the limits, and on the circuits of its
-- terms: in variables, and in clauses.
use Rattle.std.specs.Prelude.{◌+◌, ◌*◌, ◌<◌, ◌≤◌, Bool, List, length, sum_by}
use Rattle.std.specs.List.{All}
use Rattle.clap_system.specs.run_log.Logs.{Log}
use Rattle.clap_system.specs.tc_limits.declared.limits.TheConstants.{THREADS, STEPS, EVENTS, OPERATORS}
use Rattle.clap_system.specs.tc_code.Code.{Code}
use Rattle.clap_system.specs.path_walk.Paths.{Paths, paths_of}
use Rattle.clap_system.specs.store_buffers.Pending.{Binding}
use Rattle.mutex_states.specs.bit_blast.sym_terms.declared.node.Node.{Node}
use Rattle.clap_system.specs.sym_exec.Executed.{Symbolic, Executed}
use Rattle.clap_system.specs.memory_order.Own.{own_formula, own_needs}
use Rattle.clap_system.specs.sync_order.Sync.{sync_formula}
use Rattle.clap_system.specs.read_write.Reading.{read_formula, read_needs}
use Rattle.mutex_states.specs.bit_blast.bit_terms.Sizes.{terms_size}
use Rattle.mutex_states.specs.bit_blast.Sizes.{size_of, whole_size}
use Rattle.mutex_states.specs.Sizes.{most_size}
use Rattle.switch_order.specs.cnf_core.declared.cnf.TheConstants.{LIMIT}
use Rattle.switch_order.specs.Sizes as levels
use Rattle.clap_system.specs.Systems.{System}

-- a log within the limits of threads, steps, events and operators
pub record IsWithin (code : Code) (log : Log) : Type 0 where
  pub threads : length log.threads ≤ THREADS
  pub steps : All (λ t. t.path.steps ≤ STEPS) log.threads
  pub events : (paths_of code log).events ≤ EVENTS
  pub operators : (paths_of code log).operators ≤ OPERATORS

-- The execution of a log's paths. An operator takes at most 28,868, a test of range 896, and a load
-- of a compare-and-exchange 1,152, including 896 for its step.
pub record IsSmall (x : Executed) : Type 0 where
  pub loads : x.symbolic.loads ≤ EVENTS
  pub tests : sum_by (λ c. length c.tests) x.symbolic.threads ≤ THREADS * STEPS
  pub terms : terms_size x.nodes ≤ 28_868 * OPERATORS + 896 * (THREADS * STEPS) + 256 * EVENTS

module _ (buffered : Bool) (bound : Binding) (code : Code) (paths : Paths) where
  module _ (symbolic : Symbolic) (nodes : List Node) where
    -- The conjuncts over a log's events. Most are about what ends a sleep: for each sleep, each two
    -- events that may end it.
    pub record HasSmall : Type 0 where
      pub own : size_of (own_formula buffered bound paths symbolic nodes)
          ≤ 123 * (EVENTS * EVENTS)
      pub sync : size_of (sync_formula paths)
          ≤ 28 * (EVENTS * EVENTS * EVENTS) + 120 * (EVENTS * EVENTS)
      pub read : size_of (read_formula code paths symbolic nodes)
          ≤ EVENTS * ((EVENTS + 1) * (EVENTS + 170) + 1)
      -- the terms that these conjuncts need
      pub own_needs : terms_size (own_needs buffered bound paths symbolic nodes)
          ≤ 224 * (EVENTS * EVENTS)
      pub read_needs : terms_size (read_needs code symbolic nodes) ≤ 224 * (EVENTS * EVENTS)

-- The clauses of a system, with the states of its mutexes and levels of 255 switches, have fewer
-- variables and fewer clauses than `LIMIT`.
abbrev pub ClausesHaveRoom : System → Type 0
ClausesHaveRoom s =
    whole_size (record { order = s.order; loads = s.symbolic.loads }) s.nodes s.formula
    + most_size + levels.size_of EVENTS 255 < LIMIT
