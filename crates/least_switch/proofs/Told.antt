-- The result of a search is an answer about the log.
use Rattle.std.proofs.Common.{◌≡◌, ◌∙◌, ℕ, zero, suc, ◌-◌, ◌<◌, ◌≤◌, Bool, true, false, List, Some, None, ap, subst, sym, arith}
use Rattle.std.specs.List.{All}
use Rattle.run_log.specs.tc_base.Buffers.{BufferOps}
use Rattle.run_log.specs.Logs.{Log}
use Rattle.run_log.specs.memory_models.declared.model.Model.{Model}
use Rattle.run_log.specs.tc_base.declared.moves.Move.{Move}
use Rattle.tc_code.specs.Code.{Code}
use Rattle.tc_code.specs.Run.{Reproduces}
use Rattle.store_buffers.specs.Laws.{Laws}
use Rattle.store_buffers.specs.Pending.{Binding}
use Rattle.schedule_decode.specs.run_follows.Follow.{moves_for}
use Rattle.run_log.specs.Logs.{is_log}
use Rattle.path_walk.specs.Fits.{Fits}
use Rattle.path_walk.specs.Paths.{paths_of}
use Rattle.schedule_file.specs.declared.schedule.Schedule.{Schedule}
use Rattle.path_execution.specs.declared.execution.Execution.{Execution}
use Rattle.order_formula.specs.Worlds.{World}
use Rattle.schedule_decode.specs.path_laws.Setting.{setting_of}
use Rattle.schedule_decode.specs.world_plan.Plan.{plan}
use Rattle.refute_check.specs.Refutations.{IsClosed}
use Rattle.refute_check.specs.declared.line.Line.{Line}
use Rattle.cdcl_core.specs.Searches.{IsSolution}
use Rattle.cdcl_core.specs.Solving.{Solves}
use Rattle.cdcl_core.specs.declared.answer.Answer.TheVariants as answer
use Rattle.schedule_decode.specs.Decodable.{IsDecodable}
use Rattle.clap_solve.specs.Clauses.{clauses_of}
use Rattle.clap_solve.specs.Posed.{IsGiven, Posed}
use Rattle.clap_solve.proofs.Meaning.{closed_is_impossible}
use Rattle.switch_clauses.specs.switch_runs.Switches.{switches}
use Rattle.switch_clauses.specs.switch_runs.Worlds.{world_switches}
use Rattle.switch_clauses.proofs.switch_runs.Laws as of_runs
use Rattle.switch_clauses.specs.Clauses.{switch_clauses}
use Rattle.switch_clauses.proofs.Meaning.{closed_is_more}
use Rattle.least_switch.specs.Least.{HasSwitches, IsLeast}
use Rattle.least_switch.specs.declared.answer.Least.TheVariants.{Found, Impossible, Spent, SpentAt}
use Rattle.least_switch.specs.declared.bounded.Bounded.{Bounded}
use Rattle.least_switch.specs.helpers.Bounded.{IsBounded}
use Rattle.least_switch.specs.helpers.Found.{IsFirst, IsOfWorld, IsPosedFor, IsSaid}

module _ {B : Type 0} (ops : BufferOps B) (model : Model) (bound : Binding) (code : Code) (y : Execution) (w : World)
    (d : IsDecodable ops model bound code y w) (small : All (λ p. p < 256) w.positions) where
  -- the moves of a world's plan have as many switches as the world
  world_count : (moves : List Move) → moves ≡ moves_for bound (plan ops.buffered code y.paths w) → switches ops code moves ≡ world_switches y.paths w
  world_count moves is =
      ap (switches ops code) is
      ∙ subst (λ (z : Execution). switches ops code (moves_for bound (plan ops.buffered code z.paths w)) ≡ world_switches z.paths w) (sym d.is)
      (of_runs.worlds (setting_of ops model bound code d.log d.laws d.code_is d.log_is) d.first w d.lawful small)

  pub of_world : (buffered : Bool) → buffered ≡ ops.buffered → (s : Schedule) (count : ℕ) (x : World) → s.model ≡ model
      → s.moves.items ≡ moves_for bound (plan buffered code y.paths w)
      → ((log : Log) → is_log log ≡ true → Fits code log → paths_of code log ≡ y.paths → Reproduces ops code log s.moves.items)
      → count ≡ world_switches y.paths w → count ≤ 255 → IsOfWorld ops model code y.paths w (record { schedule = s; switches = count; world = x })
  of_world buffered same s count x of_model planned again counted few = record {
    has = λ log is fits of. record {
      model_is = of_model;
      reproduces = again log is fits of;
      count_is = world_count s.moves.items (planned ∙ ap (λ (b : Bool). moves_for bound (plan b code y.paths w)) same) ∙ sym counted;
      few = few;
    };
    count = counted;
  }

module _ {B : Type 0} (ops : BufferOps B) (model : Model) (bound : Binding) (code : Code) (log : Log) (laws : Laws ops model bound)
    (given : IsGiven code log) (budget : ℕ) where
  -- the search found no schedule
  pub none_found : (lines : List Line) → Solves (clauses_of ops.buffered bound code log) budget (answer.Impossible lines)
      → IsLeast ops model bound code log budget (Impossible lines)
  none_found lines closed = record {
    within = given.within;
    is = (closed.0, closed_is_impossible ops model bound code log laws given.lawful given.is_log given.within lines closed.0);
  }

  pub all_spent : (lines : List Line) → Solves (clauses_of ops.buffered bound code log) budget (answer.Spent lines)
      → IsLeast ops model bound code log budget (Spent lines)
  all_spent lines spent = record { within = given.within; is = spent }

  -- a schedule without switches has the fewest
  pub none_fewer : (s : Schedule) (count : ℕ) → HasSwitches ops model code log s count → count ≡ 0
      → IsLeast ops model bound code log budget (Found s count None)
  none_fewer s zero has none = record { within = given.within; is = (has, λ moves again. omega arith, tt) }
  none_fewer s (suc k) has none = absurd (omega (arith, none))

  -- no schedule has fewer switches than the one found
  pub fewest_found : (s : Schedule) (count fewer : ℕ) (lines : List Line) → 0 < count → fewer ≡ count - 1 → HasSwitches ops model code log s count
      → Solves (switch_clauses ops.buffered bound code log fewer) budget (answer.Impossible lines)
      → IsLeast ops model bound code log budget (Found s count (Some lines))
  fewest_found s zero fewer lines some is has closed = absurd (omega (arith, some))
  fewest_found s (suc k) fewer lines some is has closed =
      let same : fewer ≡ k = omega (arith, is) in
      let c : IsClosed (switch_clauses ops.buffered bound code log k) lines =
      subst (λ n. IsClosed (switch_clauses ops.buffered bound code log n) lines) same closed.0 in
      record {
        within = given.within;
        is = (
          has,
          λ moves again.
              let more = closed_is_more ops model bound code log k laws given.lawful given.is_log given.within lines moves c again in omega (arith, more),
          c,
        );
      }

  pub fewer_spent : (s : Schedule) (count fewer : ℕ) (lines : List Line) → 0 < count → fewer ≡ count - 1 → HasSwitches ops model code log s count
      → Solves (switch_clauses ops.buffered bound code log fewer) budget (answer.Spent lines)
      → IsLeast ops model bound code log budget (SpentAt s count lines)
  fewer_spent s zero fewer lines some is has spent = absurd (omega (arith, some))
  fewer_spent s (suc k) fewer lines some is has spent =
      let same : fewer ≡ k = omega (arith, is) in
      record {
        within = given.within;
        is = (has, subst (λ n. Solves (switch_clauses ops.buffered bound code log n) budget (answer.Spent lines)) same spent);
      }

module _ (buffered : Bool) (bound : Binding) (code : Code) (log : Log) (values : List Bool) where
  -- values that a search found satisfy the clauses
  pub is_first : (p : Posed) → IsPosedFor buffered bound code log p → IsSolution p.blasted.clauses values → IsFirst buffered bound code log p values
  is_first p posed solution = record {
    given = posed.given;
    posed = posed.is;
    variables = posed.variables;
    satisfies = solution.satisfies;
    all = omega (arith, solution.all);
  }

  pub is_said : (most : ℕ) (b : Bounded) → IsGiven code log → IsBounded buffered bound code log most b → IsSolution b.clauses values
      → IsSaid buffered bound code log most b values
  is_said most b given bounded solution =
      record { given = given; bounded = bounded; satisfies = solution.satisfies; all = omega (arith, solution.all) }
