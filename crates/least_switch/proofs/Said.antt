-- Values that satisfy the clauses of a log give a world that has a schedule.
use Rattle.std.proofs.Common.{◌≡◌, ◌∙◌, ℕ, ◌<◌, ◌≤◌, Bool, false, List, [], sym, ap, subst, arith}
use Rattle.std.specs.Prelude.{IsTrue, if◌then◌else◌}
use Rattle.std.specs.List.{All}
use Rattle.run_log.specs.tc_base.Buffers.{BufferOps}
use Rattle.run_log.specs.Logs.{Log}
use Rattle.run_log.specs.memory_models.declared.model.Model.{Model}
use Rattle.tc_code.specs.Code.{Code}
use Rattle.tc_code.specs.Lawful.{IsLawful}
use Rattle.store_buffers.specs.Laws.{Laws}
use Rattle.store_buffers.specs.Pending.{Binding}
use Rattle.path_execution.specs.declared.execution.Execution.{Execution}
use Rattle.order_formula.specs.Worlds.{World}
use Rattle.cnf_core.specs.Clauses.{Formula, Valuation, satisfies, value_in}
use Rattle.bit_order.specs.Layouts.{Layout}
use Rattle.bit_order.specs.Readings.{world_of}
use Rattle.bit_order.proofs.Meaning.{values-say-worlds}
use Rattle.bit_blast.specs.Blasted.{impossible}
use Rattle.bit_blast.specs.Contended.{contended}
use Rattle.bit_blast.proofs.Completed.{completed_events}
use Rattle.schedule_decode.specs.path_laws.Setting.{setting_of}
use Rattle.schedule_decode.specs.world_plan.Going.{IsLawfulWorld}
use Rattle.schedule_decode.specs.Decodable.{IsDecodable}
use Rattle.clap_system.specs.Systems.{system_of}
use Rattle.clap_solve.proofs.orders_are_runs.Systems.{grows, possible_is_lawful}
use Rattle.clap_solve.specs.Clauses.{blasted_by}
use Rattle.clap_solve.specs.Posed.{IsGiven, Posed, posed_of}
use Rattle.clap_solve.specs.Solved.{IsWithin}
use Rattle.clap_solve.proofs.Found.{with_more}
use Rattle.clap_solve.proofs.Meaning as solve
use Rattle.switch_clauses.specs.switch_runs.Worlds.{world_switches}
use Rattle.switch_clauses.proofs.Meaning.{IsSaid, ready, says}
use Rattle.least_switch.specs.declared.bounded.Bounded.{Bounded}
use Rattle.least_switch.specs.helpers.Bounded.{IsBounded}

-- positions are ranks among at most 256 events
pub small_in : (y : Layout) (v : Valuation) (w : World) → w ≡ world_of y v → y.order.events ≤ 256 → All (λ p. p < 256) w.positions
small_in y v w is few = subst (λ (x : World). All (λ p. p < 256) x.positions) (sym is) (values-say-worlds y v few).small

-- the layout of a log has few events
pub posed_few : (buffered : Bool) (bound : Binding) (code : Code) (log : Log) → IsLawful code → IsWithin code log → (p : Posed)
    → p ≡ posed_of buffered bound code log → p.paths.dead ≡ false → p.blasted.layout.order.events ≤ 256
posed_few buffered bound code log lawful within p by alive =
    let s = system_of buffered bound code log in
    let own : (blasted_by code s).layout.order.events ≤ 256 =
    let layout = ap (λ (y : Layout). y.order.events) (solve.keeps buffered bound code log lawful within).layout in
    let same = completed_events s.order (contended s.formula) in
    let few = (solve.posed buffered bound code log lawful within).events in
    omega (arith, layout, same, few) in
    subst (λ (q : Posed). q.blasted.layout.order.events ≤ 256) (sym by)
    (subst (λ (dead : Bool). (if dead then impossible else blasted_by code s).layout.order.events ≤ 256) (sym (sym (ap (λ (q : Posed). q.paths.dead) by) ∙ alive)) own)

module _ (buffered : Bool) (bound : Binding) (code : Code) (log : Log) (lawful : IsLawful code) (most : ℕ) (b : Bounded)
    (h : IsBounded buffered bound code log most b) (v : Valuation) (satisfied : IsTrue (satisfies v b.clauses.clauses)) where
  pub says_so : IsSaid buffered bound code log lawful h.within most v
  says_so = says buffered bound code log lawful h.within most v (subst (λ (f : Formula). IsTrue (satisfies v f.clauses)) h.clauses satisfied)

  pub bounded_lives : b.execution.paths.dead ≡ false
  bounded_lives = ap (λ (x : Execution). x.paths.dead) h.execution ∙ says_so.possible.lives

  pub bounded_few : b.layout.order.events ≤ 256
  bounded_few = subst (λ (y : Layout). y.order.events ≤ 256) (sym (h.layout bounded_lives)) (ready buffered bound code log lawful h.within).events

  pub world_is : (w : World) → w ≡ world_of b.layout v → w ≡ says_so.possible.world
  world_is w is = is ∙ ap (λ (y : Layout). world_of y v) (h.layout bounded_lives) ∙ sym says_so.world

  pub bounded_switches : (w : World) → w ≡ world_of b.layout v → world_switches b.execution.paths w ≤ most
  bounded_switches w is =
      subst (λ (x : World). world_switches b.execution.paths x ≤ most) (sym (world_is w is))
      (subst (λ (x : Execution). world_switches x.paths says_so.possible.world ≤ most) (sym h.execution) says_so.few)

pub bounded_decodable : {B : Type 0} (ops : BufferOps B) (model : Model) (bound : Binding) (code : Code) (log : Log) → Laws ops model bound
    → (given : IsGiven code log) (most : ℕ) (b : Bounded) → IsBounded ops.buffered bound code log most b → (values : List Bool)
    → IsTrue (satisfies (value_in values) b.clauses.clauses) → (w : World) → w ≡ world_of b.layout (value_in values)
    → IsDecodable ops model bound code b.execution w
bounded_decodable ops model bound code log laws given most b h values satisfied w is =
    let v = value_in values in
    let said = says_so ops.buffered bound code log given.lawful most b h v satisfied in
    let setting = setting_of ops model bound code log laws given.lawful given.is_log in
    record {
      laws = laws;
      code_is = given.lawful;
      log = log;
      log_is = given.is_log;
      first = [];
      more = (grows setting given.within.fits).0;
      is = h.execution ∙ with_more setting given.within.fits;
      lawful = subst (IsLawfulWorld setting []) (sym (world_is ops.buffered bound code log given.lawful most b h v satisfied w is))
          (possible_is_lawful setting given.within.fits said.possible);
    }
