-- The moves of a lawful world are those of its plan, and they reproduce each log with its paths.
use Rattle.std.proofs.Common.{◌≡◌, ◌∙◌, true, List, sym, ap, subst}
use Rattle.store_buffers.specs.tc_base.Buffers.{BufferOps}
use Rattle.tc_code.specs.run_log.Logs.{Log}
use Rattle.store_buffers.specs.memory_models.declared.model.Model.{Model}
use Rattle.tc_code.specs.Code.{Code}
use Rattle.tc_code.specs.Run.{Reproduces}
use Rattle.store_buffers.specs.Pending.{Binding}
use Rattle.world_moves.specs.run_follows.Follow.{moves_for}
use Rattle.tc_code.specs.run_log.Logs.{is_log}
use Rattle.path_walk.specs.Fits.{Fits}
use Rattle.path_walk.specs.Paths.{Paths, paths_of}
use Rattle.sym_terms.specs.declared.node.Node.{Node}
use Rattle.sym_exec.specs.Executed.{executed}
use Rattle.path_execution.specs.declared.execution.Execution.{Execution}
use Rattle.order_formula.specs.Worlds.{World}
use Rattle.lawful_terms.specs.lawful_order.Lawful.{IsLawful, IsWorldOf}
use Rattle.world_moves.specs.world_plan.Going.{IsLawfulWorld}
use Rattle.world_moves.specs.world_plan.Plan.{plan}
use Rattle.world_moves.specs.path_laws.Setting.{Setting, setting_of}
use Rattle.plan_runs.proofs.Laws.{given}
use Rattle.plan_runs.proofs.Runs.{plan_reproduces}
use Rattle.world_moves.specs.Moves.{moves_of}
use Rattle.schedule_decode.specs.Decodable.{IsDecodable}
use Rattle.schedule_decode.proofs.Rest.{plan_made}

module _ {B : Type 0} (ops : BufferOps B) (model : Model) (bound : Binding) (code : Code) where
  -- a lawful world of one log is one of each log with its paths
  of_paths : (s : Setting B) (other : Log) (is : is_log other ≡ true) (nodes : List Node) (w : World) → Fits s.code other
      → paths_of s.code other ≡ paths_of s.code s.log → IsLawfulWorld s nodes w → IsLawfulWorld (record s { log = other; log_is = is }) nodes w
  of_paths s other is nodes w fits same l = record {
    fits = fits;
    lives = ap (λ (p : Paths). p.dead) same ∙ l.lives;
    terms = l.terms;
    world = l.world;
    of = subst (λ p. IsWorldOf p (executed s.code p nodes).symbolic w) (sym same) l.of;
    lawful = subst (λ p. IsLawful s.ops.buffered s.bound s.code p (executed s.code p nodes).symbolic (executed s.code p nodes).nodes w) (sym same) l.lawful;
  }

  module _ (x : Execution) (w : World) (d : IsDecodable ops model bound code x w) where
    abbrev its : Setting B
    its = setting_of ops model bound code d.log d.laws d.code_is d.log_is

    pub moves_are : moves_of ops.buffered bound x w ≡ moves_for bound (plan ops.buffered code x.paths w)
    moves_are =
        subst (λ (y : Execution). moves_of ops.buffered bound y w ≡ moves_for bound (plan ops.buffered code y.paths w)) (sym d.is)
        (plan_made its d.first d.more w d.lawful (given its d.first w d.lawful)).moves

    pub reproduce_all : (log : Log) → is_log log ≡ true → Fits code log → paths_of code log ≡ x.paths
        → Reproduces ops code log (moves_for bound (plan ops.buffered code x.paths w))
    reproduce_all log is fits same =
        let l = of_paths its log is d.first w fits (same ∙ ap (λ (y : Execution). y.paths) d.is) d.lawful in
        subst (λ p. Reproduces ops code log (moves_for bound (plan ops.buffered code p w))) same
        (plan_reproduces (record its { log = log; log_is = is }) d.first w l (given (record its { log = log; log_is = is }) d.first w l))
