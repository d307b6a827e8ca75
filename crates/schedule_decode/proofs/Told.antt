-- The laws of a schedule, by the constants of a memory model.
use Rattle.std.proofs.Common.{◌≡◌, ◌∙◌, Bool, true, List, sym, ap, subst}
use Rattle.store_buffers.specs.tc_base.Buffers.{BufferOps}
use Rattle.tc_code.specs.run_log.Logs.{Log}
use Rattle.store_buffers.specs.memory_models.declared.model.Model.{Model}
use Rattle.store_buffers.specs.tc_base.declared.moves.Move.{Move}
use Rattle.tc_code.specs.Code.{Code}
use Rattle.tc_code.specs.Run.{Reproduces}
use Rattle.store_buffers.specs.Pending.{Binding}
use Rattle.schedule_file.specs.Schedules.{HaveText}
use Rattle.world_moves.specs.run_follows.Follow.{moves_for}
use Rattle.tc_code.specs.run_log.Logs.{is_log}
use Rattle.path_walk.specs.Fits.{Fits}
use Rattle.path_walk.specs.Paths.{paths_of}
use Rattle.path_execution.specs.declared.execution.Execution.{Execution}
use Rattle.order_formula.specs.Worlds.{World}
use Rattle.world_moves.specs.world_plan.Plan.{plan}
use Rattle.world_moves.specs.Moves.{moves_of}
use Rattle.world_moves.specs.Needs.{AreTellable}
use Rattle.schedule_decode.specs.Decodable.{HaveRoom, IsDecodable}
use Rattle.schedule_decode.proofs.Decoded.{moves_are, reproduce_all}
use Rattle.schedule_decode.proofs.Tellable.{are_tellable}
use Rattle.schedule_decode.proofs.Text.{have_text}

module _ {B : Type 0} (ops : BufferOps B) (model : Model) (bound : Binding) (code : Code) (x : Execution) (w : World)
    (d : IsDecodable ops model bound code x w) (buffered : Bool) (same : buffered ≡ ops.buffered) where
  pub tellable : HaveRoom x.paths → AreTellable buffered x w
  tellable room =
      subst (λ b. AreTellable b x w) (sym same) (are_tellable ops model bound code x w d room)

  module _ (moves : List Move) (told : moves ≡ moves_of buffered bound x w) where
    told_by : moves ≡ moves_of ops.buffered bound x w
    told_by = told ∙ ap (λ b. moves_of b bound x w) same

    by_plan : moves ≡ moves_for bound (plan ops.buffered code x.paths w)
    by_plan = told_by ∙ moves_are ops model bound code x w d

    pub planned : moves ≡ moves_for bound (plan buffered code x.paths w)
    planned = by_plan ∙ ap (λ b. moves_for bound (plan b code x.paths w)) (sym same)

    pub text : HaveRoom x.paths → (named : Model) → named ≡ model → HaveText named moves
    text room named is =
        subst (λ m. HaveText m moves) (sym is) (subst (HaveText model) (sym told_by) (have_text ops model bound code x w d room))

    pub reproduces : (log : Log) → is_log log ≡ true → Fits code log → paths_of code log ≡ x.paths → Reproduces ops code log moves
    reproduces log is fits of = subst (Reproduces ops code log) (sym by_plan) (reproduce_all ops model bound code x w d log is fits of)
