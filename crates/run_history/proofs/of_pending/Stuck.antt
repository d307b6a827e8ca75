-- In a stuck state nothing is buffered.
use Rattle.std.proofs.Common.{◌≡◌, ◌∙◌, true, Some, sym, ap}
use Rattle.std.specs.FinMap as fin
use Rattle.std.proofs.lemmas.Bool.{false_from_ne_true}
use Rattle.std.proofs.lemmas.Option.{none-some}
use Rattle.store_buffers.specs.tc_base.Names.{Name}
use Rattle.store_buffers.specs.tc_base.Buffers.{BufferOps}
use Rattle.store_buffers.specs.list_laws.Lists.{is_nil}
use Rattle.store_buffers.specs.tc_base.States.{Thread, State}
use Rattle.store_buffers.specs.memory_models.declared.model.Model.{Model}
use Rattle.store_buffers.specs.tc_base.declared.moves.Move.TheVariants as move
use Rattle.run_laws.specs.tc_code.Code.{Code}
use Rattle.run_laws.specs.tc_code.Run.{IsReached, IsStuck}
use Rattle.store_buffers.specs.Pending.{Binding}
use Rattle.store_buffers.specs.Laws.{Laws}
use Rattle.store_buffers.proofs.Oldest.{nothing_drains}
use Rattle.run_laws.proofs.Makes.{makes_drain}
use Rattle.run_history.specs.History.{history, pending}
use Rattle.run_history.proofs.of_pending.Apart.{deeds_told}

pub stuck_is_drained : {B : Type 0} (ops : BufferOps B) (model : Model) (bound : Binding) (code : Code) (s : State B) (n : Name) (t : Thread B)
    → Laws ops model bound → IsReached ops code s → IsStuck ops code s → fin.get s.threads n ≡ Some t → ops.is_empty t.buffer ≡ true
stuck_is_drained ops model bound code s n t laws r stuck there =
    let ps = pending ops.buffered (history ops code r.moves) n in
    let stands = (deeds_told ops model bound laws code r.moves s r.leads).buffers.stands n t there in
    let none = nothing_drains ops model bound t.buffer ps laws stands
    (λ form. false_from_ne_true _ (λ may. none-some _ (sym (stuck.still (move.Drain n form)) ∙ makes_drain ops code s n t stuck.unfailed there form may))) in
    laws.empty_law t.buffer ps stands ∙ ap (λ es. is_nil es) none
