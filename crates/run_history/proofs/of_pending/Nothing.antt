-- Without buffers nothing is ever buffered.
use Rattle.std.proofs.Common.{◌≡◌, ◌∙◌, false, Some, ap}
use Rattle.std.specs.FinMap as fin
use Rattle.store_buffers.specs.tc_base.Names.{Name}
use Rattle.store_buffers.specs.tc_base.Buffers.{BufferOps}
use Rattle.store_buffers.specs.Buffers.{newest}
use Rattle.store_buffers.specs.list_laws.Lists.{is_nil}
use Rattle.store_buffers.specs.tc_base.States.{Thread, State}
use Rattle.store_buffers.specs.memory_models.declared.model.Model.{Model}
use Rattle.run_laws.specs.tc_code.Code.{Code}
use Rattle.run_laws.specs.tc_code.Run.{IsReached}
use Rattle.store_buffers.specs.Pending.{Binding}
use Rattle.store_buffers.specs.Laws.{Laws}
use Rattle.run_history.specs.History.{history, pending}
use Rattle.run_history.specs.pending.Deeds.{HoldsNothing}
use Rattle.run_history.proofs.of_pending.Apart.{deeds_told}

pub nothing_is_buffered : {B : Type 0} (ops : BufferOps B) (model : Model) (bound : Binding) (code : Code) (s : State B) (n : Name) (t : Thread B)
    → Laws ops model bound → ops.buffered ≡ false → IsReached ops code s → fin.get s.threads n ≡ Some t → HoldsNothing ops t.buffer
nothing_is_buffered ops model bound code s n t laws none r there =
    let ps = pending ops.buffered (history ops code r.moves) n in
    let st = (deeds_told ops model bound laws code r.moves s r.leads).buffers.stands n t there in
    let nothing = st.issued none in
    record {
      empty = laws.empty_law t.buffer ps st ∙ ap (λ es. is_nil es) nothing;
      forwards = λ c. laws.forward_stands t.buffer ps c st ∙ ap (λ es. newest es c) nothing;
      drains = λ form. laws.unbuffered none t.buffer form;
    }
