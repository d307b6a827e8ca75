-- From facts on a run and its log to facts on the answer.
use Rattle.std.proofs.Common.{Result, Ok, Err, List, inl, inr, subst, sym}
use Rattle.run_log.specs.memory_models.declared.model.Model.{Model}
use Rattle.tc_base.specs.declared.moves.Move.{Move}
use Rattle.run_log.specs.Logs.{StoredLog}
use Rattle.tc_code.specs.Code.{Code}
use Rattle.tc_record.specs.declared.seeded.Seeded.{Seeded}
use Rattle.tc_record.specs.declared.seeded.Seeded.TheVariants.{Failed, Finished, Deadlock, StepLimit}
use Rattle.tc_record.specs.declared.seeded.SeededFault.{SeededFault}
use Rattle.tc_record.specs.Logged.{IsLogOf}
use Rattle.tc_record.specs.Seeded.{Ended, HasLog, IsAnswer, IfLogged}

-- a fact on the log of a run that has one is a fact on the answer
pub on_log : {B : Type 0} (model : Model) (code : Code) (run : Ended B) (P : StoredLog → List Move → Type 0)
    → ((x : StoredLog) → HasLog run → IsLogOf model run.state x → P x run.moves) → (r : Result Seeded SeededFault) → IsAnswer model code run r → IfLogged r P
on_log model code run P each (Ok (Failed x moves line)) h = subst (P x) (sym h.1) (each x (inl h.0) h.2)
on_log model code run P each (Ok (Finished moves)) h = tt
on_log model code run P each (Ok (Deadlock x moves)) h = subst (P x) (sym h.1) (each x (inr h.0) h.2)
on_log model code run P each (Ok (StepLimit moves)) h = tt
on_log model code run P each (Err fault) h = tt
