use Rattle.std.proofs.Common.{◌≡◌, ◌∙◌, subst, IfOk}
use Rattle.tc_workload.specs.Workload.{workload_text}
use Rattle.workload_command.proofs.work.program_text.Goals as goal

pub returns-clause-text : goal.returns-clause-text
returns-clause-text c =
    subst (λ words. IfOk c.workload_text.result (λ text. text.items ≡ workload_text words)) (c.deref.ensures.value ∙ c.in_ok-words.ensures.words)
    c.workload_text.ensures.text
