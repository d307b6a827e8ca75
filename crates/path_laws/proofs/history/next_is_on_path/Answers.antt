use Rattle.path_laws.proofs.of_history.Next.{next_on_path, as_wanted}
use Rattle.path_laws.proofs.history.next_is_on_path.Goals as goal

pub returns-clause-next : goal.returns-clause-next
returns-clause-next g c = λ setting h t going. next_on_path setting h t going

pub returns-clause-wanted : goal.returns-clause-wanted
returns-clause-wanted g c = λ setting h t x going. as_wanted setting h t going x
