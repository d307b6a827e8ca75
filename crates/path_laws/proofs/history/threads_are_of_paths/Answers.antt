use Rattle.path_laws.proofs.of_history.Walks.{thread_named, few_steps}
use Rattle.path_laws.proofs.history.threads_are_of_paths.Goals as goal

pub returns-clause-named : goal.returns-clause-named
returns-clause-named g c = λ setting h n. thread_named setting h n

pub returns-clause-few : goal.returns-clause-few
returns-clause-few g c = λ setting h t. few_steps setting h t
