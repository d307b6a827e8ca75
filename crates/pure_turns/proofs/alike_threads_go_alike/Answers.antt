use Rattle.pure_turns.proofs.Locals.{at_same, asks_alike, after_alike}
use Rattle.pure_turns.proofs.alike_threads_go_alike.Goals as goal

pub returns-clause-instruction : goal.returns-clause-instruction
returns-clause-instruction c = λ code live t u i closed alike at. at_same code live closed t u i alike at

pub returns-clause-request : goal.returns-clause-request
returns-clause-request c = λ code live t u i closed alike at. asks_alike code live closed t u i alike at

pub returns-clause-after : goal.returns-clause-after
returns-clause-after c = λ code live t u i v closed alike at. after_alike code live closed t u i alike at v
