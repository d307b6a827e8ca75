use Rattle.sym_exec.specs.path_walk.Paths.{paths_of}
use Rattle.path_laws.specs.run_history.History.{history}
use Rattle.sym_laws.proofs.Agree.{taken_once, loads_agree, as_many}
use Rattle.sym_laws.proofs.Numbered.{all_numbered}
use Rattle.sym_laws.specs.Valued.{found}
use Rattle.sym_laws.proofs.runs_have_loads.Goals as goal

pub returns-clause-many : goal.returns-clause-many
returns-clause-many g c = λ ops code log nodes moves s leads.
    as_many (found code log nodes).symbolic (history ops code moves) (found code log nodes).symbolic.loads (all_numbered code (paths_of code log) nodes)

pub returns-clause-agree : goal.returns-clause-agree
returns-clause-agree g c = λ ops code log nodes moves s leads.
    loads_agree (found code log nodes).symbolic (history ops code moves) (found code log nodes).symbolic.loads
    (all_numbered code (paths_of code log) nodes) (λ n k r v o is. taken_once ops code moves s n k r v o leads is)
