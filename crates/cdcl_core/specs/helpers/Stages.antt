-- How a search and its answer are stored in memory.
use Rattle.std.specs.Prelude.{Bool, List, Option, Some, None}
use Rattle.cdcl_core.specs.Searches.{Searched, IsSolution}
use Rattle.cdcl_core.specs.helpers.States.{IsLive, HasEnded}
use Rattle.cdcl_core.specs.declared.progress.Progress.{Progress}
use Rattle.cdcl_core.specs.declared.progress.Progress.TheVariants as answers
use Rattle.cdcl_core.specs.declared.state.State.{State}
use Rattle.cdcl_core.specs.declared.stages.StagedSearch.{StagedSearch}
use Rattle.cdcl_core.specs.declared.stages.Stage.{Stage}
use Rattle.cdcl_core.specs.declared.stages.Stage.TheVariants.{Going, Satisfied, Closed}

-- the answer at a stage
abbrev pub answer_at : Stage → List Bool → Option Progress
answer_at Going values = None
answer_at Satisfied values = Some (answers.Sat values)
answer_at Closed values = Some answers.Closed

abbrev pub answer_of : StagedSearch → Option Progress
answer_of c = answer_at c.stage c.values.items

abbrev pub searched_of : StagedSearch → Searched
searched_of c =
    record { formula = c.state.formula; lines = c.state.derivation; answer = answer_of c }

-- the invariant at a stage
abbrev pub IsAt : Stage → List Bool → State → Type 0
IsAt Going values s = IsLive s
IsAt Satisfied values s = IsLive s × IsSolution s.formula values
IsAt Closed values s = HasEnded s

abbrev pub IsStaged : StagedSearch → Type 0
IsStaged c = IsAt c.stage c.values.items c.state
