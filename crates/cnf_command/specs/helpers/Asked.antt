-- What is exported for a task.
use Rattle.std.specs.Prelude.{ℕ, List, Option}
use Rattle.memory_models.specs.declared.model.Model.{Model}
use Rattle.log_tasks.specs.Tasks.{Task, model_of}
use Rattle.cnf_command.specs.Meanings.{AreClauses}
use Rattle.cnf_command.specs.declared.export.Exported.{Exported}

-- the clauses of a task under the memory model that is meant
abbrev pub IsExported : (asked : Option Model) → {program log : List ℕ} → Task program log
    → Exported → Type 0
IsExported asked t x = AreClauses t.pair.code t.pair.run.log (model_of asked t.pair) x
