-- What a call finds for a task.
use Rattle.std.specs.Prelude.{ℕ, List}
use Rattle.log_tasks.specs.Tasks.{Task, model_of}
use Rattle.solve_command.specs.Calls.{Solve}
use Rattle.solve_command.specs.Meanings.{IsFound}
use Rattle.solve_command.specs.declared.solution.Solution.{Solution}

abbrev pub IsSolution : Solve → {program log : List ℕ} → Task program log → Solution → Type 0
IsSolution call t x =
    IsFound call.budget t.pair.code t.pair.run.log (model_of call.asked.model t.pair) x
