-- What `solve` is asked.
use Rattle.std.specs.Prelude.{ℕ}
use Rattle.log_tasks.specs.Asked.{Asked}
use Rattle.solve_command.specs.declared.command.Solve.{Solve as RawSolve}

-- `solve PROGRAM LOG OUT [--model MODEL] [--budget N]`
pub record Solve : Type 0 where
  pub asked : Asked
  pub budget : ℕ

abbrev pub plain_solve : RawSolve → Solve
plain_solve solve = record {
  asked = record {
    program = solve.inputs.0.name.now;
    log = solve.inputs.1.name.now;
    out = solve.out.now;
    model = solve.model;
  };
  budget = solve.budget.conflicts;
}
