-- What the commands are asked, by what the words say, and the defaults of options.
use Rattle.std.specs.Prelude.{ℕ, List, Option, unwrap_or}
use Rattle.check_command.specs.refutation_verdicts.Refutations.{Names}
use Rattle.import_command.specs.Calls.{Import}
use Rattle.least_command.specs.Calls.{Least}
use Rattle.log_tasks.specs.Asked.{Asked}
use Rattle.log_tasks.specs.declared.budget.TheConstants.{USUAL_BUDGET}
use Rattle.memory_models.specs.declared.model.Model.{Model}
use Rattle.memory_models.specs.declared.model.Model.TheVariants.{Tso}
use Rattle.migrate_command.specs.Meanings.{Migrate}
use Rattle.record_command.specs.Runs.{Record}
use Rattle.solve_command.specs.Calls.{Solve}
use Rattle.tc_limits.specs.declared.limits.TheConstants.{MOVES}
use Rattle.workload_command.specs.Works.{Workload}

abbrev pub recorded : (program log : List ℕ) → Option Model → (seed steps : Option ℕ) → Record
recorded program log model seed steps = record {
  program = program;
  log = log;
  model = unwrap_or model Tso;
  seed = unwrap_or seed 0;
  steps = unwrap_or steps MOVES;
}

abbrev pub migrated : (program log out : List ℕ) → Migrate
migrated program log out = record { program = program; log = log; out = out }

-- without a model, the log's is meant
abbrev pub asked : (program log out : List ℕ) → Option Model → Asked
asked program log out model = record { program = program; log = log; out = out; model = model }

abbrev pub solved : (program log out : List ℕ) → Option Model → (budget : Option ℕ) → Solve
solved program log out model budget = record {
  asked = asked program log out model;
  budget = unwrap_or budget USUAL_BUDGET;
}

-- the same search, for the fewest switches, with this name for the refutation
abbrev pub minimized : Solve → (refutation : List ℕ) → Least
minimized call refutation =
    record { asked = call.asked; refutation = refutation; budget = call.budget }

abbrev pub refuted : (program log refutation : List ℕ) → Names
refuted program log refutation =
    record { program = program; log = log; refutation = refutation }

abbrev pub worked : (workers seed : ℕ) → Workload
worked workers seed = record { workers = workers; seed = seed }

abbrev pub imported : (program log answer out : List ℕ) → Option Model → Import
imported program log answer out model =
    record { asked = asked program log out model; answer = answer }
