-- What `solve --least` is asked.
use Rattle.std.specs.Prelude.{ℕ, List, [], ◌∷◌, Option, Some, None}
use Rattle.command_frame.specs.Keeps.{Keep}
use Rattle.log_tasks.specs.Asked.{Asked}
use Rattle.least_command.specs.declared.command.Least.{Least as RawLeast}

-- `solve PROGRAM LOG OUT --least REFUTATION [--model MODEL] [--budget N]`
pub record Least : Type 0 where
  pub asked : Asked
  pub refutation : List ℕ
  pub budget : ℕ

abbrev pub plain_least : RawLeast → Least
plain_least least = record {
  asked = record {
    program = least.inputs.0.name.now;
    log = least.inputs.1.name.now;
    out = least.out.now;
    model = least.model;
  };
  refutation = least.refutation.now;
  budget = least.budget.conflicts;
}

-- what it keeps: the first text as OUT, and the second, if there is one, as REFUTATION
abbrev pub keeps_of : Least → (first : List ℕ) → (second : Option (List ℕ)) → List Keep
keeps_of call first None = record { name = call.asked.out; bytes = first } ∷ []
keeps_of call first (Some second) =
    record { name = call.asked.out; bytes = first }
    ∷ record { name = call.refutation; bytes = second } ∷ []
