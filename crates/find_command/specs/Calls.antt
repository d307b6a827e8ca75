-- What a search is asked.
use Rattle.std.specs.Prelude.{ℕ, List, [], ◌∷◌}
use Rattle.memory_models.specs.declared.model.Model.{Model}
use Rattle.command_frame.specs.Inputs.{Wanted, Whole}
use Rattle.command_inputs.specs.Limits.{program_limit}
use Rattle.find_failures.specs.declared.asked.Asked.{Asked}
use Rattle.find_command.specs.declared.search.Search.{Search as RawSearch}

-- `PROGRAM OUT [--model MODEL] [--deadlock] [--outcomes N] [--logs K] [--budget B]`: the names of
-- its files, its memory model, and what it looks for and how far it goes
pub record Search : Type 0 where
  pub program : List ℕ
  pub out : List ℕ
  pub model : Model
  pub asked : Asked

-- the command as the value that clauses see
abbrev pub plain_search : RawSearch → Search
plain_search call = record {
  program = call.program.name.now;
  out = call.out.now;
  model = call.model;
  asked = call.asked;
}

-- the file that it reads
abbrev pub inputs_of : Search → List Wanted
inputs_of call = Whole program_limit call.program ∷ []
