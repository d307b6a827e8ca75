-- What is known while a refutation is read.
use Rattle.std.specs.Prelude.{ℕ, List, [], ◌∷◌, Result, Ok, Err}
use Rattle.command_frame.specs.Inputs.{Texts}
use Rattle.command_inputs.specs.Forms.{IsUnread}
use Rattle.command_inputs.specs.declared.refusal.Refusal.{Refusal}
use Rattle.refutation_input.specs.declared.incoming.Incoming.{Incoming}
use Rattle.refutation_input.specs.helpers.Incoming.{IsRead}

-- what is known of the program, the log, and these bytes of a refutation
abbrev pub Knows : Texts → List ℕ → Result Incoming Refusal → Type 0
Knows (program ∷ log ∷ []) bytes (Ok incoming) = IsRead program log incoming bytes
Knows (program ∷ log ∷ []) bytes (Err why) = IsUnread program log why
Knows _ bytes state = ⊥
