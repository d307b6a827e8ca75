-- What is known while a certificate is read.
use Rattle.std.specs.Prelude.{ℕ, List, [], ◌∷◌, Result, Ok, Err}
use Rattle.tc_compile.specs.Programs.{IsCodeOf}
use Rattle.command_frame.specs.Inputs.{Texts}
use Rattle.command_inputs.specs.declared.refusal.Refusal.{Refusal}
use Rattle.certificate_input.specs.declared.incoming.Incoming.{Incoming}
use Rattle.certificate_input.specs.helpers.Incoming.{IsRead}
use Rattle.certificate_check.specs.Meanings.{IsUnread}

-- what is known of the program and these bytes of a certificate
abbrev pub Knows : Texts → List ℕ → Result Incoming Refusal → Type 0
Knows (program ∷ []) bytes (Ok incoming) = IsCodeOf program incoming.code × IsRead incoming bytes
Knows (program ∷ []) bytes (Err why) = IsUnread program why
Knows _ bytes state = ⊥
