-- What the two commands mean.
use Rattle.std.specs.Prelude.{ℕ, List, [], ◌∷◌, string_bytes}
use Rattle.command_frame.specs.Inputs.{Wanted, Whole}
use Rattle.command_frame.specs.Keeps.{Keep}
use Rattle.command_frame.specs.Meaning.{Meaning}
use Rattle.clap_debug_show_cli.specs.Answers.{IsHelpText, IsShowText, help_status, show_status}
use Rattle.clap_debug_show_cli.specs.Calls.{Shows}
use Rattle.clap_debug_show_cli.specs.Causes.{HelpsWith, ShowsOf}
use Rattle.clap_debug_show_cli.specs.Limits.{file_limit, program_limit}
use Rattle.clap_debug_show_cli.specs.declared.show.Showed.{Showed}
use Rattle.clap_debug_show_cli.specs.declared.show.Showed.TheVariants.{Page}
use Rattle.clap_debug_show_cli.specs.declared.help.Helped.{Helped}

-- help with a program, given these inputs
abbrev pub help_over : List Wanted → Meaning Helped
help_over inputs = record {
  inputs = inputs;
  ComesOf = HelpsWith;
  keeps_of = λ _. [];
  IsTextOf = IsHelpText;
  status_of = help_status;
}

-- help with the program of this name
abbrev pub help_of : (name : List ℕ) → Meaning Helped
help_of name = help_over (Whole program_limit name ∷ [])

-- the page, if there is one, is kept
abbrev pub pages_of : Showed → List Keep
pages_of (Page _ name page) = record { name = name.now; bytes = string_bytes page } ∷ []
pages_of _ = []

-- a call that shows a file, given these inputs
abbrev pub show_over : Shows → List Wanted → Meaning Showed
show_over call inputs = record {
  inputs = inputs;
  ComesOf = ShowsOf call;
  keeps_of = pages_of;
  IsTextOf = IsShowText;
  status_of = show_status;
}

-- the two files of a call
abbrev pub file_inputs : Shows → List Wanted
file_inputs call = Whole program_limit call.program ∷ Whole file_limit call.file ∷ []

-- a call that shows a file
abbrev pub show_of : Shows → Meaning Showed
show_of call = show_over call (file_inputs call)
