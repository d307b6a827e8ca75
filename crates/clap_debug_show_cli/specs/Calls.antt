-- The call that words ask for.
use Rattle.std.specs.Prelude.{Bool, true, false, List, [], ◌∷◌, Option, Some, None, codes, bytes_eq, unwrap_or, if◌then◌else◌, option_map}
use Rattle.std.specs.Option.{option_map_or}
use Rattle.std.specs.Borrow.{Bor}
use Rattle.clap.specs.Words.{App, Row, Rule, Text, fault_of, first_of, matches_of, new_app, new_rule}
use Rattle.clap.specs.Simple.{new_shape}
use Rattle.clap.specs.Walk.{is_empty}
use Rattle.clap.specs.declared.builder.action.ArgAction.TheVariants.{SetTrue}
use Rattle.clap_debug_show_cli.specs.declared.words.Call.{Call}
use Rattle.clap_debug_show_cli.specs.declared.words.Call.TheVariants as call
use Rattle.clap_debug_show_cli.specs.declared.words.Showing.{Showing}

-- shows this file of a program, as a page kept under a name or as text, by moves or by statements
pub record Shows : Type 0 where
  pub program : Text
  pub file : Text
  pub page : Option Text
  pub moves : Bool

-- a call asks to explain or describe a program, or to show a file of it
pub data Asked : Type 0 where
  Help : (program : Text) → Asked
  Show : (call : Shows) → Asked

-- a required positional argument
abbrev pub positional : Text → Rule
positional name = record (new_rule name) { required = true }

-- an option that takes a value
abbrev pub option : Text → Rule
option name = record (new_rule name) { long = Some name }

-- an option without a value
abbrev pub flag : Text → Rule
flag name = record (option name) { action = Some SetTrue }

-- `PROGRAM [FILE] [--html OUT] [--moves]`
abbrev pub command_line : App
command_line = record (new_app (codes "clap_debug_show")) {
  top = record (new_shape (codes "clap_debug_show")) {
    disable_help_flag = true;
    rules = positional (codes "program")
        ∷ new_rule (codes "file")
        ∷ option (codes "html")
        ∷ flag (codes "moves")
        ∷ [];
  };
}

-- whether `clap` accepts the words
abbrev pub words_taken : List Text → Bool
words_taken words = is_empty (fault_of command_line words)

-- the value of a positional argument
abbrev pub text_of : Text → List Row → Text
text_of id rows = unwrap_or (first_of id rows) []

-- whether the value of a flag says that the flag is given
abbrev pub is_true : Option Text → Bool
is_true word = option_map_or (λ t. bytes_eq t (codes "true")) word false

-- whether a flag is given
abbrev pub is_given : Text → List Row → Bool
is_given id rows = is_true (first_of id rows)

-- a call with a file shows it; a call with no file and no option asks for help with the program
abbrev pub asked : (program : Text) → (file page : Option Text) → (moves : Bool) → Option Asked
asked program (Some file) page moves =
    Some (Show (record { program = program; file = file; page = page; moves = moves }))
asked program None None false = Some (Help program)
asked program None _ _ = None

-- the call that matched words ask for
abbrev pub call_in : List Row → Option Asked
call_in rows =
    asked (text_of (codes "program") rows) (first_of (codes "file") rows)
    (first_of (codes "html") rows) (is_given (codes "moves") rows)

-- the call that the words ask for, if they are accepted
abbrev pub call_of : List Text → Option Asked
call_of words = if words_taken words then call_in (matches_of command_line words) else None

-- a text, if there is one
abbrev pub plain_text : Option (Bor Text) → Option Text
plain_text text = option_map (λ s. s.now) text

abbrev pub plain_showing : Showing → Shows
plain_showing s =
    record { program = s.program.now; file = s.file.now; page = plain_text s.page; moves = s.moves }

-- a call as plain data
abbrev pub plain_call : Call → Asked
plain_call (call.Help program) = Help program.now
plain_call (call.Show showing) = Show (plain_showing showing)
