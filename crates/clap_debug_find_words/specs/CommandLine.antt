-- The command line, as the data by which clap reads words.
use Rattle.std.specs.Prelude.{ℕ, Bool, true, List, [], ◌∷◌, ◌++◌, Some, codes}
use Rattle.clap.specs.Words.{App, Rule, Text, fault_of, new_app, new_rule}
use Rattle.clap.specs.Simple.{new_shape}
use Rattle.clap.specs.Walk.{is_empty}
use Rattle.clap.specs.declared.builder.action.ArgAction.TheVariants.{SetTrue}
use Rattle.clap.specs.declared.builder.value_parser.ValueParser.{ValueParser}
use Rattle.clap.specs.declared.builder.value_parser.ValueParser.TheVariants as parser
use Rattle.tc_limits.specs.declared.limits.TheConstants.{BUDGET}

-- the greatest numbers of outcomes and of logs
abbrev pub most_outcomes : ℕ
most_outcomes = 65535

abbrev pub most_logs : ℕ
most_logs = 4294967295

-- a required positional argument
abbrev pub positional : Text → Rule
positional name = record (new_rule name) { required = true }

-- an option that takes any one value
abbrev pub option : Text → Rule
option name = record (new_rule name) { long = Some name }

-- an option whose value a parser reads
abbrev pub parsed : Text → ValueParser → Rule
parsed name values = record (option name) { parser = Some values }

-- an option that takes a number in a range
abbrev pub number : Text → (low high : ℕ) → Rule
number name low high = parsed name (parser.Unsigned low high)

-- an option without a value
abbrev pub flag : Text → Rule
flag name = record (option name) { action = Some SetTrue }

-- a command of the program with these arguments
abbrev pub line_of : List Rule → App
line_of rules = record (new_app (codes "clap_debug_find")) {
  top =
      record (new_shape (codes "clap_debug_find")) { disable_help_flag = true; rules = rules };
}

-- `PROGRAM OUT`
abbrev pub name_rules : List Rule
name_rules = positional (codes "program") ∷ positional (codes "out") ∷ []

-- `[--check] [--model MODEL] [--deadlock]`
abbrev pub kind_rules : List Rule
kind_rules =
    flag (codes "check") ∷ option (codes "model") ∷ flag (codes "deadlock") ∷ []

-- `[--outcomes N] [--logs K] [--budget B]`
abbrev pub bound_rules : List Rule
bound_rules = number (codes "outcomes") 0 most_outcomes
    ∷ number (codes "logs") 1 most_logs
    ∷ number (codes "budget") 1 BUDGET
    ∷ []

abbrev pub names_line : App
names_line = line_of name_rules

abbrev pub kinds_line : App
kinds_line = line_of (name_rules ++ kind_rules)

-- the whole command
abbrev pub command_line : App
command_line = line_of (name_rules ++ (kind_rules ++ bound_rules))

-- whether `clap` accepts the words
abbrev pub words_taken : List Text → Bool
words_taken words = is_empty (fault_of command_line words)
