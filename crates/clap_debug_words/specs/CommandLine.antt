-- The command line, as the data by which clap reads words.
use Rattle.std.specs.Prelude.{Bool, true, false, List, [], ◌∷◌, ◌++◌, Some, codes, map}
use Rattle.clap.specs.Words.{App, Rule, Shape, Text, new_app, new_rule}
use Rattle.clap.specs.Simple.{new_shape}

-- a command: its name, those of its positionals, which it requires, and those of its options
pub record Form : Type 0 where
  pub name : Text
  pub positionals : List Text
  pub options : List Text

-- a command of a program and its log, with more positionals
abbrev pub of_log : Text → List Text → List Text → Form
of_log name more options = record {
  name = name;
  positionals = codes "program" ∷ codes "log" ∷ more;
  options = options;
}

abbrev pub forms : List Form
forms = record { name = codes "list"; positionals = codes "program" ∷ []; options = [] }
    ∷ of_log (codes "replay") (codes "schedule" ∷ []) []
    ∷ of_log (codes "record") [] (codes "model" ∷ codes "seed" ∷ codes "steps" ∷ [])
    ∷ of_log (codes "migrate") (codes "out" ∷ []) []
    ∷ of_log (codes "solve") (codes "out" ∷ []) (codes "model" ∷ codes "budget" ∷ codes "least" ∷ [])
    ∷ of_log (codes "check") (codes "refutation" ∷ []) []
    ∷ record {
      name = codes "workload";
      positionals = codes "workers" ∷ codes "seed" ∷ [];
      options = [];
    }
    ∷ of_log (codes "cnf") (codes "out" ∷ []) (codes "model" ∷ [])
    ∷ of_log (codes "import") (codes "answer" ∷ codes "out" ∷ []) (codes "model" ∷ [])
    ∷ of_log (codes "why") (codes "refutation" ∷ []) []
    ∷ []

-- a required positional
abbrev pub positional : Text → Rule
positional name = record (new_rule name) { required = true }

-- an option that takes any one value
abbrev pub option : Text → Rule
option name = record (new_rule name) { long = Some name }

abbrev pub shape_of : Form → Shape
shape_of f = record (new_shape f.name) {
  rules = map positional f.positionals ++ map option f.options;
}

-- a command that requires a subcommand and has no help
abbrev pub commands : App → App
commands a = record a {
  top = record a.top {
    disable_help_flag = true;
    disable_help_subcommand = true;
    subcommand_required = true;
  };
}

-- the whole command
abbrev pub command_line : App
command_line = record {
  top = record (commands (new_app (codes "clap_debug"))).top { is_leaf = false };
  subs = map shape_of forms;
}
