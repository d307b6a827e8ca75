-- The names that appear in the words of a call.
use Rattle.std.specs.Prelude.{true, [], ◌∷◌, codes}
use Rattle.clap.specs.Words.{App, new_app, new_rule}
use Rattle.clap.specs.Simple.{new_shape}
use Rattle.clap_debug_show_cli.specs.Calls.{positional}

-- `PROGRAM [FILE]`
abbrev pub names_line : App
names_line = record (new_app (codes "clap_debug_show")) {
  top = record (new_shape (codes "clap_debug_show")) {
    disable_help_flag = true;
    rules = positional (codes "program") ∷ new_rule (codes "file") ∷ [];
  };
}
