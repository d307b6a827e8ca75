-- Calls that read an input of any length at once.
use Rattle.clap_debug_cli.specs.clap_debug_words.Calls.{Called, Explains}

-- `why` alone reads such an input
abbrev pub ReadsEntire : Called → Type 0
ReadsEntire (Explains _ _ _) = Unit {0}
ReadsEntire _ = ⊥
