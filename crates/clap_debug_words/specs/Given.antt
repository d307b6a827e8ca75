-- The files, numbers and options that accepted words have.
use Rattle.std.specs.Prelude.{◌≡◌, Bool, true, List, ◌++◌, is_some, find, bytes_eq, IsSomeAnd}
use Rattle.std.specs.List.{list_all}
use Rattle.std.specs.Option.{option_map_or}
use Rattle.clap.specs.Words.{Row, Text, first_of}
use Rattle.clap_debug_words.specs.CommandLine.{Form, forms}
use Rattle.clap_debug_words.specs.Values.{is_value}

-- the command is one of the ten, and has this of its form and its matches
abbrev pub IsOfForm : (Form → List Row → Bool) → Text × List Row → Type 0
IsOfForm has p = IsSomeAnd (find (λ f. bytes_eq p.0 f.name) forms) (λ f. has f p.1 ≡ true)

-- each positional has a text
abbrev pub has_texts : Form → List Row → Bool
has_texts f rows = list_all (λ id. is_some (first_of id rows)) f.positionals

-- each text of a positional or an option is one of its values
abbrev pub has_values : Form → List Row → Bool
has_values f rows =
    list_all (λ id. option_map_or (is_value id) (first_of id rows) true) (f.positionals ++ f.options)

abbrev pub HasFiles : Text × List Row → Type 0
HasFiles = IsOfForm has_texts

abbrev pub HasValues : Text × List Row → Type 0
HasValues = IsOfForm has_values
