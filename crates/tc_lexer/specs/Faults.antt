-- The message for a text that has no tokens.
use Rattle.std.specs.Prelude.{List, ℕ, ◌++◌, codes}
use Rattle.std.specs.Fmt.{decimal}
use Rattle.tc_lexer.specs.declared.place.Place.{Place}
use Rattle.tc_lexer.specs.declared.fault.LexFault.{LexFault}
use Rattle.tc_lexer.specs.declared.fault.LexFault.TheVariants.{BadByte, Number, OpenComment, Memory}

-- what is wrong, and at which line and column
abbrev pub at_place : List ℕ → Place → List ℕ
at_place kind place =
    kind ++ (codes " at " ++ (decimal place.line ++ (codes ":" ++ decimal place.col)))

abbrev pub lex_fault_text : LexFault → List ℕ
lex_fault_text (BadByte place) = at_place (codes "BadByte") place
lex_fault_text (Number place) = at_place (codes "Number") place
lex_fault_text (OpenComment place) = at_place (codes "OpenComment") place
lex_fault_text Memory = codes "no memory"
