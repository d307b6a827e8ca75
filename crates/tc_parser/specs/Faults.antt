-- The limits of a program, and the messages for texts that aren't programs.
use Rattle.std.specs.Prelude.{ℕ, List, ◌++◌, codes}
use Rattle.std.specs.Fmt.{decimal}
use Rattle.tc_limits.specs.declared.limits.TheConstants.{BRACKETS, STRETCH, CELLS, MUTEXES, CONDITIONS}
use Rattle.tc_lexer.specs.Faults.{at_place, lex_fault_text}
use Rattle.tc_parser.specs.declared.fault.ParseFault.{ParseFault}
use Rattle.tc_parser.specs.declared.fault.ParseFault.TheVariants.{Count, Syntax, Unknown, Twice, Kind, Arguments, Memory}
use Rattle.tc_parser.specs.declared.fault.TextFault.{TextFault}
use Rattle.tc_parser.specs.declared.fault.TextFault.TheVariants.{Lex, Parse}
use Rattle.tc_parser.specs.declared.fault.What.{What}
use Rattle.tc_parser.specs.declared.fault.What.TheVariants.{Brackets, Stretch, Cells, Mutexes, Conditions}

-- how many of this a program may have
abbrev pub limit_of : What → ℕ
limit_of Brackets = BRACKETS
limit_of Stretch = STRETCH
limit_of Cells = CELLS
limit_of Mutexes = MUTEXES
limit_of Conditions = CONDITIONS

-- its name in the lines that the command prints
abbrev pub name_of : What → List ℕ
name_of Brackets = codes "Brackets"
name_of Stretch = codes "Stretch"
name_of Cells = codes "Cells"
name_of Mutexes = codes "Mutexes"
name_of Conditions = codes "Conditions"

abbrev pub parse_fault_text : ParseFault → List ℕ
parse_fault_text (Count what n) =
    name_of what ++ (codes " " ++ (decimal n ++ (codes " of " ++ decimal (limit_of what))))
parse_fault_text (Syntax place) = at_place (codes "Syntax") place
parse_fault_text (Unknown place) = at_place (codes "Unknown") place
parse_fault_text (Twice place) = at_place (codes "Twice") place
parse_fault_text (Kind place) = at_place (codes "Kind") place
parse_fault_text (Arguments place) = at_place (codes "Arguments") place
parse_fault_text Memory = codes "no memory"

abbrev pub text_fault_text : TextFault → List ℕ
text_fault_text (Lex fault) = lex_fault_text fault
text_fault_text (Parse fault) = parse_fault_text fault
