-- Helpers: the fault of a text as the reason why it has no code.
use Rattle.tc_lexer.specs.declared.fault.LexFault.TheVariants as lex
use Rattle.tc_parser.specs.declared.fault.ParseFault.TheVariants as parse
use Rattle.tc_parser.specs.declared.fault.TextFault.{TextFault}
use Rattle.tc_parser.specs.declared.fault.TextFault.TheVariants.{Lex, Parse}
use Rattle.tc_compile.specs.declared.fault.CompileFault.{CompileFault}
use Rattle.tc_compile.specs.declared.fault.CompileFault.TheVariants.{Refused, Memory}

abbrev pub why_of : TextFault → CompileFault
why_of (Lex lex.Memory) = Memory
why_of (Parse parse.Memory) = Memory
why_of fault = Refused fault
