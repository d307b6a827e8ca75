-- Programs and their code.
use Rattle.std.specs.Prelude.{◌≡◌, ℕ, List, codes}
use Rattle.tc_code.specs.Code.{Code}
use Rattle.tc_lower.specs.Lowering.{code_of}
use Rattle.tc_parser.specs.Faults.{text_fault_text}
use Rattle.tc_parser.specs.Programs.{IsProgram, IsTextFault}
use Rattle.tc_parser.specs.declared.fault.TextFault.{TextFault}
use Rattle.tc_parser.specs.tc_tree.Grammar.{Program}
use Rattle.tc_compile.specs.declared.fault.CompileFault.{CompileFault}
use Rattle.tc_compile.specs.declared.fault.CompileFault.TheVariants.{Refused, Memory}

-- the language of the programs that are compiled
abbrev pub language : ℕ
language = 4

-- the text is a program, and this is its code
pub record IsCodeOf (bytes : List ℕ) (code : Code) : Type 0 where
  pub program : Program
  pub is : IsProgram language bytes program
  pub lowers : code ≡ code_of bytes program

-- the text isn't a program: it has this fault
abbrev pub IsRefusal : List ℕ → TextFault → Type 0
IsRefusal bytes fault = IsTextFault language bytes fault

-- why the text has no code: it has a fault, or memory ran out
abbrev pub IsWhyNoCode : List ℕ → CompileFault → Type 0
IsWhyNoCode bytes (Refused fault) = IsRefusal bytes fault
IsWhyNoCode bytes Memory = Unit {0}

abbrev pub compile_fault_text : CompileFault → List ℕ
compile_fault_text (Refused fault) = text_fault_text fault
compile_fault_text Memory = codes "no memory"
