-- The code of a program is lawful.
use Rattle.std.proofs.Common.{ℕ, List, sym, subst}
use Rattle.tc_code.specs.Code.{Code}
use Rattle.tc_code.specs.Lawful.{IsLawful}
use Rattle.tc_lower.proofs.Ints.{program_ints}
use Rattle.tc_lower.proofs.Programs.{program_is_lawful}
use Rattle.tc_parser.proofs.Words.{has_ints}
use Rattle.tc_compile.specs.Programs.{IsCodeOf, language}

pub code_is_lawful : (program : List ℕ) (code : Code) → IsCodeOf program code → IsLawful code
code_is_lawful program code f =
    subst IsLawful (sym f.lowers) (program_is_lawful program f.program f.is.cells (program_ints f.program (has_ints language program f.program f.is)))
