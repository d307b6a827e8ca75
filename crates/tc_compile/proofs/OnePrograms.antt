-- A text is one program, or is refused by one fault.
use Rattle.std.proofs.Common.{◌≡◌, ◌∙◌, ap, sym, ℕ, List}
use Rattle.tc_code.specs.Code.{Code}
use Rattle.tc_lower.specs.Lowering.{code_of}
use Rattle.tc_parser.proofs.OneFault.{one_text_fault, one_text_program, program_or_no_fault}
use Rattle.tc_parser.specs.declared.fault.TextFault.{TextFault}
use Rattle.tc_compile.specs.Programs.{IsCodeOf, IsRefusal, language}

pub one_code : (text : List ℕ) (c d : Code) → IsCodeOf text c → IsCodeOf text d → c ≡ d
one_code text c d f g = f.lowers ∙ ap (code_of text) (one_text_program language text f.program g.program f.is g.is) ∙ sym g.lowers

pub one_refusal : (text : List ℕ) (r q : TextFault) → IsRefusal text r → IsRefusal text q → r ≡ q
one_refusal text r q f g = one_text_fault language text r q f g

pub refused_no_code : (text : List ℕ) (r : TextFault) (c : Code) → IsRefusal text r → IsCodeOf text c → ⊥
refused_no_code text r c f g = program_or_no_fault language text g.program r g.is f
