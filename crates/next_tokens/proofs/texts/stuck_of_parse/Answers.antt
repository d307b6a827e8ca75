use Rattle.std.proofs.Common.{IfOk, subst, sym}
use Rattle.tc_parser.specs.Programs.{IsTextFault}
use Rattle.tc_parser.specs.declared.fault.ParseFault.{ParseFault}
use Rattle.tc_parser.specs.declared.fault.TextFault.TheVariants.{Parse}
use Rattle.next_tokens.specs.Texts.{Tells}
use Rattle.next_tokens.proofs.Syntax.{tells}
use Rattle.next_tokens.proofs.texts.stuck_of_parse.Goals as goal

pub returns-in-Syntax : goal.returns-in-Syntax
returns-in-Syntax c =
    subst (λ (f : ParseFault). IfOk c.search.result (Tells c.args.text.now (Parse f))) (sym c.in-Syntax.is)
    (tells c.args.text.now c.in-Syntax.field-0 (subst (λ (f : ParseFault). IsTextFault 4 c.args.text.now (Parse f)) c.in-Syntax.is c.requires.fault)
    c.search.result c.search.ensures)
