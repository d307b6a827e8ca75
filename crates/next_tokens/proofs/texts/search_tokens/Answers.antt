use Rattle.std.proofs.Common.{List, IfOk, MatchOption, subst}
use Rattle.tc_lexer.specs.declared.token.Token.{Token}
use Rattle.next_tokens.specs.Next.{AreProgram, IsStuck}
use Rattle.next_tokens.proofs.Syntax.{searched}
use Rattle.next_tokens.proofs.texts.search_tokens.Goals as goal

pub returns : goal.returns
returns c =
    searched c.args.text.now c.args.tokens.now c.find_stuck.result c.requires
    (subst (λ (ts : List Token). IfOk c.find_stuck.result (λ stuck. MatchOption stuck (AreProgram c.args.text.now ts) (IsStuck c.args.text.now ts)))
    c.as_slice.ensures c.find_stuck.ensures)
