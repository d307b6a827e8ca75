use Rattle.std.proofs.Common.{refl, arith}
use Rattle.tc_lexer.proofs.LaterLanguages.{tokens_in, fault_in}
use Rattle.tc_lexer.proofs.laws.language_4_has_the_tokens_of_3.Goals as goal

pub returns-clause-tokens : goal.returns-clause-tokens
returns-clause-tokens c = λ text tokens.
    (tokens_in 3 4 (omega arith) (omega arith) refl text tokens, tokens_in 4 3 (omega arith) (omega arith) refl text tokens)

pub returns-clause-faults : goal.returns-clause-faults
returns-clause-faults c = λ text fault.
    (fault_in 3 4 (omega arith) (omega arith) refl text fault, fault_in 4 3 (omega arith) (omega arith) refl text fault)
