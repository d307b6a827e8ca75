use Rattle.std.proofs.Common.{sym, subst, arith}
use Rattle.bit_words.specs.Words.{AreWithin}
use Rattle.bit_terms.proofs.Loops.{at_within}
use Rattle.mutex_clauses.proofs.turns.terms.Both.add_test.Goals as goal

pub add_some-requires-clause-word : goal.add_some-requires-clause-word
add_some-requires-clause-word c =
    subst (AreWithin c.args.circuit.now.vars) (sym c.word_at-word.ensures)
    (at_within c.args.circuit.now.vars c.args.self.now.terms.now _
    (omega (arith, c.vars-one.ensures.one, c.vars-one.ensures.vars)) c.requires.terms)

pub add_none-requires-clause-word : goal.add_none-requires-clause-word
add_none-requires-clause-word c =
    subst (AreWithin c.args.circuit.now.vars) (sym c.word_at-word.ensures)
    (at_within c.args.circuit.now.vars c.args.self.now.terms.now _
    (omega (arith, c.vars-one.ensures.one, c.vars-one.ensures.vars)) c.requires.terms)
