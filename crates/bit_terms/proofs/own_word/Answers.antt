use Rattle.std.proofs.Common.{arith, ap, sym, ◌∙◌, subst, rules, FitsSigned, w32}
use Rattle.std.proofs.lemmas.Int.{to_z-of_z}
use Rattle.bit_words.specs.Words.{AreWithin}
use Rattle.bit_terms.specs.Terms.{constant_word, own_word}
use Rattle.bit_terms.proofs.Loops.{constant_within, at_within}
use Rattle.bit_terms.proofs.own_word.Goals as goal

pub returns-in-Constant-clause-word : goal.returns-in-Constant-clause-word
returns-in-Constant-clause-word c =
    let fits : FitsSigned w32 c.in-Constant.value = search rules in
    c.constant_word.ensures ∙ ap constant_word (to_z-of_z w32 c.in-Constant.value fits)
    ∙ ap (λ node. (own_word c.args.symbols.now c.args.known.now c.args.circuit.now node).word) (sym c.in-Constant.is)

pub returns-in-Constant-clause-within : goal.returns-in-Constant-clause-within
returns-in-Constant-clause-within c =
    subst (AreWithin c.args.circuit.now.vars) (sym c.constant_word.ensures) (constant_within c.args.circuit.now _ (omega (arith, c.vars-one.ensures.one, c.vars-one.ensures.vars)))

pub returns-in-Symbol-clause-within : goal.returns-in-Symbol-clause-within
returns-in-Symbol-clause-within c =
    subst (AreWithin c.args.circuit.now.vars) (sym c.word_at.ensures)
    (at_within c.args.circuit.now.vars c.args.symbols.now c.in-Symbol.load (omega (arith, c.vars-one.ensures.one, c.vars-one.ensures.vars)) c.requires.symbols)
