use Rattle.std.proofs.Common.{◌≡◌, ap, sym, ◌∙◌, subst, arith, length}
use Rattle.std.specs.List.{All}
use Rattle.cnf_core.specs.Clauses.{Formula}
use Rattle.bit_ops.specs.bit_words.Words.{AreWithin, Walked}
use Rattle.bit_order.specs.Comparators.{ordered}
use Rattle.bit_order.specs.Layouts.{Layout}
use Rattle.bit_terms.specs.Terms.{Words}
use Rattle.order_formula.specs.Formulas.{IsOf}
use Rattle.bit_blast.specs.Whole.{load_words}
use Rattle.bit_blast.proofs.Drafted.{same_roots, same_terms}
use Rattle.bit_blast.proofs.Within.{loads_within, parts_within, words_count}
use Rattle.bit_blast.proofs.drafts.add_system.Goals as goal

pub term_words-requires-clause-symbols : goal.term_words-requires-clause-symbols
term_words-requires-clause-symbols c =
    subst (λ (f : Formula). All (AreWithin f.vars) c.as_slice.result.now) (sym c.requires.ordered)
    (subst (All (AreWithin (ordered c.args.layout.now).vars)) (sym (c.as_slice.ensures.value ∙ c.in_ok-symbols.ensures))
    (loads_within c.args.layout.now c.requires.lawful))

pub roots-requires-clause-parts : goal.roots-requires-clause-parts
roots-requires-clause-parts c =
    let y : Layout = c.args.layout.now in
    let n = c.term_words.new.circuit.vars in
    let same : c.args.circuit.now.vars ≡ (ordered y).vars = ap (λ (f : Formula). f.vars) c.requires.ordered in
    parts_within y c.requires.lawful n c.as_slice-2.result.now (omega (arith, same, c.in_ok-words.ensures.larger.0))
    (subst (All (AreWithin n)) (sym c.as_slice-2.ensures.value) c.in_ok-words.ensures.within)

pub roots-requires-clause-terms : goal.roots-requires-clause-terms
roots-requires-clause-terms c =
    let many : length c.as_slice-2.result.now ≡ length c.args.terms.now =
    ap length (c.as_slice-2.ensures.value ∙ c.in_ok-words.ensures.words) ∙ words_count c.args.terms.now c.as_slice.result.now c.args.circuit.now in
    subst (λ k. IsOf k c.args.formula.now) (sym many) c.requires.terms

pub returns-clause-formula : goal.returns-clause-formula
returns-clause-formula c =
    c.in_ok-roots.ensures.formula
    ∙ ap (λ (k : Walked Formula). k.state)
    (same_roots c.args.layout.now c.args.terms.now c.as_slice.result.now c.args.circuit.now (c.as_slice.ensures.value ∙ c.in_ok-symbols.ensures) c.requires.ordered
    c.args.formula.now c.as_slice-2.result.now c.term_words.new.circuit (c.as_slice-2.ensures.value ∙ c.in_ok-words.ensures.words) c.in_ok-words.ensures.formula)

pub returns-clause-words : goal.returns-clause-words
returns-clause-words c =
    c.in_ok-words.ensures.words
    ∙ ap (λ (k : Words). k.words)
    (same_terms c.args.layout.now c.args.terms.now c.as_slice.result.now c.args.circuit.now (c.as_slice.ensures.value ∙ c.in_ok-symbols.ensures) c.requires.ordered)

pub returns-clause-roots : goal.returns-clause-roots
returns-clause-roots c =
    c.in_ok-roots.ensures.literals
    ∙ ap (λ (k : Walked Formula). k.word)
    (same_roots c.args.layout.now c.args.terms.now c.as_slice.result.now c.args.circuit.now (c.as_slice.ensures.value ∙ c.in_ok-symbols.ensures) c.requires.ordered
    c.args.formula.now c.as_slice-2.result.now c.term_words.new.circuit (c.as_slice-2.ensures.value ∙ c.in_ok-words.ensures.words) c.in_ok-words.ensures.formula)
