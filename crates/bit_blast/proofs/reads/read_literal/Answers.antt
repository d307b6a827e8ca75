use Rattle.std.proofs.Common.{◌≡◌, ℕ, ◌+◌, List, ℤ, pos, ap, sym, ◌∙◌, arith, rules, length}
use Rattle.cnf_core.specs.Clauses.{Formula}
use Rattle.bit_order.specs.Comparators.{before_literal}
use Rattle.bit_ops.specs.bit_words.Words.{Walked}
use Rattle.bit_terms.specs.Terms.{word_at}
use Rattle.order_formula.specs.Reads.{Read}
use Rattle.bit_blast.specs.Layered.{parts_of}
use Rattle.bit_blast.specs.Reads.{Source, all_seen, sources_of}
use Rattle.bit_blast.proofs.Loops.{formula_of, same_read, whole_read, word_is}
use Rattle.bit_blast.proofs.reads.read_literal.Goals as goal

pub returns-clause-formula : goal.returns-clause-formula
returns-clause-formula c =
    let words : List (List ℤ) = c.args.words.now in
    let r : Read = c.args.read.now in
    let seen : Walked Formula = all_seen (parts_of c.args.layout.now words) r c.args.circuit.now r.candidates in
    let n : ℕ = seen.state.vars in
    let sources : List Source = sources_of words (n + 2) r.candidates seen.word in
    let wide : Formula = record { vars = n + 2 + length sources; clauses = seen.state.clauses } in
    let base : Formula = c.sources_of.new.circuit in
    let xs : List Source = c.as_slice-sources.result.now in
    let holds : ℤ = c.add_variable-holds.result in
    let start : ℤ = c.add_variable-start.result in
    let first_vars : c.all_seen.new.circuit.vars ≡ n = ap (λ (k : Formula). k.vars) c.in_ok-seen.ensures.formula in
    let next : c.add_variable-holds.new.self.vars ≡ n + 1 = c.add_variable-holds.ensures.vars ∙ ap (λ k. k + 1) first_vars in
    let second : c.add_variable-start.new.self.vars ≡ n + 2 = c.add_variable-start.ensures.vars ∙ ap (λ k. k + 1) next ∙ omega arith in
    let is : xs ≡ sources =
    c.as_slice-sources.ensures.value ∙ c.in_ok-sources.ensures.sources
    ∙ ap (λ k. sources_of words k c.candidates.result.now c.as_slice.result.now) second
    ∙ ap (λ k. sources_of words (n + 2) k c.as_slice.result.now) c.candidates.ensures
    ∙ ap (λ k. sources_of words (n + 2) r.candidates k) (c.as_slice.ensures.value ∙ c.in_ok-seen.ensures.literals) in
    let many : length sources ≡ length c.candidates.result.now =
    ap length (sym is) ∙ ap length c.as_slice-sources.ensures.value ∙ c.in_ok-sources.ensures.count in
    let clauses : base.clauses ≡ seen.state.clauses =
    c.sources_of.ensures.clauses ∙ c.add_variable-start.ensures.clauses ∙ c.add_variable-holds.ensures.clauses
    ∙ ap (λ (k : Formula). k.clauses) c.in_ok-seen.ensures.formula in
    let at : base ≡ wide = formula_of base (n + 2 + length sources) seen.state.clauses (omega (arith, c.in_ok-sources.ensures.variables, second, many)) clauses in
    let holding : holds ≡ pos (n + 1) = c.add_variable-holds.ensures.literal ∙ ap (λ k. pos (k + 1)) first_vars in
    let starting : start ≡ pos (n + 2) =
    c.add_variable-start.ensures.literal ∙ ap (λ k. pos (k + 1)) next ∙ ap pos (let e : (n + 1) + 1 ≡ n + 2 = omega arith in e) in
    let takes : c.index-words-place.result ≡ word_at words r.takes = word_is words r.takes c.index-words-place.result (search rules) (search rules) in
    let first : c.index-words-place-2.result ≡ word_at words r.start = word_is words r.start c.index-words-place-2.result (search rules) (search rules) in
    whole_read wide base c.add_some.new.circuit c.add_none.new.circuit c.add_value.new.circuit c.add_sources.new.circuit (before_literal c.args.layout.now) holds start
    c.index-words-place.result c.index-words-place-2.result xs at c.in_ok-add_some.ensures.formula c.in_ok-add_none.ensures.formula
    c.in_ok-add_value.ensures.formula c.in_ok-add_sources.ensures.formula
    ∙ same_read wide (before_literal c.args.layout.now) holds start c.index-words-place.result c.index-words-place-2.result xs (pos (n + 1)) (pos (n + 2))
    (word_at words r.takes) (word_at words r.start) sources holding starting takes first is
