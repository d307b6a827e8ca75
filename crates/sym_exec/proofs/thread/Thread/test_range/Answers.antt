use Rattle.std.proofs.Common.{◌≡◌, OnOk, subst, ap, ◌∙◌, w32, FitsSigned, rules}
use Rattle.std.proofs.lemmas.Int.{to_z-of_z}
use mir.Val.{to_z, of_z}
use Rattle.sym_exec.specs.helpers.Threads.{doing_of}
use Rattle.sym_exec.specs.Making.{range_test}
use Rattle.sym_exec.specs.Thread.{with_test, term_in}
use Rattle.sym_exec.proofs.thread.Thread.test_range.Goals as goal

pub returns-clause-tested : goal.returns-clause-tested
returns-clause-tested c =
    let fits : FitsSigned w32 c.args.last = search rules in
    subst (λ x. OnOk c.test.result (doing_of c.test.new.self c.range_test.new.terms
    ≡ with_test (doing_of c.args.self.now c.args.terms.now) c.args.line c.args.wanted x))
    (c.in_ok-test.ensures.term ∙ ap (λ x. range_test x (to_z w32 (of_z w32 c.args.last))) c.in_ok-term.ensures.term
    ∙ ap (range_test (term_in (doing_of c.args.self.now c.args.terms.now) c.args.e.now))
    (to_z-of_z w32 c.args.last fits)) (c.test.ensures c.range_test.new.terms)
