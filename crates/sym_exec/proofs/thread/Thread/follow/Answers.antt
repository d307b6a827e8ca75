use Rattle.std.proofs.Common.{◌≡◌, ◌∙◌, OnOk, subst, sym, ℤ, w32, FitsSigned, rules}
use Rattle.std.proofs.lemmas.Int.{to_z-of_z}
use Rattle.tc_code.specs.declared.instr.Instr.{Instr}
use Rattle.sym_exec.specs.helpers.Threads.{doing_of}
use Rattle.sym_exec.specs.Making.{range_test}
use Rattle.sym_exec.specs.Thread.{term_in, with_test, after_instr}
use Rattle.sym_exec.proofs.thread.Thread.follow.Goals as goal

pub returns-in-Inside-clause-done : goal.returns-in-Inside-clause-done
returns-in-Inside-clause-done c =
    let d = doing_of c.args.self.now c.args.terms.now in
    let e = doing_of c.test_range.new.self c.test_range.new.terms in
    let fits : FitsSigned w32 c.last_index.result = search rules in
    subst (λ (i : Instr). OnOk c.test_range.result (e ≡ after_instr c.args.line c.args.wanted d i)) (sym c.in-Inside.is)
    (subst (λ (n : ℤ). OnOk c.test_range.result
    (e ≡ with_test d c.args.line c.args.wanted
    (range_test (term_in d c.in-Inside.index) n))) (to_z-of_z w32 c.last_index.result fits ∙ c.last_index.ensures)
    c.test_range.ensures.tested)
