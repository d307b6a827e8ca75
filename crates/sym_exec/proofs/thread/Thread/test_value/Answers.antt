use Rattle.std.proofs.Common.{◌≡◌, OnOk, subst}
use Rattle.sym_exec.specs.helpers.Threads.{doing_of}
use Rattle.sym_exec.specs.Thread.{with_test}
use Rattle.sym_exec.proofs.thread.Thread.test_value.Goals as goal

pub returns-clause-tested : goal.returns-clause-tested
returns-clause-tested c =
    subst (λ x. OnOk c.test.result (doing_of c.test.new.self c.term.new.terms ≡ with_test (doing_of c.args.self.now c.args.terms.now) c.args.line c.args.wanted x))
    c.in_ok-term.ensures.term (c.test.ensures c.term.new.terms)
