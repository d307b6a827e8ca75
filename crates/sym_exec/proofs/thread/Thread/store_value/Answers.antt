use Rattle.std.proofs.Common.{◌≡◌, OnOk, subst}
use Rattle.sym_exec.specs.helpers.Threads.{doing_of}
use Rattle.sym_exec.specs.Thread.{with_store}
use Rattle.sym_exec.proofs.thread.Thread.store_value.Goals as goal

pub returns-clause-stored : goal.returns-clause-stored
returns-clause-stored c =
    subst (λ x. OnOk c.store.result (doing_of c.store.new.self c.term.new.terms ≡ with_store (doing_of c.args.self.now c.args.terms.now) c.args.cell x))
    c.in_ok-term.ensures.term (c.store.ensures c.term.new.terms)
