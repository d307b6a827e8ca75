use Rattle.std.proofs.Common.{◌≡◌, OnOk, subst, None}
use Rattle.sym_exec.specs.helpers.Threads.{doing_of}
use Rattle.sym_exec.specs.Thread.{with_term, with_load}
use Rattle.sym_exec.proofs.thread.Thread.read.Goals as goal

pub returns-clause-read : goal.returns-clause-read
returns-clause-read c =
    subst (λ x. OnOk c.load.result (doing_of c.load.new.self c.symbol.new.terms
    ≡ with_load (with_term (doing_of c.args.self.now c.args.terms.now) x) c.args.slot c.args.cell x.term None))
    c.in_ok-symbol.ensures.made (c.load.ensures c.symbol.new.terms)
