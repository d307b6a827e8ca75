use Rattle.std.proofs.Common.{ap, ◌∙◌}
use Rattle.sym_exec.specs.helpers.Threads.{doing_of}
use Rattle.sym_exec.specs.Thread.{with_slot}
use Rattle.sym_exec.proofs.thread.Thread.set_value.Goals as goal

pub returns-clause-set : goal.returns-clause-set
returns-clause-set c =
    c.set.ensures c.term.new.terms ∙ ap (λ x. with_slot (doing_of c.args.self.now c.args.terms.now) c.args.slot x) c.in_ok-term.ensures.term
