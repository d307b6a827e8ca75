use Rattle.std.proofs.Common.{true, ◌∙◌, rules}
use Rattle.cdcl_clauses.proofs.Laid.{same_clauses, pushed, on_err}
use Rattle.cdcl_clauses.proofs.clauses.Clauses.push.Goals as goal

pub returns-in_err-push-clause-err : goal.returns-in_err-push-clause-err
returns-in_err-push-clause-err c =
    on_err c.from_residual-in_err-push.result (
    rw (c.in_ok-extend_from_slice.ensures.items, c.in_err-push.ensures.items)
    (same_clauses c.self.inside.literals.items c.args.literals.now c.self.inside.entries.items c.self.invariant ∙ c.self.view_is))

pub returns-clause-ok : goal.returns-clause-ok
returns-clause-ok c =
    rw (c.in_ok-extend_from_slice.ensures.items, c.in_ok-push.ensures.items)
    (pushed c.self.inside c.args.self.now c.self.view_is c.self.invariant c.args.literals.now
    (record { start = c.len-start.result; end = c.len-end.result; first = c.args.first; second = c.args.second; used = 0; kept = true })
    (search rules) (search rules))
