use Rattle.std.proofs.Common.{◌≡◌, ◌∙◌, ◌∷◌, [], ◌++◌, set}
use Rattle.cdcl_clauses.specs.Clauses.{listed}
use Rattle.cdcl_steps.proofs.Undone.{undone}
use Rattle.cdcl_steps.proofs.attaching.stand.Goals as goal

pub returns-in-Err-clause-err : goal.returns-in-Err-clause-err
returns-in-Err-clause-err c =
    let e : c.push-2.new.self ≡ set c.args.watches.now c.args.first
    (listed c.args.watches.now c.args.first ++ record { clause = c.args.clause; blocker = c.args.second } ∷ []) = c.in-Err.ensures.err
    ∙ c.in_ok-push.ensures.ok in
    c.pop.ensures ∙ undone c.args.watches.now c.push-2.new.self c.args.first (record { clause = c.args.clause; blocker = c.args.second }) c.requires.first e
