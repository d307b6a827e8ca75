use Rattle.std.proofs.lemmas.Result.{on_ok_weaker}
use Rattle.mutex_clauses.specs.helpers.Logs.{HasStates}
use Rattle.mutex_clauses.proofs.Made.{all_few, all_made}
use Rattle.mutex_clauses.proofs.states.add_states.Goals as goal

pub returns-clause-draft : goal.returns-clause-draft
returns-clause-draft c =
    let x = c.args.execution.now in
    on_ok_weaker c.add_to.result
    (all_made c.args.code.now x.paths x.symbolic x.terms c.args.formula.now c.args.draft.now c.add_to.new.draft) c.add_to.ensures

pub returns-clause-within : goal.returns-clause-within
returns-clause-within c =
    let x = c.args.execution.now in
    on_ok_weaker c.add_to.result
    (λ (h : HasStates c.args.code.now x.paths x.symbolic x.terms c.args.formula.now c.args.draft.now c.add_to.new.draft). h.within)
    c.add_to.ensures

pub returns-clause-larger : goal.returns-clause-larger
returns-clause-larger c =
    let x = c.args.execution.now in
    on_ok_weaker c.add_to.result
    (all_few c.args.code.now x.paths x.symbolic x.terms c.args.formula.now c.args.draft.now c.add_to.new.draft) c.add_to.ensures
