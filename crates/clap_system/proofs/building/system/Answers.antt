use Rattle.std.proofs.Common.{◌∙◌, ap, arith}
use Rattle.sym_exec.specs.Executed.{executed}
use Rattle.order_events.proofs.Whole.{whole}
use Rattle.clap_system.proofs.Few.{few_sleeps}
use Rattle.clap_system.proofs.Whole.{executed_by, have_by, sound_by, system_is}
use Rattle.clap_system.proofs.building.system.Goals as goal

pub no_questions-requires-clause-counted : goal.no_questions-requires-clause-counted
no_questions-requires-clause-counted g c = (whole c.args.code.now c.args.paths c.requires.paths).counted

pub no_questions-requires-clause-sleeps : goal.no_questions-requires-clause-sleeps
no_questions-requires-clause-sleeps g c =
    omega (arith, few_sleeps c.args.code.now c.args.paths c.requires.paths, (whole c.args.code.now c.args.paths c.requires.paths).counted, c.requires.few)

pub rules-requires-clause-whole : goal.rules-requires-clause-whole
rules-requires-clause-whole g c = whole c.args.code.now c.args.paths c.requires.paths

pub rules-requires-clause-executed : goal.rules-requires-clause-executed
rules-requires-clause-executed g c =
    let code = c.args.code.now in
    executed_by code c.args.paths c.in_ok-symbolic.symbolic c.execute.new.terms
    (c.in_ok-symbolic.ensures.executed ∙ ap (executed code c.args.paths) c.new-terms.ensures) c.requires.paths

pub rules-requires-clause-terms : goal.rules-requires-clause-terms
rules-requires-clause-terms g c =
    let code = c.args.code.now in
    have_by code c.args.paths c.in_ok-symbolic.symbolic c.execute.new.terms
    (c.in_ok-symbolic.ensures.executed ∙ ap (executed code c.args.paths) c.new-terms.ensures) c.functions-functions.ensures.lawful

pub invariant_of-result : goal.invariant_of-result
invariant_of-result g c =
    let code = c.args.code.now in
    sound_by code c.args.paths c.in_ok-symbolic.symbolic c.execute.new.terms
    (c.in_ok-symbolic.ensures.executed ∙ ap (executed code c.args.paths) c.new-terms.ensures)
    g.M.MemoryModel.BUFFERED g.M.MemoryModel.bound c.rules.new.terms c.in_ok-formula.formula c.in_ok-formula.ensures.made c.in_ok-formula.ensures.rules
    c.in_ok-order.order c.rules.new.order c.in_ok-order.ensures c.in_ok-formula.ensures.asked c.functions-functions.ensures.lawful c.requires.paths
    c.requires.few

pub returns : goal.returns
returns g c =
    let code = c.args.code.now in
    system_is code c.args.paths c.in_ok-symbolic.symbolic c.execute.new.terms
    (c.in_ok-symbolic.ensures.executed ∙ ap (executed code c.args.paths) c.new-terms.ensures)
    g.M.MemoryModel.BUFFERED g.M.MemoryModel.bound c.rules.new.terms c.in_ok-formula.formula c.in_ok-formula.ensures.made c.in_ok-formula.ensures.rules
    c.in_ok-order.order c.rules.new.order c.in_ok-order.ensures c.in_ok-formula.ensures.asked
