use Rattle.std.proofs.lemmas.Result.{IfOk-weaker, on_err_weaker}
use Rattle.cdcl_core.specs.helpers.States.{ComesTo}
use Rattle.cdcl_core.proofs.Going.{comes-further, far-further}
use Rattle.cdcl_core.proofs.state.State.turn.Goals as goal

pub returns-clause-ok : goal.returns-clause-ok
returns-clause-ok c =
    let s = c.args.self.now in
    IfOk-weaker c.step.result (ComesTo c.reduce.new.self c.step.new.self 1) (ComesTo s c.step.new.self 1)
    (λ p h. comes-further s c.reduce.new.self c.step.new.self 1 p c.reduce.ensures.further h) c.step.ensures.ok

pub returns-clause-err_further : goal.returns-clause-err_further
returns-clause-err_further c =
    on_err_weaker c.step.result (λ a. far-further c.args.self.now c.reduce.new.self c.step.new.self 0 c.reduce.ensures.further a) c.step.ensures.err_same
