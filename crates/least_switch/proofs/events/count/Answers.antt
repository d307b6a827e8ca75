use Rattle.std.proofs.Common.{◌∙◌, ◌≤◌, ℕ, List, Option, ap, subst, sym}
use Rattle.order_switches.specs.Switches.{switches}
use Rattle.switch_clauses.specs.switch_runs.Worlds.{threads_of}
use Rattle.least_switch.proofs.Few.{few}
use Rattle.least_switch.proofs.events.count.Goals as goal

pub returns-clause-switches : goal.returns-clause-switches
returns-clause-switches c =
    let made = c.in_ok-threads in
    c.switches.ensures.number
    ∙ ap (λ (ts : List ℕ). switches ts made.failing c.args.world.now) (c.as_slice.ensures.value ∙ made.ensures.threads)
    ∙ ap (λ (f : Option ℕ). switches (threads_of c.args.paths.now) f c.args.world.now) made.ensures.failing

pub returns-clause-few : goal.returns-clause-few
returns-clause-few c =
    let made = c.in_ok-threads in
    subst (λ (n : ℕ). n ≤ 255) (sym c.switches.ensures.number) (few c.as_slice.result.now c.args.world.now c.requires.small made.failing)
