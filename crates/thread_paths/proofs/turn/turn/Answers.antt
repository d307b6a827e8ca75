use Rattle.thread_paths.proofs.Outcomes.{pop_false}
use Rattle.thread_paths.proofs.turn.turn.Goals as goal

pub returns-then-not-last : goal.returns-then-not-last
returns-then-not-last c =
    pop_false c.args.outcomes.now.items c.loop-last.outcomes.items c.pop.new.self.items c.push.new.self.items c.in-Some.last c.loop-last.invariant
    c.in-Some.ensures.items c.if-not-last.true c.in_ok-push.ensures.items
