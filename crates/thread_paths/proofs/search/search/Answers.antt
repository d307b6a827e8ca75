use Rattle.std.proofs.Common.{subst, sym, Bool, None}
use Rattle.thread_paths.specs.Search.{IsFirst}
use Rattle.thread_paths.specs.helpers.Descents.{IsDescent, IsTurned}
use Rattle.thread_paths.specs.declared.descent.Descent.{Descent}
use Rattle.thread_paths.specs.declared.found.Cut.{Cut}
use Rattle.slot_liveness.specs.Tables.{liveness}
use Rattle.thread_paths.proofs.Searches.{path, found, is_found, is_none, fewer}
use Rattle.thread_paths.proofs.search.search.Goals as goal

pub returns-in-Found : goal.returns-in-Found
returns-in-Found c =
    is_found c.args.program.code.now (liveness c.args.program.live.now) c.args.scope c.args.outcomes.items c.args.least c.ways.outcomes.items c.ways.least c.ways.cut c.ways.invariant
    c.descend.new.outcomes.items c.in-Found.steps
    (subst (λ (d : Descent). IsDescent c.args.program.code.now (liveness c.args.program.live.now) c.args.scope c.ways.outcomes.items c.ways.least c.descend.new.outcomes.items d) c.in-Found.is
    c.in_ok-steps.ensures)

pub returns-then-not-branch : goal.returns-then-not-branch
returns-then-not-branch c =
    subst (λ (cut : Cut). IsFirst c.args.program.code.now (liveness c.args.program.live.now) c.args.scope (path c.args.outcomes.items c.args.least) (found None cut)) (sym c.cut_by-cut.ensures)
    (is_none c.args.program.code.now (liveness c.args.program.live.now) c.args.scope c.args.outcomes.items c.args.least c.ways.outcomes.items c.ways.least c.ways.cut c.ways.invariant
    c.descend.new.outcomes.items c.in-Spent.why
    (subst (λ (d : Descent). IsDescent c.args.program.code.now (liveness c.args.program.live.now) c.args.scope c.ways.outcomes.items c.ways.least c.descend.new.outcomes.items d) c.in-Spent.is
    c.in_ok-steps.ensures)
    (subst (λ (turned : Bool). IsTurned c.descend.new.outcomes.items c.turn.new.outcomes.items turned) c.if-not-branch.true c.in_ok-turn.ensures))

pub ways-smaller : goal.ways-smaller
ways-smaller c =
    fewer c.args.program.code.now (liveness c.args.program.live.now) c.args.scope c.args.outcomes.items c.args.least c.ways.outcomes.items c.ways.least c.ways.cut c.ways.invariant
    c.descend.new.outcomes.items c.in-Spent.why
    (subst (λ (d : Descent). IsDescent c.args.program.code.now (liveness c.args.program.live.now) c.args.scope c.ways.outcomes.items c.ways.least c.descend.new.outcomes.items d) c.in-Spent.is
    c.in_ok-steps.ensures)
    c.turn.new.outcomes.items
    (subst (λ (turned : Bool). IsTurned c.descend.new.outcomes.items c.turn.new.outcomes.items turned) c.if-not-branch.false c.in_ok-turn.ensures)
