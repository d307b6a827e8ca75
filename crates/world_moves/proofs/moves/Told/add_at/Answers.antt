use Rattle.std.proofs.Common.{◌∙◌, ◌==◌, sym, ap}
use Rattle.std.specs.List.{enumerate_from, find}
use Rattle.order_formula.specs.Worlds.{position}
use Rattle.world_moves.proofs.moves.Told.add_at.Goals as goal

pub add_event-requires-clause-tellable : goal.add_event-requires-clause-tellable
add_event-requires-clause-tellable g c =
    c.requires.tellable c.args.position (c.in-Some.number, c.in-Some.placed.now) c.requires.before
    (ap (λ es. find (λ e. position c.args.self.now.world.now e.0 == c.args.position) (enumerate_from 0 es)) (sym c.requires.events)
    ∙ sym c.in-Some.ensures)
