use Rattle.store_buffers.proofs.ByCell.{put_values, tidy_put}
use Rattle.store_buffers.proofs.segment.Segment.add.Goals as goal

pub invariant_of-self-2 : goal.invariant_of-self-2
invariant_of-self-2 c =
    let put = put_values c.self.inside.by_cell.entries c.insert.new.self.entries c.args.self.now c.args.cell c.args.values c.self.view_is c.requires
    c.in_ok-insert.ensures.updates.0 in
    (tidy_put _ _ _ _ _ c.self.view_is c.self.invariant.0 put, c.in_ok-insert.ensures.ordered)

pub returns-clause-ok : goal.returns-clause-ok
returns-clause-ok c = put_values c.self.inside.by_cell.entries c.insert.new.self.entries c.args.self.now c.args.cell c.args.values c.self.view_is
    c.requires c.in_ok-insert.ensures.updates.0
