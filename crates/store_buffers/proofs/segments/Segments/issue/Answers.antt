use Rattle.std.proofs.Common.{w32}
use Rattle.std.proofs.lemmas.Result.{on_ok_weaker}
use Rattle.std.proofs.lemmas.Int.{to_z-of_z}
use Rattle.store_buffers.proofs.Skips.{issued}
use Rattle.store_buffers.proofs.segments.Segments.issue.Goals as goal

pub returns-clause-ok : goal.returns-clause-ok
returns-clause-ok c =
    on_ok_weaker c.push.result
    (issued c.self.inside.skipped c.self.inside.older.items c.self.inside.last c.push.new.self c.args.self.now c.args.cell c.args.value _
    c.self.view_is (to_z-of_z w32 c.args.value c.ranges.value))
    c.push.ensures.ok
