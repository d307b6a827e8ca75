use Rattle.std.proofs.Common.{◌<◌, length}
use Rattle.cdcl_core.proofs.Starting.{conclude-empty, empty-within}
use Rattle.cdcl_core.proofs.state.State.close_by_empty.Goals as goal

pub conclude-requires : goal.conclude-requires
conclude-requires c =
    let s = c.args.self.now in
    let h : c.args.place < length s.formula.clauses = empty-within s.formula.clauses c.args.place c.requires.empty in
    rw c.new.ensures (conclude-empty s c.requires.loaded c.len-len.ensures.clauses c.args.place c.requires.empty h)
