use Rattle.std.proofs.Common.{subst}
use Rattle.std.specs.List.{Contains}
use Rattle.mutex_clauses.proofs.log.Log.add_last.Goals as goal

pub add_last_loads-requires-clause-loads : goal.add_last_loads-requires-clause-loads
add_last_loads-requires-clause-loads c a load there takes =
    c.requires.log.below a load (subst (λ xs. Contains xs a) c.requires.log.accesses there) takes
