-- What propagation preserves.
use Rattle.std.specs.Prelude.{List}
use Rattle.cdcl_trail.specs.Trail.{Trail}
use Rattle.cdcl_clauses.specs.Clauses.{Clause}
use Rattle.cdcl_clauses.specs.Invariants.{AreConsistent, AreSame, Extends}
use Rattle.cdcl_clauses.specs.declared.watches.Watch.{Watch}

-- the trail only grows, the clauses change only in what they watch, and the invariant holds
pub record Propagates (t : Trail) (cs : List Clause) (u : Trail) (ds : List Clause)
    (vs : List (List Watch)) : Type 0 where
  pub sound : AreConsistent u ds vs
  pub same : AreSame cs ds
  pub extends : Extends t u
