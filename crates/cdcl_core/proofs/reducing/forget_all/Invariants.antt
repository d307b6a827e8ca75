use Rattle.std.proofs.Common.{◌≡◌, List, length, take}
use Rattle.std.specs.Prelude.{fold, All}
use Rattle.cdcl_trail.specs.Trail.{Trail, IsNoReason}
use Rattle.cdcl_clauses.specs.Invariants.{AreConsistent, AreRooted}
use Rattle.cdcl_clauses.specs.declared.watches.Watch.{Watch}
use Rattle.cdcl_clauses.specs.Clauses.{dropped}
use Rattle.cdcl_core.proofs.reducing.forget_all.Given as goal

abbrev pub invariant-loop-clause : goal.invariant-loop-clause
invariant-loop-clause l = record {
  after : l.clauses ≡ fold dropped l.initial.clauses (take l.clause-index l.chosen);
  count : length l.clauses ≡ length l.initial.clauses;
  sound : (t : Trail) (ws : List (List Watch)) → All (IsNoReason t) l.chosen → AreConsistent t l.initial.clauses ws → AreConsistent t l.clauses ws;
  rooted : (t : Trail) → AreRooted t l.initial.clauses → AreRooted t l.clauses;
}
