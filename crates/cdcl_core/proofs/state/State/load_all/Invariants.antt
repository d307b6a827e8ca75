use Rattle.std.proofs.Common.{◌≡◌}
use Rattle.std.specs.Prelude.{MatchOption}
use Rattle.cdcl_clauses.specs.Invariants.{AreRooted}
use Rattle.cdcl_learn.specs.Shown.{Refutes}
use Rattle.cdcl_core.specs.helpers.States.{IsLoaded}
use Rattle.cdcl_core.proofs.state.State.load_all.Given as goal

abbrev pub invariant-loop-place : goal.invariant-loop-place
invariant-loop-place l = record {
  loaded : IsLoaded l.self l.place;
  formula : l.self.formula ≡ l.initial.self.formula;
  conflict : MatchOption l.conflict (AreRooted l.self.trail l.self.clauses) (Refutes l.self.clauses l.self.trail.literals);
}
