use Rattle.std.proofs.Common.{◌≡◌, take}
use Rattle.cdcl_clauses.specs.Clauses.{at}
use Rattle.cdcl_learn.specs.helpers.Analyses.{Tallies, Meets}
use Rattle.cdcl_learn.proofs.analysis.Analysis.meet.Given as goal

abbrev pub invariant-loop-literal : goal.invariant-loop-literal
invariant-loop-literal l = record {
  activity_same : l.activity ≡ l.initial.activity;
  tallies : Tallies l.trail l.self.met.items l.self.pending l.bounds.root l.bounds.base l.self.literals.items;
  meets : Meets l.trail l.initial.self.met.items l.self.met.items (take l.literal-index (at l.clauses l.clause).literals);
  hints : l.self.hints ≡ l.initial.self.hints;
}
