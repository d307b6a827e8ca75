use Rattle.std.proofs.Common.{◌≡◌, ◌<◌, ◌≤◌, ℕ}
use Rattle.cdcl_learn.specs.helpers.Analyses.{IsMet, Tallies, Suffices}
use Rattle.cdcl_learn.proofs.analysis.Analysis.uip.Given as goal

abbrev pub invariant-loop-place : goal.invariant-loop-place
invariant-loop-place l = record {
  activity_same : l.activity ≡ l.initial.activity;
  tallies : Tallies l.trail l.self.met.items l.self.pending l.bounds.root l.bounds.base l.self.literals.items;
  suffices : Suffices l.trail l.clauses l.self.met.items l.self.hints.items;
  some : 0 < l.self.pending;
  walked : (q : ℕ) → l.place ≤ q → IsMet l.self.met.items q → ⊥;
}
