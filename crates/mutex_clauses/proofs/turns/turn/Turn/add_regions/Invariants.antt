use Rattle.std.proofs.Common.{◌≡◌, take}
use Rattle.bit_blast.specs.Reads.{with_clauses}
use Rattle.mutex_clauses.specs.turns.Turns.{all_regions}
use Rattle.mutex_clauses.specs.turns.helpers.Within.{plain}
use Rattle.mutex_clauses.proofs.turns.turn.Turn.add_regions.Given as goal

abbrev pub invariant-loop-region : goal.invariant-loop-region
invariant-loop-region l = record {
  formula : l.circuit ≡ with_clauses l.initial.circuit
      (all_regions l.self.loads.now l.self.roots.now (plain l.self) (take l.region l.steps));
  vars : l.circuit.vars ≡ l.initial.circuit.vars;
}
