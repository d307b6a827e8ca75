use Rattle.std.proofs.Common.{◌≡◌, ◌+◌, ◌≤◌, length, take}
use Rattle.bit_blast.specs.Reads.{with_clauses}
use Rattle.mutex_states.specs.Ranks.{excluding}
use Rattle.mutex_states.proofs.ranks.exclude.Given as goal

abbrev pub invariant-loop-other : goal.invariant-loop-other
invariant-loop-other l = record {
  circuit : l.circuit ≡ with_clauses l.initial.circuit (excluding l.literal (take l.other-index l.others));
  vars : l.circuit.vars ≡ l.initial.circuit.vars;
  few : length l.circuit.clauses ≤ length l.initial.circuit.clauses + l.other-index;
}
