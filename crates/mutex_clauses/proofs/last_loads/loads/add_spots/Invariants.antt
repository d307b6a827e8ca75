use Rattle.std.proofs.Common.{◌≡◌, ◌+◌, ◌*◌, ◌≤◌, length, take}
use Rattle.bit_blast.specs.Reads.{with_clauses}
use Rattle.mutex_clauses.specs.last_loads.helpers.Listed.{spots_clauses}
use Rattle.mutex_clauses.proofs.last_loads.loads.add_spots.Given as goal

abbrev pub invariant-loop-place : goal.invariant-loop-place
invariant-loop-place l = record {
  circuit : l.circuit ≡ with_clauses l.fn.circuit
      (spots_clauses l.last.terms.now (take l.place l.last.spots.now) l.last.words.now l.late.cell l.late.word l.late.after);
  vars : l.circuit.vars ≡ l.fn.circuit.vars;
  few : length l.circuit.clauses ≤ length l.fn.circuit.clauses + l.place * 64;
}
