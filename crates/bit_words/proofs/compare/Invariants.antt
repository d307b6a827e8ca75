use Rattle.std.proofs.Common.{◌≡◌, ◌≤◌, ◌*◌, drop}
use Rattle.cnf_core.specs.Clauses.{var_of}
use Rattle.bit_gates.specs.Folded.{IsLarger, kept}
use Rattle.bit_words.specs.Words.{less_literal}
use Rattle.bit_words.proofs.compare.Given as goal

abbrev pub invariant-loop-place : goal.invariant-loop-place
invariant-loop-place l = record {
  all : less_literal (kept l.initial.circuit l.initial.low) l.a l.b ≡ less_literal (kept l.circuit l.low) (drop l.place l.a) (drop l.place l.b);
  low : var_of l.low ≤ l.circuit.vars;
  larger : IsLarger (12 * l.place) l.initial.circuit l.circuit;
}
