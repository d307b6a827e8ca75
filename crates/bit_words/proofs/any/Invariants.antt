use Rattle.std.proofs.Common.{◌≡◌, ◌≤◌, ◌*◌, drop, false}
use Rattle.cnf_core.specs.Clauses.{var_of}
use Rattle.bit_gates.specs.Folded.{IsLarger, constant, kept}
use Rattle.bit_words.specs.Words.{any_of}
use Rattle.bit_words.proofs.any.Given as goal

abbrev pub invariant-loop-lit : goal.invariant-loop-lit
invariant-loop-lit l = record {
  all : any_of (kept l.initial.circuit (constant false)) l.word ≡ any_of (kept l.circuit l.known) (drop l.lit-index l.word);
  known : var_of l.known ≤ l.circuit.vars;
  larger : IsLarger (3 * l.lit-index) l.initial.circuit l.circuit;
}
