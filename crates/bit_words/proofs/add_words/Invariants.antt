use Rattle.std.proofs.Common.{◌≡◌, ◌≤◌, ◌*◌, length}
use Rattle.cnf_core.specs.Clauses.{var_of}
use Rattle.bit_gates.specs.Folded.{IsLarger, kept}
use Rattle.bit_words.specs.Words.{AreWithin, added_place, word_sum}
use Rattle.bit_words.proofs.Loops.{IsReached}
use Rattle.bit_words.proofs.add_words.Given as goal

abbrev pub invariant-loop-place : goal.invariant-loop-place
invariant-loop-place l = record {
  reached : IsReached added_place (word_sum l.initial.circuit l.initial.word l.other l.initial.carry) l.place (kept l.circuit l.carry) l.word l.other;
  within : AreWithin l.circuit.vars l.word;
  carry : var_of l.carry ≤ l.circuit.vars;
  length : length l.word ≡ length l.initial.word;
  larger : IsLarger (17 * l.place) l.initial.circuit l.circuit;
}
