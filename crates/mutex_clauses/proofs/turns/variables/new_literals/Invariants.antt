use Rattle.std.proofs.Common.{◌≡◌, ◌+◌}
use Rattle.bit_words.specs.Words.{AreWithin}
use Rattle.mutex_states.specs.Steps.{shaped_from}
use Rattle.mutex_clauses.proofs.turns.variables.new_literals.Given as goal

abbrev pub invariant-loop : goal.invariant-loop
invariant-loop l = record {
  literals : l.literals.items ≡ shaped_from l.initial.circuit.vars l.counter;
  vars : l.circuit.vars ≡ l.initial.circuit.vars + l.counter;
  clauses : l.circuit.clauses ≡ l.initial.circuit.clauses;
  within : AreWithin l.circuit.vars l.literals.items;
}
