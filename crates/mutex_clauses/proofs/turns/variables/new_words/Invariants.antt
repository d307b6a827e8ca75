use Rattle.std.proofs.Common.{◌≡◌, ◌+◌, ◌*◌}
use Rattle.std.specs.List.{All}
use Rattle.bit_words.specs.Words.{AreWithin}
use Rattle.mutex_states.specs.Steps.{after_from}
use Rattle.mutex_clauses.proofs.turns.variables.new_words.Given as goal

abbrev pub invariant-loop : goal.invariant-loop
invariant-loop l = record {
  words : l.words.items ≡ after_from l.initial.circuit.vars l.counter;
  vars : l.circuit.vars ≡ l.initial.circuit.vars + 32 * l.counter;
  clauses : l.circuit.clauses ≡ l.initial.circuit.clauses;
  within : All (AreWithin l.circuit.vars) l.words.items;
}
