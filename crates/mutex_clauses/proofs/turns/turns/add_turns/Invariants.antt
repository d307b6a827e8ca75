use Rattle.std.proofs.Common.{◌≡◌, ◌*◌, List, length}
use Rattle.std.specs.List.{All}
use Rattle.bit_gates.specs.Folded.{IsLarger}
use Rattle.bit_words.specs.Words.{AreWithin}
use Rattle.mutex_states.specs.circuit_sizes.Small.{IsShort}
use Rattle.mutex_states.specs.Steps.{Step}
use Rattle.mutex_clauses.specs.shapes.Termed.{termed_steps}
use Rattle.mutex_clauses.specs.turns.Turns.{next_size, turns_over}
use Rattle.mutex_clauses.proofs.turns.turns.add_turns.Given as goal

abbrev pub invariant-loop-rank : goal.invariant-loop-rank
invariant-loop-rank l = record {
  words : l.words.items
      ≡ (turns_over (length l.fn.first.items) l.turns.termed.now l.turns.loads.now l.turns.roots.now l.turns.ordered l.turns.ranks.now.start
      (record { formula = l.fn.circuit; words = l.fn.first.items }) l.rank).words;
  formula : l.circuit
      ≡ (turns_over (length l.fn.first.items) l.turns.termed.now l.turns.loads.now l.turns.roots.now l.turns.ordered l.turns.ranks.now.start
      (record { formula = l.fn.circuit; words = l.fn.first.items }) l.rank).formula;
  count : length l.words.items ≡ length l.fn.first.items;
  within : All (AreWithin l.circuit.vars) l.words.items;
  short : All IsShort l.words.items;
  larger : (list : List Step) → l.turns.termed.now ≡ termed_steps (length l.fn.first.items) list
      → IsLarger (l.rank * next_size (length l.fn.first.items) list) l.fn.circuit l.circuit;
}
