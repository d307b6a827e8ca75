use Rattle.std.proofs.Common.{◌≡◌, ◌+◌, ◌-◌, ◌≤◌, length, max, take, vec_capacity}
use Rattle.sym_terms.specs.Values.{values_of}
use Rattle.sym_terms.proofs.values.value.Given as goal

abbrev pub invariant-loop-nodes : goal.invariant-loop-nodes
invariant-loop-nodes l = record {
  known : l.values-inside.known.items ≡ values_of (take (length l.values-inside.known.items) l.nodes) l.values-inside.symbols.items;
  symbols : l.values-inside.symbols.items ≡ l.initial.values-inside.symbols.items;
  room : vec_capacity l.initial.values-inside.known ≤ vec_capacity l.values-inside.known;
  spare : length l.nodes ≤ vec_capacity l.values-inside.known;
  kept : length l.initial.values-inside.known.items ≤ length l.values-inside.known.items;
  needed : length l.values-inside.known.items ≤ max (length l.initial.values-inside.known.items) (l.id + 1);
}

abbrev pub decreases-loop-nodes : goal.decreases-loop-nodes
decreases-loop-nodes l = l.id + 1 - length l.values-inside.known.items
