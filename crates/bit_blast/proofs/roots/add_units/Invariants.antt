use Rattle.std.proofs.Common.{◌≡◌, ◌∷◌, ◌++◌, [], map, take}
use Rattle.bit_blast.proofs.roots.add_units.Given as goal

abbrev pub invariant-loop-literal : goal.invariant-loop-literal
invariant-loop-literal l = record {
  vars : l.circuit.vars ≡ l.initial.circuit.vars;
  clauses : l.circuit.clauses ≡ l.initial.circuit.clauses ++ map (λ k. k ∷ []) (take l.literal-index l.literals);
}
