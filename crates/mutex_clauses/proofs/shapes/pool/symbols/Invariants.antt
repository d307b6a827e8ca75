use Rattle.std.proofs.Common.{◌≡◌, map}
use Rattle.std.specs.List.{range_with_len}
use Rattle.sym_terms.specs.declared.node.Node.TheVariants.{Symbol}
use Rattle.mutex_clauses.proofs.shapes.pool.symbols.Given as goal

abbrev pub invariant-loop-cell : goal.invariant-loop-cell
invariant-loop-cell l = record { terms : l.terms ≡ map Symbol (range_with_len 0 l.cell); slots : l.slots.items ≡ range_with_len 0 l.cell }
