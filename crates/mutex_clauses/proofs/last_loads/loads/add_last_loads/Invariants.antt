use Rattle.std.proofs.Common.{◌≡◌, ◌+◌, ◌*◌, length, take}
use Rattle.std.specs.Prelude.{fold}
use Rattle.bit_gates.specs.Folded.{IsLarger}
use Rattle.mutex_clauses.specs.last_loads.helpers.Listed.{with_outside}
use Rattle.mutex_clauses.proofs.last_loads.loads.add_last_loads.Given as goal

abbrev pub invariant-loop-access : goal.invariant-loop-access
invariant-loop-access l = record {
  circuit : l.circuit ≡ fold
      (with_outside l.last.literals.paths.now l.last.literals.layout.now l.last.literals.conjuncts.now l.last.literals.roots.now l.last.terms.now
      l.last.ordered l.last.regions.now l.last.spots.now l.last.words.now) l.fn.circuit (take l.access-index l.accesses);
  larger : IsLarger (l.access-index * ((length l.last.regions.now + 1) * 3 + length l.last.spots.now * 64)) l.fn.circuit l.circuit;
}
