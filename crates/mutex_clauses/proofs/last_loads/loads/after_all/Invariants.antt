use Rattle.std.proofs.Common.{◌≡◌, ◌+◌, ◌*◌, ◌≤◌, false, get_or, take}
use Rattle.std.specs.Prelude.{fold}
use Rattle.path_walk.specs.declared.event.Region.{Region}
use Rattle.order_events.specs.lawful_order.Events.{Placed}
use Rattle.cnf_core.specs.Clauses.{var_of}
use Rattle.bit_gates.specs.Folded.{IsLarger, Made, conjunction, constant, kept}
use Rattle.mutex_states.specs.InOrder.{read_number}
use Rattle.mutex_clauses.specs.last_loads.helpers.Listed.{ends_before}
use Rattle.mutex_clauses.proofs.last_loads.loads.after_all.Given as goal

abbrev pub invariant-loop-region : goal.invariant-loop-region
invariant-loop-region l = record {
  all : kept l.circuit l.all ≡ fold
      (λ (k : Made) (r : Placed Region). conjunction k.formula k.literal (ends_before l.last.literals.paths.now l.last.literals.layout.now l.access r))
      (conjunction l.fn.circuit l.last.ordered
      (get_or l.last.literals.roots.now (read_number l.last.literals.paths.now l.last.literals.conjuncts.now l.access) (constant false)))
      (take l.region-index l.last.regions.now);
  known : var_of l.all ≤ l.circuit.vars;
  larger : IsLarger (3 + 3 * l.region-index) l.fn.circuit l.circuit;
}
