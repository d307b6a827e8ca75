use Rattle.std.proofs.Common.{subst₂, sym}
use Rattle.sym_exec.specs.Thread.{AreOf}
use Rattle.mutex_states.proofs.Pool.{slots_of}
use Rattle.mutex_clauses.proofs.shapes.pool.Pool.new.Goals as goal

pub invariant_of-result : goal.invariant_of-result
invariant_of-result c = subst₂ AreOf (sym c.in_ok-slots.ensures.terms) (sym c.in_ok-slots.ensures.slots) (slots_of c.args.cells)
