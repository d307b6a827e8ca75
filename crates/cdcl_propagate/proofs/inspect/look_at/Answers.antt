use Rattle.std.proofs.Common.{refl, rules}
use Rattle.std.specs.Prelude.{Contains}
use Rattle.cdcl_literals.specs.Literals.{opposite_of}
use Rattle.cdcl_clauses.specs.Clauses.{at}
use Rattle.cdcl_propagate.specs.helpers.Looks.{AllFalseBut}
use Rattle.cdcl_propagate.proofs.Looking.{all_false}
use Rattle.cdcl_propagate.proofs.inspect.look_at.Goals as goal

pub returns-in-False : goal.returns-in-False
returns-in-False c =
    let others : AllFalseBut c.args.trail.now (at c.args.clauses.now c.args.watch.clause).literals c.beside-other.result =
    rw c.literals.ensures at c.in_default.ensures in
    let false_there : Contains c.args.trail.now.literals (opposite_of c.beside-other.result) = c.in-False.ensures in (
      refl,
      record { watching = search rules; beside_it = refl },
      all_false c.args.trail.now (at c.args.clauses.now c.args.watch.clause).literals
          c.beside-other.result others false_there,
    )
