use Rattle.std.proofs.Common.{rules}
use Rattle.mutex_clauses.specs.shapes.helpers.Pooled.{term_in}
use Rattle.mutex_clauses.proofs.shapes.Parts.{is_termed}
use Rattle.mutex_clauses.proofs.shapes.pool.Pool.step.Goals as goal

pub returns-clause-termed : goal.returns-clause-termed
returns-clause-termed c =
    is_termed (term_in c.args.self.now) c.args.step.now c.is_closed.result c.in_ok-shape.shape c.in_ok-cells.cells.items
    c.in_ok-loads.loads.items c.in_ok-tests.tests.items (search rules) (search rules) (search rules) (search rules) (search rules)
