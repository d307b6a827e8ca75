use Rattle.std.proofs.Common.{◌∙◌, ap₂, nat_eq}
use Rattle.std.specs.Cmp.Lexicographic.{pointwise}
use Rattle.mutex_clauses.proofs.shapes.Parts.{same_lists}
use Rattle.mutex_clauses.proofs.shapes.steps.Shape.is_same.Goals as goal

pub returns : goal.returns
returns c = c.eq.ensures ∙ ap₂ (pointwise nat_eq) c.self.view_is c.other.view_is ∙ same_lists c.args.self.now c.args.other.now
