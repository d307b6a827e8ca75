use Rattle.std.proofs.Common.{List, subst, sym}
use Rattle.std.specs.List.{All}
use Rattle.order_formula.specs.declared.group.Group.{Group}
use Rattle.why_impossible.specs.helpers.There.{IsThere}
use Rattle.why_impossible.proofs.There.{groups_there}
use Rattle.why_impossible.proofs.explained.reasons.Goals as goal

pub named-requires : goal.named-requires
named-requires c =
    let paths = c.paths-paths.result.now in
    let groups = c.in_ok-groups.groups.items in
    subst (λ (gs : List Group). All (IsThere paths) gs) (sym c.as_slice.ensures.value)
    (groups_there paths c.formula.result.now c.blasted.result.now c.args.derivation.now groups c.in_ok-groups.ensures
    (rw (c.paths-paths.ensures, c.formula.ensures) c.requires.there))
