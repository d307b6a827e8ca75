use Rattle.std.proofs.Common.{◌∙◌, ◌↔◌, Bool, List, ap, subst}
use Rattle.std.specs.List.{Contains}
use Rattle.refute_check.specs.cnf_core.Clauses.{Formula}
use Rattle.order_formula.specs.declared.group.Group.{Group}
use Rattle.why_impossible.specs.refute_core.Reached.{AreReached}
use Rattle.why_impossible.specs.reached_groups.helpers.Marked.{marked_from}
use Rattle.why_impossible.proofs.reached_groups.Marked.{are_reached}
use Rattle.why_impossible.proofs.reached_groups.groups.reached_groups.Goals as goal

pub returns : goal.returns
returns c =
    let formula = c.args.formula.now in
    let b = c.args.blasted.now in
    let lines = c.args.derivation.now in
    let marks = c.in_ok-marks.marks.items in
    let groups = c.put_in_order.new.groups.items in
    are_reached formula b lines marks groups (subst (λ (f : Formula). AreReached f lines marks) c.clauses.ensures c.in_ok-marks.ensures) c.requires.conjuncts
    c.in_ok-groups.ensures.fit c.put_in_order.ensures.rise
    (subst (λ (gs : List Group). (g : Group) → Contains gs g ↔ Contains groups g)
    (c.in_ok-groups.ensures.marked ∙ ap (λ (ms : List Bool). marked_from b ms 0 formula) c.as_slice.ensures.value) c.put_in_order.ensures.same)
