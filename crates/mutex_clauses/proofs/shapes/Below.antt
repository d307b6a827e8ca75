-- The terms of steps are among those of all their expressions.
use Rattle.std.proofs.Common.{ℕ, ◌<◌, List, [], length, map, ap, subst}
use Rattle.std.specs.Prelude.{fold, IsTrue}
use Rattle.std.specs.List.{All, flat_map}
use Rattle.indexmap.specs.IndexSet.{insert_key}
use Rattle.tc_code.specs.Expr.{Expr, names_slots}
use Rattle.mutex_states.specs.Steps.{Step, exprs_of, pool, same_shape}
use Rattle.mutex_clauses.specs.shapes.Termed.{AreBelow, IsBelow, termed, termed_steps}
use Rattle.mutex_clauses.specs.shapes.helpers.Pooled.{Pooled, term_in}
use Rattle.mutex_clauses.proofs.shapes.Again.{all_below, whole}
use Rattle.mutex_clauses.proofs.shapes.Parts.{of_steps, shapes_alike, shapes_below, steps_below}

pub termed_below : (cells : ℕ) (steps : List Step) → All (λ e. IsTrue (names_slots cells e)) (flat_map exprs_of steps)
    → AreBelow (length (pool cells steps)) (termed_steps cells steps)
termed_below cells steps named =
    let es : List Expr = flat_map exprs_of steps in
    let p : Pooled = whole cells es in
    let n : ℕ = length p.nodes in
    let each : All (IsBelow n) (map (termed cells steps) steps) =
    steps_below (term_in p) n steps (of_steps (λ e. term_in p e < n) steps (all_below cells es named)) in
    record {
      steps = each;
      shapes = subst (All (All (λ t. t < n))) (ap (fold (insert_key same_shape) []) (shapes_alike (term_in p) steps))
          (shapes_below n (map (termed cells steps) steps) each);
    }
