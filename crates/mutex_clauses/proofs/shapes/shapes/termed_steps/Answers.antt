use Rattle.std.proofs.Common.{◌≡◌, ◌∙◌, ℕ, List, [], length, map, ap, subst, sym}
use Rattle.std.specs.Prelude.{filter, fold, IsTrue}
use Rattle.std.specs.List.{All, flat_map}
use Rattle.indexmap.specs.IndexSet.{insert_key}
use Rattle.tc_code.specs.Expr.{names_slots}
use Rattle.mutex_states.specs.Steps.{exprs_of, pool, same_shape, shapes}
use Rattle.mutex_clauses.specs.shapes.Termed as spec
use Rattle.mutex_clauses.specs.shapes.Termed.{AreBelow, Termed, termed_by}
use Rattle.mutex_clauses.specs.shapes.helpers.Pooled.{AllOf, IsIn, IsNamed, Pooled, term_in}
use Rattle.mutex_clauses.proofs.shapes.Again.{all_in, all_named, is_whole, whole}
use Rattle.mutex_clauses.proofs.shapes.Below.{termed_below}
use Rattle.mutex_clauses.proofs.shapes.Parts.{of_steps, shapes_alike}
use Rattle.mutex_clauses.proofs.shapes.shapes.termed_steps.Goals as goal

pub add_steps-requires : goal.add_steps-requires
add_steps-requires c =
    let steps = c.args.steps.now in
    of_steps (IsNamed c.in_ok-pool.pool) steps
    (subst (λ (slots : List ℕ). All (λ e. IsTrue (names_slots (length slots) e)) (flat_map exprs_of steps)) (sym c.in_ok-pool.ensures.slots)
    (all_named c.args.cells (flat_map exprs_of steps) c.requires))

pub steps-requires : goal.steps-requires
steps-requires c =
    let steps = c.args.steps.now in
    let es = flat_map exprs_of steps in
    let is : c.add_steps.new.self ≡ whole c.args.cells es =
    is_whole c.args.cells es c.in_ok-pool.pool c.add_steps.new.self c.in_ok-pool.ensures.nodes c.in_ok-pool.ensures.slots
    c.in_ok-add_steps.ensures.nodes c.add_steps.ensures.slots in
    subst (λ (p : Pooled). All (AllOf (IsIn p)) steps) (sym is)
    (of_steps (IsIn (whole c.args.cells es)) steps (all_in c.args.cells es c.requires))

pub returns-clause-made : goal.returns-clause-made
returns-clause-made c =
    let cells = c.args.cells in
    let steps = c.args.steps.now in
    let es = flat_map exprs_of steps in
    let is : c.add_steps.new.self ≡ whole cells es =
    is_whole cells es c.in_ok-pool.pool c.add_steps.new.self c.in_ok-pool.ensures.nodes c.in_ok-pool.ensures.slots
    c.in_ok-add_steps.ensures.nodes c.add_steps.ensures.slots in
    let termed : c.in_ok-steps.steps.items ≡ map (spec.termed cells steps) steps =
    c.in_ok-steps.ensures.termed ∙ ap (λ (p : Pooled). map (termed_by (term_in p)) steps) is in
    let shapes_in : List Termed → List (List ℕ) =
    λ ts. fold (insert_key same_shape) [] (map (λ (t : Termed). t.shape) (filter (λ (t : Termed). t.is_closed) ts)) in
    let found : c.in_ok-shapes.shapes.items ≡ shapes cells steps =
    c.in_ok-shapes.ensures ∙ ap shapes_in (c.as_slice.ensures.value ∙ termed)
    ∙ ap (fold (insert_key same_shape) []) (shapes_alike (term_in (whole cells es)) steps) in
    let nodes : c.pool-2.inside.terms ≡ pool cells steps =
    ap (λ (p : Pooled). p.nodes) (c.pool-2.view_is ∙ c.in_ok-steps.ensures.same ∙ is) in
    λ i. record { terms = nodes i; steps = termed i; shapes = found i }

pub returns-clause-below : goal.returns-clause-below
returns-clause-below c =
    subst (AreBelow (length (pool c.args.cells c.args.steps.now))) (sym (returns-clause-made c))
    (termed_below c.args.cells c.args.steps.now c.requires)
