use Rattle.std.proofs.Common.{◌≡◌, ℕ, ◌+◌, ◌<◌, List, [], ◌∷◌, ◌++◌, ℤ, ap, sym, ◌∙◌, subst, arith, length}
use Rattle.std.proofs.lemmas.List.{length-append}
use Rattle.cnf_core.specs.declared.cnf.TheConstants.{LIMIT}
use Rattle.mutex_states.specs.Steps.{Turn}
use Rattle.mutex_clauses.specs.shapes.Termed.{Termed, TermedSteps}
use Rattle.mutex_clauses.specs.turns.Turns.{all_regions, all_shaped, some_clause}
use Rattle.mutex_clauses.specs.turns.helpers.Within.{plain}
use Rattle.mutex_clauses.proofs.turns.Loops.{room_last, room_middle}
use Rattle.mutex_clauses.proofs.turns.turn.Turn.add_clauses.Goals as goal

-- the room in terms of the slices
room_of : (loads : List (List ℤ)) (roots : List ℤ) (t : Turn) (n : ℕ) (x : TermedSteps) (steps : List Termed) (shapes : List (List ℕ))
    → steps ≡ x.steps → shapes ≡ x.shapes
    → n + length (all_shaped loads roots t x.steps x.shapes ++ some_clause loads roots t x.steps ∷ all_regions loads roots t x.steps) <
    LIMIT
    → n + length (all_shaped loads roots t steps shapes ++ some_clause loads roots t steps ∷ all_regions loads roots t steps) < LIMIT
room_of loads roots t n x steps shapes p q room =
    subst (λ ys. n + length
    (all_shaped loads roots t steps ys ++ some_clause loads roots t steps ∷ all_regions loads roots t steps) < LIMIT) (sym q)
    (subst (λ xs. n + length (all_shaped loads roots t xs x.shapes ++ some_clause loads roots t xs ∷ all_regions loads roots t xs) < LIMIT)
    (sym p) room)

pub add_shapes-requires-clause-room : goal.add_shapes-requires-clause-room
add_shapes-requires-clause-room c =
    let t = c.args.self.now in
    let loads = t.loads.now in
    let roots = t.roots.now in
    let steps = c.as_slice-regions.result.now in
    let shapes = c.as_slice-shapes.result.now in
    let room = room_of loads roots (plain t) (length c.args.circuit.now.clauses) c.args.steps.now steps shapes
    (c.as_slice-regions.ensures.value ∙ ap (λ (x : TermedSteps). x.steps) c.steps.view_is)
    (c.as_slice-shapes.ensures.value ∙ ap (λ (x : TermedSteps). x.shapes) c.steps.view_is) c.requires.room in
    omega (
      arith,
      room,
      length-append (all_shaped loads roots (plain t) steps shapes)
          (some_clause loads roots (plain t) steps ∷ all_regions loads roots (plain t) steps),
    )

pub add_some-requires-clause-room : goal.add_some-requires-clause-room
add_some-requires-clause-room c =
    let t = c.args.self.now in
    let loads = t.loads.now in
    let roots = t.roots.now in
    let steps = c.as_slice-regions.result.now in
    let shapes = c.as_slice-shapes.result.now in
    let room = room_of loads roots (plain t) (length c.args.circuit.now.clauses) c.args.steps.now steps shapes
    (c.as_slice-regions.ensures.value ∙ ap (λ (x : TermedSteps). x.steps) c.steps.view_is)
    (c.as_slice-shapes.ensures.value ∙ ap (λ (x : TermedSteps). x.shapes) c.steps.view_is) c.requires.room in
    room_middle c.args.circuit.now c.add_shapes.new.circuit (all_shaped loads roots (plain t) steps shapes)
    (some_clause loads roots (plain t) steps ∷ [])
    (all_regions loads roots (plain t) steps) c.in_ok-add_shapes.ensures.formula room

pub add_regions-requires-clause-room : goal.add_regions-requires-clause-room
add_regions-requires-clause-room c =
    let t = c.args.self.now in
    let loads = t.loads.now in
    let roots = t.roots.now in
    let steps = c.as_slice-regions.result.now in
    let shapes = c.as_slice-shapes.result.now in
    let room = room_of loads roots (plain t) (length c.args.circuit.now.clauses) c.args.steps.now steps shapes
    (c.as_slice-regions.ensures.value ∙ ap (λ (x : TermedSteps). x.steps) c.steps.view_is)
    (c.as_slice-shapes.ensures.value ∙ ap (λ (x : TermedSteps). x.shapes) c.steps.view_is) c.requires.room in
    room_last c.args.circuit.now c.add_shapes.new.circuit (all_shaped loads roots (plain t) steps shapes)
    (some_clause loads roots (plain t) steps ∷ [])
    (all_regions loads roots (plain t) steps) c.in_ok-add_shapes.ensures.formula room c.add_some.new.circuit
    c.in_ok-add_some.ensures.formula
