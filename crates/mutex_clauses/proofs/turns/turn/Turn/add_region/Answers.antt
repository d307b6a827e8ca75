use Rattle.std.proofs.Common.{◌≡◌, ◌+◌, ◌<◌, List, ◌++◌, ℤ, ap, sym, ◌∙◌, subst, length}
use Rattle.std.specs.List.{flat_map}
use Rattle.cnf_core.specs.Clauses.{Formula}
use Rattle.cnf_core.specs.declared.cnf.TheConstants.{LIMIT}
use Rattle.bit_blast.specs.Reads.{with_clauses}
use Rattle.mutex_clauses.specs.shapes.Termed.{Termed}
use Rattle.mutex_clauses.specs.turns.Terms.{load_clauses, test_clauses}
use Rattle.mutex_clauses.specs.turns.Turns.{open_clauses}
use Rattle.mutex_clauses.proofs.turns.Loops.{room_last, room_middle}
use Rattle.mutex_clauses.proofs.turns.turn.Turn.add_region.Goals as goal

pub add_loads-requires-clause-room : goal.add_loads-requires-clause-room
add_loads-requires-clause-room c =
    let t = c.args.self.now in
    let s : Termed = c.args.step.now in
    let f : Formula = c.args.circuit.now in
    let g : Formula = c.add_open.new.circuit in
    let l : ℤ = c.literal_at.result in
    let opens : ℤ → List (List ℤ) = λ k. open_clauses t.ordered k t.words.now t.after.now s in
    let takes : ℤ → List (List ℤ) = λ k. load_clauses t.ordered k t.words.now t.loads.now s.loads in
    let tests : ℤ → List (List ℤ) = λ k. flat_map (test_clauses t.ordered k t.words.now t.roots.now) s.tests in
    let room : length f.clauses + length (opens l ++ (takes l ++ tests l)) < LIMIT =
    subst (λ k. length f.clauses + length (opens k ++ (takes k ++ tests k)) < LIMIT) (sym c.literal_at.ensures) c.requires.room in
    let same : c.as_slice.result.now ≡ s.loads = c.as_slice.ensures.value ∙ ap (λ (x : Termed). x.loads) c.step.view_is in
    subst (λ xs. length g.clauses + length (load_clauses t.ordered l t.words.now t.loads.now xs) < LIMIT) (sym same)
    (room_middle f g (opens l) (takes l) (tests l) c.in_ok-add_open.ensures.formula room)

pub add_tests-requires-clause-room : goal.add_tests-requires-clause-room
add_tests-requires-clause-room c =
    let t = c.args.self.now in
    let s : Termed = c.args.step.now in
    let f : Formula = c.args.circuit.now in
    let g : Formula = c.add_open.new.circuit in
    let h : Formula = c.add_loads.new.circuit in
    let l : ℤ = c.literal_at.result in
    let opens : ℤ → List (List ℤ) = λ k. open_clauses t.ordered k t.words.now t.after.now s in
    let takes : ℤ → List (List ℤ) = λ k. load_clauses t.ordered k t.words.now t.loads.now s.loads in
    let tests : ℤ → List (List ℤ) = λ k. flat_map (test_clauses t.ordered k t.words.now t.roots.now) s.tests in
    let room : length f.clauses + length (opens l ++ (takes l ++ tests l)) < LIMIT =
    subst (λ k. length f.clauses + length (opens k ++ (takes k ++ tests k)) < LIMIT) (sym c.literal_at.ensures) c.requires.room in
    let loads : c.as_slice.result.now ≡ s.loads = c.as_slice.ensures.value ∙ ap (λ (x : Termed). x.loads) c.step.view_is in
    let same : c.as_slice-2.result.now ≡ s.tests = c.as_slice-2.ensures.value ∙ ap (λ (x : Termed). x.tests) c.step.view_is in
    subst (λ xs. length h.clauses + length (flat_map (test_clauses t.ordered l t.words.now t.roots.now) xs) < LIMIT) (sym same)
    (room_last f g (opens l) (takes l) (tests l) c.in_ok-add_open.ensures.formula room h
    (c.in_ok-add_loads.ensures.formula
    ∙ ap (λ xs. with_clauses g (load_clauses t.ordered l t.words.now t.loads.now xs)) loads))
