use Rattle.std.proofs.Common.{◌≡◌, ℕ, ◌+◌, ◌<◌, List, ◌++◌, ℤ, pos, sym, ◌∙◌, subst, arith, length}
use Rattle.cnf_core.specs.Clauses.{Formula}
use Rattle.cnf_core.specs.declared.cnf.TheConstants.{LIMIT}
use Rattle.bit_words.specs.Words.{AreWithin}
use Rattle.mutex_clauses.specs.turns.Terms.{shape_clauses}
use Rattle.mutex_clauses.specs.turns.Turns.{among, leaves, rule_clauses}
use Rattle.mutex_clauses.proofs.turns.Among.{among_within}
use Rattle.mutex_clauses.proofs.turns.Loops.{room_two}
use Rattle.mutex_clauses.proofs.turns.turn.Turn.add_shaped.Goals as goal

pub add_rule-requires-clause-ranked : goal.add_rule-requires-clause-ranked
add_rule-requires-clause-ranked c =
    let t = c.args.self.now in
    let n : ℕ = c.args.circuit.now.vars in
    let one : 0 < n = omega (arith, c.vars-one.ensures.one, c.vars-one.ensures.vars) in
    subst (AreWithin n) (sym (c.as_slice.ensures.value ∙ c.in_ok-ranked.ensures))
    (among_within n t.ranked.now (leaves c.args.shape.now) c.args.steps.now one c.requires.within.ranked)

pub add_shape-requires-clause-room : goal.add_shape-requires-clause-room
add_shape-requires-clause-room c =
    let t = c.args.self.now in
    let f : Formula = c.args.circuit.now in
    let g : Formula = c.add_rule.new.circuit in
    let l : ℤ = c.literal_at-shaped.result in
    let shape : List ℕ = c.args.shape.now in
    let ranked : List ℤ = among t.ranked.now (leaves shape) c.args.steps.now in
    let here : List ℤ = c.as_slice.result.now in
    let rules : ℤ → List ℤ → List (List ℤ) = λ k ls. rule_clauses t.ordered k ls in
    let left : ℤ → List (List ℤ) = λ k. shape_clauses k (pos 1) t.words.now t.after.now shape in
    let first : length f.clauses + length (rules l ranked ++ left l) < LIMIT =
    subst (λ k. length f.clauses + length (rules k ranked ++ left k) < LIMIT) (sym c.literal_at-shaped.ensures) c.requires.room in
    let room : length f.clauses + length (rules l here ++ left l) < LIMIT =
    subst (λ ls. length f.clauses + length (rules l ls ++ left l) < LIMIT)
    (sym (c.as_slice.ensures.value ∙ c.in_ok-ranked.ensures)) first in
    let after : length g.clauses + length (left l) < LIMIT = room_two f g (rules l here) (left l) c.in_ok-add_rule.ensures.formula room in
    let same : c.as_slice-2.result.now ≡ shape = c.as_slice-2.ensures.value ∙ c.shape.view_is in
    subst (λ k. length g.clauses + length (shape_clauses l k t.words.now t.after.now c.as_slice-2.result.now) < LIMIT)
    (sym c.constant.ensures)
    (subst (λ xs. length g.clauses + length (shape_clauses l (pos 1) t.words.now t.after.now xs) < LIMIT) (sym same) after)
