use Rattle.std.proofs.Common.{ℕ, List, ℤ, ap, sym, ◌∙◌, subst}
use Rattle.bit_gates.specs.Folded.{Made}
use Rattle.bit_ops.specs.bit_words.Words.{AreWithin}
use Rattle.bit_order.specs.Layouts.{load_word}
use Rattle.bit_blast.specs.Reads.{with_clauses}
use Rattle.mutex_clauses.specs.last_loads.helpers.Listed.{after_made, spots_clauses}
use Rattle.mutex_clauses.proofs.last_loads.Bounds.{load_within, state_more}
use Rattle.mutex_clauses.proofs.last_loads.loads.add_load.Goals as goal

pub add_spots-requires-clause-within : goal.add_spots-requires-clause-within
add_spots-requires-clause-within c =
    let s = c.args.last.now in
    state_more c.args.circuit.now.vars c.after_all.new.circuit.vars s.literals.layout.now s.literals.roots.now s.ordered s.words.now
    c.in_ok-after.ensures.larger.0 c.requires.within

pub add_spots-requires-clause-word : goal.add_spots-requires-clause-word
add_spots-requires-clause-word c =
    let s = c.args.last.now in
    let n : ℕ = c.after_all.new.circuit.vars in
    let within = state_more c.args.circuit.now.vars n s.literals.layout.now s.literals.roots.now s.ordered s.words.now c.in_ok-after.ensures.larger.0
    c.requires.within in
    subst (AreWithin n) (sym c.load-word.ensures) (load_within n s.literals.layout.now c.args.load c.requires.load within.loads)

pub returns-clause-circuit : goal.returns-clause-circuit
returns-clause-circuit c =
    let s = c.args.last.now in
    let t = s.literals in
    let a = c.args.access.now in
    let after : Made = after_made t.paths.now t.layout.now t.conjuncts.now t.roots.now s.ordered s.regions.now c.args.circuit.now a in
    let clauses : List ℤ → ℤ → List (List ℤ) = spots_clauses s.terms.now s.spots.now s.words.now a.it.cell in
    c.in_ok-add_spots.ensures.circuit
    ∙ ap (λ f. with_clauses f (clauses c.load-word.result c.in_ok-after.after)) c.in_ok-after.ensures.formula
    ∙ ap (λ w. with_clauses after.formula (clauses w c.in_ok-after.after)) c.load-word.ensures
    ∙ ap (λ l. with_clauses after.formula (clauses (load_word t.layout.now c.args.load) l)) c.in_ok-after.ensures.literal
