use Rattle.std.proofs.Common.{◌≡◌, ℕ, suc, ◌+◌, ◌*◌, List, ℤ, ap, sym, ◌∙◌, subst, arith, length}
use Rattle.std.specs.List.{All, range_with_len}
use Rattle.std.proofs.lemmas.List.{length-map}
use Rattle.std.proofs.lemmas.List.FromFn.{length-range_with_len}
use Rattle.cnf_core.specs.Clauses.{Formula}
use Rattle.bit_gates.specs.Folded.{IsLarger}
use Rattle.bit_order.specs.Layouts.{word_from}
use Rattle.bit_terms.specs.Sizes.{terms_size}
use Rattle.bit_terms.specs.Terms.{Words, term_words}
use Rattle.bit_blast.specs.Reads.{with_clauses}
use Rattle.bit_blast.proofs.Loops.{formula_of}
use Rattle.mutex_states.specs.circuit_sizes.Small.{IsShort}
use Rattle.mutex_states.proofs.circuit_sizes.Terms.{short_at, terms_small}
use Rattle.mutex_states.specs.Sizes.{turn_size}
use Rattle.mutex_states.specs.Steps.{State, Turn, after_from, shaped_from}
use Rattle.mutex_states.proofs.Bounds.{turn_larger}
use Rattle.mutex_clauses.specs.shapes.Termed.{TermedSteps}
use Rattle.mutex_clauses.specs.turns.Turns.{rank_clauses, turn_over}
use Rattle.mutex_clauses.proofs.turns.Room.{clauses_room, vars_room}
use Rattle.mutex_clauses.proofs.turns.Same.{turn_same}
use Rattle.mutex_clauses.proofs.turns.turns.Turns.turn.Goals as goal

pub new_literals-requires : goal.new_literals-requires
new_literals-requires c =
    let x : TermedSteps = c.args.self.now.termed.now in
    let cells : ℕ = length c.args.before.now in
    let f : Formula = c.args.circuit.now in
    let g : Formula = c.term_words.new.circuit in
    let larger : IsLarger (terms_size x.terms) f g =
    subst (λ ts. IsLarger (terms_size ts) f g) (ap (λ (y : TermedSteps). y.terms) c.termed.view_is) c.in_ok-words.ensures.larger in
    let many : length c.as_slice-shapes.result.now ≡ length x.shapes =
    ap length (c.as_slice-shapes.ensures.value ∙ ap (λ (y : TermedSteps). y.shapes) c.termed.view_is) in
    record { room = omega (arith, many, vars_room cells c.requires.room.list x c.requires.room.made f g c.requires.room.room larger) }

pub new_words-requires : goal.new_words-requires
new_words-requires c =
    let x : TermedSteps = c.args.self.now.termed.now in
    let cells : ℕ = length c.args.before.now in
    let f : Formula = c.args.circuit.now in
    let g : Formula = c.term_words.new.circuit in
    let larger : IsLarger (terms_size x.terms) f g =
    subst (λ ts. IsLarger (terms_size ts) f g) (ap (λ (y : TermedSteps). y.terms) c.termed.view_is) c.in_ok-words.ensures.larger in
    let many : length c.as_slice-shapes.result.now ≡ length x.shapes =
    ap length (c.as_slice-shapes.ensures.value ∙ ap (λ (y : TermedSteps). y.shapes) c.termed.view_is) in
    record {
      room = omega (
        arith,
        many,
        c.in_ok-shaped.ensures.vars,
        vars_room cells c.requires.room.list x c.requires.room.made f g c.requires.room.room larger,
      );
    }

pub add_clauses-requires-clause-room : goal.add_clauses-requires-clause-room
add_clauses-requires-clause-room c =
    let x : TermedSteps = c.args.self.now.termed.now in
    let before : List (List ℤ) = c.args.before.now in
    let f : Formula = c.args.circuit.now in
    let g : Formula = c.term_words.new.circuit in
    let terms : c.termed.inside.terms ≡ x.terms = ap (λ (y : TermedSteps). y.terms) c.termed.view_is in
    let larger : IsLarger (terms_size x.terms) f g = subst (λ ts. IsLarger (terms_size ts) f g) terms c.in_ok-words.ensures.larger in
    let words : List (List ℤ) = c.as_slice-2.result.now in
    let is : words ≡ (term_words x.terms before f).words =
    c.as_slice-2.ensures.value ∙ c.in_ok-words.ensures.words ∙ ap (λ ts. (term_words ts before f).words) terms in
    let short : All IsShort words = subst (All IsShort) (sym is) (terms_small x.terms before f c.requires.short).short in
    let t : Turn = record {
      ordered = c.args.self.now.ordered;
      ranked = c.args.ranked.now;
      shaped = c.as_slice.result.now;
      words = words;
      after = c.as_slice-3.result.now;
    } in
    let same : c.new_words.new.circuit.clauses ≡ g.clauses = c.new_words.ensures.clauses ∙ c.new_literals.ensures.clauses in
    omega (
      arith,
      ap length same,
      clauses_room (length before) c.requires.room.list x c.requires.room.made f g c.requires.room.room larger c.args.self.now.loads.now
          c.args.self.now.roots.now t (λ term. short_at words term short),
    )

same_turn : (ordered : ℤ) (ranked s p : List ℤ) (w q a r : List (List ℤ)) → s ≡ p → w ≡ q → a ≡ r
    → (let t : Turn = record { ordered = ordered; ranked = ranked; shaped = s; words = w; after = a } in t)
    ≡ (let t : Turn = record { ordered = ordered; ranked = ranked; shaped = p; words = q; after = r } in t)
same_turn ordered ranked s p w q a r one two three =
    ap (λ k. let t : Turn = record { ordered = ordered; ranked = ranked; shaped = k; words = w; after = a } in t) one
    ∙ ap (λ k. let t : Turn = record { ordered = ordered; ranked = ranked; shaped = p; words = k; after = a } in t) two
    ∙ ap (λ k. let t : Turn = record { ordered = ordered; ranked = ranked; shaped = p; words = q; after = k } in t) three

pub returns-clause-formula : goal.returns-clause-formula
returns-clause-formula c =
    let x : TermedSteps = c.args.self.now.termed.now in
    let before : List (List ℤ) = c.args.before.now in
    let cells : ℕ = length before in
    let loads : List (List ℤ) = c.args.self.now.loads.now in
    let roots : List ℤ = c.args.self.now.roots.now in
    let ordered : ℤ = c.args.self.now.ordered in
    let ranked : List ℤ = c.args.ranked.now in
    let f : Formula = c.args.circuit.now in
    let g : Formula = c.term_words.new.circuit in
    let base : Formula = c.new_words.new.circuit in
    let w : Words = term_words x.terms before f in
    let n : ℕ = w.formula.vars in
    let many : ℕ = length x.shapes in
    let terms : c.termed.inside.terms ≡ x.terms = ap (λ (y : TermedSteps). y.terms) c.termed.view_is in
    let made : g ≡ w.formula = c.in_ok-words.ensures.formula ∙ ap (λ ts. (term_words ts before f).formula) terms in
    let count : length c.as_slice-shapes.result.now ≡ many =
    ap length (c.as_slice-shapes.ensures.value ∙ ap (λ (y : TermedSteps). y.shapes) c.termed.view_is) in
    let first : g.vars ≡ n = ap (λ (k : Formula). k.vars) made in
    let second : c.new_literals.new.circuit.vars ≡ n + many = omega (arith, c.in_ok-shaped.ensures.vars, first, count) in
    let wide : base ≡ record { vars = n + (many + 32 * cells); clauses = w.formula.clauses } =
    formula_of base (n + (many + 32 * cells)) w.formula.clauses (omega (arith, c.in_ok-after.ensures.vars, second))
    (c.new_words.ensures.clauses ∙ c.new_literals.ensures.clauses ∙ ap (λ (k : Formula). k.clauses) made) in
    let shaped : c.as_slice.result.now ≡ shaped_from n many =
    c.as_slice.ensures.value ∙ c.in_ok-shaped.ensures.literals ∙ ap (λ k. shaped_from k (length c.as_slice-shapes.result.now)) first
    ∙ ap (shaped_from n) count in
    let words : c.as_slice-2.result.now ≡ w.words =
    c.as_slice-2.ensures.value ∙ c.in_ok-words.ensures.words ∙ ap (λ ts. (term_words ts before f).words) terms in
    let after : c.as_slice-3.result.now ≡ after_from (n + many) cells =
    c.as_slice-3.ensures.value ∙ c.in_ok-after.ensures.words ∙ ap (λ k. after_from k cells) second in
    let t : Turn =
    record {
      ordered = ordered;
      ranked = ranked;
      shaped = c.as_slice.result.now;
      words = c.as_slice-2.result.now;
      after = c.as_slice-3.result.now;
    } in
    c.in_ok-add_clauses.ensures.formula ∙ ap (λ k. with_clauses k (rank_clauses loads roots t x)) wide
    ∙ ap (λ (u : Turn). let k : Formula = record { vars = n + (many + 32 * cells); clauses = w.formula.clauses } in with_clauses k
    (rank_clauses loads roots u x))
    (same_turn ordered ranked c.as_slice.result.now (shaped_from n many) c.as_slice-2.result.now w.words c.as_slice-3.result.now
    (after_from (n + many) cells)
    shaped words after)

pub returns-clause-count : goal.returns-clause-count
returns-clause-count c =
    let cells : ℕ = length c.args.before.now in
    let n : ℕ = c.new_literals.new.circuit.vars in
    ap length c.in_ok-after.ensures.words ∙ length-map (range_with_len 0 cells) (λ k. word_from (suc n + 32 * k) 32)
    ∙ length-range_with_len 0 cells

pub returns-clause-larger : goal.returns-clause-larger
returns-clause-larger c list made =
    let x : TermedSteps = c.args.self.now.termed.now in
    let before : List (List ℤ) = c.args.before.now in
    let cells : ℕ = length before in
    let loads : List (List ℤ) = c.args.self.now.loads.now in
    let roots : List ℤ = c.args.self.now.roots.now in
    let ordered : ℤ = c.args.self.now.ordered in
    let ranked : List ℤ = c.args.ranked.now in
    let f : Formula = c.args.circuit.now in
    let s : State = record { formula = f; words = before } in
    let is =
    returns-clause-formula c ∙ ap (λ y. (turn_over cells y loads roots ordered ranked s).formula) made
    ∙ ap (λ (k : State). k.formula) (turn_same cells list loads roots ordered ranked s) in
    subst (IsLarger (turn_size cells list) f) (sym is) (turn_larger cells list loads roots ordered ranked s c.requires.short)
