-- The room for what steps add at one rank, and at all ranks.
use Rattle.std.proofs.Common.{◌≡◌, ℕ, suc, ◌+◌, ◌*◌, ◌<◌, ◌≤◌, List, [], ◌∷◌, ℤ, ap, sym, subst, arith, length}
use Rattle.std.specs.Prelude.{sum_by}
use Rattle.std.specs.List.{All, range_with_len}
use Rattle.std.proofs.lemmas.List.Elements.{All-map}
use Rattle.std.proofs.lemmas.List.Sums.{sum_by-cons}
use Rattle.cnf_core.specs.Clauses.{Formula}
use Rattle.cnf_core.specs.declared.cnf.TheConstants.{LIMIT}
use Rattle.bit_gates.specs.Folded.{HasRoom, IsLarger}
use Rattle.bit_words.specs.Words.{Walked}
use Rattle.bit_order.specs.Layouts.{word_from}
use Rattle.bit_order.proofs.WordLaws.{length_word}
use Rattle.bit_terms.specs.Sizes.{terms_size}
use Rattle.bit_terms.specs.Terms.{Words, term_words, word_at}
use Rattle.bit_blast.proofs.Lists.{all_of}
use Rattle.mutex_states.specs.circuit_sizes.Small.{IsShort}
use Rattle.mutex_states.specs.Ranks.{with_rank}
use Rattle.mutex_states.specs.Sizes.{region_size, shape_size, turn_size}
use Rattle.mutex_states.specs.Steps.{State, Step, Turn, after_from, shapes}
use Rattle.mutex_states.proofs.Bounds.{after_short, at_least, turn_few}
use Rattle.mutex_states.proofs.Larger.{times_le}
use Rattle.mutex_clauses.specs.shapes.Termed.{TermedSteps, termed_steps}
use Rattle.mutex_clauses.specs.turns.Turns.{next_over, rank_clauses}
use Rattle.mutex_clauses.proofs.turns.Same.{rank_same}

pub next_short : (cells : ℕ) (x : TermedSteps) (loads : List (List ℤ)) (roots : List ℤ) (ordered : ℤ) (start : ℕ) (s : State) (rank : ℕ)
    → All IsShort (next_over cells x loads roots ordered start s rank).words
next_short cells x loads roots ordered start s rank =
    let r : Walked Formula = with_rank (length x.steps) start rank s.formula in
    let w : Words = term_words x.terms s.words r.state in
    after_short (w.formula.vars + length x.shapes) cells

module _ (cells : ℕ) (list : List Step) (x : TermedSteps) (made : x ≡ termed_steps cells list) (f g : Formula)
    (room : HasRoom (turn_size cells list) f)
    (larger : IsLarger (terms_size x.terms) f g)
  where
    abbrev own : ℕ
    own = sum_by (shape_size (length list)) (shapes cells list) + sum_by region_size list

    size_is : turn_size cells list ≡ terms_size x.terms + (32 * cells + 1 + own)
    size_is = ap (λ (y : TermedSteps). terms_size y.terms + (32 * cells + 1 + own)) (sym made)

    few_shapes : length x.shapes ≤ own
    few_shapes =
        let same : length x.shapes ≡ length (shapes cells list) = ap (λ (y : TermedSteps). length y.shapes) made in
        let few : length (shapes cells list) ≤ sum_by (shape_size (length list)) (shapes cells list) =
        at_least (shape_size (length list)) (shapes cells list) (λ shape. omega arith) in
        omega (arith, same, few)

    pub vars_room : g.vars + (length x.shapes + 32 * cells) < LIMIT
    vars_room =
        let low : f.vars + turn_size cells list < LIMIT = room.0 in
        let high : g.vars ≤ f.vars + terms_size x.terms = larger.1 in
        omega (arith, low, high, size_is, few_shapes)

    pub clauses_room : (loads : List (List ℤ)) (roots : List ℤ) (t : Turn) → ((term : ℕ) → length (word_at t.words term) ≤ 32)
        → length g.clauses + length (rank_clauses loads roots t x) < LIMIT
    clauses_room loads roots t wide =
        let same : length (rank_clauses loads roots t x) ≡ length (rank_clauses loads roots t (termed_steps cells list)) =
        ap (λ (y : TermedSteps). length (rank_clauses loads roots t y)) made in
        let few : length (rank_clauses loads roots t (termed_steps cells list)) ≤ 1 + own =
        subst (λ (cs : List (List ℤ)). length cs ≤ 1 + own) (sym (rank_same cells list loads roots t))
        (turn_few cells list loads roots t wide) in
        let low : length f.clauses + turn_size cells list < LIMIT = room.1 in
        let high : length g.clauses ≤ length f.clauses + terms_size x.terms = larger.2 in
        omega (arith, same, few, low, high, size_is)

pub more_times : (k n : ℕ) → (k + 1) * n ≡ k * n + n
more_times k n = omega arith

-- after some ranks there is room for the next
pub next_room : (count each rank : ℕ) (f g : Formula) → HasRoom (count * each) f → IsLarger (rank * each) f g → rank < count
    → HasRoom each g
next_room count each rank f g room larger below =
    let most : (rank + 1) * each ≤ count * each = times_le (rank + 1) count each (omega (arith, below)) in
    let one : (rank + 1) * each ≡ rank * each + each = more_times rank each in
    let vars : f.vars + count * each < LIMIT = room.0 in
    let clauses : length f.clauses + count * each < LIMIT = room.1 in
    let high : g.vars ≤ f.vars + rank * each = larger.1 in
    let long : length g.clauses ≤ length f.clauses + rank * each = larger.2 in
    (omega (arith, most, one, vars, high), omega (arith, most, one, clauses, long))
