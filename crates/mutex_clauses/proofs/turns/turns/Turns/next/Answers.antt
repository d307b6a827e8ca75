use Rattle.std.proofs.Common.{◌≡◌, ℕ, List, ℤ, ap, ◌∙◌, length}
use Rattle.cnf_core.specs.Clauses.{Formula}
use Rattle.bit_words.specs.Words.{Walked}
use Rattle.mutex_states.specs.Ranks.{with_rank}
use Rattle.mutex_states.specs.Steps.{State}
use Rattle.mutex_clauses.specs.shapes.Termed.{TermedSteps}
use Rattle.mutex_clauses.specs.turns.Turns.{turn_over}
use Rattle.mutex_clauses.proofs.turns.turns.Turns.next.Goals as goal

-- a turn over equal literals and an equal formula
same : (cells : ℕ) (x : TermedSteps) (loads : List (List ℤ)) (roots : List ℤ) (ordered : ℤ) (ranked : List ℤ) (g : Formula)
    (words : List (List ℤ))
    (r : Walked Formula) → ranked ≡ r.word → g ≡ r.state
    → turn_over cells x loads roots ordered ranked (record { formula = g; words = words })
    ≡ turn_over cells x loads roots ordered r.word (record { formula = r.state; words = words })
same cells x loads roots ordered ranked g words r one two =
    ap (λ ls. turn_over cells x loads roots ordered ls (record { formula = g; words = words })) one
    ∙ ap (λ k. turn_over cells x loads roots ordered r.word (record { formula = k; words = words })) two

pub returns-clause-words : goal.returns-clause-words
returns-clause-words c =
    let x : TermedSteps = c.args.self.now.termed.now in
    let start : ℕ = c.args.self.now.ranks.now.start in
    let rank : ℕ = c.args.rank in
    let f : Formula = c.args.circuit.now in
    let r : ℕ → Walked Formula = λ n. with_rank n start rank f in
    c.in_ok-after.ensures.words
    ∙ ap (λ (s : State). s.words)
    (same (length c.args.before.now) x c.args.self.now.loads.now c.args.self.now.roots.now c.args.self.now.ordered c.as_slice.result.now
    c.rank.new.circuit
    c.args.before.now (r (length x.steps))
    (c.as_slice.ensures.value ∙ c.in_ok-ranked.ensures.literals ∙ ap (λ n. (r n).word) c.requires.count)
    (c.in_ok-ranked.ensures.circuit ∙ ap (λ n. (r n).state) c.requires.count))

pub returns-clause-formula : goal.returns-clause-formula
returns-clause-formula c =
    let x : TermedSteps = c.args.self.now.termed.now in
    let start : ℕ = c.args.self.now.ranks.now.start in
    let rank : ℕ = c.args.rank in
    let f : Formula = c.args.circuit.now in
    let r : ℕ → Walked Formula = λ n. with_rank n start rank f in
    c.in_ok-after.ensures.formula
    ∙ ap (λ (s : State). s.formula)
    (same (length c.args.before.now) x c.args.self.now.loads.now c.args.self.now.roots.now c.args.self.now.ordered c.as_slice.result.now
    c.rank.new.circuit
    c.args.before.now (r (length x.steps))
    (c.as_slice.ensures.value ∙ c.in_ok-ranked.ensures.literals ∙ ap (λ n. (r n).word) c.requires.count)
    (c.in_ok-ranked.ensures.circuit ∙ ap (λ n. (r n).state) c.requires.count))
