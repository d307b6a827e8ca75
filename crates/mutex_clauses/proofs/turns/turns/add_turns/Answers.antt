use Rattle.std.proofs.Common.{◌≡◌, ℕ, ◌+◌, ◌*◌, ◌<◌, ◌≤◌, List, ℤ, refl, ap, sym, ◌∙◌, subst, arith, rules, length}
use Rattle.std.specs.List.{All}
use Rattle.std.proofs.lemmas.List.{length-map}
use Rattle.cnf_core.specs.Clauses.{Formula}
use Rattle.bit_gates.specs.Folded.{HasRoom, IsLarger}
use Rattle.bit_words.specs.Words.{AreWithin}
use Rattle.bit_words.proofs.Loops.{larger_more, within_more}
use Rattle.bit_terms.proofs.Loops.{words_more}
use Rattle.mutex_states.specs.circuit_sizes.Small.{IsShort}
use Rattle.mutex_states.proofs.circuit_sizes.Gates.{larger_none}
use Rattle.mutex_states.specs.Steps.{State, Step}
use Rattle.mutex_states.proofs.Loops.{fold_more}
use Rattle.mutex_clauses.specs.shapes.Termed.{TermedSteps, termed, termed_steps}
use Rattle.mutex_clauses.specs.turns.Turns.{next_over, next_size, turns_over}
use Rattle.mutex_clauses.proofs.turns.Room.{more_times, next_room, next_short}
use Rattle.mutex_clauses.proofs.turns.Same.{turns_same}
use Rattle.mutex_clauses.proofs.turns.turns.add_turns.Goals as goal

-- there are as many steps as before
count_same : (cells : ℕ) (list : List Step) (x : TermedSteps) → x ≡ termed_steps cells list → length x.steps ≡ length list
count_same cells list x made = ap (λ (y : TermedSteps). length y.steps) made ∙ length-map list (termed cells list)

pub loop-rank-init : goal.loop-rank-init
loop-rank-init c = record {
  words = refl;
  formula = refl;
  count = refl;
  within = c.requires.first;
  short = c.requires.short;
  larger = λ list made. larger_none (0 * next_size (length c.args.first.items) list) c.args.circuit.now;
}

pub next-requires-clause-there : goal.next-requires-clause-there
next-requires-clause-there c =
    let up : c.args.circuit.now.vars ≤ c.loop-rank.circuit.vars =
    (c.loop-rank.invariant.larger c.requires.room.list c.requires.room.made).0 in
    omega (arith, up, c.requires.there)

pub next-requires-clause-ordered : goal.next-requires-clause-ordered
next-requires-clause-ordered c =
    let up : c.args.circuit.now.vars ≤ c.loop-rank.circuit.vars =
    (c.loop-rank.invariant.larger c.requires.room.list c.requires.room.made).0 in
    omega (arith, up, c.requires.ordered)

pub next-requires-clause-loads : goal.next-requires-clause-loads
next-requires-clause-loads c =
    let up : c.args.circuit.now.vars ≤ c.loop-rank.circuit.vars =
    (c.loop-rank.invariant.larger c.requires.room.list c.requires.room.made).0 in
    words_more c.args.circuit.now.vars c.loop-rank.circuit.vars c.args.turns.now.loads.now up c.requires.loads

pub next-requires-clause-roots : goal.next-requires-clause-roots
next-requires-clause-roots c =
    let up : c.args.circuit.now.vars ≤ c.loop-rank.circuit.vars =
    (c.loop-rank.invariant.larger c.requires.room.list c.requires.room.made).0 in
    within_more c.args.circuit.now.vars c.loop-rank.circuit.vars c.args.turns.now.roots.now up c.requires.roots

pub next-requires-clause-before : goal.next-requires-clause-before
next-requires-clause-before c =
    subst (All (AreWithin c.loop-rank.circuit.vars)) (sym c.as_slice.ensures.value) c.loop-rank.invariant.within

pub next-requires-clause-short : goal.next-requires-clause-short
next-requires-clause-short c = subst (All IsShort) (sym c.as_slice.ensures.value) c.loop-rank.invariant.short

pub next-requires-clause-room : goal.next-requires-clause-room
next-requires-clause-room c =
    let cells : ℕ = length c.args.first.items in
    let list : List Step = c.requires.room.list in
    let made = c.requires.room.made in
    let x : TermedSteps = c.args.turns.now.termed.now in
    let lens : length c.as_slice.result.now ≡ cells = ap length c.as_slice.ensures.value ∙ c.loop-rank.invariant.count in
    let all : c.len-count.result ≡ length x.steps = search rules in
    let below : c.loop-rank.rank < length list = omega (arith, c.loop-rank-test.true, all, count_same cells list x made) in
    record {
      list = list;
      made = made ∙ ap (λ n. termed_steps n list) (sym lens);
      room = subst (λ n. HasRoom (next_size n list) c.loop-rank.circuit) (sym lens)
          (next_room (length list) (next_size cells list) c.loop-rank.rank c.args.circuit.now c.loop-rank.circuit c.requires.room.room
          (c.loop-rank.invariant.larger list made) below);
    }

pub loop-rank-preserved : goal.loop-rank-preserved
loop-rank-preserved c =
    let cells : ℕ = length c.args.first.items in
    let x : TermedSteps = c.args.turns.now.termed.now in
    let loads : List (List ℤ) = c.args.turns.now.loads.now in
    let roots : List ℤ = c.args.turns.now.roots.now in
    let ordered : ℤ = c.args.turns.now.ordered in
    let start : ℕ = c.args.turns.now.ranks.now.start in
    let rank : ℕ = c.loop-rank.rank in
    let f : Formula = c.args.circuit.now in
    let g : Formula = c.loop-rank.circuit in
    let h : Formula = c.next.new.circuit in
    let slice : List (List ℤ) = c.as_slice.result.now in
    let was = c.loop-rank.invariant in
    let next = c.in_ok-words.ensures in
    let first : State = record { formula = f; words = c.args.first.items } in
    let s : State = turns_over cells x loads roots ordered start first rank in
    let now : State = record { formula = g; words = slice } in
    let lens : length slice ≡ cells = ap length c.as_slice.ensures.value ∙ was.count in
    let at : now ≡ s =
    ap (λ k. let t : State = record { formula = k; words = slice } in t) was.formula
    ∙ ap (λ ws. let t : State = record { formula = s.formula; words = ws } in t) (c.as_slice.ensures.value ∙ was.words) in
    let whole : next_over (length slice) x loads roots ordered start now rank
    ≡ turns_over cells x loads roots ordered start first (rank + 1) =
    ap (λ n. next_over n x loads roots ordered start now rank) lens ∙ ap (λ t. next_over cells x loads roots ordered start t rank) at
    ∙ sym (fold_more (next_over cells x loads roots ordered start) first rank) in
    record {
      words = next.words ∙ ap (λ (t : State). t.words) whole;
      formula = next.formula ∙ ap (λ (t : State). t.formula) whole;
      count = next.count ∙ lens;
      within = next.within;
      short = subst (All IsShort) (sym next.words) (next_short (length slice) x loads roots ordered start now rank);
      larger = λ list made.
          larger_more (rank * next_size cells list) (next_size cells list) ((rank + 1) * next_size cells list) f g h (was.larger list made)
          (subst (λ n. IsLarger (next_size n list) g h) lens (next.larger list (made ∙ ap (λ n. termed_steps n list) (sym lens))))
          (more_times rank (next_size cells list));
    }

pub returns-clause-words : goal.returns-clause-words
returns-clause-words c list made =
    let cells : ℕ = length c.args.first.items in
    let x : TermedSteps = c.args.turns.now.termed.now in
    let loads : List (List ℤ) = c.args.turns.now.loads.now in
    let roots : List ℤ = c.args.turns.now.roots.now in
    let ordered : ℤ = c.args.turns.now.ordered in
    let start : ℕ = c.args.turns.now.ranks.now.start in
    let first : State = record { formula = c.args.circuit.now; words = c.args.first.items } in
    let all : c.len-count.result ≡ length x.steps = search rules in
    let last : c.loop-rank.rank ≡ length list =
    omega (arith, c.loop-rank-test.false, c.loop-rank.auto.rank-end, all, count_same cells list x made) in
    c.loop-rank.invariant.words ∙ ap (λ n. (turns_over cells x loads roots ordered start first n).words) last
    ∙ ap (λ y. (turns_over cells y loads roots ordered start first (length list)).words) made
    ∙ ap (λ (t : State). t.words) (turns_same cells list loads roots ordered start (length list) first)

pub returns-clause-formula : goal.returns-clause-formula
returns-clause-formula c list made =
    let cells : ℕ = length c.args.first.items in
    let x : TermedSteps = c.args.turns.now.termed.now in
    let loads : List (List ℤ) = c.args.turns.now.loads.now in
    let roots : List ℤ = c.args.turns.now.roots.now in
    let ordered : ℤ = c.args.turns.now.ordered in
    let start : ℕ = c.args.turns.now.ranks.now.start in
    let first : State = record { formula = c.args.circuit.now; words = c.args.first.items } in
    let all : c.len-count.result ≡ length x.steps = search rules in
    let last : c.loop-rank.rank ≡ length list =
    omega (arith, c.loop-rank-test.false, c.loop-rank.auto.rank-end, all, count_same cells list x made) in
    c.loop-rank.invariant.formula ∙ ap (λ n. (turns_over cells x loads roots ordered start first n).formula) last
    ∙ ap (λ y. (turns_over cells y loads roots ordered start first (length list)).formula) made
    ∙ ap (λ (t : State). t.formula) (turns_same cells list loads roots ordered start (length list) first)

pub returns-clause-larger : goal.returns-clause-larger
returns-clause-larger c list made =
    let cells : ℕ = length c.args.first.items in
    let x : TermedSteps = c.args.turns.now.termed.now in
    let all : c.len-count.result ≡ length x.steps = search rules in
    let last : c.loop-rank.rank ≡ length list =
    omega (arith, c.loop-rank-test.false, c.loop-rank.auto.rank-end, all, count_same cells list x made) in
    subst (λ n. IsLarger (n * next_size cells list) c.args.circuit.now c.loop-rank.circuit) last (c.loop-rank.invariant.larger list made)
