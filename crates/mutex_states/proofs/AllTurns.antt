-- Each rank has a state after it, one after another.
use Rattle.std.proofs.Common.{◌≡◌, ◌≢◌, ℕ, zero, suc, ◌+◌, ◌*◌, ◌<◌, ◌≤◌, List, [], ℤ, Some, refl, ap, sym, ◌∙◌, subst, arith, Bool, true, false, length, get_or, map}
use Rattle.std.specs.Prelude.{◌==◌, fold, slice_get}
use Rattle.std.specs.List.{All, range_with_len}
use Rattle.std.proofs.lemmas.Bool.{eq-eqb, eqb-true, ne_eqb, true≢false}
use Rattle.std.proofs.lemmas.List.{get_or-map, length-map}
use Rattle.std.proofs.lemmas.List.Elements.{All-get_or, All-weaker}
use Rattle.std.proofs.lemmas.List.FromFn.{get_or-map-range_with_len, length-map-range_with_len}
use Rattle.mutex_regions.proofs.order_events.Lists.{at_in}
use Rattle.cnf_core.specs.Clauses.{Formula, Valuation, literal_true}
use Rattle.cnf_core.specs.Gates.{Agree}
use Rattle.cnf_core.proofs.GateLaws.{literal_true-agree}
use Rattle.bit_gates.specs.Folded.{constant}
use Rattle.bit_gates.specs.Laws.{IsOf}
use Rattle.circuit_sizes.specs.bit_ops.Laws.{IsOperand}
use Rattle.circuit_sizes.specs.bit_ops.bit_arith.Laws.{int_value}
use Rattle.circuit_sizes.specs.bit_ops.bit_arith.int_ops.Arith.{IsInt}
use Rattle.circuit_sizes.specs.bit_ops.bit_words.Laws.{values}
use Rattle.circuit_sizes.specs.bit_ops.bit_words.Words.{Walked}
use Rattle.mutex_states.specs.Extending.{Extends}
use Rattle.mutex_states.specs.Laws.{SayState, StatesFollow}
use Rattle.mutex_states.specs.Ranks.{AreRanks, SayRanks, with_rank}
use Rattle.mutex_states.specs.Steps.{AreSteps, Goes, IsTurn, State, Step, StepsSay, TurnSays, with_next, with_turn, with_turns}
use Rattle.mutex_states.proofs.Extending.{IsKept, and_then, keeping, same, weaker}
use Rattle.mutex_states.proofs.Literals.{some_at}
use Rattle.mutex_states.proofs.RankLaws.{gates_count, gates_there, has_rank, one_rank, say_kept}
use Rattle.bit_blast.proofs.CaseLaws.{operand_stays}
use Rattle.mutex_states.proofs.Steps.{after_words, int_agrees, turn_extends, wide_of, words_agree, words_count}

module _ (cells : ℕ) (steps : List Step) (loads : List (List ℤ)) (roots : List ℤ) (ordered : ℤ) (before : (first second : ℕ) → ℤ) (f : Formula)
    (known : (first second : ℕ) → first < length steps → second < length steps → first ≢ second → IsOf f.vars (before first second))
    (so : AreSteps cells steps loads roots ordered f) (rank : ℕ → ℕ) (are : AreRanks (length steps) rank) where
  abbrev count : ℕ
  count = length steps

  abbrev start : ℕ
  start = suc f.vars

  abbrev all : ℕ
  all = f.vars + count * count

  abbrev next : State → ℕ → State
  next = with_next cells steps loads roots ordered start

  of_wide : (n : ℕ) (l : ℤ) → f.vars ≤ n → IsOf f.vars l → IsOf n l
  of_wide n l more of = (of.0, omega (arith, of.1, more))

  module _ (in_order : Bool) (states : ℕ → List ℤ) (amounts : List ℤ) (holds : ℕ → Bool)
      (sized : (k : ℕ) → length (states k) ≡ cells) (are_ints : (k : ℕ) → All IsInt (states k))
      (goes : (i : ℕ) (s : Step) → slice_get steps i ≡ Some s → in_order ≡ true → Goes s (states (rank i)) (states (suc (rank i))) amounts holds) where
    abbrev Base : Valuation → Type 0
    Base = StepsSay steps loads roots ordered in_order amounts holds

    base_kept : (n : ℕ) → f.vars ≤ n → IsKept n Base
    base_kept n more v w agree b =
        let near : Agree f.vars v w = λ j below. agree j (omega (arith, below, more)) in
        let still : (l : ℤ) → IsOf f.vars l → literal_true w l ≡ literal_true v l = λ l of. sym (literal_true-agree f.vars v w l near of.1) in
        record {
          ordered_is = still ordered so.ordered_in ∙ b.ordered_is;
          loads_are = λ s x p q. sym (int_agrees f.vars v w (get_or loads x.load []) near (so.loads_in s x p q).literals) ∙ b.loads_are s x p q;
          roots_are = λ s x p q. still (get_or roots x.conjunct (constant false)) (so.roots_in s x p q) ∙ b.roots_are s x p q;
        }

    abbrev Say : Valuation → Type 0
    Say = SayRanks count before start rank

    -- the words are of the state before a rank
    abbrev Before : ℕ → List (List ℤ) → Valuation → Type 0
    Before k words v = Say v × (Base v × (map (int_value v) words ≡ states k))

    words_kept : (g : Formula) (words : List (List ℤ)) (z : List ℤ) → All (IsOperand g) words → IsKept g.vars (λ v. map (int_value v) words ≡ z)
    words_kept g words z of v w agree e = words_agree g v w words agree of ∙ e

    module _ (x : State) (k : ℕ) (wide : all ≤ x.formula.vars) (words_in : All (IsOperand x.formula) x.words) (sized_words : length x.words ≡ cells) (low : k < count) where
      abbrev r : Walked Formula
      r = with_rank count start k x.formula

      abbrev here : State
      here = record { formula = r.state; words = x.words }

      -- the gates of the rank
      abbrev Told : Valuation → Type 0
      Told w = Say w × (values w r.word ≡ map (λ region. rank region == k) (range_with_len 0 count))

      gates : Extends Say x.formula Told r.state
      gates = one_rank count before rank f so.one known are x.formula k wide low

      more : x.formula.vars ≤ r.state.vars
      more = gates.more

      from_first : f.vars ≤ r.state.vars
      from_first = omega (arith, more, wide)

      word_in : All (IsOf r.state.vars) r.word
      word_in = gates_there count before rank f so.one known are x.formula k wide

      state_in : All (IsOperand r.state) x.words
      state_in = All-weaker (IsOperand x.formula) (IsOperand r.state) (λ ws o. operand_stays x.formula r.state ws more o) x.words words_in

      kept_here : IsKept x.formula.vars (λ v. Base v × (map (int_value v) x.words ≡ states k))
      kept_here v w agree h = (base_kept x.formula.vars (omega (arith, wide)) v w agree h.0, words_kept x.formula x.words (states k) words_in v w agree h.1)

      abbrev Ranked : Valuation → Type 0
      Ranked v = Told v × (Base v × (map (int_value v) x.words ≡ states k))

      ranked : Extends (Before k x.words) x.formula Ranked r.state
      ranked = keeping Say Told (λ v. Base v × (map (int_value v) x.words ≡ states k)) x.formula r.state kept_here gates

      -- the region of the rank
      abbrev which : ℕ
      which = (has_rank count rank are k low).0

      which_in : which < count
      which_in = (has_rank count rank are k low).1

      which_is : rank which ≡ k
      which_is = (has_rank count rank are k low).2

      -- another region has another rank
      only_one : (i : ℕ) → i < count → (rank i == k) ≡ (i == which)
      only_one i below = by (i == which) refl
        where
          by : (b : Bool) → (i == which) ≡ b → (rank i == k) ≡ b
          by true e = eq-eqb (rank i) k (ap rank (eqb-true i which e) ∙ which_is)
          by false e =
              ne_eqb (rank i) k
              (λ here. are.differ i which below which_in (λ one. true≢false (sym (eq-eqb i which one) ∙ e)) (here ∙ sym which_is))

      long : (v : Valuation) → Told v → length r.word ≡ count
      long v h = sym (length-map r.word (literal_true v)) ∙ ap length h.1 ∙ length-map-range_with_len (λ region. rank region == k) 0 count

      gate_is : (v : Valuation) → Told v → (i : ℕ) → i < count → literal_true v (get_or r.word i (constant false)) ≡ (i == which)
      gate_is v h i below =
          let whole = long v h in
          sym (get_or-map (literal_true v) r.word i (constant false) false (omega (arith, below, whole))) ∙ ap (λ bs. get_or bs i false) h.1
          ∙ get_or-map-range_with_len (λ region. rank region == k) 0 count i i false below (omega arith) ∙ only_one i below

      is_turn : IsTurn cells steps loads roots ordered r.word here
      is_turn = record {
        one = omega (arith, so.one, from_first);
        ordered_in = of_wide r.state.vars ordered from_first so.ordered_in;
        ranked_in = λ i below.
            All-get_or (IsOf r.state.vars) r.word i (constant false)
            (let whole : length r.word ≡ count = gates_count count before rank f so.one known are x.formula k wide in omega (arith, below, whole)) word_in;
        words_in = state_in;
        loads_in = λ s y p q. operand_stays f r.state (get_or loads y.load []) from_first (so.loads_in s y p q);
        roots_in = λ s y p q. of_wide r.state.vars (get_or roots y.conjunct (constant false)) from_first (so.roots_in s y p q);
        count = sized_words;
        held = so.held;
        named = so.named;
        ints = so.ints;
      }

      abbrev after : State
      after = with_turn cells steps loads roots ordered r.word here

      some_step : (s : Step) × (slice_get steps which ≡ Some s)
      some_step = some_at steps which which_in

      abbrev s : Step
      s = some_step.0

      s_at : slice_get steps which ≡ Some s
      s_at = some_step.1

      abbrev Says : Valuation → Type 0
      Says = TurnSays cells steps loads roots ordered r.word here in_order which s (states k) amounts holds

      turn : Extends Says r.state (λ w. Says w × (map (int_value w) after.words ≡ states (suc k))) after.formula
      turn =
          turn_extends cells steps loads roots ordered r.word here is_turn in_order which s (states k) (states (suc k)) amounts holds s_at
          (λ sure. subst (λ j. Goes s (states j) (states (suc j)) amounts holds) which_is (goes which s s_at sure)) (are_ints (suc k)) (sized k) (sized (suc k))

      say_stays : IsKept r.state.vars (λ v. Say v × Base v)
      say_stays v w agree h = (
        say_kept count before rank f so.one known are r.state.vars (omega (arith, wide, more)) v w agree h.0,
        base_kept r.state.vars from_first v w agree h.1,
      )

      told_says : (v : Valuation) → Ranked v → Says v × (Say v × Base v)
      told_says v h = (
        record {
          ordered_is = h.1.0.ordered_is;
          ranked_is = gate_is v h.0;
          before_is = h.1.1;
          loads_are = λ y p. h.1.0.loads_are s y (at_in steps which s s_at) p;
          roots_are = λ y p. h.1.0.roots_are s y (at_in steps which s s_at) p;
        },
        (h.0.0, h.1.0),
      )

      pub next_turn : Extends (Before k x.words) x.formula (Before (suc k) after.words) after.formula
      next_turn =
          and_then (Before k x.words) Ranked (Before (suc k) after.words) x.formula r.state after.formula ranked
          (weaker (λ v. Says v × (Say v × Base v)) (λ w. (Says w × (map (int_value w) after.words ≡ states (suc k))) × (Say w × Base w)) Ranked
          (Before (suc k) after.words) r.state after.formula (λ v m h. told_says v h) (λ w m h. (h.1.0, (h.1.1, h.0.1)))
          (keeping Says (λ w. Says w × (map (int_value w) after.words ≡ states (suc k))) (λ v. Say v × Base v) r.state after.formula say_stays turn))

      pub after_in : All (IsOperand after.formula) after.words
      after_in =
          All-weaker (IsOperand (wide_of cells steps here)) (IsOperand after.formula) (λ ws o. record { literals = o.literals; width = o.width }) after.words
          (after_words cells steps loads roots ordered r.word here is_turn)

      pub after_more : x.formula.vars ≤ after.formula.vars
      after_more = omega (arith, more, turn.more)

      pub after_count : length after.words ≡ cells
      after_count = words_count cells steps loads roots ordered r.word here

    turns_from : (n k : ℕ) (x : State) → k + n ≡ count → all ≤ x.formula.vars → All (IsOperand x.formula) x.words → length x.words ≡ cells
        → Extends (Before k x.words) x.formula (Before count (fold next x (range_with_len k n)).words) (fold next x (range_with_len k n)).formula
    turns_from zero k x e wide of sized_words =
        let last : k ≡ count = omega (arith, e) in
        subst (λ j. Extends (Before k x.words) x.formula (Before j x.words) x.formula) last (same (Before k x.words) x.formula)
    turns_from (suc n) k x e wide of sized_words =
        let low : k < count = omega (arith, e) in
        let y : State = next x k in
        let more = after_more x k wide of sized_words low in
        let one_more : suc k ≡ k + 1 = omega arith in
        let here : Extends (Before k x.words) x.formula (Before (k + 1) y.words) y.formula =
        subst (λ j. Extends (Before k x.words) x.formula (Before j y.words) y.formula) one_more (next_turn x k wide of sized_words low) in
        and_then (Before k x.words) (Before (k + 1) y.words) (Before count (fold next y (range_with_len (k + 1) n)).words) x.formula y.formula
        (fold next y (range_with_len (k + 1) n)).formula here
        (turns_from n (k + 1) y (omega (arith, e)) (omega (arith, wide, more)) (after_in x k wide of sized_words low) (after_count x k wide of sized_words low))

    words_from : (n k : ℕ) (x : State) → k + n ≡ count → all ≤ x.formula.vars → All (IsOperand x.formula) x.words → length x.words ≡ cells
        → All (IsOperand (fold next x (range_with_len k n)).formula) (fold next x (range_with_len k n)).words
        × (length (fold next x (range_with_len k n)).words ≡ cells)
    words_from zero k x e wide of sized_words = (of, sized_words)
    words_from (suc n) k x e wide of sized_words =
        let low : k < count = omega (arith, e) in
        let more = after_more x k wide of sized_words low in
        words_from n (k + 1) (next x k) (omega (arith, e)) (omega (arith, wide, more)) (after_in x k wide of sized_words low) (after_count x k wide of sized_words low)

    -- the words of the last state
    pub last_words : (x : State) → all ≤ x.formula.vars → All (IsOperand x.formula) x.words → length x.words ≡ cells
        → All (IsOperand (with_turns cells steps loads roots ordered start x).formula) (with_turns cells steps loads roots ordered start x).words
        × (length (with_turns cells steps loads roots ordered start x).words ≡ cells)
    last_words x wide of sized_words = words_from count 0 x (omega arith) wide of sized_words

    -- from the state at the start, every rank has a state after it
    pub all_turns : (x : State) → all ≤ x.formula.vars → All (IsOperand x.formula) x.words → length x.words ≡ cells
        → Extends (Before 0 x.words) x.formula (Before count (with_turns cells steps loads roots ordered start x).words)
        (with_turns cells steps loads roots ordered start x).formula
    all_turns x wide of sized_words = turns_from count 0 x (omega arith) wide of sized_words

pub states_follow : (cells : ℕ) (steps : List Step) (loads : List (List ℤ)) (roots : List ℤ) (ordered : ℤ) (before : (first second : ℕ) → ℤ) (f : Formula)
    → ((first second : ℕ) → first < length steps → second < length steps → first ≢ second → IsOf f.vars (before first second))
    → AreSteps cells steps loads roots ordered f → StatesFollow cells steps loads roots ordered before f
states_follow cells steps loads roots ordered before f known so = record {
  follow = λ rank all states amounts holds x are sized ints goes wide of sized_words.
      let last : State = with_turns cells steps loads roots ordered (suc f.vars) x in
      let Ranked : Valuation → Type 0 = SayRanks (length steps) before (suc f.vars) rank in
      let Base : Valuation → Type 0 = StepsSay steps loads roots ordered all amounts holds in
      let Say : List (List ℤ) → ℕ → Valuation → Type 0 =
      λ words k. SayState steps loads roots ordered before (suc f.vars) rank all amounts holds words (states k) in
      weaker (λ v. Ranked v × (Base v × (map (int_value v) x.words ≡ states 0))) (λ v. Ranked v × (Base v × (map (int_value v) last.words ≡ states (length steps))))
      (Say x.words 0) (Say last.words (length steps)) x.formula last.formula (λ v m h. (h.ranks, (h.steps_say, h.words_are)))
      (λ w m h. record { ranks = h.0; steps_say = h.1.0; words_are = h.1.1 })
      (all_turns cells steps loads roots ordered before f known so rank are all states amounts holds sized ints goes x wide of sized_words);
}
