-- The clauses over steps with terms are those over the steps themselves.
use Rattle.std.proofs.Common.{◌≡◌, ℕ, ◌+◌, Bool, true, false, cond, List, [], ◌∷◌, ◌++◌, ℤ, neg_ℤ, Option, Some, None, refl, ap, ap₂, ◌∙◌, length, map, get_or}
use Rattle.std.specs.Prelude.{◌*◌, filter, fold, if◌then◌else◌, option_map}
use Rattle.std.specs.List.{enumerate_from, flat_map, range_with_len}
use Rattle.std.proofs.lemmas.List.{length-map}
use Rattle.tc_code.specs.Expr.{Expr}
use Rattle.cnf_core.specs.Clauses.{Formula}
use Rattle.bit_gates.specs.Folded.{constant}
use Rattle.bit_words.specs.Words.{Walked}
use Rattle.bit_terms.specs.Terms.{Words, term_words}
use Rattle.bit_blast.specs.Reads.{with_clauses}
use Rattle.mutex_regions.specs.Functions.{is_closed}
use Rattle.mutex_regions.specs.declared.functions.Holding.{Holding}
use Rattle.mutex_regions.specs.declared.functions.Loaded.{Loaded}
use Rattle.mutex_states.specs.Ranks.{with_rank}
use Rattle.mutex_states.specs.Steps as steps
use Rattle.mutex_states.specs.Steps.{State, Step, Tested, Turn, pool, shapes, term_of, turn_clauses, with_next, with_turn, with_turns}
use Rattle.mutex_clauses.specs.shapes.Termed.{Termed, load_term, termed, termed_steps, test_term}
use Rattle.mutex_clauses.specs.turns.Terms.{known_clauses, shape_clauses, test_clauses}
use Rattle.mutex_clauses.specs.turns.Turns.{among, is_open, leaves, literal_at, next_over, rank_clauses, region_clauses, rule_clauses, shaped_clauses, some_clause, turn_of, turn_over, turns_over}

-- ---- lists

flat_same : {A B Y : Type 0} (f : B → List Y) (g : A → B) (h : A → List Y) (xs : List A) → ((x : A) → f (g x) ≡ h x)
    → flat_map f (map g xs) ≡ flat_map h xs
flat_same f g h [] same = refl
flat_same f g h (x ∷ xs) same = ap₂ (λ a b. a ++ b) (same x) (flat_same f g h xs same)

each_same : {A B Y : Type 0} (f : ℕ → B → List Y) (g : A → B) (h : ℕ → A → List Y) (n : ℕ) (xs : List A)
    → ((k : ℕ) (x : A) → f k (g x) ≡ h k x)
    → flat_map (λ (p : ℕ × B). f p.0 p.1) (enumerate_from n (map g xs)) ≡ flat_map (λ (p : ℕ × A). h p.0 p.1) (enumerate_from n xs)
each_same f g h n [] same = refl
each_same f g h n (x ∷ xs) same = ap₂ (λ a b. a ++ b) (same n x) (each_same f g h (n + 1) xs same)

each_alike : {A Y : Type 0} (f h : ℕ → A → List Y) (n : ℕ) (xs : List A) → ((k : ℕ) (x : A) → f k x ≡ h k x)
    → flat_map (λ (p : ℕ × A). f p.0 p.1) (enumerate_from n xs) ≡ flat_map (λ (p : ℕ × A). h p.0 p.1) (enumerate_from n xs)
each_alike f h n [] same = refl
each_alike f h n (x ∷ xs) same = ap₂ (λ a b. a ++ b) (same n x) (each_alike f h (n + 1) xs same)

kept_same : {A B Y : Type 0} (f : ℕ → Y) (p : B → Bool) (g : A → B) (n : ℕ) (xs : List A)
    → map (λ (x : ℕ × B). f x.0) (filter (λ (x : ℕ × B). p x.1) (enumerate_from n (map g xs)))
    ≡ map (λ (x : ℕ × A). f x.0) (filter (λ (x : ℕ × A). p (g x.1)) (enumerate_from n xs))
kept_same f p g n [] = refl
kept_same {A} {B} f p g n (x ∷ xs) = by (p (g x)) (kept_same f p g (n + 1) xs)
  where
    front : List (ℕ × B)
    front = filter (λ (y : ℕ × B). p y.1) (enumerate_from (n + 1) (map g xs))

    back : List (ℕ × A)
    back = filter (λ (y : ℕ × A). p (g y.1)) (enumerate_from (n + 1) xs)

    by : (b : Bool) → map (λ (y : ℕ × B). f y.0) front ≡ map (λ (y : ℕ × A). f y.0) back
        → map (λ (y : ℕ × B). f y.0) (cond b ((n, g x) ∷ front) front) ≡ map (λ (y : ℕ × A). f y.0) (cond b ((n, x) ∷ back) back)
    by true rest = ap (λ ys. f n ∷ ys) rest
    by false rest = rest

fold_same : {S X : Type 0} (f g : S → X → S) (s : S) (xs : List X) → ((t : S) (x : X) → f t x ≡ g t x) → fold f s xs ≡ fold g s xs
fold_same f g s [] same = refl
fold_same f g s (x ∷ xs) same = ap (λ t. fold f t xs) (same s x) ∙ fold_same f g (g s x) xs same

-- ---- one rank

module _ (cells : ℕ) (all : List Step) (loads : List (List ℤ)) (roots : List ℤ) (t : Turn) where
  abbrev term : Expr → ℕ
  term = term_of cells all

  among_same : (p : Termed → Bool)
      → among t.ranked p (map (termed cells all) all) ≡ steps.ranked_among cells all loads roots t (λ s. p (termed cells all s))
  among_same p = kept_same (literal_at t.ranked) p (termed cells all) 0 all

  known_same : (words : List (List ℤ)) (place region : ℕ) (e : Option Expr)
      → known_clauses t.ordered (literal_at t.ranked region) t.words words place (option_map term e)
      ≡ steps.equal_clauses cells all loads roots t region (get_or words place []) e
  known_same words place region None = refl
  known_same words place region (Some e) = refl

  region_same : (region : ℕ) (s : Step)
      → region_clauses loads roots t region (termed cells all s) ≡ steps.region_clauses cells all loads roots t region s
  region_same region s =
      let opens =
      ap (λ (cs : List (List ℤ)). if is_closed s.does then [] else cs)
      (each_same (known_clauses t.ordered (literal_at t.ranked region) t.words t.after) (λ (x : Holding). option_map term x.value)
      (λ k (x : Holding). steps.equal_clauses cells all loads roots t region (get_or t.after k []) x.value) 0 s.does.cells
      (λ k (x : Holding). known_same t.after k region x.value)) in
      let takes =
      flat_same (λ x. known_clauses t.ordered (literal_at t.ranked region) t.words loads x.load x.term) (load_term term)
      (λ (x : Loaded). steps.equal_clauses cells all loads roots t region (get_or loads x.load []) x.value) s.does.loads
      (λ (x : Loaded). known_same loads x.load region x.value) in
      let tests =
      flat_same (test_clauses t.ordered (literal_at t.ranked region) t.words roots) (test_term term)
      (steps.test_clauses cells all loads roots t region) s.tests
      (λ x. refl) in
      ap₂ (λ a b. a ++ b) opens (ap₂ (λ a b. a ++ b) takes tests)

  shaped_same : (number : ℕ) (shape : List ℕ) → shaped_clauses loads roots t (map (termed cells all) all) number shape
      ≡ (let shaped = get_or t.shaped number (constant false) in
      steps.shape_clauses cells all loads roots t shape shaped ++ steps.left_clauses cells all loads roots t shape shaped)
  shaped_same number shape =
      ap
      (λ ls. rule_clauses t.ordered (literal_at t.shaped number) ls
      ++ shape_clauses (literal_at t.shaped number) (constant true) t.words t.after shape) (among_same (leaves shape))

  some_same : some_clause loads roots t (map (termed cells all) all) ≡ steps.some_clause cells all loads roots t
  some_same = ap (λ ls. neg_ℤ t.ordered ∷ t.shaped ++ ls) (among_same is_open)

  pub rank_same : rank_clauses loads roots t (termed_steps cells all) ≡ turn_clauses cells all loads roots t
  rank_same =
      ap₂ (λ a b. a ++ b)
      (each_alike (shaped_clauses loads roots t (map (termed cells all) all))
      (λ k shape. let shaped = get_or t.shaped k (constant false) in
      steps.shape_clauses cells all loads roots t shape shaped ++ steps.left_clauses cells all loads roots t shape shaped) 0
      (shapes cells all) shaped_same)
      (ap₂ (λ a b. a ∷ b) some_same
      (each_same (region_clauses loads roots t) (termed cells all) (steps.region_clauses cells all loads roots t) 0 all region_same))

-- ---- all ranks

module _ (cells : ℕ) (all : List Step) (loads : List (List ℤ)) (roots : List ℤ) (ordered : ℤ) where
  pub turn_same : (ranked : List ℤ) (before : State)
      → turn_over cells (termed_steps cells all) loads roots ordered ranked before ≡ with_turn cells all loads roots ordered ranked before
  turn_same ranked before =
      let w : Words = term_words (pool cells all) before.words before.formula in
      let t : Turn = turn_of cells (termed_steps cells all) loads roots ordered ranked w.words w.formula.vars in
      let wide : Formula = record { vars = w.formula.vars + (length (shapes cells all) + 32 * cells); clauses = w.formula.clauses } in
      ap (λ cs. let s : State = record { formula = with_clauses wide cs; words = t.after } in s) (rank_same cells all loads roots t)

  next_same : (start : ℕ) (s : State) (rank : ℕ)
      → next_over cells (termed_steps cells all) loads roots ordered start s rank ≡ with_next cells all loads roots ordered start s rank
  next_same start s rank =
      let over : Walked Formula → State = λ r.
      turn_over cells (termed_steps cells all) loads roots ordered r.word (record { formula = r.state; words = s.words }) in
      let r : Walked Formula = with_rank (length all) start rank s.formula in
      ap (λ n. over (with_rank n start rank s.formula)) (length-map all (termed cells all))
      ∙ turn_same r.word (record { formula = r.state; words = s.words })

  pub turns_same : (start count : ℕ) (s : State) → turns_over cells (termed_steps cells all) loads roots ordered start s count
      ≡ fold (with_next cells all loads roots ordered start) s (range_with_len 0 count)
  turns_same start count s =
      fold_same (next_over cells (termed_steps cells all) loads roots ordered start) (with_next cells all loads roots ordered start) s
      (range_with_len 0 count)
      (next_same start)
