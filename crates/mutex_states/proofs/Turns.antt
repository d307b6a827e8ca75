-- The clauses of one rank hold where the region of the rank goes from the state before to the state
-- after, and where not all is in order.
use Rattle.std.proofs.Common.{◌≡◌, ℕ, zero, suc, ◌<◌, ◌≤◌, List, [], ◌∷◌, ◌++◌, ℤ, pos, neg_ℤ, Option, Some, None, refl, ap, ap₂, sym, ◌∙◌, subst, arith, Bool, true, false, not, ◌&&◌, length, get_or, map, inl, inr}
use Rattle.std.specs.Prelude.{◌==◌, fold, filter, if◌then◌else◌, is_some, slice_get}
use Rattle.std.specs.List.{All, Contains, cons_option, enumerate_from, filter_map, flat_map, list_all, list_any}
use Rattle.std.specs.Ordering.{int_eq}
use Rattle.std.proofs.lemmas.Bool.{and_from, and_parts, eq-eqb, eqb-true, false≢true}
use Rattle.std.proofs.lemmas.List.{length-map}
use Rattle.std.proofs.lemmas.List.Elements.{All-append, All-cons, All-contains, All-map, All-nil, Contains-append_left, Contains-append_right, All-from_get_or, Contains-get_or, Contains-push, Contains-push_cases}
use Rattle.std.proofs.lemmas.List.Folds.{list_all-append, list_all-map}
use Rattle.std.proofs.lemmas.Option.{none-some, same_Some, slice_get_within}
use Rattle.indexmap.specs.IndexSet.{insert_key}
use Rattle.order_cells.specs.sym_exec.path_walk.tc_code.Expr as expr
use Rattle.order_cells.specs.sym_exec.path_walk.tc_code.Expr.{Expr}
use Rattle.mutex_regions.proofs.order_events.Lists.{at_in, in_at, in_enumerated, in_filter, in_filter_map, of_any, of_enumerated, of_filter, of_map}
use Rattle.cnf_core.specs.Clauses.{Formula, Valuation, clause_true, literal_true, satisfies}
use Rattle.bit_gates.specs.Folded.{constant}
use Rattle.bit_gates.specs.Laws.{IsOf}
use Rattle.bit_gates.proofs.Blocks.{IsOf-opposite}
use Rattle.bit_gates.proofs.Meaning.{constant_of}
use Rattle.circuit_sizes.specs.bit_ops.Laws.{IsOperand}
use Rattle.circuit_sizes.specs.bit_ops.bit_arith.Laws.{int_value}
use Rattle.circuit_sizes.specs.bit_terms.Terms.{word_at}
use Rattle.bit_blast.specs.Reads.{value_clauses}
use Rattle.bit_blast.proofs.Lists.{all_flat_map, all_of, any_of, contains_cases, contains_first, contains_later, contains_map, contains_none, passes_all, passes_flat_map}
use Rattle.bit_blast.proofs.Values.{value_literals}
use Rattle.mutex_regions.specs.Functions.{is_closed}
use Rattle.mutex_regions.specs.declared.functions.Holding.{Holding}
use Rattle.mutex_regions.specs.declared.functions.Loaded.{Loaded}
use Rattle.mutex_states.specs.Steps.{Goes, Step, Tested, Turn, equal_clauses, exprs_of, has_shape, left_clauses, load_clauses, open_clauses, ranked, ranked_among, region_clauses, same_shape, shape_clauses, shape_of, shapes, some_clause, term_of, test_clauses, turn_clauses}
use Rattle.mutex_states.proofs.Literals.{implication, implication_two, pair_there, three_there}
use Rattle.mutex_states.proofs.Words.{equal_words, test_false, test_true, unless_one}

-- shapes are the same if they are equal
same_is : (xs ys : List ℕ) → same_shape xs ys ≡ true → xs ≡ ys
same_is [] [] h = refl
same_is [] (y ∷ ys) h = absurd (false≢true h)
same_is (x ∷ xs) [] h = absurd (false≢true h)
same_is (x ∷ xs) (y ∷ ys) h =
    let parts = and_parts (x == y) (same_shape xs ys) h in ap₂ (λ a b. a ∷ b) (eqb-true x y parts.0) (same_is xs ys parts.1)

is_same : (xs : List ℕ) → same_shape xs xs ≡ true
is_same [] = refl
is_same (x ∷ xs) = and_from _ _ (eq-eqb x x refl) (is_same xs)

-- each inserted shape is among the shapes
stays : (ks : List (List ℕ)) (k x : List ℕ) → Contains ks x → Contains (insert_key same_shape ks k) x
stays ks k x there = by (list_any (same_shape k) ks)
  where
    by : (b : Bool) → Contains (if b then ks else ks ++ k ∷ []) x
    by true = there
    by false = Contains-append_left ks (k ∷ []) x there

goes_in : (ks : List (List ℕ)) (k : List ℕ) → Contains (insert_key same_shape ks k) k
goes_in ks k = by (list_any (same_shape k) ks) refl
  where
    by : (b : Bool) → list_any (same_shape k) ks ≡ b → Contains (if b then ks else ks ++ k ∷ []) k
    by true any = let o = of_any (same_shape k) ks any in subst (Contains ks) (sym (same_is k o.0 o.2)) o.1
    by false none = Contains-push ks k

all_stay : (ks xs : List (List ℕ)) (x : List ℕ) → Contains ks x → Contains (fold (insert_key same_shape) ks xs) x
all_stay ks [] x there = there
all_stay ks (k ∷ xs) x there = all_stay (insert_key same_shape ks k) xs x (stays ks k x there)

all_in : (ks xs : List (List ℕ)) (x : List ℕ) → Contains xs x → Contains (fold (insert_key same_shape) ks xs) x
all_in ks [] x there = absurd (contains_none x there)
all_in ks (k ∷ xs) x there = elim (contains_cases k x xs there) [
  | inl is ↦ all_stay (insert_key same_shape ks k) xs x (subst (Contains (insert_key same_shape ks k)) is (goes_in ks k))
  | inr later ↦ all_in (insert_key same_shape ks k) xs x later
]

-- nothing else is
of_insert : (P : List ℕ → Type 0) (ks : List (List ℕ)) (k : List ℕ) → P k → ((x : List ℕ) → Contains ks x → P x) → (x : List ℕ)
    → Contains (insert_key same_shape ks k) x → P x
of_insert P ks k new all x there = by (list_any (same_shape k) ks) there
  where
    by : (b : Bool) → Contains (if b then ks else ks ++ k ∷ []) x → P x
    by true h = all x h
    by false h = elim (Contains-push_cases ks k x h) [ inl old ↦ all x old | inr is ↦ subst P is new ]

all_of_shapes : (P : List ℕ → Type 0) (ks xs : List (List ℕ)) → ((x : List ℕ) → Contains ks x → P x) → ((x : List ℕ) → Contains xs x → P x) → (x : List ℕ)
    → Contains (fold (insert_key same_shape) ks xs) x → P x
all_of_shapes P ks [] old new x there = old x there
all_of_shapes P ks (k ∷ xs) old new x there =
    all_of_shapes P (insert_key same_shape ks k) xs (of_insert P ks k (new k (contains_first k xs)) old) (λ y h. new y (contains_later k y xs h)) x there

-- the values of the cells of a region that leaves one in each
closed_value : (cells : List Holding) → list_all (λ (x : Holding). is_some x.value) cells ≡ true → (k : ℕ) (e : Expr)
    → slice_get (filter_map (λ (x : Holding). x.value) cells) k ≡ Some e → (x : Holding) × (slice_get cells k ≡ Some x) × (x.value ≡ Some e)
closed_value [] h k e at = absurd (none-some e at)
closed_value (x ∷ xs) h k e at =
    let parts = and_parts (is_some x.value) (list_all (λ (y : Holding). is_some y.value) xs) h in
    by x.value refl parts.0 k at (λ j there. closed_value xs parts.1 j e there)
  where
    by : (o : Option Expr) → x.value ≡ o → is_some x.value ≡ true → (k : ℕ) → slice_get (cons_option o (filter_map (λ (y : Holding). y.value) xs)) k ≡ Some e
        → ((j : ℕ) → slice_get (filter_map (λ (y : Holding). y.value) xs) j ≡ Some e → (y : Holding) × (slice_get xs j ≡ Some y) × (y.value ≡ Some e))
        → (y : Holding) × (slice_get (x ∷ xs) k ≡ Some y) × (y.value ≡ Some e)
    by None is some k at rest = absurd (false≢true (sym (ap is_some is) ∙ some))
    by (Some a) is some zero at rest = (x, refl, is ∙ at)
    by (Some a) is some (suc j) at rest = let y = rest j at in (y.0, y.1, y.2)

closed_count : (cells : List Holding) → length (filter_map (λ (x : Holding). x.value) cells) ≤ length cells
closed_count [] = omega arith
closed_count (x ∷ xs) = by x.value (closed_count xs)
  where
    by : (o : Option Expr) → length (filter_map (λ (y : Holding). y.value) xs) ≤ length xs
        → length (cons_option o (filter_map (λ (y : Holding). y.value) xs)) ≤ suc (length xs)
    by None less = omega (arith, less)
    by (Some a) less = omega (arith, less)

pub of_mapped : {X Y : Type 0} (f : X → Y) (xs : List X) (k : ℕ) (y : Y) → slice_get (map f xs) k ≡ Some y → (x : X) × (slice_get xs k ≡ Some x) × (f x ≡ y)
of_mapped f [] k y at = absurd (none-some y at)
of_mapped f (x ∷ xs) zero y at = (x, refl, same_Some (f x) y at)
of_mapped f (x ∷ xs) (suc k) y at = of_mapped f xs k y at

all_true : {X : Type 0} (p : X → Bool) (xs : List X) → All (λ x. p x ≡ true) xs → list_all p xs ≡ true
all_true p xs all = passes_all p xs (λ x there. All-contains (λ y. p y ≡ true) xs x all there)

module _ (cells : ℕ) (steps : List Step) (loads : List (List ℤ)) (roots : List ℤ) (t : Turn) where
  abbrev all_shapes : List (List ℕ)
  all_shapes = shapes cells steps

  abbrev shape : Step → List ℕ
  shape = shape_of cells steps

  abbrev rank_of : ℕ → ℤ
  rank_of = ranked cells steps loads roots t

  abbrev among : (Step → Bool) → List ℤ
  among = ranked_among cells steps loads roots t

  abbrev has : List ℕ → Step → Bool
  has = has_shape cells steps

  abbrev shaped_at : ℕ → ℤ
  shaped_at k = get_or t.shaped k (constant false)

  abbrev root : Tested → ℤ
  root x = get_or roots x.conjunct (constant false)

  -- a shape has at most as many terms as there are cells
  abbrev IsShort : List ℕ → Type 0
  IsShort xs = length xs ≤ cells

  -- the literals and words of a turn are over the variables of a formula
  pub record Fits (g : Formula) : Type 0 where
    pub one : 0 < g.vars
    pub ordered_in : IsOf g.vars t.ordered
    pub ranked_in : (i : ℕ) → i < length steps → IsOf g.vars (rank_of i)
    pub count : length t.shaped ≡ length all_shapes
    pub shaped_in : (k : ℕ) → k < length all_shapes → IsOf g.vars (shaped_at k)
    pub words_in : (term : ℕ) → IsOperand g (word_at t.words term)
    pub after_in : (j : ℕ) → j < cells → IsOperand g (get_or t.after j [])
    pub held : (s : Step) → Contains steps s → length s.does.cells ≡ cells
    pub loads_in : (s : Step) (x : Loaded) → Contains steps s → Contains s.does.loads x → IsOperand g (get_or loads x.load [])
    pub roots_in : (s : Step) (x : Tested) → Contains steps s → Contains s.tests x → IsOf g.vars (root x)

  -- the values of the literals and words around the rank of a region
  pub record Says (v : Valuation) (all : Bool) (which : ℕ) (s : Step) (old new values : List ℤ) (holds : ℕ → Bool) : Type 0 where
    pub there : slice_get steps which ≡ Some s
    pub ordered_is : literal_true v t.ordered ≡ all
    pub ranked_is : (i : ℕ) → i < length steps → literal_true v (rank_of i) ≡ (i == which)
    pub shaped_is : (k : ℕ) (xs : List ℕ) → slice_get all_shapes k ≡ Some xs → literal_true v (shaped_at k) ≡ (all && has xs s)
    pub words_are : (e : Expr) → Contains (exprs_of s) e → int_value v (word_at t.words (term_of cells steps e)) ≡ expr.value_of e old
    pub after_is : (j : ℕ) (z : ℤ) → slice_get new j ≡ Some z → int_value v (get_or t.after j []) ≡ z
    pub loads_are : (x : Loaded) → Contains s.does.loads x → int_value v (get_or loads x.load []) ≡ get_or values x.load (pos 0)
    pub roots_are : (x : Tested) → Contains s.tests x → literal_true v (root x) ≡ holds x.conjunct
    pub goes : all ≡ true → Goes s old new values holds

  shapes_short : (g : Formula) → Fits g → (xs : List ℕ) → Contains all_shapes xs → IsShort xs
  shapes_short g fits xs there =
      all_of_shapes IsShort [] (map shape (filter (λ (s : Step). is_closed s.does) steps)) (λ y none. absurd (contains_none y none))
      (λ y made. from_step y made) xs there
    where
      from_step : (y : List ℕ) → Contains (map shape (filter (λ (s : Step). is_closed s.does) steps)) y → IsShort y
      from_step y made =
          let o = of_map shape y (filter (λ (s : Step). is_closed s.does) steps) made in
          let s : Step = o.0 in
          let among_steps = (of_filter (λ (s : Step). is_closed s.does) s steps o.1).0 in
          let held = fits.held s among_steps in
          let values : List Expr = filter_map (λ (x : Holding). x.value) s.does.cells in
          let few = closed_count s.does.cells in
          let long : length (shape s) ≡ length values = length-map values (term_of cells steps) in
          subst IsShort o.2 (omega (arith, few, held, long))

  -- the literals of a rank, for the regions of a kind
  among_all : (P : ℤ → Type 0) (p : Step → Bool) → ((i : ℕ) (s : Step) → slice_get steps i ≡ Some s → p s ≡ true → P (rank_of i)) → All P (among p)
  among_all P p h =
      All-map P (λ (x : ℕ × Step). rank_of x.0) (filter (λ (x : ℕ × Step). p x.1) (enumerate_from 0 steps))
      (all_of (λ (x : ℕ × Step). P (rank_of x.0)) (filter (λ (x : ℕ × Step). p x.1) (enumerate_from 0 steps))
      (λ x there.
      let o = of_filter (λ (x : ℕ × Step). p x.1) x (enumerate_from 0 steps) there in
      h x.0 x.1 (of_enumerated x steps o.0) o.1))

  among_some : (v : Valuation) (p : Step → Bool) (i : ℕ) (s : Step) → slice_get steps i ≡ Some s → p s ≡ true → literal_true v (rank_of i) ≡ true
      → list_any (literal_true v) (among p) ≡ true
  among_some v p i s at kind is =
      any_of (literal_true v) (among p) (rank_of i)
      (contains_map (λ (x : ℕ × Step). rank_of x.0) (filter (λ (x : ℕ × Step). p x.1) (enumerate_from 0 steps)) (i, s)
      (in_filter (λ (x : ℕ × Step). p x.1) (i, s) (enumerate_from 0 steps) (in_enumerated i s steps at) kind)) is

  module _ (g : Formula) (fits : Fits g) where
    abbrev Of : ℤ → Type 0
    Of = IsOf g.vars

    abbrev Clause : List ℤ → Type 0
    Clause = All Of

    true_of : Of (constant true)
    true_of = constant_of g.vars true fits.one

    opposite_of : (l : ℤ) → Of l → Of (neg_ℤ l)
    opposite_of l of = IsOf-opposite g.vars l of

    rank_there : (i : ℕ) (s : Step) → slice_get steps i ≡ Some s → Of (rank_of i)
    rank_there i s at = fits.ranked_in i (slice_get_within steps i s at)

    shaped_there : (k : ℕ) (xs : List ℕ) → slice_get all_shapes k ≡ Some xs → Of (shaped_at k)
    shaped_there k xs at = fits.shaped_in k (slice_get_within all_shapes k xs at)

    equal_there : (i : ℕ) (s : Step) (word : List ℤ) (o : Option Expr) → slice_get steps i ≡ Some s → IsOperand g word
        → All Clause (equal_clauses cells steps loads roots t i word o)
    equal_there i s word None at w = All-nil Clause
    equal_there i s word (Some e) at w =
        value_literals g.vars t.ordered (rank_of i) word (word_at t.words (term_of cells steps e)) fits.ordered_in (rank_there i s at) w.literals
        (fits.words_in (term_of cells steps e)).literals

    among_there : (p : Step → Bool) → Clause (among p)
    among_there p = among_all Of p (λ i s at _. rank_there i s at)

    shape_there : (k : ℕ) (xs : List ℕ) → slice_get all_shapes k ≡ Some xs → All Clause (shape_clauses cells steps loads roots t xs (shaped_at k))
    shape_there k xs at =
        let l : ℤ = shaped_at k in
        let of : Of l = shaped_there k xs at in
        let first : List ℤ = neg_ℤ l ∷ t.ordered ∷ [] in
        let second : List ℤ = neg_ℤ l ∷ among (has xs) in
        let others : List (List ℤ) = map (λ r. neg_ℤ t.ordered ∷ neg_ℤ r ∷ l ∷ []) (among (has xs)) in
        All-cons Clause first (second ∷ others) (pair_there Of (neg_ℤ l) t.ordered (opposite_of l of) fits.ordered_in)
        (All-cons Clause second others (All-cons Of (neg_ℤ l) (among (has xs)) (opposite_of l of) (among_there (has xs)))
        (All-map Clause (λ r. neg_ℤ t.ordered ∷ neg_ℤ r ∷ l ∷ []) (among (has xs))
        (among_all (λ r. Clause (neg_ℤ t.ordered ∷ neg_ℤ r ∷ l ∷ [])) (has xs) (λ i s at_i _.
        three_there Of (neg_ℤ t.ordered) (neg_ℤ (rank_of i)) l (opposite_of t.ordered fits.ordered_in) (opposite_of (rank_of i) (rank_there i s at_i)) of))))

    left_there : (k : ℕ) (xs : List ℕ) → slice_get all_shapes k ≡ Some xs → All Clause (left_clauses cells steps loads roots t xs (shaped_at k))
    left_there k xs at =
        all_flat_map Clause (λ (x : ℕ × ℕ). value_clauses (shaped_at k) (constant true) (get_or t.after x.0 []) (word_at t.words x.1)) (enumerate_from 0 xs)
        (λ x there.
        let low : x.0 < length xs = slice_get_within xs x.0 x.1 (of_enumerated x xs there) in
        let short : length xs ≤ cells = shapes_short g fits xs (at_in all_shapes k xs at) in
        value_literals g.vars (shaped_at k) (constant true) (get_or t.after x.0 []) (word_at t.words x.1) (shaped_there k xs at) true_of
        (fits.after_in x.0 (omega (arith, low, short))).literals (fits.words_in x.1).literals)

    some_there : Clause (some_clause cells steps loads roots t)
    some_there =
        All-cons Of (neg_ℤ t.ordered) (t.shaped ++ among (λ s. not (is_closed s.does))) (opposite_of t.ordered fits.ordered_in)
        (All-append Of t.shaped (among (λ s. not (is_closed s.does)))
        (All-from_get_or Of t.shaped (constant false) (λ k below. fits.shaped_in k (omega (arith, below, fits.count))))
        (among_there (λ s. not (is_closed s.does))))

    test_there : (i : ℕ) (s : Step) (x : Tested) → slice_get steps i ≡ Some s → Contains s.tests x → All Clause (test_clauses cells steps loads roots t i x)
    test_there i s x at there = by x.wanted
      where
        word : List ℤ
        word = word_at t.words (term_of cells steps x.test)

        unless : List ℤ
        unless = neg_ℤ t.ordered ∷ neg_ℤ (rank_of i) ∷ neg_ℤ (root x) ∷ []

        first : Clause unless
        first = three_there Of (neg_ℤ t.ordered) (neg_ℤ (rank_of i)) (neg_ℤ (root x)) (opposite_of t.ordered fits.ordered_in)
            (opposite_of (rank_of i) (rank_there i s at)) (opposite_of (root x) (fits.roots_in s x (at_in steps i s at) there))

        operand : IsOperand g word
        operand = fits.words_in (term_of cells steps x.test)

        by : (b : Bool) → All Clause (if b then (unless ++ word) ∷ [] else map (λ l. unless ++ neg_ℤ l ∷ []) word)
        by true = All-cons Clause (unless ++ word) [] (All-append Of unless word first operand.literals) (All-nil Clause)
        by false =
            All-map Clause (λ l. unless ++ neg_ℤ l ∷ []) word
            (all_of (λ l. Clause (unless ++ neg_ℤ l ∷ [])) word (λ l among_word.
            All-append Of unless (neg_ℤ l ∷ []) first
            (All-cons Of (neg_ℤ l) [] (opposite_of l (All-contains Of word l operand.literals among_word)) (All-nil Of))))

    open_there : (i : ℕ) (s : Step) → slice_get steps i ≡ Some s → All Clause (open_clauses cells steps loads roots t i s)
    open_there i s at = by (is_closed s.does)
      where
        by : (b : Bool) → All Clause (if b then [] else
            flat_map (λ (x : ℕ × Holding). equal_clauses cells steps loads roots t i (get_or t.after x.0 []) x.1.value) (enumerate_from 0 s.does.cells))
        by true = All-nil Clause
        by false =
            all_flat_map Clause (λ (x : ℕ × Holding). equal_clauses cells steps loads roots t i (get_or t.after x.0 []) x.1.value) (enumerate_from 0 s.does.cells)
            (λ x there.
            let low : x.0 < length s.does.cells = slice_get_within s.does.cells x.0 x.1 (of_enumerated x s.does.cells there) in
            let held = fits.held s (at_in steps i s at) in
            equal_there i s (get_or t.after x.0 []) x.1.value at (fits.after_in x.0 (omega (arith, low, held))))

    region_there : (i : ℕ) (s : Step) → slice_get steps i ≡ Some s → All Clause (region_clauses cells steps loads roots t i s)
    region_there i s at =
        let opens : List (List ℤ) = open_clauses cells steps loads roots t i s in
        let takes : List (List ℤ) = load_clauses cells steps loads roots t i s in
        let tests : List (List ℤ) = flat_map (test_clauses cells steps loads roots t i) s.tests in
        All-append Clause opens (takes ++ tests) (open_there i s at)
        (All-append Clause takes tests
        (all_flat_map Clause (λ (x : Loaded). equal_clauses cells steps loads roots t i (get_or loads x.load []) x.value) s.does.loads
        (λ x there. equal_there i s (get_or loads x.load []) x.value at (fits.loads_in s x (at_in steps i s at) there)))
        (all_flat_map Clause (test_clauses cells steps loads roots t i) s.tests (λ x there. test_there i s x at there)))

    pub turn_there : All Clause (turn_clauses cells steps loads roots t)
    turn_there =
        let each : ℕ × List ℕ → List (List ℤ) =
        λ x. shape_clauses cells steps loads roots t x.1 (shaped_at x.0) ++ left_clauses cells steps loads roots t x.1 (shaped_at x.0) in
        let regions : List (List ℤ) = flat_map (λ (x : ℕ × Step). region_clauses cells steps loads roots t x.0 x.1) (enumerate_from 0 steps) in
        All-append Clause (flat_map each (enumerate_from 0 all_shapes)) (some_clause cells steps loads roots t ∷ regions)
        (all_flat_map Clause each (enumerate_from 0 all_shapes) (λ x there.
        let at = of_enumerated x all_shapes there in
        All-append Clause (shape_clauses cells steps loads roots t x.1 (shaped_at x.0)) (left_clauses cells steps loads roots t x.1 (shaped_at x.0))
        (shape_there x.0 x.1 at) (left_there x.0 x.1 at)))
        (All-cons Clause (some_clause cells steps loads roots t) regions some_there
        (all_flat_map Clause (λ (x : ℕ × Step). region_clauses cells steps loads roots t x.0 x.1) (enumerate_from 0 steps)
        (λ x there. region_there x.0 x.1 (of_enumerated x steps there))))

    module _ (v : Valuation) (one : v 1 ≡ true) (all : Bool) (which : ℕ) (s : Step) (old new values : List ℤ) (holds : ℕ → Bool)
        (says : Says v all which s old new values holds) where
      among_steps : Contains steps s
      among_steps = at_in steps which s says.there

      is_ranked : literal_true v (rank_of which) ≡ true
      is_ranked = says.ranked_is which (slice_get_within steps which s says.there) ∙ eq-eqb which which refl

      -- only the region of the rank has it
      the_one : (i : ℕ) (r : Step) → slice_get steps i ≡ Some r → literal_true v (rank_of i) ≡ true → r ≡ s
      the_one i r at is =
          let same : i ≡ which = eqb-true i which (sym (says.ranked_is i (slice_get_within steps i r at)) ∙ is) in
          same_Some r s (sym at ∙ ap (slice_get steps) same ∙ says.there)

      all_ordered : literal_true v t.ordered ≡ true → all ≡ true
      all_ordered is = sym says.ordered_is ∙ is

      equal_true : (i : ℕ) (r : Step) (word : List ℤ) (o : Option Expr) → slice_get steps i ≡ Some r → IsOperand g word
          → ((e : Expr) → o ≡ Some e → r ≡ s → all ≡ true → int_value v word ≡ int_value v (word_at t.words (term_of cells steps e)))
          → satisfies v (equal_clauses cells steps loads roots t i word o) ≡ true
      equal_true i r word None at w h = refl
      equal_true i r word (Some e) at w h =
          equal_words v g t.ordered (rank_of i) word (word_at t.words (term_of cells steps e)) fits.ordered_in (rank_there i r at) w (fits.words_in (term_of cells steps e))
          (λ p q. h e refl (the_one i r at q) (all_ordered p))

      shape_true : (k : ℕ) (xs : List ℕ) → slice_get all_shapes k ≡ Some xs → satisfies v (shape_clauses cells steps loads roots t xs (shaped_at k)) ≡ true
      shape_true k xs at =
          and_from _ _
          (implication v g.vars (shaped_at k) t.ordered (shaped_there k xs at) (λ is. says.ordered_is ∙ (and_parts all (has xs s) (sym (says.shaped_is k xs at) ∙ is)).0))
          (and_from _ _
          (unless_one v g (shaped_at k) (among (has xs)) (shaped_there k xs at)
          (λ is. among_some v (has xs) which s says.there (and_parts all (has xs s) (sym (says.shaped_is k xs at) ∙ is)).1 is_ranked))
          (list_all-map (clause_true v) (λ r. neg_ℤ t.ordered ∷ neg_ℤ r ∷ shaped_at k ∷ []) (among (has xs))
          ∙ all_true (λ r. clause_true v (neg_ℤ t.ordered ∷ neg_ℤ r ∷ shaped_at k ∷ [])) (among (has xs))
          (among_all (λ r. clause_true v (neg_ℤ t.ordered ∷ neg_ℤ r ∷ shaped_at k ∷ []) ≡ true) (has xs) (λ i r at_i kind.
          implication_two v g.vars t.ordered (rank_of i) (shaped_at k) fits.ordered_in (rank_there i r at_i)
          (λ p q. says.shaped_is k xs at ∙ and_from _ _ (all_ordered p) (subst (λ z. has xs z ≡ true) (the_one i r at_i q) kind))))))

      left_true : (k : ℕ) (xs : List ℕ) → slice_get all_shapes k ≡ Some xs → satisfies v (left_clauses cells steps loads roots t xs (shaped_at k)) ≡ true
      left_true k xs at =
          passes_flat_map (clause_true v) (λ (x : ℕ × ℕ). value_clauses (shaped_at k) (constant true) (get_or t.after x.0 []) (word_at t.words x.1)) (enumerate_from 0 xs)
          (λ x there.
          let place = of_enumerated x xs there in
          let low : x.0 < length xs = slice_get_within xs x.0 x.1 place in
          let short : length xs ≤ cells = shapes_short g fits xs (at_in all_shapes k xs at) in
          equal_words v g (shaped_at k) (constant true) (get_or t.after x.0 []) (word_at t.words x.1) (shaped_there k xs at) true_of
          (fits.after_in x.0 (omega (arith, low, short))) (fits.words_in x.1)
          (λ is _.
          let parts = and_parts all (has xs s) (sym (says.shaped_is k xs at) ∙ is) in
          let kind = and_parts (is_closed s.does) (same_shape xs (shape s)) parts.1 in
          let exprs : List Expr = filter_map (λ (y : Holding). y.value) s.does.cells in
          let term : slice_get (map (term_of cells steps) exprs) x.0 ≡ Some x.1 = ap (λ ys. slice_get ys x.0) (sym (same_is xs (shape s) kind.1)) ∙ place in
          let e = of_mapped (term_of cells steps) exprs x.0 x.1 term in
          let y = closed_value s.does.cells kind.0 x.0 e.0 e.1 in
          let goes = says.goes parts.0 in
          says.after_is x.0 (expr.value_of e.0 old) (goes.cells x.0 y.0 e.0 y.1 y.2)
          ∙ sym (says.words_are e.0 (Contains-append_left exprs _ e.0 (at_in exprs x.0 e.0 e.1))) ∙ ap (λ n. int_value v (word_at t.words n)) e.2))

      some_true : clause_true v (some_clause cells steps loads roots t) ≡ true
      some_true = unless_one v g t.ordered (t.shaped ++ among (λ r. not (is_closed r.does))) fits.ordered_in (λ is. by (is_closed s.does) refl (all_ordered is))
        where
          by : (b : Bool) → is_closed s.does ≡ b → all ≡ true → list_any (literal_true v) (t.shaped ++ among (λ r. not (is_closed r.does))) ≡ true
          by true closed sure =
              let xs : List ℕ = shape s in
              let made : List (List ℕ) = map shape (filter (λ (r : Step). is_closed r.does) steps) in
              let here : Contains all_shapes xs =
              all_in [] made xs (contains_map shape (filter (λ (r : Step). is_closed r.does) steps) s
              (in_filter (λ (r : Step). is_closed r.does) s steps among_steps closed)) in
              let place = in_at all_shapes xs here in
              let k : ℕ = place.0 in
              let low : k < length t.shaped = let inside = slice_get_within all_shapes k xs place.1 in omega (arith, inside, fits.count) in
              any_of (literal_true v) (t.shaped ++ among (λ r. not (is_closed r.does))) (shaped_at k)
              (Contains-append_left t.shaped _ (shaped_at k) (Contains-get_or t.shaped k (constant false) low))
              (says.shaped_is k xs place.1 ∙ and_from _ _ sure (and_from _ _ closed (is_same xs)))
          by false not_closed sure =
              any_of (literal_true v) (t.shaped ++ among (λ r. not (is_closed r.does))) (rank_of which)
              (Contains-append_right t.shaped (among (λ r. not (is_closed r.does))) (rank_of which)
              (contains_map (λ (x : ℕ × Step). rank_of x.0) (filter (λ (x : ℕ × Step). not (is_closed x.1.does)) (enumerate_from 0 steps)) (which, s)
              (in_filter (λ (x : ℕ × Step). not (is_closed x.1.does)) (which, s) (enumerate_from 0 steps) (in_enumerated which s steps says.there) (ap not not_closed))))
              is_ranked

      open_true : (i : ℕ) (r : Step) → slice_get steps i ≡ Some r → satisfies v (open_clauses cells steps loads roots t i r) ≡ true
      open_true i r at = by (is_closed r.does)
        where
          by : (b : Bool) → satisfies v (if b then [] else
              flat_map (λ (x : ℕ × Holding). equal_clauses cells steps loads roots t i (get_or t.after x.0 []) x.1.value) (enumerate_from 0 r.does.cells)) ≡ true
          by true = refl
          by false =
              passes_flat_map (clause_true v) (λ (x : ℕ × Holding). equal_clauses cells steps loads roots t i (get_or t.after x.0 []) x.1.value)
              (enumerate_from 0 r.does.cells) (λ x there.
              let place = of_enumerated x r.does.cells there in
              let low : x.0 < length r.does.cells = slice_get_within r.does.cells x.0 x.1 place in
              let held = fits.held r (at_in steps i r at) in
              equal_true i r (get_or t.after x.0 []) x.1.value at (fits.after_in x.0 (omega (arith, low, held)))
              (λ e is same sure.
              let goes = says.goes sure in
              let here : slice_get s.does.cells x.0 ≡ Some x.1 = subst (λ (z : Step). slice_get z.does.cells x.0 ≡ Some x.1) same place in
              says.after_is x.0 (expr.value_of e old) (goes.cells x.0 x.1 e here is)
              ∙ sym (says.words_are e (Contains-append_left (filter_map (λ (y : Holding). y.value) s.does.cells) _ e
              (in_filter_map (λ (y : Holding). y.value) x.1 e s.does.cells (at_in s.does.cells x.0 x.1 here) is)))))

      load_true : (i : ℕ) (r : Step) → slice_get steps i ≡ Some r → satisfies v (load_clauses cells steps loads roots t i r) ≡ true
      load_true i r at =
          passes_flat_map (clause_true v) (λ (x : Loaded). equal_clauses cells steps loads roots t i (get_or loads x.load []) x.value) r.does.loads
          (λ x there.
          equal_true i r (get_or loads x.load []) x.value at (fits.loads_in r x (at_in steps i r at) there)
          (λ e is same sure.
          let goes = says.goes sure in
          let here : Contains s.does.loads x = subst (λ (z : Step). Contains z.does.loads x) same there in
          let exprs : List Expr = filter_map (λ (y : Holding). y.value) s.does.cells in
          says.loads_are x here ∙ goes.loads x e here is
          ∙ sym (says.words_are e (Contains-append_right exprs _ e (Contains-append_left (filter_map (λ (y : Loaded). y.value) s.does.loads) _ e
          (in_filter_map (λ (y : Loaded). y.value) x e s.does.loads here is))))))

      test_holds : (i : ℕ) (r : Step) (x : Tested) → slice_get steps i ≡ Some r → Contains r.tests x → satisfies v (test_clauses cells steps loads roots t i x) ≡ true
      test_holds i r x at there = by x.wanted refl
        where
          word : List ℤ
          word = word_at t.words (term_of cells steps x.test)

          unless : List ℤ
          unless = neg_ℤ t.ordered ∷ neg_ℤ (rank_of i) ∷ neg_ℤ (root x) ∷ []

          root_of : Of (root x)
          root_of = fits.roots_in r x (at_in steps i r at) there

          comes_out : literal_true v t.ordered ≡ true → literal_true v (rank_of i) ≡ true → literal_true v (root x) ≡ true
              → not (int_eq (int_value v word) (pos 0)) ≡ x.wanted
          comes_out p q k =
              let here : Contains s.tests x = subst (λ (z : Step). Contains z.tests x) (the_one i r at q) there in
              let exprs : List Expr = filter_map (λ (y : Holding). y.value) s.does.cells in
              let among_exprs : Contains (exprs_of s) x.test =
              Contains-append_right exprs _ x.test (Contains-append_right (filter_map (λ (y : Loaded). y.value) s.does.loads) _ x.test
              (contains_map (λ (y : Tested). y.test) s.tests x here)) in
              ap (λ z. not (int_eq z (pos 0))) (says.words_are x.test among_exprs) ∙ (says.goes (all_ordered p)).tests x here (sym (says.roots_are x here) ∙ k)

          by : (b : Bool) → x.wanted ≡ b → satisfies v (if b then (unless ++ word) ∷ [] else map (λ l. unless ++ neg_ℤ l ∷ []) word) ≡ true
          by true is =
              and_from _ _
              (test_true v g t.ordered (rank_of i) (root x) word fits.ordered_in (rank_there i r at) root_of (fits.words_in (term_of cells steps x.test))
              (λ p q k. comes_out p q k ∙ is)) refl
          by false is =
              test_false v g t.ordered (rank_of i) (root x) word fits.ordered_in (rank_there i r at) root_of (fits.words_in (term_of cells steps x.test))
              (λ p q k. comes_out p q k ∙ is)

      region_true : (i : ℕ) (r : Step) → slice_get steps i ≡ Some r → satisfies v (region_clauses cells steps loads roots t i r) ≡ true
      region_true i r at =
          let opens : List (List ℤ) = open_clauses cells steps loads roots t i r in
          let takes : List (List ℤ) = load_clauses cells steps loads roots t i r in
          let tests : List (List ℤ) = flat_map (test_clauses cells steps loads roots t i) r.tests in
          list_all-append (clause_true v) opens (takes ++ tests)
          ∙ and_from _ _ (open_true i r at)
          (list_all-append (clause_true v) takes tests
          ∙ and_from _ _ (load_true i r at)
          (passes_flat_map (clause_true v) (test_clauses cells steps loads roots t i) r.tests (λ x there. test_holds i r x at there)))

      pub turn_true : satisfies v (turn_clauses cells steps loads roots t) ≡ true
      turn_true =
          let each : ℕ × List ℕ → List (List ℤ) =
          λ x. shape_clauses cells steps loads roots t x.1 (shaped_at x.0) ++ left_clauses cells steps loads roots t x.1 (shaped_at x.0) in
          let regions : List (List ℤ) = flat_map (λ (x : ℕ × Step). region_clauses cells steps loads roots t x.0 x.1) (enumerate_from 0 steps) in
          list_all-append (clause_true v) (flat_map each (enumerate_from 0 all_shapes)) (some_clause cells steps loads roots t ∷ regions)
          ∙ and_from _ _
          (passes_flat_map (clause_true v) each (enumerate_from 0 all_shapes) (λ x there.
          let at = of_enumerated x all_shapes there in
          list_all-append (clause_true v) (shape_clauses cells steps loads roots t x.1 (shaped_at x.0)) (left_clauses cells steps loads roots t x.1 (shaped_at x.0))
          ∙ and_from _ _ (shape_true x.0 x.1 at) (left_true x.0 x.1 at)))
          (and_from _ _ some_true
          (passes_flat_map (clause_true v) (λ (x : ℕ × Step). region_clauses cells steps loads roots t x.0 x.1) (enumerate_from 0 steps)
          (λ x there. region_true x.0 x.1 (of_enumerated x steps there))))
