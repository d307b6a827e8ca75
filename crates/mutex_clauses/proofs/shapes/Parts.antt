-- What holds of all expressions of steps, and the steps with terms in their place.
use Rattle.std.proofs.Common.{◌≡◌, ℕ, ◌<◌, List, [], ◌∷◌, ◌++◌, Option, Some, None, refl, ap, ◌∙◌, Bool, true, false, map}
use Rattle.std.specs.Prelude.{◌==◌, ◌&&◌, filter, fold, nat_eq, if◌then◌else◌, IfSome, option_map}
use Rattle.std.specs.Cmp.Lexicographic.{pointwise}
use Rattle.std.specs.List.{All, Contains, cons_option, filter_map, flat_map, list_any}
use Rattle.std.proofs.lemmas.List.Elements.{All-cons, All-contains, All-contains_itself, All-filter, All-head, All-map, All-nil, All-push}
use Rattle.std.proofs.lemmas.List.Elements.{All-tail, All-weaker, Contains-append_left, Contains-append_right}
use Rattle.indexmap.specs.IndexSet.{insert_key}
use Rattle.tc_code.specs.Expr.{Expr}
use Rattle.mutex_regions.specs.Functions.{is_closed}
use Rattle.mutex_regions.specs.declared.functions.Holding.{Holding}
use Rattle.mutex_regions.specs.declared.functions.Loaded.{Loaded}
use Rattle.mutex_states.specs.Steps.{Step, Tested, exprs_of, same_shape}
use Rattle.mutex_clauses.specs.shapes.Termed.{IsBelow, Termed, load_term, termed_by, test_term}
use Rattle.mutex_clauses.specs.declared.shapes.steps.LoadTerm.{LoadTerm}
use Rattle.mutex_clauses.specs.declared.shapes.steps.TestTerm.{TestTerm}
use Rattle.mutex_clauses.specs.shapes.helpers.Pooled.{AllOf}

-- ---- all expressions

all_left : {X : Type 0} (P : X → Type 0) (xs ys : List X) → All P (xs ++ ys) → All P xs
all_left P xs ys h =
    All-weaker (Contains xs) P (λ x there. All-contains P (xs ++ ys) x h (Contains-append_left xs ys x there)) xs (All-contains_itself xs)

all_right : {X : Type 0} (P : X → Type 0) (xs ys : List X) → All P (xs ++ ys) → All P ys
all_right P xs ys h =
    All-weaker (Contains ys) P (λ x there. All-contains P (xs ++ ys) x h (Contains-append_right xs ys x there)) ys (All-contains_itself ys)

module _ (P : Expr → Type 0) where
  one_value : (o : Option Expr) (es : List Expr) → All P (cons_option o es) → IfSome o P × All P es
  one_value None es all = (tt, all)
  one_value (Some e) es all = (All-head P e es all, All-tail P e es all)

  all_values : {X : Type 0} (h : X → Option Expr) (xs : List X) → All P (filter_map h xs) → All (λ x. IfSome (h x) P) xs
  all_values h [] all = All-nil (λ x. IfSome (h x) P)
  all_values h (x ∷ xs) all =
      let p = one_value (h x) (filter_map h xs) all in All-cons (λ y. IfSome (h y) P) x xs p.0 (all_values h xs p.1)

  all_mapped : {X : Type 0} (f : X → Expr) (xs : List X) → All P (map f xs) → All (λ x. P (f x)) xs
  all_mapped f [] all = All-nil (λ x. P (f x))
  all_mapped f (x ∷ xs) all =
      All-cons (λ y. P (f y)) x xs (All-head P (f x) (map f xs) all) (all_mapped f xs (All-tail P (f x) (map f xs) all))

  of_step : (s : Step) → All P (exprs_of s) → AllOf P s
  of_step s all =
      let of_cells : List Expr = filter_map (λ (x : Holding). x.value) s.does.cells in
      let of_loads : List Expr = filter_map (λ (x : Loaded). x.value) s.does.loads in
      let of_tests : List Expr = map (λ (x : Tested). x.test) s.tests in
      let rest : All P (of_loads ++ of_tests) = all_right P of_cells (of_loads ++ of_tests) all in
      record {
        cells = all_values (λ x. x.value) s.does.cells (all_left P of_cells (of_loads ++ of_tests) all);
        loads = all_values (λ x. x.value) s.does.loads (all_left P of_loads of_tests rest);
        tests = all_mapped (λ x. x.test) s.tests (all_right P of_loads of_tests rest);
      }

  pub of_steps : (ss : List Step) → All P (flat_map exprs_of ss) → All (AllOf P) ss
  of_steps [] all = All-nil (AllOf P)
  of_steps (s ∷ ss) all =
      All-cons (AllOf P) s ss (of_step s (all_left P (exprs_of s) (flat_map exprs_of ss) all))
      (of_steps ss (all_right P (exprs_of s) (flat_map exprs_of ss) all))

-- ---- terms in their place

module _ (term : Expr → ℕ) where
  -- the terms of the cells that have one
  pub no_gaps : (xs : List Holding) → filter_map (λ (t : Option ℕ). t) (map (λ (x : Holding). option_map term x.value) xs)
      ≡ map term (filter_map (λ (x : Holding). x.value) xs)
  no_gaps [] = refl
  no_gaps (x ∷ xs) =
      by x.value (filter_map (λ (t : Option ℕ). t) (map (λ (y : Holding). option_map term y.value) xs))
      (filter_map (λ (y : Holding). y.value) xs) (no_gaps xs)
    where
      by : (o : Option Expr) (ts : List ℕ) (es : List Expr) → ts ≡ map term es
          → cons_option (option_map term o) ts ≡ map term (cons_option o es)
      by None ts es h = h
      by (Some e) ts es h = ap (λ zs. term e ∷ zs) h

  -- a step with terms, from its parts
  pub is_termed : (s : Step) (closed : Bool) (shape : List ℕ) (cells : List (Option ℕ)) (loads : List LoadTerm) (tests : List TestTerm)
      → closed ≡ is_closed s.does
      → shape ≡ filter_map (λ (t : Option ℕ). t) cells → cells ≡ map (λ (x : Holding). option_map term x.value) s.does.cells
      → loads ≡ map (load_term term) s.does.loads → tests ≡ map (test_term term) s.tests
      → record { is_closed = closed; shape = shape; cells = cells; loads = loads; tests = tests } ≡ termed_by term s
  is_termed s closed shape cells loads tests e0 e1 e2 e3 e4 = λ i. record {
    is_closed = e0 i;
    shape = (e1 ∙ ap (filter_map (λ (t : Option ℕ). t)) e2 ∙ no_gaps s.does.cells) i;
    cells = e2 i;
    loads = e3 i;
    tests = e4 i;
  }

  -- the shapes of those that leave functions of the state
  pub shapes_alike : (ss : List Step) → map (λ (t : Termed). t.shape) (filter (λ (t : Termed). t.is_closed) (map (termed_by term) ss))
      ≡ map (λ (s : Step). map term (filter_map (λ (x : Holding). x.value) s.does.cells)) (filter (λ (s : Step). is_closed s.does) ss)
  shapes_alike [] = refl
  shapes_alike (s ∷ ss) =
      by (is_closed s.does) (filter (λ (t : Termed). t.is_closed) (map (termed_by term) ss)) (filter (λ (x : Step). is_closed x.does) ss)
      (shapes_alike ss)
    where
      by : (b : Bool) (ts : List Termed) (xs : List Step)
          → map (λ (t : Termed). t.shape) ts ≡ map (λ (x : Step). map term (filter_map (λ (y : Holding). y.value) x.does.cells)) xs
          → map (λ (t : Termed). t.shape) (if b then termed_by term s ∷ ts else ts)
          ≡ map (λ (x : Step). map term (filter_map (λ (y : Holding). y.value) x.does.cells)) (if b then s ∷ xs else xs)
      by true ts xs h = ap (λ zs. map term (filter_map (λ (y : Holding). y.value) s.does.cells) ∷ zs) h
      by false ts xs h = h

  -- ---- bounds

  module _ (n : ℕ) where
    some_below : (o : Option Expr) → IfSome o (λ e. term e < n) → IfSome (option_map term o) (λ t. t < n)
    some_below None h = tt
    some_below (Some e) h = h

    shape_below : (xs : List Holding) → All (λ x. IfSome x.value (λ e. term e < n)) xs
        → All (λ t. t < n) (map term (filter_map (λ (x : Holding). x.value) xs))
    shape_below [] all = All-nil (λ t. t < n)
    shape_below (x ∷ xs) all =
        by x.value (filter_map (λ (y : Holding). y.value) xs) (All-head (λ (y : Holding). IfSome y.value (λ e. term e < n)) x xs all)
        (shape_below xs (All-tail (λ (y : Holding). IfSome y.value (λ e. term e < n)) x xs all))
      where
        by : (o : Option Expr) (es : List Expr) → IfSome o (λ e. term e < n) → All (λ t. t < n) (map term es)
            → All (λ t. t < n) (map term (cons_option o es))
        by None es h rest = rest
        by (Some e) es h rest = All-cons (λ t. t < n) (term e) (map term es) h rest

    step_below : (s : Step) → AllOf (λ e. term e < n) s → IsBelow n (termed_by term s)
    step_below s all = record {
      shape = shape_below s.does.cells all.cells;
      cells = All-map (λ o. IfSome o (λ t. t < n)) (λ (x : Holding). option_map term x.value) s.does.cells
          (All-weaker (λ (x : Holding). IfSome x.value (λ e. term e < n)) (λ (x : Holding). IfSome (option_map term x.value) (λ t. t < n))
          (λ x. some_below x.value) s.does.cells all.cells);
      loads = All-map (λ (x : LoadTerm). IfSome x.term (λ t. t < n)) (load_term term) s.does.loads
          (All-weaker (λ (x : Loaded). IfSome x.value (λ e. term e < n)) (λ (x : Loaded). IfSome (option_map term x.value) (λ t. t < n))
          (λ x. some_below x.value) s.does.loads all.loads);
      tests = All-map (λ (x : TestTerm). x.term < n) (test_term term) s.tests all.tests;
    }

    pub steps_below : (ss : List Step) → All (AllOf (λ e. term e < n)) ss → All (IsBelow n) (map (termed_by term) ss)
    steps_below ss all =
        All-map (IsBelow n) (termed_by term) ss
        (All-weaker (AllOf (λ e. term e < n)) (λ s. IsBelow n (termed_by term s)) step_below ss all)

module _ (P : List ℕ → Type 0) where
  insert_all : (ks : List (List ℕ)) (k : List ℕ) → All P ks → P k → All P (insert_key same_shape ks k)
  insert_all ks k all h = by (list_any (same_shape k) ks)
    where
      by : (b : Bool) → All P (if b then ks else ks ++ k ∷ [])
      by true = all
      by false = All-push P ks k all h

  inserted_all : (ks xs : List (List ℕ)) → All P ks → All P xs → All P (fold (insert_key same_shape) ks xs)
  inserted_all ks [] all more = all
  inserted_all ks (x ∷ xs) all more =
      inserted_all (insert_key same_shape ks x) xs (insert_all ks x all (All-head P x xs more)) (All-tail P x xs more)

pub shapes_below : (n : ℕ) (ts : List Termed) → All (IsBelow n) ts
    → All (All (λ t. t < n)) (fold (insert_key same_shape) [] (map (λ (t : Termed). t.shape) (filter (λ (t : Termed). t.is_closed) ts)))
shapes_below n ts all =
    let closed : List Termed = filter (λ (t : Termed). t.is_closed) ts in
    inserted_all (All (λ t. t < n)) [] (map (λ (t : Termed). t.shape) closed) (All-nil (All (λ t. t < n)))
    (All-map (All (λ t. t < n)) (λ (t : Termed). t.shape) closed
    (All-weaker (IsBelow n) (λ (t : Termed). All (λ k. k < n) t.shape) (λ t h. h.shape) closed
    (All-filter (λ (t : Termed). t.is_closed) (IsBelow n) ts all)))

-- a test of lists and one of shapes
pub same_lists : (xs ys : List ℕ) → pointwise nat_eq xs ys ≡ same_shape xs ys
same_lists [] [] = refl
same_lists [] (y ∷ ys) = refl
same_lists (x ∷ xs) [] = refl
same_lists (x ∷ xs) (y ∷ ys) = ap (λ b. (x == y) && b) (same_lists xs ys)
