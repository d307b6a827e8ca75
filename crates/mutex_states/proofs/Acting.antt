-- Where all is in order, the regions go from state to state in the order of their ranks.
use Rattle.std.proofs.Common.{◌≡◌, ℕ, zero, suc, ◌+◌, ◌<◌, ◌≤◌, List, [], ℤ, pos, Option, Some, None, inl, inr, refl, ap, sym, ◌∙◌, subst, arith, Bool, true, false, not, length, get_or}
use Rattle.std.specs.Prelude.{◌==◌, ◌⊎◌, drop, filter, if◌then◌else◌, nat_lt, option_and_then, slice_get, take}
use Rattle.std.specs.List.{Contains, IsDistinct, enumerate_from, filter_map, find, range_with_len}
use Rattle.std.specs.Option.{MatchOption, option_map, option_map_or}
use Rattle.std.specs.Ordering.{int_eq}
use Rattle.std.proofs.lemmas.Bool.{cases_lt, cases_order, eq-eqb, eqb-true, lt-ltb, ltb-true, true≢false}
use Rattle.std.proofs.lemmas.List.{length-map, take-append-drop}
use Rattle.std.proofs.lemmas.Option.{get_or_from_slice_get, none-some, same_Some, slice_get-map, slice_get_within}
use Rattle.order_cells.specs.sym_exec.path_walk.tc_code.Code.{Code}
use Rattle.order_cells.specs.sym_exec.path_walk.tc_code.Expr as expr
use Rattle.order_cells.specs.sym_exec.path_walk.tc_code.Expr.{Expr, names_slots}
use Rattle.order_cells.specs.sym_exec.path_walk.Paths.{Paths}
use Rattle.order_cells.specs.sym_exec.path_walk.declared.event.Region.{Region}
use Rattle.circuit_sizes.specs.sym_terms.declared.node.Node.{Node}
use Rattle.order_cells.specs.sym_exec.Executed.{Course, Symbolic}
use Rattle.order_cells.specs.sym_exec.declared.symbolic.Test.{Test}
use Rattle.mutex_regions.specs.order_events.order_formula.declared.formula.Conjunct.{Conjunct}
use Rattle.mutex_regions.specs.order_events.order_formula.Worlds.{World, position}
use Rattle.mutex_regions.specs.order_events.lawful_order.Events.{Placed, number_of, place_of}
use Rattle.mutex_regions.specs.order_events.lawful_order.Mutexes.{IsLeftBefore}
use Rattle.mutex_regions.proofs.order_events.Lists.{at_in, in_at, of_enumerated, of_filter, of_filter_map, of_nil}
use Rattle.bit_order.specs.bit_ranks.Ranks.{ranks_of}
use Rattle.bit_order.proofs.bit_ranks.RankLaws.{different-order, length-ranks, ranks-below, ranks-differ, ranks-order}
use Rattle.bit_order.proofs.Ranges.{IsFound, searched}
use Rattle.bit_blast.proofs.Lists.{one_place}
use Rattle.std.proofs.lemmas.List.Elements.{All-get_or, Contains-append_left}
use Rattle.circuit_sizes.specs.sym_terms.Values.{value_of}
use Rattle.mutex_regions.specs.Functions.{term_expr, term_over}
use Rattle.mutex_regions.specs.declared.functions.Holding.{Holding}
use Rattle.mutex_regions.specs.declared.functions.Loaded.{Loaded}
use Rattle.mutex_regions.specs.Laws.{IsLastBefore, RegionsAct, begin, does, state}
use Rattle.mutex_regions.specs.Regions.{regions_of}
use Rattle.mutex_regions.proofs.Setting.{Setting, same_or_apart}
use Rattle.mutex_states.specs.Going.{RegionsGo, TestsHold, position_of, positions_of, rank_of, states_of}
use Rattle.mutex_states.specs.Ranks.{AreRanks}
use Rattle.mutex_states.specs.States.{does as does_in, first_test, step_of, tested}
use Rattle.mutex_states.specs.Steps.{Goes, Tested}
use Rattle.mutex_states.proofs.Literals.{some_at}
use Rattle.mutex_states.proofs.RankLaws.{has_rank}

module _ (code : Code) (paths : Paths) (symbolic : Symbolic) (nodes : List Node) (w : World) (m : ℕ) (set : Setting code paths symbolic nodes w m)
    (acts : RegionsAct code paths symbolic nodes w m) (top : ℕ) (above : (e : ℕ) → position w e < top) where
  abbrev regions : List (Placed Region)
  regions = regions_of paths m

  abbrev at : Placed Region → ℕ
  at = begin code paths symbolic nodes w m

  abbrev count : ℕ
  count = length regions

  abbrev positions : List ℕ
  positions = positions_of code paths symbolic nodes w m

  abbrev rank : ℕ → ℕ
  rank = rank_of code paths symbolic nodes w m

  abbrev State : ℕ → List ℤ
  State p = state code paths symbolic nodes w m p

  module _ (distinct : IsDistinct (λ p q. p == q) positions) where
    many : length positions ≡ count
    many = length-map regions at

    place_is : (i : ℕ) (r : Placed Region) → slice_get regions i ≡ Some r → get_or positions i 0 ≡ at r
    place_is i r is = get_or_from_slice_get positions i (at r) 0 (slice_get-map at regions i ∙ ap (option_map at) is)

    inside : (i : ℕ) (r : Placed Region) → slice_get regions i ≡ Some r → i < count
    inside i r is = slice_get_within regions i r is

    in_order_of : (i j : ℕ) → i < count → j < count → nat_lt (rank i) (rank j) ≡ nat_lt (get_or positions i 0) (get_or positions j 0)
    in_order_of i j p q =
        let a : i < length positions = omega (arith, p, many) in
        let b : j < length positions = omega (arith, q, many) in
        ranks-order positions i j a b ∙ different-order positions i j distinct a b

    -- ranks are in the order of the begins
    lower : (i j : ℕ) → i < count → j < count → get_or positions i 0 < get_or positions j 0 → rank i < rank j
    lower i j p q less =
        ltb-true (rank i) (rank j) (in_order_of i j p q ∙ lt-ltb (get_or positions i 0) (get_or positions j 0) less)

    first : (i j : ℕ) → i < count → j < count → rank i < rank j → get_or positions i 0 < get_or positions j 0
    first i j p q less =
        ltb-true (get_or positions i 0) (get_or positions j 0) (sym (in_order_of i j p q) ∙ lt-ltb (rank i) (rank j) less)

    pub are_ranks : AreRanks count rank
    are_ranks = record {
      below = λ i there.
          let long : length (ranks_of positions) ≡ length positions = length-ranks positions in
          let low : rank i < length positions = All-get_or (λ r. r < length positions) (ranks_of positions) i 0 (omega (arith, there, long, many)) (ranks-below positions) in
          omega (arith, low, many);
      differ = λ i j p q apart same.
          let long : length (ranks_of positions) ≡ length positions = length-ranks positions in
          apart (one_place (ranks_of positions) i j (ranks-differ positions) (omega (arith, p, long, many)) (omega (arith, q, long, many)) same);
    }

    region_at : (i : ℕ) → i < count → (r : Placed Region) × (slice_get regions i ≡ Some r)
    region_at i below = some_at regions i below

    -- where the region of a rank begins, or after all
    abbrev start_of : ℕ → ℕ
    start_of = position_of code paths symbolic nodes w m top

    start_at : (i k : ℕ) → i < count → rank i ≡ k → start_of k ≡ get_or positions i 0
    start_at i k below is = by (find (λ j. rank j == k) (range_with_len 0 count)) (searched (λ j. rank j == k) 0 count)
      where
        by : (o : Option ℕ) → MatchOption o ((j : ℕ) → 0 ≤ j → j < 0 + count → (rank j == k) ≡ false) (IsFound (λ j. rank j == k) 0 count)
            → option_map_or (λ j. get_or positions j 0) o top ≡ get_or positions i 0
        by None none = absurd (true≢false (sym (eq-eqb (rank i) k is) ∙ none i (omega arith) (omega (arith, below))))
        by (Some j) found = ap (λ n. get_or positions n 0) (one_rank j (omega (arith, found.high)) (eqb-true (rank j) k found.passes))
          where
            one_rank : (j : ℕ) → j < count → rank j ≡ k → j ≡ i
            one_rank j low here = elim (cases_order j i) [
              | inl same ↦ same
              | inr (inl less) ↦ absurd (are_ranks.differ j i low below (λ e. omega (arith, e, less)) (here ∙ sym is))
              | inr (inr more) ↦ absurd (are_ranks.differ j i low below (λ e. omega (arith, e, more)) (here ∙ sym is))
            ]

    start_none : (k : ℕ) → count ≤ k → start_of k ≡ top
    start_none k past = by (find (λ j. rank j == k) (range_with_len 0 count)) (searched (λ j. rank j == k) 0 count)
      where
        by : (o : Option ℕ) → MatchOption o ((j : ℕ) → 0 ≤ j → j < 0 + count → (rank j == k) ≡ false) (IsFound (λ j. rank j == k) 0 count)
            → option_map_or (λ j. get_or positions j 0) o top ≡ top
        by None none = refl
        by (Some j) found =
            let low : rank j < count = are_ranks.below j (omega (arith, found.high)) in
            let here : rank j ≡ k = eqb-true (rank j) k found.passes in
            absurd (omega (arith, low, here, past))

    -- the states, one after another
    abbrev states : ℕ → List ℤ
    states = states_of code paths symbolic nodes w m top

    -- after all regions
    pub states_end : states count ≡ State top
    states_end = by count refl
      where
        by : (k : ℕ) → count ≡ k → states k ≡ State top
        by zero e = sym (acts.first top (λ s i. absurd (omega (arith, i.1, e))))
        by (suc k) e = ap State (start_none (suc k) (omega (arith, e)))

    none_before : (i : ℕ) → i < count → rank i ≡ 0 → (s : Placed Region) → Contains regions s → get_or positions i 0 ≤ at s
    none_before i below zero_rank s among =
        let j = in_at regions s among in
        let q : j.0 < count = inside j.0 s j.1 in
        elim (cases_lt (get_or positions j.0 0) (get_or positions i 0)) [
          | inl less ↦ absurd (omega (arith, lower j.0 i q below less, zero_rank))
          | inr more ↦ omega (arith, more, place_is j.0 s j.1)
        ]

    state_is : (i : ℕ) (r : Placed Region) → slice_get regions i ≡ Some r → states (rank i) ≡ State (at r)
    state_is i r is = by (rank i) refl
      where
        below : i < count
        below = inside i r is

        by : (k : ℕ) → rank i ≡ k → states k ≡ State (at r)
        by zero e =
            sym (acts.first (get_or positions i 0) (none_before i below e)) ∙ ap State (place_is i r is)
        by (suc k) e = ap State (start_at i (suc k) below e ∙ place_is i r is)

    -- the region of a rank is the last before the next one begins
    module _ (i : ℕ) (r : Placed Region) (is : slice_get regions i ≡ Some r) where
      below : i < count
      below = inside i r is

      among : Contains regions r
      among = at_in regions i r is

      abbrev next : ℕ
      next = suc (rank i)

      abbrev p : ℕ
      p = start_of next

      -- no region begins between
      no_other : (k : ℕ) (s : Placed Region) → Contains regions s → ((j : ℕ) → j < count → get_or positions j 0 < k → rank j < next) → at s < k → at s ≤ at r
      no_other k s here bound before =
          let j = in_at regions s here in
          let q : j.0 < count = inside j.0 s j.1 in
          let ps = place_is j.0 s j.1 in
          let pr = place_is i r is in
          elim (cases_lt (get_or positions i 0) (get_or positions j.0 0)) [
            | inl more ↦ absurd (omega (arith, lower i j.0 below q more, bound j.0 q (omega (arith, before, ps))))
            | inr less ↦ omega (arith, less, ps, pr)
          ]

      at_top : count ≤ next → IsLastBefore code paths symbolic nodes w m r top
      at_top past = record {
        there = among;
        begun = above (number_of paths r.thread r.it.«from»);
        ended = λ k e. above (number_of paths r.thread k);
        whole = λ e n. above n;
        last = λ s here before.
            no_other top s here (λ j q _. let low = are_ranks.below j q in omega (arith, low, past)) before;
      }

      at_next : (j : ℕ) (s : Placed Region) → slice_get regions j ≡ Some s → rank j ≡ next → IsLastBefore code paths symbolic nodes w m r (at s)
      at_next j s here e = record {
        there = among;
        begun = earlier;
        ended = λ k to. by_end k to (same_or_apart code paths symbolic nodes w m set r s among (at_in regions j s here));
        whole = λ none n. absurd (never_open none (same_or_apart code paths symbolic nodes w m set r s among (at_in regions j s here)));
        last = λ x there before.
            no_other (at s) x there (λ k q less.
            let up : rank k < rank j = lower k j q (inside j s here) (omega (arith, less, place_is j s here)) in omega (arith, up, e)) before;
      }
        where
          earlier : at r < at s
          earlier =
              let low : get_or positions i 0 < get_or positions j 0 = first i j below (inside j s here) (omega (arith, e)) in
              omega (arith, low, place_is i r is, place_is j s here)

          late : IsLeftBefore paths w s.thread s.it r.thread r.it → ⊥
          late (k, to, less) =
              let forward : at s < place_of paths w s.thread k = set.order.forward s k (at_in regions j s here) to in
              omega (arith, forward, less, earlier)

          by_end : (k : ℕ) → r.it.to ≡ Some k → (r ≡ s) ⊎ (IsLeftBefore paths w r.thread r.it s.thread s.it ⊎ IsLeftBefore paths w s.thread s.it r.thread r.it)
              → place_of paths w r.thread k < at s
          by_end k to (inl same) = absurd (let one : at r ≡ at s = ap at same in omega (arith, one, earlier))
          by_end k to (inr (inl (n, end, less))) =
              let one : n ≡ k = same_Some n k (sym end ∙ to) in subst (λ x. place_of paths w r.thread x < at s) one less
          by_end k to (inr (inr after)) = absurd (late after)

          never_open : r.it.to ≡ None → (r ≡ s) ⊎ (IsLeftBefore paths w r.thread r.it s.thread s.it ⊎ IsLeftBefore paths w s.thread s.it r.thread r.it) → ⊥
          never_open none (inl same) = let one : at r ≡ at s = ap at same in omega (arith, one, earlier)
          never_open none (inr (inl (n, end, less))) = none-some n (sym none ∙ end)
          never_open none (inr (inr after)) = late after

      is_last : IsLastBefore code paths symbolic nodes w m r p
      is_last = elim (cases_lt next count) [
        | inl low ↦
            let j = has_rank count rank are_ranks next low in
            let s = region_at j.0 j.1 in
            let where_is : at s.0 ≡ p = sym (place_is j.0 s.0 s.1) ∙ sym (start_at j.0 next j.1 j.2) in
            subst (IsLastBefore code paths symbolic nodes w m r) where_is (at_next j.0 s.0 s.1 j.2)
        | inr past ↦ subst (IsLastBefore code paths symbolic nodes w m r) (sym (start_none next past)) (at_top past)
      ]

      -- what the region leaves in a cell, and what its loads take
      pub leaves : (k : ℕ) (x : Holding) (e : Expr) → slice_get (does code paths symbolic nodes w m r).cells k ≡ Some x → x.value ≡ Some e
          → slice_get (states next) k ≡ Some (expr.value_of e (states (rank i)))
      leaves k x e here value =
          acts.cells r p k x e is_last here value ∙ ap (λ s. Some (expr.value_of e s)) (sym (state_is i r is))

      pub takes : (l : Loaded) (e : Expr) → Contains (does code paths symbolic nodes w m r).loads l → l.value ≡ Some e
          → get_or w.loads l.load (pos 0) ≡ expr.value_of e (states (rank i))
      takes l e here value = acts.loads r l e among here value ∙ ap (expr.value_of e) (sym (state_is i r is))

      pub terms_are : (levels term : ℕ) (e : Expr) → term_expr nodes (does code paths symbolic nodes w m r).loads levels term ≡ Some e
          → value_of nodes w.loads term ≡ expr.value_of e (states (rank i))
      terms_are levels term e here = acts.terms r levels term e among here ∙ ap (expr.value_of e) (sym (state_is i r is))

-- ---- a region with its tests

of_take : {X : Type 0} (n : ℕ) (xs : List X) (x : X) → Contains (take n xs) x → Contains xs x
of_take n xs x there = subst (λ ys. Contains ys x) (take-append-drop n xs) (Contains-append_left (take n xs) (drop n xs) x there)

module _ (code : Code) (paths : Paths) (symbolic : Symbolic) (nodes : List Node) (formula : List Conjunct) (m : ℕ) (r : Placed Region) where
  -- what a test of a region is
  pub record IsTest (t : Tested) : Type 0 where
    pub course : Course
    pub at : slice_get symbolic.threads r.thread ≡ Some course
    pub number : ℕ
    pub test : Test
    pub there : slice_get course.tests number ≡ Some test
    pub conjunct : t.conjunct ≡ first_test code paths symbolic nodes formula r.thread + number
    pub is : term_over nodes (does_in code paths symbolic nodes formula m r).loads test.term ≡ Some t.test
    pub wanted : t.wanted ≡ test.wanted

  tested_is : (x : ℕ × Test) (t : Tested) → tested code paths symbolic nodes formula m r x ≡ Some t
      → (t.conjunct ≡ first_test code paths symbolic nodes formula r.thread + x.0)
      × (term_over nodes (does_in code paths symbolic nodes formula m r).loads x.1.term ≡ Some t.test) × (t.wanted ≡ x.1.wanted)
  tested_is x t is = by (term_over nodes (does_in code paths symbolic nodes formula m r).loads x.1.term) refl is
    where
      by : (o : Option Expr) → term_over nodes (does_in code paths symbolic nodes formula m r).loads x.1.term ≡ o
          → option_and_then (λ e. if names_slots 0 e then None
          else Some (record { conjunct = first_test code paths symbolic nodes formula r.thread + x.0; test = e; wanted = x.1.wanted })) o ≡ Some t
          → (t.conjunct ≡ first_test code paths symbolic nodes formula r.thread + x.0)
          × (term_over nodes (does_in code paths symbolic nodes formula m r).loads x.1.term ≡ Some t.test) × (t.wanted ≡ x.1.wanted)
      by None here e = absurd (none-some t e)
      by (Some z) here e = kept (names_slots 0 z) e
        where
          kept : (b : Bool) → (if b then None else Some (record { conjunct = first_test code paths symbolic nodes formula r.thread + x.0; test = z; wanted = x.1.wanted })) ≡ Some t
              → (t.conjunct ≡ first_test code paths symbolic nodes formula r.thread + x.0)
              × (term_over nodes (does_in code paths symbolic nodes formula m r).loads x.1.term ≡ Some t.test) × (t.wanted ≡ x.1.wanted)
          kept true e = absurd (none-some t e)
          kept false e =
              let one = same_Some (record { conjunct = first_test code paths symbolic nodes formula r.thread + x.0; test = z; wanted = x.1.wanted }) t e in
              (sym (ap (λ (k : Tested). k.conjunct) one), here ∙ ap (λ (k : Tested). Some k.test) one, sym (ap (λ (k : Tested). k.wanted) one))

  pub test_is : (t : Tested) → Contains (step_of code paths symbolic nodes formula m r).tests t → IsTest t
  test_is t there = by (slice_get symbolic.threads r.thread) refl (of_take 16 _ t there)
    where
      by : (o : Option Course) → slice_get symbolic.threads r.thread ≡ o
          → Contains (option_map_or (λ (c : Course). filter_map (tested code paths symbolic nodes formula m r)
          (filter (λ (x : ℕ × Test). nat_lt r.it.«from» x.1.step) (enumerate_from 0 c.tests))) o []) t → IsTest t
      by None e h = absurd (of_nil t h)
      by (Some c) e h =
          let x = of_filter_map (tested code paths symbolic nodes formula m r) t (filter (λ (y : ℕ × Test). nat_lt r.it.«from» y.1.step) (enumerate_from 0 c.tests)) h in
          let y = of_filter (λ (z : ℕ × Test). nat_lt r.it.«from» z.1.step) x.0 (enumerate_from 0 c.tests) x.1 in
          let k = tested_is x.0 t x.2 in
          record {
            course = c;
            at = e;
            number = x.0.0;
            test = x.0.1;
            there = of_enumerated x.0 c.tests y.0;
            conjunct = k.0;
            is = k.1;
            wanted = k.2;
          }

-- in a world in order, a region with its tests goes from the state of its rank to the next
module _ (code : Code) (paths : Paths) (symbolic : Symbolic) (nodes : List Node) (formula : List Conjunct) (w : World) (m : ℕ)
    (set : Setting code paths symbolic nodes w m) (acts : RegionsAct code paths symbolic nodes w m) (top : ℕ) (above : (e : ℕ) → position w e < top)
    (distinct : IsDistinct (λ p q. p == q) (positions_of code paths symbolic nodes w m)) (holds : ℕ → Bool)
    (tests_hold : TestsHold code paths symbolic nodes formula w holds) where
  abbrev rank_in : ℕ → ℕ
  rank_in = rank_of code paths symbolic nodes w m

  abbrev states_in : ℕ → List ℤ
  states_in = states_of code paths symbolic nodes w m top

  pub goes : (i : ℕ) (r : Placed Region) → slice_get (regions_of paths m) i ≡ Some r
      → Goes (step_of code paths symbolic nodes formula m r) (states_in (rank_in i)) (states_in (suc (rank_in i))) w.loads holds
  goes i r is = record {
    cells = leaves code paths symbolic nodes w m set acts top above distinct i r is;
    loads = takes code paths symbolic nodes w m set acts top above distinct i r is;
    tests = λ t there so.
        let x = test_is code paths symbolic nodes formula m r t there in
        ap (λ z. not (int_eq z (pos 0))) (sym (terms_are code paths symbolic nodes w m set acts top above distinct i r is 8 x.test.term t.test x.is))
        ∙ tests_hold r.thread x.number x.course x.test x.at x.there (ap holds (sym x.conjunct) ∙ so) ∙ sym x.wanted;
  }

  pub regions_go : RegionsGo code paths symbolic nodes w m formula top holds
  regions_go = record { ranks = are_ranks code paths symbolic nodes w m set acts top above distinct; goes = goes }
