-- Bounds on the sizes of the conjuncts of each thread's own order, and of the terms that they need.
use Rattle.std.proofs.Common.{◌≡◌, ℕ, suc, ◌+◌, ◌*◌, ◌≤◌, List, [], ◌∷◌, ◌++◌, map, length, Bool, true, false, Option, Some, None, sym, subst, arith, sum_by}
use Rattle.std.specs.Prelude.{◌&&◌, not, filter, is_none, option_and_then, option_to_list, if◌then◌else◌}
use Rattle.std.proofs.lemmas.List.{length-append}
use Rattle.std.proofs.lemmas.List.Sums.{sum_by-append}
use Rattle.clap_system.specs.path_walk.Paths.{Walk, Paths}
use Rattle.clap_system.specs.path_walk.declared.event.Event.{Event}
use Rattle.clap_system.specs.store_buffers.Pending.{Binding}
use Rattle.mutex_states.specs.bit_blast.sym_terms.Terms.{id_of}
use Rattle.mutex_states.specs.bit_blast.sym_terms.declared.node.Node.{Node}
use Rattle.mutex_states.specs.bit_blast.sym_terms.declared.node.Node.TheVariants.{Binary}
use Rattle.switch_order.specs.int_ops.declared.arith.BinOp.TheVariants.{Eq}
use Rattle.clap_system.specs.sym_exec.Executed.{Symbolic}
use Rattle.clap_system.specs.tc_code.declared.cell.Cell.{Cell}
use Rattle.clap_system.specs.tc_code.declared.cell.Cell.TheVariants.{Fixed, Element}
use Rattle.mutex_states.specs.bit_blast.order_formula.declared.formula.Conjunct.{Conjunct}
use Rattle.mutex_states.specs.bit_blast.order_formula.declared.group.Group.TheVariants.{Own}
use Rattle.clap_system.specs.lawful_order.Events.{Placed, all_events}
use Rattle.clap_system.specs.order_cells.Same.{known_same, same_test}
use Rattle.clap_system.specs.order_events.Parts.{of_each, one_of}
use Rattle.clap_system.specs.memory_order.Own.{keeps, cells_of, is_kept_next, kept_test, two_tests, thread_tests, own_needs, fails, in_order}
use Rattle.clap_system.specs.memory_order.Own.{next_formula, tested_formula, two_formula, thread_formula, is_failing, before_failing, is_before_failing, failing_formula, own_formula}
use Rattle.clap_system.specs.memory_order.Twos.{Two, twos_with, twos}
use Rattle.mutex_states.specs.bit_blast.bit_terms.Sizes.{node_size, terms_size}
use Rattle.mutex_states.specs.bit_blast.Sizes.{body_size, size_of}
use Rattle.clap_solve.proofs.formula_sizes.Sums.{regroup, times_le, of_map, of_flat, of_all, of_squares, filter_few, length_all}

-- the size of a conjunct with the clause of its root
abbrev pub conjunct_size : Conjunct → ℕ
conjunct_size c = body_size c.body + 1

with_few : {X : Type 0} (x : X) (between after : List X) → length (twos_with x between after) ≡ length after
with_few x between [] = omega arith
with_few x between (y ∷ ys) = omega (arith, with_few x (between ++ y ∷ []) ys)

square_more : (n m : ℕ) → m ≤ n * n → n + m ≤ suc n * suc n
square_more n m few = omega arith

twos_few : {X : Type 0} (xs : List X) → length (twos xs) ≤ length xs * length xs
twos_few [] = omega arith
twos_few (x ∷ xs) =
    let whole = square_more (length xs) (length (twos xs)) (twos_few xs) in
    omega (arith, with_few x [] xs, length-append (twos_with x [] xs) (twos xs), whole)

-- the size of the test whether two elements of an array are the same
pub test_size : (nodes : List Node) (c d : Cell ℕ) → terms_size (option_to_list (same_test nodes c d)) ≤ 224
test_size nodes (Fixed c) d = omega arith
test_size nodes (Element f m i) (Fixed d) = omega arith
test_size nodes (Element f m i) (Element g n j) = by (is_none (known_same nodes (Element f m i) (Element g n j)))
  where
    by : (b : Bool) → terms_size (option_to_list (if b then Some (Binary Eq i j) else None)) ≤ 224
    by true = omega arith
    by false = omega arith

module _ (buffered : Bool) (bound : Binding) (symbolic : Symbolic) (nodes : List Node) (t : ℕ) where
  tests_size : (p : Two Event) → terms_size (two_tests buffered bound symbolic nodes t p) ≤ 224
  tests_size p =
      by (keeps buffered bound true p.first p.second && not (keeps buffered bound false p.first p.second)) (cells_of symbolic t p.first p.second)
    where
      by : (b : Bool) (o : Option (Cell ℕ × Cell ℕ)) → terms_size (option_to_list (if b then option_and_then (λ c. same_test nodes c.0 c.1) o else None)) ≤ 224
      by true (Some c) = test_size nodes c.0 c.1
      by true None = omega arith
      by false o = omega arith

  one_test : (p : Two Event) → length (two_tests buffered bound symbolic nodes t p) ≤ 1
  one_test p = by (kept_test buffered bound symbolic nodes t p)
    where
      by : (o : Option Node) → length (option_to_list o) ≤ 1
      by None = omega arith
      by (Some x) = omega arith

  module _ (events : List (Placed Event)) where
    next_size : (p : Two Event) → size_of (next_formula buffered bound events symbolic nodes t p) ≤ 7
    next_size p = by (is_kept_next buffered bound symbolic nodes t p)
      where
        by : (b : Bool) → size_of (if b then one_of (Own t) (in_order events t p ∷ []) ∷ [] else []) ≤ 7
        by true = omega arith
        by false = omega arith

    tested_size : (p : Two Event) → size_of (tested_formula buffered bound events symbolic nodes t p) ≤ 109
    tested_size p =
        let tests = two_tests buffered bound symbolic nodes t p in
        let h = of_map conjunct_size (λ test. one_of (Own t) (fails (id_of nodes test) ∷ in_order events t p ∷ [])) 109 tests (λ x. omega arith) in
        omega (arith, h, one_test p)

    two_size : (p : Two Event) → size_of (two_formula buffered bound events symbolic nodes t p) ≤ 116
    two_size p =
        omega (
          arith,
          sum_by-append conjunct_size (next_formula buffered bound events symbolic nodes t p) (tested_formula buffered bound events symbolic nodes t p),
          next_size p,
          tested_size p,
        )

    thread_size : (q : Walk) → size_of (thread_formula buffered bound events symbolic nodes t q) ≤ length q.events * length q.events * 116
    thread_size q =
        let h = of_flat conjunct_size (two_formula buffered bound events symbolic nodes t) 116 (twos q.events) two_size in
        omega (arith, h, twos_few q.events)

  needs_size : (q : Walk) → terms_size (thread_tests buffered bound symbolic nodes t q) ≤ length q.events * length q.events * 224
  needs_size q =
      let h = of_flat node_size (two_tests buffered bound symbolic nodes t) 224 (twos q.events) tests_size in
      omega (arith, h, twos_few q.events)

failing_size : (buffered : Bool) (events : List (Placed Event)) → size_of (failing_formula buffered events) ≤ length events * length events * 7
failing_size buffered events =
    let n : ℕ = length events in
    let ends = filter (λ (f : Placed Event). is_failing f.it.kind) events in
    let others = filter (is_before_failing buffered) events in
    let each : (x : Placed Event) → size_of (map (before_failing events x) ends) ≤ n * 7 =
    λ x. let h = of_map conjunct_size (before_failing events x) 7 ends (λ f. omega arith) in
    omega (arith, h, filter_few (λ (f : Placed Event). is_failing f.it.kind) events) in
    let h = of_flat conjunct_size (λ x. map (before_failing events x) ends) (n * 7) others each in
    let m = times_le (length others) n n n (filter_few (is_before_failing buffered) events) (omega arith) in
    omega (arith, h, regroup (length others) n 7, m)

module _ (buffered : Bool) (bound : Binding) (paths : Paths) (symbolic : Symbolic) (nodes : List Node) where
  in_squares : (m : ℕ) → sum_by (λ (q : Walk). length q.events * length q.events * m) paths.threads
      ≤ length (all_events paths) * length (all_events paths) * m
  in_squares m =
      subst (λ n. sum_by (λ (q : Walk). length q.events * length q.events * m) paths.threads ≤ n * n * m)
      (sym (length_all (λ (q : Walk). q.events) 0 paths.threads)) (of_squares (λ (q : Walk). length q.events) m paths.threads)

  pub own_size : size_of (own_formula buffered bound paths symbolic nodes) ≤ length (all_events paths) * length (all_events paths) * 123
  own_size =
      let events = all_events paths in
      let threads = of_all conjunct_size (λ t. thread_formula buffered bound events symbolic nodes t) (λ q. length q.events * length q.events * 116) paths.threads
      (λ t q. thread_size buffered bound symbolic nodes t events q) in
      let both = sum_by-append conjunct_size (of_each (λ t. thread_formula buffered bound events symbolic nodes t) paths.threads) (failing_formula buffered events) in
      omega (arith, threads, in_squares 116, both, failing_size buffered events)

  pub own_needs_size : terms_size (own_needs buffered bound paths symbolic nodes) ≤ length (all_events paths) * length (all_events paths) * 224
  own_needs_size =
      let threads = of_all node_size (λ t. thread_tests buffered bound symbolic nodes t) (λ q. length q.events * length q.events * 224) paths.threads
      (λ t q. needs_size buffered bound symbolic nodes t q) in
      omega (arith, threads, in_squares 224)
