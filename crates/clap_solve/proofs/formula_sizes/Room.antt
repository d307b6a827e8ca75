-- The bounds at the limits together are below the number of variables and clauses that can be numbered.
use Rattle.std.proofs.Common.{ℕ, ◌+◌, ◌*◌, ◌≤◌, Bool, List, [], ◌∷◌, ◌++◌, fold, map, length, arith, sum_by}
use Rattle.std.proofs.lemmas.List.Sums.{sum_by-append, sum_by-cons}
use Rattle.clap_system.specs.run_log.Logs.{Log}
use Rattle.clap_system.specs.tc_limits.declared.limits.TheConstants.{THREADS, STEPS, EVENTS}
use Rattle.clap_system.specs.tc_code.Code.{Code}
use Rattle.clap_system.specs.path_walk.Paths.{Paths, paths_of}
use Rattle.clap_system.specs.store_buffers.Pending.{Binding}
use Rattle.mutex_states.specs.bit_blast.sym_terms.Terms.{with_node}
use Rattle.mutex_states.specs.bit_blast.sym_terms.declared.node.Node.{Node}
use Rattle.clap_system.specs.sym_exec.Executed.{Course, Executed, Symbolic, executed}
use Rattle.mutex_states.specs.bit_blast.order_formula.Orders.{Order, order_without_questions}
use Rattle.mutex_states.proofs.bit_blast.order_formula.Asked.{grows_formula}
use Rattle.clap_system.specs.lawful_order.Events.{all_events, all_sleeps}
use Rattle.clap_system.specs.memory_order.Own.{own_formula, own_needs}
use Rattle.clap_system.specs.sync_order.Sync.{sync_formula}
use Rattle.clap_system.specs.read_write.Reading.{read_formula, read_needs}
use Rattle.switch_order.specs.bit_order.Comparators as order
use Rattle.mutex_states.specs.bit_blast.bit_terms.Sizes.{terms_size}
use Rattle.mutex_states.specs.bit_blast.Sizes.{size_of}
use Rattle.clap_system.specs.Systems.{System, system_of}
use Rattle.clap_system.specs.Tests.{test_conjunct, test_formula}
use Rattle.clap_solve.specs.formula_sizes.Small.{ClausesHaveRoom, IsWithin}
use Rattle.clap_solve.proofs.formula_sizes.Own.{conjunct_size}
use Rattle.clap_solve.proofs.formula_sizes.Sums.{of_all, of_map, times_le}
use Rattle.clap_solve.proofs.formula_sizes.Terms.{tests_in, with_sizes}
use Rattle.clap_solve.proofs.formula_sizes.Whole.{events_few, few_sleeps, executed_small, has_small}

-- a test is one literal
tests_size : (symbolic : Symbolic) → size_of (test_formula symbolic) ≤ tests_in symbolic.threads * 103
tests_size symbolic =
    let all = of_all conjunct_size (λ t (c : Course). map (test_conjunct t) c.tests) (λ c. length c.tests * 103) symbolic.threads
    (λ t c. of_map conjunct_size (test_conjunct t) 103 c.tests (λ x. omega arith)) in
    omega (arith, all, scaled symbolic.threads)
  where
    scaled : (courses : List Course) → sum_by (λ (c : Course). length c.tests * 103) courses ≤ tests_in courses * 103
    scaled [] = omega arith
    scaled (c ∷ courses) =
        omega (
          arith,
          scaled courses,
          sum_by-cons (λ (k : Course). length k.tests * 103) c courses,
          sum_by-cons (λ (k : Course). length k.tests) c courses,
        )

-- an order of few events, sleeps and loads
order_size : (o : Order) (loads : ℕ) → o.events ≤ EVENTS → o.sleeps ≤ EVENTS → loads ≤ EVENTS
    → order.size_of (record { order = o; loads = loads }) ≤ 56_700_000
order_size o loads events sleeps few =
    let choices = times_le o.sleeps o.events EVENTS EVENTS sleeps events in
    let excluded = times_le (o.sleeps * o.events) (1 + o.events) (EVENTS * EVENTS) (1 + EVENTS) choices (omega (arith, events)) in
    let pairs = times_le o.events o.events EVENTS EVENTS events events in
    let compared = times_le (o.events * o.events) (96 + 2 * o.events) (EVENTS * EVENTS) (96 + 2 * EVENTS) pairs (omega (arith, events)) in
    omega (arith, excluded, compared, events, few)

module _ (buffered : Bool) (bound : Binding) (code : Code) (log : Log) (is : IsWithin code log) where
  abbrev paths : Paths
  paths = paths_of code log

  abbrev x : Executed
  x = executed code paths []

  abbrev s : System
  s = system_of buffered bound code log

  few_terms : terms_size s.nodes ≤ terms_size x.nodes + 448 * (EVENTS * EVENTS)
  few_terms =
      let own : List Node = fold with_node x.nodes (own_needs buffered bound paths x.symbolic x.nodes) in
      let first = with_sizes (own_needs buffered bound paths x.symbolic x.nodes) x.nodes in
      let second = with_sizes (read_needs code x.symbolic own) own in
      omega (
        arith,
        first,
        second,
        (has_small code log is buffered bound x.nodes).own_needs,
        (has_small code log is buffered bound own).read_needs,
      )

  few_conjuncts : size_of s.formula ≤ 28 * (EVENTS * EVENTS * EVENTS) + 243 * (EVENTS * EVENTS) + EVENTS * ((EVENTS + 1) * (EVENTS + 170) + 1)
      + 103 * (THREADS * STEPS)
  few_conjuncts =
      let small = has_small code log is buffered bound s.nodes in
      let own = own_formula buffered bound paths x.symbolic s.nodes in
      let sync = sync_formula paths in
      let read = read_formula code paths x.symbolic s.nodes in
      let all = sum_by-append conjunct_size (own ++ sync ++ read) (test_formula x.symbolic) in
      let three = sum_by-append conjunct_size (own ++ sync) read in
      let two = sum_by-append conjunct_size own sync in
      omega (arith, small.own, small.sync, small.read, tests_size x.symbolic, (executed_small code log is).tests, all, three, two)

  few_questions : order.size_of (record { order = s.order; loads = s.symbolic.loads }) ≤ 56_700_000
  few_questions =
      let grown = grows_formula (order_without_questions (length (all_events paths)) (length (all_sleeps paths))) s.formula in
      order_size s.order s.symbolic.loads (omega (arith, grown.events, events_few code log is)) (omega (arith, grown.sleeps, few_sleeps code log is))
      (executed_small code log is).loads

  pub has_room : ClausesHaveRoom s
  has_room = omega (arith, few_terms, few_conjuncts, few_questions, (executed_small code log is).terms)
