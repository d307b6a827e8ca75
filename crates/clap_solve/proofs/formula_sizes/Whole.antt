-- The bounds at the limits.
use Rattle.std.proofs.Common.{◌≡◌, ℕ, ◌+◌, ◌*◌, ◌≤◌, Bool, List, [], ◌∷◌, ◌++◌, map, length, refl, arith, sum_by}
use Rattle.std.specs.Prelude.{sum, min, ◌-◌, ◌^◌}
use Rattle.std.proofs.lemmas.List.{length-map}
use Rattle.std.proofs.lemmas.List.Sums.{sum_by-append, sum_by-cons}
use Rattle.clap_system.specs.run_log.Logs.{Log}
use Rattle.clap_system.specs.tc_base.Paths.{ThreadPath}
use Rattle.clap_system.specs.tc_limits.declared.limits.TheConstants.{THREADS, STEPS, EVENTS, OPERATORS}
use Rattle.clap_system.specs.tc_code.Code.{Code}
use Rattle.clap_system.specs.path_walk.Paths.{Walk, Paths, walk_of, paths_of, operators_in}
use Rattle.clap_system.specs.store_buffers.Pending.{Binding}
use Rattle.mutex_states.specs.bit_blast.sym_terms.declared.node.Node.{Node}
use Rattle.clap_system.specs.sym_exec.Executed.{Course, executed}
use Rattle.clap_system.specs.lawful_order.Events.{all_events, all_sleeps}
use Rattle.clap_system.specs.read_write.Accesses.{all_accesses}
use Rattle.clap_system.specs.read_write.Reading.{read_formula}
use Rattle.clap_system.specs.condition_order.Conditions.{condition_formula}
use Rattle.clap_system.specs.sync_order.Children.{children_formula}
use Rattle.clap_system.specs.sync_order.Mutexes.{mutexes_formula}
use Rattle.clap_system.specs.sync_order.Stuck.{stuck_formula}
use Rattle.clap_system.specs.sync_order.Sync.{sync_formula}
use Rattle.mutex_states.specs.bit_blast.Sizes.{read_size, size_of}
use Rattle.clap_solve.specs.formula_sizes.Small.{IsWithin, IsSmall, HasSmall}
use Rattle.clap_solve.proofs.formula_sizes.Own.{conjunct_size, own_size, own_needs_size}
use Rattle.clap_solve.proofs.formula_sizes.Loads.{read_needs_size, read_formula_size, read_more}
use Rattle.clap_solve.proofs.formula_sizes.Sums.{times_le, length_all}
use Rattle.clap_solve.proofs.formula_sizes.Sync.{children_size, mutexes_size, sleeps_few}
use Rattle.clap_solve.proofs.formula_sizes.Terms.{executed_adds}
use Rattle.clap_solve.proofs.formula_sizes.Waits.{conditions_size, stuck_formula_size}
use Rattle.clap_solve.proofs.formula_sizes.Walks.{walks_few, cells_are_events, operators_counted, steps_few}

module _ (code : Code) (log : Log) (is : IsWithin code log) where
  summed : (ts : List ThreadPath) → sum (map (λ t. length (walk_of code log t).events) ts) ≡ sum_by (λ (q : Walk). length q.events) (map (walk_of code log) ts)
  summed [] = refl
  summed (t ∷ ts) =
      omega (
        arith,
        summed ts,
        sum_by-cons (λ n. n) (length (walk_of code log t).events) (map (λ u. length (walk_of code log u).events) ts),
        sum_by-cons (λ (q : Walk). length q.events) (walk_of code log t) (map (walk_of code log) ts),
      )

  pub events_few : length (all_events (paths_of code log)) ≤ EVENTS
  events_few = omega (arith, is.events, summed log.threads, length_all (λ (q : Walk). q.events) 0 (map (walk_of code log) log.threads))

  pub few_sleeps : length (all_sleeps (paths_of code log)) ≤ EVENTS
  few_sleeps = omega (arith, events_few, sleeps_few (paths_of code log) (walks_few code log log.threads))

  operators_few : sum (map (operators_in code log) log.threads) ≤ OPERATORS
  operators_few = counted (sum (map (operators_in code log) log.threads)) is.operators
    where
      counted : (n : ℕ) → min n (2 ^ 64 - 1) ≤ OPERATORS → n ≤ OPERATORS
      counted n h = omega (arith, h)

  accesses_few : length (all_accesses (executed code (paths_of code log) []).symbolic) ≤ EVENTS
  accesses_few =
      let h = executed_adds code (paths_of code log) in
      omega (
        arith,
        length_all (λ (c : Course). c.accesses) 0 (executed code (paths_of code log) []).symbolic.threads,
        h.accesses,
        cells_are_events code log log.threads,
        summed log.threads,
        is.events,
      )

  pub executed_small : IsSmall (executed code (paths_of code log) [])
  executed_small =
      let h = executed_adds code (paths_of code log) in
      let all = length_all (λ (c : Course). c.accesses) 0 (executed code (paths_of code log) []).symbolic.threads in
      let loads : (executed code (paths_of code log) []).symbolic.loads ≤ EVENTS = omega (arith, h.loads, all, accesses_few) in
      let threads = times_le (length log.threads) STEPS THREADS STEPS is.threads (omega arith) in
      let steps = steps_few code log is.steps log.threads in
      record {
        loads = loads;
        tests = omega (arith, h.tests, steps, threads);
        terms = omega (arith, h.nodes, steps, threads, loads, operators_few, operators_counted code log log.threads);
      }

  module _ (buffered : Bool) (bound : Binding) (nodes : List Node) where
    sync_small : size_of (sync_formula (paths_of code log)) ≤ 28 * (EVENTS * EVENTS * EVENTS) + 120 * (EVENTS * EVENTS)
    sync_small =
        let q : Paths = paths_of code log in
        let n : ℕ = length (all_events q) in
        let few = walks_few code log log.threads in
        let threads : length q.threads ≤ THREADS = omega (arith, is.threads, length-map log.threads (walk_of code log)) in
        let square = times_le n n EVENTS EVENTS events_few events_few in
        let a = children_size q few in
        let b = times_le n (n * 13 + length q.threads) EVENTS (EVENTS * 13 + THREADS) events_few (omega (arith, events_few, threads)) in
        let c = mutexes_size q few in
        let d = conditions_size q (sleeps_few q few) in
        let e = times_le n (n * 28 + 45) EVENTS (EVENTS * 28 + 45) events_few (omega (arith, events_few)) in
        let f = times_le n (n * (n * 28 + 45) + 1) EVENTS (EVENTS * (EVENTS * 28 + 45) + 1) events_few (omega (arith, e)) in
        let g = stuck_formula_size q (sleeps_few q few) in
        let h = times_le (length q.threads) (n * n * 3 + 4) THREADS (EVENTS * EVENTS * 3 + 4) threads (omega (arith, square)) in
        let i = sum_by-append conjunct_size (children_formula q ++ mutexes_formula q ++ condition_formula q) (stuck_formula q) in
        let j = sum_by-append conjunct_size (children_formula q ++ mutexes_formula q) (condition_formula q) in
        let k = sum_by-append conjunct_size (children_formula q) (mutexes_formula q) in
        omega (arith, a, b, c, d, f, g, h, i, j, k, square)

    read_small : size_of (read_formula code (paths_of code log) (executed code (paths_of code log) []).symbolic nodes) ≤ EVENTS * ((EVENTS + 1) * (EVENTS + 170) + 1)
    read_small =
        let x = (executed code (paths_of code log) []).symbolic in
        let n : ℕ = length (all_accesses x) in
        let more = read_more n EVENTS accesses_few in
        omega (
          arith,
          read_formula_size code (paths_of code log) x nodes,
          times_le n (read_size n + 1) EVENTS (read_size EVENTS + 1) accesses_few (omega (arith, more)),
        )

    pub has_small : HasSmall buffered bound code (paths_of code log) (executed code (paths_of code log) []).symbolic nodes
    has_small =
        let q : Paths = paths_of code log in
        let x = (executed code (paths_of code log) []).symbolic in
        let n : ℕ = length (all_events q) in
        let m : ℕ = length (all_accesses x) in
        let square = times_le n n EVENTS EVENTS events_few events_few in
        let squares = times_le m m EVENTS EVENTS accesses_few accesses_few in
        record {
          own = omega (arith, own_size buffered bound q x nodes, square);
          sync = sync_small;
          read = read_small;
          own_needs = omega (arith, own_needs_size buffered bound q x nodes, square);
          read_needs = omega (arith, read_needs_size code x nodes, squares);
        }
