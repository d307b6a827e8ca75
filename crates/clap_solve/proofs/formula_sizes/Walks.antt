-- Bounds on the parts of a log's paths.
use Rattle.std.proofs.Common.{◌≡◌, ℕ, ◌+◌, ◌*◌, ◌≤◌, List, [], ◌∷◌, map, length, Bool, true, false, Option, Some, None, refl, arith, sum_by}
use Rattle.std.specs.Prelude.{sum, Ok, Err, ◌==◌, ◌&&◌, Result, option_map, slice_get, unwrap_or, bytes_eq, if◌then◌else◌}
use Rattle.std.specs.List.{All, cons_option}
use Rattle.std.specs.Option.{option_map_or}
use Rattle.std.specs.Result.{result_unwrap_or}
use Rattle.std.proofs.lemmas.List.Elements.{All-cons, All-head, All-nil, All-tail}
use Rattle.std.proofs.lemmas.List.Sums.{sum_by-cons}
use Rattle.clap_system.specs.run_log.Logs.{Log}
use Rattle.clap_system.specs.tc_base.Paths.{Path, ThreadPath, path_under}
use Rattle.clap_system.specs.tc_base.Names.{Name}
use Rattle.clap_system.specs.tc_limits.declared.limits.TheConstants.{STEPS}
use Rattle.clap_system.specs.tc_code.Code.{Code, line_at}
use Rattle.clap_system.specs.tc_code.declared.instr.Instr.{Instr}
use Rattle.clap_system.specs.tc_code.declared.instr.Instr.TheVariants.{Load, Store, Modify}
use Rattle.clap_system.specs.path_walk.Events.{kind_with, events_of, region_of, regions_of, sleep_by, sleeps_of, create_by, join_by}
use Rattle.clap_system.specs.path_walk.Fits.{ending_of, fails_in}
use Rattle.clap_system.specs.path_walk.Marks.{Marks, marks_after_instr, marked_from, marks_at_start}
use Rattle.clap_system.specs.path_walk.Paths.{Walk, walk_of, function_in, steps_in, operators_in}
use Rattle.clap_system.specs.path_walk.Steps.{Step, places_from, places_of}
use Rattle.clap_system.specs.path_walk.declared.ending.Ending.{Ending}
use Rattle.clap_system.specs.path_walk.declared.event.Event.{Event}
use Rattle.clap_system.specs.path_walk.declared.event.EventKind.{EventKind}
use Rattle.clap_system.specs.path_walk.declared.fault.Misfit.{Misfit}
use Rattle.clap_system.specs.path_walk.declared.fault.Misfit.TheVariants as misfit
use Rattle.clap_system.proofs.path_walk.Places.{count, fits_from}
use Rattle.clap_solve.proofs.formula_sizes.Loads.{filter_map_few}
use Rattle.clap_solve.proofs.formula_sizes.Sync.{HasFew}
use Rattle.clap_solve.proofs.formula_sizes.Terms.{cells_of, operators_at, cells_at, operators_along, steps_along, cells_along}

-- one more element or none
at_least : {X : Type 0} (o : Option X) (xs : List X) → length xs ≤ length (cons_option o xs)
at_least None xs = omega arith
at_least (Some x) xs = omega arith

at_most : {X : Type 0} (o : Option X) (xs : List X) → length (cons_option o xs) ≤ length xs + 1
at_most None xs = omega arith
at_most (Some x) xs = omega arith

regions_few : (es : List Event) → length (regions_of es) ≤ length es
regions_few [] = omega arith
regions_few (e ∷ es) = omega (arith, at_most (region_of e es) (regions_of es), regions_few es)

sleeps_few : (es : List Event) → length (sleeps_of es) ≤ length es
sleeps_few [] = omega arith
sleeps_few (e ∷ es) = omega (arith, at_most (sleep_by e.step (slice_get es 0) e.kind) (sleeps_of es), sleeps_few es)

-- an instruction that accesses a cell is an event, whether it fails or not
module _ (as_event : EventKind → Event) (t : Marks) (rest : List Event) where
  is_event : (fails : Bool) (i : Instr) → cells_of i + length rest ≤ length (cons_option (option_map as_event (kind_with t i fails)) rest)
  is_event true i = omega (arith, one i)
    where
      one : (i : Instr) → cells_of i ≤ 1
      one (Load k c) = omega arith
      one (Store c e) = omega arith
      one (Modify k c u) = omega arith
      one _ = omega arith
  is_event false (Load k c) = omega arith
  is_event false (Store c e) = omega arith
  is_event false (Modify k c u) = omega arith
  is_event false i = let h = at_least (option_map as_event (kind_with t i false)) rest in omega (arith, h)

module _ (code : Code) (f : ℕ) where
  cells_few : (fails : Bool) (k : ℕ) (t : Marks) (steps : List Step)
      → sum_by (λ s. cells_of s.instr) steps ≤ length (events_of code f (marked_from fails k t steps))
  cells_few fails k t [] = omega arith
  cells_few fails k t (s ∷ steps) =
      let last : Bool = fails && length steps == 0 in
      let rest = events_of code f (marked_from fails (k + 1) (marks_after_instr t s.instr) steps) in
      omega (
        arith,
        sum_by-cons (λ (r : Step). cells_of r.instr) s steps,
        cells_few fails (k + 1) (marks_after_instr t s.instr) steps,
        is_event (λ e. record { step = k; line = unwrap_or (line_at code f s.place) 0; kind = e; bars = t.bars }) t rest last s.instr,
      )

-- a path has as many places as steps
fitting_few : (code : Code) (f : ℕ) (ending : Ending) (path : Path) (r : Result (List ℕ) Misfit) → places_of code f ending path ≡ r
    → length (result_unwrap_or r []) ≤ path.steps
fitting_few code f ending path (Err fault) is = omega arith
fitting_few code f ending path (Ok places) is =
    omega (
      arith,
      count code f path.steps 0 path.outcomes places (fits_from code f ending path (places_from code f path.steps 0 path.outcomes) places is),
    )

module _ (code : Code) (log : Log) where
  pub walk_few : (t : ThreadPath) → HasFew (walk_of code log t)
  walk_few t =
      let q : Walk = walk_of code log t in
      record {
        creates = filter_map_few (λ (e : Event). create_by e.step e.kind) q.events;
        joins = filter_map_few (λ (e : Event). join_by e.step e.kind) q.events;
        regions = regions_few q.events;
        sleeps = sleeps_few q.events;
      }

  pub walks_few : (ts : List ThreadPath) → All HasFew (map (walk_of code log) ts)
  walks_few [] = All-nil HasFew
  walks_few (t ∷ ts) = All-cons HasFew (walk_of code log t) (map (walk_of code log) ts) (walk_few t) (walks_few ts)

  pub cells_are_events : (ts : List ThreadPath)
      → cells_along code (map (walk_of code log) ts) ≤ sum_by (λ (q : Walk). length q.events) (map (walk_of code log) ts)
  cells_are_events [] = omega arith
  cells_are_events (t ∷ ts) =
      let q : Walk = walk_of code log t in
      let qs = map (walk_of code log) ts in
      omega (
        arith,
        cells_are_events ts,
        sum_by-cons (λ (w : Walk). cells_at code w.function w.places) q qs,
        sum_by-cons (λ (w : Walk). length w.events) q qs,
        cells_few code (function_in code log t) (fails_in log t.name) 0 (marks_at_start code (function_in code log t)) (steps_in code log t),
      )

  pub operators_counted : (ts : List ThreadPath) → operators_along code (map (walk_of code log) ts) ≡ sum (map (operators_in code log) ts)
  operators_counted [] = refl
  operators_counted (t ∷ ts) =
      let q : Walk = walk_of code log t in
      let qs = map (walk_of code log) ts in
      omega (
        arith,
        operators_counted ts,
        sum_by-cons (λ (w : Walk). operators_at code w.function w.places) q qs,
        sum_by-cons (λ n. n) (operators_in code log t) (map (operators_in code log) ts),
      )

  module _ (short : All (λ t. t.path.steps ≤ STEPS) log.threads) where
    under_few : (n : Name) (f : ℕ) (ts : List ThreadPath) → All (λ t. t.path.steps ≤ STEPS) ts
        → length (result_unwrap_or (option_map_or (places_of code f (ending_of log n)) (path_under n ts) (Err misfit.Missing)) []) ≤ STEPS
    under_few n f [] few = omega arith
    under_few n f (t ∷ ts) few =
        by (bytes_eq n t.name) (under_few n f ts (All-tail (λ (u : ThreadPath). u.path.steps ≤ STEPS) t ts few))
      where
        by : (b : Bool)
            → length (result_unwrap_or (option_map_or (places_of code f (ending_of log n)) (path_under n ts) (Err misfit.Missing)) []) ≤ STEPS
            → length (result_unwrap_or (option_map_or (places_of code f (ending_of log n)) (if b then Some t.path else path_under n ts)
            (Err misfit.Missing)) []) ≤ STEPS
        by true rest =
            omega (arith, All-head (λ (u : ThreadPath). u.path.steps ≤ STEPS) t ts few, fitting_few code f (ending_of log n) t.path (places_of code f (ending_of log n) t.path) refl)
        by false rest = rest

    pub steps_few : (ts : List ThreadPath) → steps_along (map (walk_of code log) ts) ≤ length ts * STEPS
    steps_few [] = omega arith
    steps_few (t ∷ ts) =
        omega (
          arith,
          steps_few ts,
          sum_by-cons (λ (w : Walk). length w.places) (walk_of code log t) (map (walk_of code log) ts),
          under_few t.name (function_in code log t) log.threads short,
        )
