-- Paths of a log have at most as many sleeps as events.
use Rattle.std.proofs.Common.{ℕ, ◌+◌, ◌≤◌, List, [], ◌∷◌, map, length, Option, Some, None, sym, subst, arith, length-append}
use Rattle.std.specs.Prelude.{slice_get}
use Rattle.std.specs.List.{cons_option}
use Rattle.std.proofs.lemmas.List.{length-map}
use Rattle.run_log.specs.Logs.{Log}
use Rattle.run_log.specs.tc_base.Paths.{ThreadPath}
use Rattle.tc_code.specs.Code.{Code}
use Rattle.path_walk.specs.Events.{sleep_by, sleeps_of}
use Rattle.path_walk.specs.Paths.{Walk, Paths, ArePaths, walk_of}
use Rattle.path_walk.specs.declared.event.Event.{Event}
use Rattle.path_walk.specs.declared.event.Sleep.{Sleep}
use Rattle.order_events.specs.lawful_order.Events.{Placed, all_events, all_from, all_sleeps}

few_of : (es : List Event) → length (sleeps_of es) ≤ length es
few_of [] = omega arith
few_of (e ∷ es) = by (sleep_by e.step (slice_get es 0) e.kind) (few_of es)
  where
    by : (o : Option Sleep) → length (sleeps_of es) ≤ length es → length (cons_option o (sleeps_of es)) ≤ length (e ∷ es)
    by None few = omega (arith, few)
    by (Some s) few = omega (arith, few)

few_from : (code : Code) (log : Log) (t : ℕ) (ts : List ThreadPath)
    → length (all_from (λ w. w.sleeps) t (map (walk_of code log) ts)) ≤ length (all_from (λ w. w.events) t (map (walk_of code log) ts))
few_from code log t [] = omega arith
few_from code log t (u ∷ ts) =
    let q = walk_of code log u in
    let of_sleep : Sleep → Placed Sleep = λ x. record { thread = t; it = x } in
    let of_event : Event → Placed Event = λ x. record { thread = t; it = x } in
    let sleeps = all_from (λ (w : Walk). w.sleeps) (t + 1) (map (walk_of code log) ts) in
    let events = all_from (λ (w : Walk). w.events) (t + 1) (map (walk_of code log) ts) in
    omega (
      arith,
      few_of q.events,
      few_from code log (t + 1) ts,
      length-map q.sleeps of_sleep,
      length-map q.events of_event,
      length-append (map of_sleep q.sleeps) sleeps,
      length-append (map of_event q.events) events,
    )

pub few_sleeps : (code : Code) (paths : Paths) → ArePaths code paths → length (all_sleeps paths) ≤ length (all_events paths)
few_sleeps code paths is =
    subst (λ (p : Paths). length (all_sleeps p) ≤ length (all_events p)) (sym is.are) (few_from code is.log 0 is.log.threads)
