-- Runs in which each thread has gone the first part of its path in a log.
use Rattle.std.proofs.Common.{◌≡◌, ◌∙◌, ℕ, zero, suc, ◌+◌, ◌≤◌, ◌<◌, Bool, true, false, ◌==◌, ◌&&◌, List, [], ◌∷◌, ◌++◌, length, take, drop}
use Rattle.std.proofs.Common.{Option, Some, None, Result, Ok, Err, refl, sym, ap, ap₂, subst, arith, append-nil, append_assoc, bytes_eq, cond}
use Rattle.std.specs.Prelude.{option_map, option_and_then, slice_get}
use Rattle.std.specs.FinMap as fin
use Rattle.std.specs.Result.{result_err, result_unwrap_or}
use Rattle.std.proofs.Math.Bool.{and-true}
use Rattle.std.proofs.lemmas.Bool.{and_parts, eqb-true, eq-eqb}
use Rattle.std.proofs.lemmas.List.{take-append-drop}
use Rattle.std.proofs.lemmas.Option.{none-some, same_Some, option_and_then_some}
use Rattle.path_walk.specs.tc_base.Buffers.{BufferOps}
use Rattle.path_walk.specs.run_log.Logs.{Log}
use Rattle.path_walk.specs.tc_base.Paths.{Path, ThreadPath, path_under}
use Rattle.path_walk.specs.tc_base.Names.{Name}
use Rattle.path_walk.specs.tc_base.States.{Local, Thread, State}
use Rattle.path_walk.specs.tc_base.declared.moves.Move.{Move}
use Rattle.path_walk.specs.tc_base.declared.request.Request.{Request}
use Rattle.path_walk.specs.tc_code.Code.{Code, instr_at}
use Rattle.path_walk.proofs.tc_code.Facts.{at_its_place, failed_as_logged, run_from-append, step_is_reached}
use Rattle.path_walk.specs.tc_code.declared.instr.Instr.{Instr}
use Rattle.path_walk.specs.tc_code.Lawful.{IsLawful}
use Rattle.path_walk.specs.tc_code.Run.{run, run_from, Reproduces, IsReached, path_of}
use Rattle.path_walk.specs.tc_code.Step.{step, opening}
use Rattle.path_walk.specs.run_log.Logs.{is_log, rises_from}
use Rattle.path_walk.proofs.list_laws.Lists.{split_at}
use Rattle.path_walk.proofs.run_log.Rising.{own_path}
use Rattle.path_walk.specs.Steps.{Onward, onward, is_failing, places_from, places_of}
use Rattle.path_walk.specs.Fits.{ending_by, ending_of, fails_in, places_in, function_of, Fits}
use Rattle.path_walk.specs.declared.ending.Ending.TheVariants.{Fails, Open}
use Rattle.path_walk.proofs.Faults.{walked_there, by_path}
use Rattle.path_walk.proofs.Places.{unrolled, count, fits_from}
use Rattle.run_follows.proofs.run_laws.Changes.{is_fail}
use Rattle.run_follows.proofs.run_laws.Steps.{none_failed}
use Rattle.run_follows.specs.run_history.History.{value_taken}
use Rattle.run_follows.proofs.run_history.Threads.{own, steps_by}
use Rattle.path_laws.specs.Prefixes.{fails_by, IsOnPath, AreOnPaths}
use Rattle.path_laws.proofs.Does.{GoesOn, own_fails, Does, Change, By_step, change_of, own_there, still_there}
use Rattle.path_laws.proofs.Functions.{AreFirst, function_is}
use Rattle.path_laws.proofs.Local.{onward_more}
use Rattle.path_laws.proofs.States.{Stands, stands_places, same_function, step_told, AllKnown, reached_known}

-- Beginnings.

-- a thread that is on its path later is on it before
on_before : (log : Log) (failed : Option Name) (n : Name) (t u : Local) → GoesOn t u → (fails_by failed n ≡ true → t.steps < u.steps)
    → IsOnPath log failed n u → IsOnPath log None n t
on_before log failed n t u goes fails on = record {
  path = on.path;
  there = on.there;
  steps = omega (arith, goes.steps, on.steps);
  later = goes.more ++ on.later;
  outcomes = on.outcomes ∙ ap (λ xs. xs ++ on.later) goes.outcomes ∙ append_assoc t.outcomes goes.more on.later;
  fails = by (fails_in log n) refl (t.steps == on.path.steps) refl;
}
  where
    by : (b : Bool) → fails_in log n ≡ b → (c : Bool) → (t.steps == on.path.steps) ≡ c → false ≡ (b && c)
    by false e c g = refl
    by true e false g = refl
    by true e true g =
        let all = eqb-true t.steps on.path.steps g in
        let same : u.steps ≡ on.path.steps = omega (arith, all, goes.steps, on.steps) in
        absurd (omega (arith, all, same, fails (on.fails ∙ ap₂ (λ x y. x && y) e (eq-eqb u.steps on.path.steps same))))

module _ {B : Type 0} (ops : BufferOps B) (code : Code) (log : Log) where
  -- if all threads are on their paths after a move, they are before it
  pub on_before_change : (s u : State B) → IsReached ops code s → s.failed ≡ None → Change ops code s u → AreOnPaths log u → AreOnPaths log s
  on_before_change s u reached going change on n t there =
      let still = still_there ops code s u reached change n t there in
      subst (λ o. IsOnPath log o n t.local) (sym going)
      (on_before log u.failed n t.local still.thread.local still.goes still.fails (on n still.thread still.there))

  -- all threads are on their paths one move before
  pub on_before_step : (s u : State B) (m : Move) → IsReached ops code s → step ops code s m ≡ Some u → AreOnPaths log u → AreOnPaths log s
  on_before_step s u m reached one on = on_before_change s u reached (none_failed ops code s u m one) (change_of ops code s u m one) on

  -- all threads are on their paths some moves before
  pub on_before_moves : (s u : State B) (ms : List Move) → IsReached ops code s → run_from ops code s ms ≡ Some u → AreOnPaths log u → AreOnPaths log s
  on_before_moves s u [] reached leads on = subst (AreOnPaths log) (sym (same_Some s u leads)) on
  on_before_moves s u (m ∷ ms) reached leads on =
      option_and_then_some (λ v. run_from ops code v ms) (step ops code s m) u leads
      (λ v one rest. on_before_step s v m reached one (on_before_moves v u ms (step_is_reached ops code s v m one reached) rest on))

-- Moves that reproduce a log.

-- a path ends in a failure exactly if its thread is the one that failed
pub failing_by : (failed : Option Name) (n : Name) → is_failing (ending_by failed n) ≡ fails_by failed n
failing_by None n = refl
failing_by (Some m) n = by (bytes_eq n m)
  where
    by : (b : Bool) → is_failing (cond b Fails Open) ≡ b
    by true = refl
    by false = refl

module _ {B : Type 0} (ops : BufferOps B) (code : Code) (log : Log) (moves : List Move) (r : Reproduces ops code log moves) where
  -- a thread's path ends in the log as it did in the run
  pub ends_as : (n : Name) → ending_of log n ≡ ending_by r.state.failed n
  ends_as n = ap (λ o. ending_by o n) (sym (failed_as_logged ops code log r.state r.ends))

  -- a thread has failed exactly if it fails in the log
  pub fails_as : (n : Name) → fails_in log n ≡ fails_by r.state.failed n
  fails_as n = ap is_failing (ends_as n) ∙ failing_by r.state.failed n

  -- a thread's path in the log is the one that it went
  pub thread_path : (n : Name) (t : Thread B) → fin.get r.state.threads n ≡ Some t → path_under n log.threads ≡ Some (path_of t)
  thread_path n t there = sym (r.paths n) ∙ ap (option_map path_of) there

  -- all threads have gone their paths
  reproduced_on : AreOnPaths log r.state
  reproduced_on n t there = record {
    path = path_of t;
    there = thread_path n t there;
    steps = omega arith;
    later = [];
    outcomes = sym (append-nil t.local.outcomes);
    fails = sym (fails_as n) ∙ sym (and-true (fails_in log n)) ∙ ap (λ b. fails_in log n && b) (sym (eq-eqb t.local.steps t.local.steps refl));
  }

-- the first moves of a run that reproduces a log lead threads along first parts of their paths
pub beginnings_on : {B : Type 0} (ops : BufferOps B) (code : Code) (log : Log) (first rest : List Move) (s : State B)
    → Reproduces ops code log (first ++ rest) → run ops code first ≡ Some s → AreOnPaths log s
beginnings_on ops code log first rest s r leads =
    let later : run_from ops code s rest ≡ Some r.state =
    sym (run_from-append ops code (opening ops code) first rest ∙ ap (option_and_then (λ u. run_from ops code u rest)) leads) ∙ r.leads in
    on_before_moves ops code log s r.state rest (record { moves = first; leads = leads }) later (reproduced_on ops code log (first ++ rest) r)

-- the path under a thread's own name
pub own_under : (log : Log) → is_log log ≡ true → (j : ℕ) (p : ThreadPath) → slice_get log.threads j ≡ Some p → path_under p.name log.threads ≡ Some p.path
own_under log is j p at =
    let split = split_at log.threads j p at in
    let rises : rises_from None (take j log.threads ++ p ∷ drop (suc j) log.threads) ≡ true =
    ap (rises_from None) (sym split) ∙ (and_parts (rises_from None log.threads) _ is).0 in
    ap (path_under p.name) split ∙ own_path p (drop (suc j) log.threads) None (take j log.threads) rises

-- Places.

-- fewer steps by the first outcomes give the first places
pub first_places : (code : Code) (f n m k : ℕ) (os more : List Bool) (ps qs : List ℕ) → n ≤ m → places_from code f n k os ≡ Ok ps
    → places_from code f m k (os ++ more) ≡ Ok qs → ps ≡ take n qs
first_places code f zero m k [] more ps qs few h g = let none : [] ≡ ps = cc in sym none
first_places code f zero m k (o ∷ os) more ps qs few h g = absurd cc
first_places code f (suc n) zero k os more ps qs few h g = absurd (omega (arith, few))
first_places code f (suc n) (suc m) k os more ps qs few h g =
    let x = unrolled code f n k os ps h in
    let y = unrolled code f m k (os ++ more) qs g in
    let same : y.instr ≡ x.instr = same_Some y.instr x.instr (sym y.at ∙ x.at) in
    let leads = onward_more k x.instr os more x.next x.leads in
    let next = same_Some y.next _ (sym y.leads ∙ ap (λ i. onward k i (os ++ more)) same ∙ leads) in
    let told : places_from code f m x.next.place (x.next.outcomes ++ more) ≡ Ok y.rest =
    sym (ap (λ (w : Onward). places_from code f m w.place w.outcomes) next) ∙ y.told in
    let less : n ≤ m = omega (arith, few) in
    x.all ∙ ap (λ xs. k ∷ xs) (first_places code f n m x.next.place x.next.outcomes more x.rest y.rest less x.told told) ∙ sym (ap (take (suc n)) y.all)

-- a result without an error is a value
pub is_ok : {X E : Type 0} (r : Result X E) (d : X) → result_err r ≡ None → r ≡ Ok (result_unwrap_or r d)
is_ok (Ok x) d h = refl
is_ok (Err e) d h = absurd (none-some e (sym h))

-- a thread so far has the function of the code and log, and is where the first places of its path
-- lead
pub record IsSoFar (code : Code) (log : Log) (failed : Option Name) (n : Name) (t : Local) : Type 0 where
  pub on : IsOnPath log failed n t
  pub function : function_of code log n ≡ Some t.function
  -- the code and the log determine the places of its whole path
  pub told : places_from code t.function on.path.steps 0 on.path.outcomes ≡ Ok (places_in code log n t.function)
  pub count : length (places_in code log n t.function) ≡ on.path.steps
  pub stands : Stands code (fails_by failed n) t (take t.steps (places_in code log n t.function))

-- a step leads one place further on the path, and fails exactly if the thread is the one that fails
-- and has no step left
pub record IsOnward (code : Code) (log : Log) (n : Name) (t : Local) (i : Instr) (r : Request) : Type 0 where
  pub before : IsSoFar code log None n t
  pub at : instr_at code t.function t.instruction ≡ Some i
  pub next : take (t.steps + 1) (places_in code log n t.function) ≡ take t.steps (places_in code log n t.function) ++ t.instruction ∷ []
  pub within : t.steps < before.on.path.steps
  pub fails : is_fail r ≡ (fails_in log n && t.steps + 1 == before.on.path.steps)

module _ {B : Type 0} (ops : BufferOps B) (code : Code) (lawful : IsLawful code) (log : Log) (fits : Fits code log) where
  module _ (s : State B) (reached : IsReached ops code s) (on : AreOnPaths log s) where
    abbrev known : AllKnown code s.threads s.failed
    known = reached_known ops code lawful s reached

    -- a thread's function and path determine the places of the whole path
    whole_path : (n : Name) (t : Thread B) (there : fin.get s.threads n ≡ Some t) → function_of code log n ≡ Some t.local.function
        → places_from code t.local.function (on n t there).path.steps 0 (on n t there).path.outcomes ≡ Ok (places_in code log n t.local.function)
    whole_path n t there function =
        let o = on n t there in
        let f = t.local.function in
        let fit = places_of code f (ending_of log n) o.path in
        let fine = is_ok fit [] (sym (by_path code log n f o.path function o.there) ∙ fits n) in
        fits_from code f (ending_of log n) o.path (places_from code f o.path.steps 0 o.path.outcomes) (places_in code log n f)
        (fine ∙ ap (λ r. Ok (result_unwrap_or r [])) (sym (walked_there code log n f o.path o.there)))

    -- a thread's places so far are the first of its whole path
    pub places_so_far : (n : Name) (t : Thread B) (there : fin.get s.threads n ≡ Some t) → function_of code log n ≡ Some t.local.function
        → (known n t there).places ≡ take t.local.steps (places_in code log n t.local.function)
    places_so_far n t there function =
        let o = on n t there in
        let k = known n t there in
        first_places code t.local.function t.local.steps o.path.steps 0 t.local.outcomes o.later k.places _ o.steps
        (stands_places code (fails_by s.failed n) t.local k.places k.stands)
        (ap (places_from code t.local.function o.path.steps 0) (sym o.outcomes) ∙ whole_path n t there function)

    -- the places so far begin the whole path
    are_first : (n : Name) (t : Thread B) (there : fin.get s.threads n ≡ Some t) → function_of code log n ≡ Some t.local.function
        → AreFirst code log n t.local (known n t there).places
    are_first n t there function =
        let all = places_in code log n t.local.function in (
          drop t.local.steps all,
          sym (take-append-drop t.local.steps all) ∙ ap (λ xs. xs ++ drop t.local.steps all) (sym (places_so_far n t there function)),
        )

    -- each thread is where the first part of its path leads
    pub so_far : (n : Name) (t : Thread B) → fin.get s.threads n ≡ Some t → IsSoFar code log s.failed n t.local
    so_far n t there =
        let o = on n t there in
        let f = t.local.function in
        let function = function_is code log s known are_first n t there in
        let told = whole_path n t there function in
        record {
          on = o;
          function = function;
          told = told;
          count = count code f o.path.steps 0 o.path.outcomes _ told;
          stands = subst (Stands code (fails_by s.failed n) t.local) (places_so_far n t there function) (known n t there).stands;
        }

  -- a step on the path
  pub step_is_onward : (s u : State B) (n : Name) (t : Thread B) (i : Instr) (r : Request) → IsReached ops code s → s.failed ≡ None → Does ops code s u n t i r
      → AreOnPaths log u → IsOnward code log n t.local i r
  step_is_onward s u n t i r reached going does on =
      let v = value_taken ops code s t r in
      let f = t.local.function in
      let all = places_in code log n f in
      let w = (own ops code s t i r).local in
      let before : IsSoFar code log None n t.local =
      subst (λ o. IsSoFar code log o n t.local) going
      (so_far s reached (on_before_change ops code log s u reached going (By_step n t i r does) on) n t does.there) in
      let after = on n (own ops code s t i r) (own_there ops code s u n t i r reached does) in
      let at = at_its_place code t.local i does.at in
      let steps : w.steps ≡ t.local.steps + 1 = steps_by t.local i r v in
      let path : after.path ≡ before.on.path = same_Some after.path before.on.path (sym after.there ∙ before.on.there) in
      let told : places_from code f w.steps 0 w.outcomes ≡ Ok (take t.local.steps all ++ t.local.instruction ∷ []) =
      ap (λ g. places_from code g w.steps 0 w.outcomes) (sym (same_function t.local i r v)) ∙ step_told code t.local i r v _ before.stands at does.asks in
      let whole : places_from code f after.path.steps 0 (w.outcomes ++ after.later) ≡ Ok all =
      ap (places_from code f after.path.steps 0) (sym after.outcomes) ∙ ap (λ (p : Path). places_from code f p.steps 0 p.outcomes) path ∙ before.told in
      record {
        before = before;
        at = at;
        next =
            ap (λ k. take k all) (sym steps)
            ∙ sym (first_places code f w.steps after.path.steps 0 w.outcomes after.later _ all after.steps told whole);
        within = omega (arith, steps, after.steps, ap (λ (p : Path). p.steps) path);
        fails =
            sym (own_fails r n)
            ∙ ap (λ o. fails_by o n) (sym does.failed)
            ∙ after.fails
            ∙ ap₂ (λ a (p : Path). fails_in log n && a == p.steps) steps path;
      }
