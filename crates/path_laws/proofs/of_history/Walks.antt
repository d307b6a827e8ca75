-- The threads of a log's paths.
use Rattle.std.proofs.Common.{◌≡◌, ◌∙◌, ℕ, ◌≤◌, Bool, true, false, ◌||◌, List, [], length, Option, Some, None, Ok}
use Rattle.std.proofs.Common.{refl, sym, ap, subst, arith, true≢false}
use Rattle.std.specs.Prelude.{slice_get, option_map, unwrap_or}
use Rattle.std.specs.FinMap as fin
use Rattle.std.specs.List.{list_any}
use Rattle.std.specs.Result.{result_unwrap_or}
use Rattle.std.proofs.lemmas.Bool.{false_from_ne_true}
use Rattle.std.proofs.lemmas.List.Folds.{list_any_at}
use Rattle.std.proofs.lemmas.Option.{none-some, same_Some, slice_get-map, slice_get_within, get_or_from_slice_get}
use Rattle.path_walk.specs.run_log.Logs.{Log}
use Rattle.path_walk.specs.tc_base.Paths.{Path, ThreadPath, path_under}
use Rattle.path_walk.specs.tc_base.Names.{Name}
use Rattle.path_walk.specs.tc_base.States.{Thread}
use Rattle.path_walk.specs.tc_code.Code.{Code}
use Rattle.run_follows.specs.run_history.Told.{is_thread_in, steps_in}
use Rattle.run_follows.proofs.run_history.Threads.{none_done}
use Rattle.path_walk.specs.run_log.Logs.{is_log}
use Rattle.path_walk.specs.Events.{events_of, regions_of, sleeps_of, is_impossible}
use Rattle.path_walk.specs.Fits.{ending_of, fails_in, places_in, function_of, Fits}
use Rattle.path_walk.specs.Marks.{marks_at_start, marks_after, marked_steps}
use Rattle.path_walk.specs.Paths.{Walk, blocked_after, is_dead, walk_of, paths_of}
use Rattle.path_walk.specs.Steps.{places_from, places_of, steps_at, standing}
use Rattle.path_walk.proofs.Faults.{walked_there, by_path, fitting}
use Rattle.path_walk.proofs.Places.{count, fits_from}
use Rattle.path_laws.specs.Setting.{Setting}
use Rattle.path_laws.proofs.Logs.{place_of}
use Rattle.path_laws.proofs.Prefixes.{own_under, is_ok, IsSoFar, so_far}
use Rattle.path_laws.specs.history.Along.{IsThread, IsNameOfThread, HistoryAlong, PathThread}
use Rattle.path_laws.proofs.of_history.Told.{RunOf, reached, thread_of, steps_of, its_run}

-- the walk of a thread of a log that fits
pub record IsWalk (code : Code) (log : Log) (w : Walk) : Type 0 where
  pub thread : ThreadPath
  pub is : w ≡ walk_of code log thread
  pub path : Path
  pub under : path_under w.name log.threads ≡ Some path
  pub outcomes : w.outcomes ≡ path.outcomes
  pub function : function_of code log w.name ≡ Some w.function
  pub told : places_in code log w.name w.function ≡ w.places
  pub places : places_from code w.function path.steps 0 path.outcomes ≡ Ok w.places
  pub fits : places_of code w.function (ending_of log w.name) path ≡ Ok w.places
  pub long : length w.places ≡ path.steps
  pub events : w.events ≡ events_of code w.function (marked_steps code w.function (fails_in log w.name) (steps_at code w.function w.places))
  pub regions : w.regions ≡ regions_of w.events
  pub sleeps : w.sleeps ≡ sleeps_of w.events
  pub blocked : w.blocked
      ≡ blocked_after (ending_of log w.name) (marks_after (marks_at_start code w.function) (steps_at code w.function w.places)) w.sleeps
      (standing code w.function path)
  -- if the paths aren't dead, no step of the thread is one that no run can do
  pub alive : (paths_of code log).dead ≡ false
      → list_any is_impossible (marked_steps code w.function (fails_in log w.name) (steps_at code w.function w.places)) ≡ false

-- if two tests both fail, the first does
first_fails : (a b : Bool) → (a || b) ≡ false → a ≡ false
first_fails true b e = e
first_fails false b e = refl

-- if no element of a list passes, the one at a place doesn't
pub no_element : {X : Type 0} (p : X → Bool) (xs : List X) (k : ℕ) (x : X) → list_any p xs ≡ false → slice_get xs k ≡ Some x → p x ≡ false
no_element p xs k x none at =
    false_from_ne_true (p x) (λ yes.
    true≢false (sym (list_any_at p xs k x (slice_get_within xs k x at) (ap p (get_or_from_slice_get xs k x x at) ∙ yes)) ∙ none))

-- a thread of the paths has a path of the log
pub thread_path_at : (code : Code) (log : Log) (j : ℕ) (w : Walk) → IsThread code log j w
    → (p : ThreadPath) × (slice_get log.threads j ≡ Some p) × (walk_of code log p ≡ w)
thread_path_at code log j w there = by (slice_get log.threads j) refl
  where
    by : (o : Option ThreadPath) → slice_get log.threads j ≡ o → (p : ThreadPath) × (slice_get log.threads j ≡ Some p) × (walk_of code log p ≡ w)
    by None none = absurd (none-some w (sym (slice_get-map (walk_of code log) log.threads j ∙ ap (option_map (walk_of code log)) none) ∙ there))
    by (Some p) at =
        (p, at, same_Some (walk_of code log p) w (sym (slice_get-map (walk_of code log) log.threads j ∙ ap (option_map (walk_of code log)) at) ∙ there))

module _ (code : Code) (log : Log) (is : is_log log ≡ true) (fits : Fits code log) where
  walk_told : (j : ℕ) (p : ThreadPath) → slice_get log.threads j ≡ Some p → IsWalk code log (walk_of code log p)
  walk_told j p at =
      let under = own_under log is j p at in
      let f = fitting code log p.name p.path under (fits p.name) in
      let w = walk_of code log p in
      let same : w.function ≡ f.0 = ap (λ o. unwrap_or o 0) f.1 in
      let function : function_of code log p.name ≡ Some w.function = f.1 ∙ ap (λ g. Some g) (sym same) in
      let fine = is_ok (places_of code w.function (ending_of log p.name) p.path) []
      (sym (by_path code log p.name w.function p.path function under) ∙ fits p.name) in
      let whole : places_of code w.function (ending_of log p.name) p.path ≡ Ok w.places =
      fine ∙ ap (λ r. Ok (result_unwrap_or r [])) (sym (walked_there code log p.name w.function p.path under)) in
      let places = fits_from code w.function (ending_of log p.name) p.path (places_from code w.function p.path.steps 0 p.path.outcomes) w.places whole in
      record {
        thread = p;
        is = refl;
        path = p.path;
        under = under;
        outcomes = refl;
        function = function;
        told = refl;
        places = places;
        fits = whole;
        long = count code w.function p.path.steps 0 p.path.outcomes w.places places;
        events = refl;
        regions = refl;
        sleeps = refl;
        blocked = refl;
        alive = λ dead. no_element (is_dead code log) log.threads j p (first_fails (list_any (is_dead code log) log.threads) _ dead) at;
      }

  pub walk_is : (t : PathThread code log) → IsWalk code log t.walk
  walk_is t = let p = thread_path_at code log t.index t.walk t.there in subst (IsWalk code log) p.2 (walk_told t.index p.0 p.1)

  -- a name with a path is that of a thread
  pub named : (n : Name) (path : Path) → path_under n log.threads ≡ Some path → IsNameOfThread code log n
  named n path under =
      let p = place_of n path log.threads under in
      record {
        thread = record {
          index = p.place;
          walk = walk_of code log p.thread;
          there = slice_get-map (walk_of code log) log.threads p.place ∙ ap (option_map (walk_of code log)) p.there;
        };
        name_is = p.name;
      }

module _ {B : Type 0} (setting : Setting B) (history : HistoryAlong setting) where
  open setting use {machine, ops, code, lawful, log, log_is as is}
  open history use {deeds as h, fits}

  abbrev r : RunOf machine log h
  r = its_run setting history

  pub thread_named : (n : Name) → is_thread_in h n ≡ true → IsNameOfThread code log n
  thread_named n there =
      let t = thread_of machine log h r n there in
      let on = r.on n t.0 t.1 in
      named code log is fits n on.path on.there

  module _ (thread : PathThread code log) where
    open thread use {walk as w}

    -- a thread of a run on the paths, and its walk
    pub record IsWalking (t : Thread B) : Type 0 where
      pub walk : IsWalk code log w
      pub so : IsSoFar code log r.state.failed w.name t.local
      pub function : t.local.function ≡ w.function
      pub path : so.on.path ≡ walk.path
      pub places : places_in code log w.name t.local.function ≡ w.places

    pub walking : (t : Thread B) → fin.get r.state.threads w.name ≡ Some t → IsWalking t
    walking t here =
        let k = walk_is code log is fits thread in
        let so = so_far ops code lawful log fits r.state (reached machine log h r) r.on w.name t here in
        let function = same_Some t.local.function w.function (sym so.function ∙ k.function) in
        record {
          walk = k;
          so = so;
          function = function;
          path = same_Some so.on.path k.path (sym so.on.there ∙ k.under);
          places = ap (places_in code log w.name) function ∙ k.told;
        }

    -- it has done no more steps than its path has
    pub few_steps : steps_in h w.name ≤ length w.places
    few_steps = by (fin.get r.state.threads w.name) refl
      where
        by : (o : Option (Thread B)) → fin.get r.state.threads w.name ≡ o → steps_in h w.name ≤ length w.places
        by None none = omega (arith, none_done ops code r.state h w.name r.told.tells.deeds.buffers.threads none)
        by (Some t) here =
            let k = walking t here in
            let done = steps_of machine log h r w.name t here in
            omega (arith, done, k.walk.long, k.so.on.steps, ap (λ (p : Path). p.steps) k.path)
