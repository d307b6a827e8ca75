-- A log that some moves reproduce.
use Rattle.std.proofs.Common.{◌≡◌, ◌∙◌, ◌⊎◌, inl, inr, ℕ, zero, suc, ◌-◌, Bool, true, false, ◌||◌, cond, List, [], ◌∷◌, ◌++◌, length, map, get_or}
use Rattle.std.proofs.Common.{IsSome, Option, Some, None, Result, Ok, Err, refl, sym, ap, ap₂, subst, arith, append-nil, bytes_eq}
use Rattle.std.specs.Prelude.{slice_get, unwrap_or, option_and_then, option_map, is_none, IsSomeAnd}
use Rattle.std.specs.FinMap as fin
use Rattle.std.specs.List.{list_all, list_any, cons_option}
use Rattle.std.specs.Option.{option_map_or}
use Rattle.std.specs.Result.{result_unwrap_or, result_err}
use Rattle.std.proofs.lemmas.List.{length-append}
use Rattle.std.proofs.lemmas.List.Folds.{list_all_at}
use Rattle.std.proofs.lemmas.Option.{none-some, same_Some, slice_get-get_or, slice_get-map, slice_get_within}
use Rattle.path_walk.specs.tc_base.Names.{Name, child}
use Rattle.path_walk.specs.run_log.Logs.{Log}
use Rattle.path_walk.specs.tc_base.Paths.{Path, ThreadPath, path_under}
use Rattle.path_walk.specs.tc_base.States.{Local, Thread, State}
use Rattle.path_walk.specs.tc_base.declared.failing.Failing.{Failing}
use Rattle.path_walk.specs.tc_base.declared.failing.Failing.TheVariants as failing
use Rattle.path_walk.specs.tc_base.declared.moves.Move.{Move}
use Rattle.path_walk.specs.tc_base.declared.request.Request.TheVariants.{Fail}
use Rattle.path_walk.proofs.tc_base.Names.{HasParent, parent_of, same_true}
use Rattle.path_walk.specs.tc_code.Code.{Code, instr_at}
use Rattle.path_walk.specs.tc_code.Step.{request}
use Rattle.path_walk.proofs.tc_code.Facts.{at_its_place}
use Rattle.path_walk.specs.tc_code.declared.instr.Instr.{Instr}
use Rattle.path_walk.specs.tc_code.declared.instr.Instr.TheVariants.{Create, Exit}
use Rattle.path_walk.specs.tc_code.Run.{Reproduces, EndsAs, IsStuck, IsReached, path_of}
use Rattle.path_walk.specs.Steps.{step_at, steps_at, is_failing, is_site, can_block, ends_at_site, standing, places_if_well_ended, places_of}
use Rattle.path_walk.specs.Fits.{starts, started, ending_by, ending_of, fails_in, places_in, child_function, function_of, Fits}
use Rattle.path_walk.specs.Marks.{marks_at_start, marks_after, marked_steps}
use Rattle.path_walk.specs.Events.{is_impossible}
use Rattle.path_walk.specs.Paths.{Walk, have_exited, walk_of, function_in, steps_in, is_dead, paths_of}
use Rattle.path_walk.specs.declared.ending.Ending.{Ending}
use Rattle.path_walk.specs.declared.ending.Ending.TheVariants.{Fails, Rests, Open}
use Rattle.path_walk.specs.declared.fault.Misfit.{Misfit}
use Rattle.path_walk.specs.declared.fault.Misfit.TheVariants as misfit
use Rattle.path_walk.proofs.Faults.{option_is, there, not_there, function_of_child, walked_there, no_child, nobody, by_path}
use Rattle.path_walk.proofs.Drafts.{under_own}
use Rattle.run_follows.proofs.run_laws.Created.{reached_is_created}
use Rattle.run_follows.proofs.run_laws.Exits.{exited_past_exit, has_next}
use Rattle.run_follows.proofs.run_laws.Main.{main_is_there}
use Rattle.run_follows.proofs.run_laws.Stuck.{stuck_waits}
use Rattle.run_follows.proofs.run_history.of_pending.Stuck.{stuck_is_drained}
use Rattle.path_walk.proofs.list_laws.Lists.{get_seam}
use Rattle.path_laws.specs.Along.{IsAlong}
use Rattle.path_laws.specs.Prefixes.{fails_by}
use Rattle.path_laws.proofs.Blocked.{waits_where_blocked, blocked_there, none_behind_exit}
use Rattle.path_laws.proofs.Functions as functions
use Rattle.path_laws.proofs.Prefixes.{failing_by, ends_as, fails_as, thread_path}
use Rattle.path_laws.proofs.Local.{still_possible, started_push, marks_here}
use Rattle.path_laws.proofs.States.{Stands, stands_places, fail_is_site, fail_possible, AllKnown, reached_known}
use Rattle.run_follows.specs.Machine.{Machine}

get_end : {X : Type 0} (xs : List X) (x : X) → slice_get (xs ++ x ∷ []) (length (xs ++ x ∷ []) - 1) ≡ Some x
get_end xs x =
    let last : length (xs ++ x ∷ []) - 1 ≡ length xs = omega (arith, length-append xs (x ∷ [])) in
    ap (slice_get (xs ++ x ∷ [])) last ∙ get_seam xs x []

any_none : {X : Type 0} (p : X → Bool) (xs : List X) → ((i : ℕ) (x : X) → slice_get xs i ≡ Some x → p x ≡ false) → list_any p xs ≡ false
any_none p [] h = refl
any_none p (x ∷ xs) h = ap (λ b. b || list_any p xs) (h 0 x refl) ∙ any_none p xs (λ i y at. h (suc i) y at)

site_starts : (t : Local) (i : Instr) → request t i ≡ Fail → starts i ≡ None
site_starts t (Create h f es) e = absurd cc
site_starts t i e = refl

not_all : {X : Type 0} (p : X → Bool) (xs : List X) (i : ℕ) (x : X) → slice_get xs i ≡ Some x → p x ≡ false → list_all p xs ≡ false
not_all p xs i x at fails =
    let within = slice_get_within xs i x at in
    list_all_at p xs i x within (ap p (same_Some (get_or xs i x) x (sym (slice_get-get_or xs i x within) ∙ at)) ∙ fails)

-- if no thread failed, all paths rest
none_failed : (failed : Option Name) (n : Name) → ending_by failed n ≡ Rests → failed ≡ None
none_failed None n e = refl
none_failed (Some m) n e = absurd (by (bytes_eq n m) e)
  where
    by : (b : Bool) → cond b Fails Open ≡ Rests → ⊥
    by true e = cc
    by false e = cc

-- the thread with this name, and its index
pub record HasPlace (n : Name) (way : Path) (ts : List ThreadPath) : Type 0 where
  pub place : ℕ
  pub thread : ThreadPath
  pub there : slice_get ts place ≡ Some thread
  pub name : thread.name ≡ n
  pub path : thread.path ≡ way

pub place_of : (n : Name) (path : Path) (ts : List ThreadPath) → path_under n ts ≡ Some path → HasPlace n path ts
place_of n path [] h = absurd (none-some path h)
place_of n path (t ∷ ts) h = by (bytes_eq n t.name) refl h (λ g. place_of n path ts g)
  where
    by : (b : Bool) → bytes_eq n t.name ≡ b → cond b (Some t.path) (path_under n ts) ≡ Some path → (path_under n ts ≡ Some path → HasPlace n path ts)
        → HasPlace n path (t ∷ ts)
    by true same h later = record { place = 0; thread = t; there = refl; name = sym (same_true n t.name same); path = same_Some t.path path h }
    by false other h later =
        let rest = later h in
        record { place = suc rest.place; thread = rest.thread; there = rest.there; name = rest.name; path = rest.path }

abbrev the_ok : List ℕ → Result (List ℕ) Misfit
the_ok ps = Ok ps

module _ (code : Code) where
  abbrev went : Local → Path
  went t = record { outcomes = t.outcomes; steps = t.steps }

  -- the path that a thread has gone, with this ending, has the thread's places
  ended_so : (e : Ending) (t : Local) (ps : List ℕ) → Stands code (is_failing e) t ps
      → (e ≡ Rests → option_map_or can_block (standing code t.function (went t)) true ≡ true) → places_of code t.function e (went t) ≡ Ok ps
  ended_so Open t ps h rests = stands_places code false t ps h
  ended_so Rests t ps h rests =
      ap (places_if_well_ended code t.function Rests (went t)) (stands_places code false t ps h)
      ∙ ap (λ b. cond b (the_ok ps) (Err misfit.NotBlocked)) (rests refl)
  ended_so Fails t ps h rests =
      let k = h.before.instruction in
      let f = h.before.function in
      let function : t.function ≡ f = ap (λ (x : Local). x.function) h.is in
      let at : instr_at code f k ≡ Some h.instr = at_its_place code h.before h.instr h.at in
      let ends : ends_at_site code t.function ps ≡ true =
      ap₂ (ends_at_site code) function h.all
      ∙ ap (λ o. option_map_or (λ j. is_site (step_at code f j).instr) o false) (get_end h.front k)
      ∙ ap (λ o. is_site (unwrap_or o Exit)) at
      ∙ fail_is_site h.before h.instr h.asks in
      ap (places_if_well_ended code t.function Fails (went t)) (stands_places code true t ps h)
      ∙ ap (λ b. cond b (the_ok ps) (Err misfit.NotASite)) ends

  -- a thread has created as many children as it counts
  pub created_count : (b : Bool) (t : Local) (ps : List ℕ) → Stands code b t ps → length (started (steps_at code t.function ps)) ≡ t.children
  created_count false t ps h = h.children
  created_count true t ps h =
      let at = at_its_place code h.before h.instr h.at in
      ap₂ (λ f xs. length (started (steps_at code f xs))) (ap (λ (x : Local). x.function) h.is) h.all
      ∙ ap length (started_push code h.before h.before h.instr h.front h.along at
      ∙ ap (λ o. started (steps_at code h.before.function h.front) ++ cons_option o []) (site_starts h.before h.instr h.asks)
      ∙ append-nil (started (steps_at code h.before.function h.front)))
      ∙ h.along.children
      ∙ sym (ap (λ (x : Local). x.children) h.is)

  -- no step of the thread is one that no run can do
  alive : (b : Bool) (t : Local) (ps : List ℕ) → Stands code b t ps
      → list_any is_impossible (marked_steps code t.function b (steps_at code t.function ps)) ≡ false
  alive false t ps h = h.possible
  alive true t ps h =
      let at = at_its_place code h.before h.instr h.at in
      ap₂ (λ f xs. list_any is_impossible (marked_steps code f true (steps_at code f xs))) (ap (λ (x : Local). x.function) h.is) h.all
      ∙ still_possible code h.before h.before h.instr h.front h.along at true
      (fail_possible h.before (marks_here code h.before h.before h.instr h.front h.along at) h.instr h.asks h.along.marks)

module _ {B : Type 0} (machine : Machine B) (log : Log) (moves : List Move) (r : Reproduces machine.ops machine.code log moves) where
  open machine use {ops, model, bound, laws, code, lawful}

  abbrev s : State B
  s = r.state

  reached : IsReached ops code s
  reached = record { moves = moves; leads = r.leads }

  known : AllKnown code s.threads s.failed
  known = reached_known ops code lawful s reached

  no_path : (n : Name) → fin.get s.threads n ≡ None → path_under n log.threads ≡ None
  no_path n none = sym (r.paths n) ∙ ap (option_map path_of) none

  -- a thread of a deadlock that hasn't exited stands where it can be blocked
  record IsBlocked (t : Local) : Type 0 where
    instr : Instr
    at : standing code t.function (went code t) ≡ Some instr
    blocks : can_block instr ≡ true

  module _ (stuck : IsStuck ops code s) (n : Name) (t : Thread B) (there : fin.get s.threads n ≡ Some t) where
    standing_there : standing code t.local.function (went code t.local) ≡ instr_at code t.local.function t.local.instruction
    standing_there =
        let k = known n t there in
        let along : IsAlong code t.local k.places = subst (λ o. Stands code (fails_by o n) t.local k.places) stuck.unfailed k.stands in
        ap (instr_at code t.local.function) along.end

    is_blocked : t.local.has_exited ≡ false → IsBlocked t.local
    is_blocked going =
        let next = has_next ops code s lawful reached n t there going in
        let waits = stuck_waits ops code s n t next.0 stuck.unfailed stuck.still there next.1
        (stuck_is_drained ops model bound code s n t laws reached stuck there) in
        record {
          instr = next.0;
          at = standing_there ∙ at_its_place code t.local next.0 next.1;
          blocks = sym (waits_where_blocked t.local next.0) ∙ waits.1;
        }

    -- so it rests
    may_rest : option_map_or can_block (standing code t.local.function (went code t.local)) true ≡ true
    may_rest = by t.local.has_exited refl
      where
        by : (b : Bool) → t.local.has_exited ≡ b → option_map_or can_block (standing code t.local.function (went code t.local)) true ≡ true
        by true gone =
            ap (λ o. option_map_or can_block o true)
            (standing_there ∙ none_behind_exit code t.local lawful ((exited_past_exit ops code s lawful reached n t there).0 gone))
        by false going = let b = is_blocked going in ap (λ o. option_map_or can_block o true) b.at ∙ b.blocks

  stuck_if : s.failed ≡ None → IsStuck ops code s
  stuck_if none = by log.failing r.ends
    where
      failed_one : (o : Option ThreadPath) → IsSomeAnd o (λ t. s.failed ≡ Some t.name) → IsStuck ops code s
      failed_one None h = absurd h
      failed_one (Some t) h = absurd (none-some t.name (sym none ∙ h))

      by : (f : Failing) → EndsAs ops code f log.threads s → IsStuck ops code s
      by (failing.Thread k) h = failed_one (slice_get log.threads k) h
      by failing.Deadlock h = h

  placed : (n : Name) (t : Thread B) (there : fin.get s.threads n ≡ Some t)
      → places_of code t.local.function (ending_of log n) (path_of t) ≡ Ok (known n t there).places
  placed n t there =
      let k = known n t there in
      ap (λ e. places_of code t.local.function e (path_of t)) (ends_as ops code log moves r n)
      ∙ ended_so code (ending_by s.failed n) t.local k.places (subst (λ b. Stands code b t.local k.places) (sym (failing_by s.failed n)) k.stands)
      (λ rests. may_rest (stuck_if (none_failed s.failed n rests)) n t there)

  places_are : (n : Name) (t : Thread B) (there : fin.get s.threads n ≡ Some t) → places_in code log n t.local.function ≡ (known n t there).places
  places_are n t there =
      ap (λ x. result_unwrap_or x [])
      (walked_there code log n t.local.function (path_of t) (thread_path ops code log moves r n t there) ∙ placed n t there)

  -- the functions that a thread's path creates are those that it has created
  child_is : (n : Name) (t : Thread B) (there : fin.get s.threads n ≡ Some t) (j : ℕ)
      → child_function code log n t.local.function (suc j) ≡ slice_get (started (steps_at code t.local.function (known n t there).places)) j
  child_is n t there j = ap (λ xs. slice_get (started (steps_at code t.local.function xs)) j) (places_are n t there)

  -- each thread's function is that of the code and log
  function_is : (n : Name) (t : Thread B) → fin.get s.threads n ≡ Some t → function_of code log n ≡ Some t.local.function
  function_is = functions.function_is code log s known (λ n t there function. ([], places_are n t there ∙ sym (append-nil (known n t there).places)))

  -- nothing creates a name that is no thread
  beyond : (p : Name) (t : Thread B) (there : fin.get s.threads p ≡ Some t) (j : ℕ) (xs : List ℕ) → length xs ≡ t.local.children
      → fin.get s.threads (child p (suc j)) ≡ None → slice_get xs j ≡ None
  beyond p t there j xs count none =
      elim (option_is (slice_get xs j)) [
        | inl e ↦ e
        | inr is ↦
            let within = slice_get_within xs j is.0 is.1 in
            absurd (not_there _ none ((reached_is_created ops code s reached).child_is_there p t (suc j) there
            (record { first = omega arith; last = omega (arith, count, within) })))
      ]

  not_created : (p : Name) (t : Thread B) (there : fin.get s.threads p ≡ Some t) (k : ℕ) → fin.get s.threads (child p k) ≡ None
      → child_function code log p t.local.function k ≡ None
  not_created p t there zero none = refl
  not_created p t there (suc j) none =
      child_is p t there j
      ∙ beyond p t there j (started (steps_at code t.local.function (known p t there).places))
      (created_count code (fails_by s.failed p) t.local (known p t there).places (known p t there).stands) none

  none_created : (n : Name) → fin.get s.threads n ≡ None → function_of code log n ≡ None
  none_created n none = by (parent_of n)
    where
      by_parent : (p : Name) (k : ℕ) → n ≡ child p k → (fin.get s.threads p ≡ None) ⊎ ((t : Thread B) × (fin.get s.threads p ≡ Some t))
          → function_of code log n ≡ None
      by_parent p k name (inl absent) = ap (function_of code log) name ∙ no_child code log p k (no_path p absent)
      by_parent p k name (inr is) =
          ap (function_of code log) name
          ∙ function_of_child code log p k
          ∙ ap (option_and_then (λ g. child_function code log p g k)) (function_is p is.0 is.1)
          ∙ not_created p is.0 is.1 k (ap (fin.get s.threads) (sym name) ∙ none)

      by : (n ≡ []) ⊎ HasParent n → function_of code log n ≡ None
      by (inl main) = absurd (not_there _ (ap (fin.get s.threads) (sym main) ∙ none) (main_is_there ops code s reached))
      by (inr h) = by_parent h.parent h.number h.name (option_is (fin.get s.threads h.parent))

  -- so nothing is wrong with any name
  pub reproduced_fits : Fits code log
  reproduced_fits n =
      elim (option_is (fin.get s.threads n)) [
        | inl none ↦ nobody code log n (none_created n none) (no_path n none)
        | inr is ↦
            by_path code log n is.0.local.function (path_of is.0) (function_is n is.0 is.1) (thread_path ops code log moves r n is.0 is.1)
            ∙ ap result_err (placed n is.0 is.1)
      ]

  alive_under : (t : ThreadPath) → IsSome (path_under t.name log.threads) → is_dead code log t ≡ false
  alive_under t here =
      elim (option_is (fin.get s.threads t.name)) [
        | inl none ↦ absurd (not_there _ (no_path t.name none) here)
        | inr is ↦
            let x = is.0 in
            let f = x.local.function in
            ap (λ o. list_any is_impossible (marked_steps code (unwrap_or o 0) (fails_in log t.name)
            (steps_at code (unwrap_or o 0) (places_in code log t.name (unwrap_or o 0))))) (function_is t.name x is.1)
            ∙ ap₂ (λ b xs. list_any is_impossible (marked_steps code f b (steps_at code f xs)))
            (fails_as ops code log moves r t.name) (places_are t.name x is.1)
            ∙ alive code (fails_by s.failed t.name) x.local (known t.name x is.1).places (known t.name x is.1).stands
      ]

  -- a thread of a deadlock that is left is blocked
  left_is_blocked : IsStuck ops code s → list_all (λ (w : Walk). is_none w.blocked) (map (walk_of code log) log.threads) ≡ false
  left_is_blocked stuck =
      let n = stuck.left.0 in
      let left = stuck.left.1 in
      let t = left.thread in
      let p = place_of n (path_of t) log.threads (thread_path ops code log moves r n t left.there) in
      let q = p.thread in
      let b = is_blocked stuck n t left.there left.going in
      let function : function_in code log q ≡ t.local.function =
      ap (λ m. unwrap_or (function_of code log m) 0) p.name ∙ ap (λ o. unwrap_or o 0) (function_is n t left.there) in
      not_all (λ (w : Walk). is_none w.blocked) (map (walk_of code log) log.threads) p.place (walk_of code log q)
      (slice_get-map (walk_of code log) log.threads p.place ∙ ap (option_map (walk_of code log)) p.there)
      (blocked_there (ending_of log q.name) (marks_after (marks_at_start code (function_in code log q)) (steps_in code log q)) (walk_of code log q).sleeps
      (standing code (function_in code log q) q.path) b.instr
      (ends_as ops code log moves r q.name ∙ ap (λ o. ending_by o q.name) stuck.unfailed)
      (ap₂ (standing code) function p.path ∙ b.at) b.blocks)

  -- so not all have exited
  not_all_exited : have_exited log.failing (map (walk_of code log) log.threads) ≡ false
  not_all_exited = by log.failing r.ends
    where
      by : (f : Failing) → EndsAs ops code f log.threads s → have_exited f (map (walk_of code log) log.threads) ≡ false
      by (failing.Thread k) h = refl
      by failing.Deadlock h = left_is_blocked h

  -- and no path tells that no run goes so
  pub reproduced_alive : (paths_of code log).dead ≡ false
  reproduced_alive = ap₂ ◌||◌ (any_none (is_dead code log) log.threads (λ i t at. alive_under t (under_own log.threads i t at))) not_all_exited
