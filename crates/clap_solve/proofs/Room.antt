-- A schedule has room for the paths of a log within the limits: a child's number is at most the
-- number of threads, since each child before it is a thread of its own.
use Rattle.std.proofs.Common.{◌≡◌, ◌∙◌, ℕ, zero, suc, ◌<◌, ◌≤◌, ◌&&◌, Bool, true, false, cond, List, [], ◌∷◌, length, map, Option, Some, None, inl, inr}
use Rattle.std.proofs.Common.{refl, sym, ap, ap₂, subst, arith, get_or, Ok}
use Rattle.std.specs.Prelude.{nat_le, nat_lt, option_and_then, option_map, slice_get, unwrap_or}
use Rattle.std.specs.Bool.{IsTrue}
use Rattle.std.specs.List.{All, Contains, find, list_all}
use Rattle.std.specs.Result.{result_unwrap_or}
use Rattle.std.specs.declared.cmp.Ordering.TheVariants.{Less}
use Rattle.std.proofs.Math.Nat.{eq-or-lt_of_le}
use Rattle.std.proofs.lemmas.Bool.{and_from, cases_lt, le-leb, ltb-false}
use Rattle.std.proofs.lemmas.List.{length-append, length-map}
use Rattle.std.proofs.lemmas.List.Elements.{All-contains}
use Rattle.std.proofs.lemmas.List.Folds.{list_all-append}
use Rattle.std.proofs.lemmas.Option.{none-some, same_Some, slice_get-get_or, slice_get-map, slice_get_within}
use Rattle.run_log.specs.tc_base.Names.{Name, child, by_name}
use Rattle.run_log.specs.Logs.{Log}
use Rattle.run_log.specs.tc_base.Paths.{Path, ThreadPath, path_under}
use Rattle.schedule_file.specs.tc_limits.declared.limits.TheConstants.{DEPTH, STEPS, THREADS}
use Rattle.run_log.proofs.tc_base.Names.{between, later_child, not_itself, not_less, parent_of, same_name, turned}
use Rattle.tc_code.specs.Code.{Code}
use Rattle.run_log.specs.Logs.{is_log}
use Rattle.refute_check.proofs.list_laws.Lists.{get_seam}
use Rattle.path_walk.specs.Fits.{Fits, child_function, ending_of, function_of, places_in, started}
use Rattle.path_walk.specs.Paths.{Walk, function_in, paths_of, walk_of}
use Rattle.path_walk.specs.Steps.{places_from, places_of, steps_at}
use Rattle.path_walk.specs.declared.fault.Misfit.TheVariants as misfit
use Rattle.path_walk.proofs.Faults.{by_path, fitting, function_of_child, missing, walked_there}
use Rattle.path_walk.proofs.Places.{count, fits_from}
use Rattle.schedule_decode.proofs.path_laws.Logs.{place_of}
use Rattle.schedule_decode.proofs.path_laws.Prefixes.{is_ok, own_under}
use Rattle.schedule_file.specs.Schedules.{is_child, is_name}
use Rattle.schedule_decode.proofs.sym_laws.Names.{rise}
use Rattle.first_run.proofs.order_events.Lists.{in_at, of_map}
use Rattle.first_run.proofs.order_events.Parts.{each_in}
use Rattle.first_run.proofs.order_events.Whole.{whole}
use Rattle.schedule_decode.specs.Decodable.{HaveRoom}
use Rattle.store_buffers.specs.Pending.{Binding}
use Rattle.clap_system.specs.Systems.{system_of}
use Rattle.clap_solve.specs.formula_sizes.Small.{ClausesHaveRoom}
use Rattle.clap_solve.proofs.formula_sizes.Room as sizes
use Rattle.clap_solve.specs.Solved.{IsWithin}

-- if a search finds nothing, no element passes
none_found : {X : Type 0} (p : X → Bool) (xs : List X) (k : ℕ) (x : X) → find p xs ≡ None → slice_get xs k ≡ Some x → p x ≡ false
none_found p [] k x none at = absurd (none-some x at)
none_found {X} p (y ∷ ys) k x none at = by (p y) refl none (none_found p ys) k at
  where
    by : (b : Bool) → p y ≡ b → cond b (Some y) (find p ys) ≡ None → ((j : ℕ) (z : X) → find p ys ≡ None → slice_get ys j ≡ Some z → p z ≡ false)
        → (k : ℕ) → slice_get (y ∷ ys) k ≡ Some x → p x ≡ false
    by true is none later k at = absurd (none-some y (sym none))
    by false is none later zero at = ap p (sym (same_Some y x at)) ∙ is
    by false is none later (suc k) at = later k x none at

-- the child with a number comes before the next child
next_child : (p : Name) (k : ℕ) → by_name (child p k) (child p (suc k)) ≡ Less
next_child p k = elim (not_less (by_name (child p (suc k)) (child p k)) (later_child p (suc k) k (omega arith))) [
  | inl equal ↦
      let one = same_name (child p (suc k)) (child p k) equal in
      let same = same_Some (suc k) k (sym (get_seam p (suc k) []) ∙ ap (λ n. slice_get n (length p)) one ∙ get_seam p k []) in
      absurd (omega (arith, same))
  | inr greater ↦ turned (child p (suc k)) (child p k) greater
]

module _ (code : Code) (log : Log) (is : is_log log ≡ true) (fits : Fits code log) where
  -- a thread of the log
  record HasThread (n : Name) : Type 0 where
    place : ℕ
    thread : ThreadPath
    there : slice_get log.threads place ≡ Some thread
    name : thread.name ≡ n

  -- each name with a function is a thread
  thread_of : (n : Name) (f : ℕ) → function_of code log n ≡ Some f → HasThread n
  thread_of n f function = by (path_under n log.threads) refl
    where
      by : (o : Option Path) → path_under n log.threads ≡ o → HasThread n
      by None absent = absurd (none-some misfit.Missing (sym (fits n) ∙ missing code log n f function absent))
      by (Some path) under =
          let p = place_of n path log.threads under in
          record { place = p.place; thread = p.thread; there = p.there; name = p.name }

  place_after : (m n : Name) (a : HasThread m) (b : HasThread n) → by_name m n ≡ Less → a.place < b.place
  place_after m n a b less = elim (cases_lt a.place b.place) [
    | inl before ↦ before
    | inr behind ↦ elim (eq-or-lt_of_le behind) [
      | inl same ↦
          let one : a.thread ≡ b.thread = same_Some a.thread b.thread (sym a.there ∙ ap (slice_get log.threads) (sym same) ∙ b.there) in
          let names : m ≡ n = sym a.name ∙ ap (λ (t : ThreadPath). t.name) one ∙ b.name in
          absurd (not_itself n (subst (λ k. by_name k n ≡ Less) names less))
      | inr after ↦
          let turned : by_name b.thread.name a.thread.name ≡ Less = rise log is b.place a.place b.thread a.thread after b.there a.there in
          absurd (not_itself m (between m n m less (subst (λ k. by_name n k ≡ Less) a.name (subst (λ k. by_name k a.thread.name ≡ Less) b.name turned))))
    ]
  ]

  -- the parent of a child has a function and has created the child
  record IsCreated (p : Name) (k f : ℕ) : Type 0 where
    function : ℕ
    parent : function_of code log p ≡ Some function
    created : child_function code log p function k ≡ Some f

  is_created : (p : Name) (k f : ℕ) → function_of code log (child p k) ≡ Some f → IsCreated p k f
  is_created p k f function = by (function_of code log p) refl (sym (function_of_child code log p k) ∙ function)
    where
      by : (o : Option ℕ) → function_of code log p ≡ o → option_and_then (λ g. child_function code log p g k) o ≡ Some f → IsCreated p k f
      by None none made = absurd (none-some f made)
      by (Some g) one made = record { function = g; parent = one; created = made }

  -- the parent created each earlier child too
  earlier : (p : Name) (k f : ℕ) → function_of code log (child p (suc (suc k))) ≡ Some f → (g : ℕ) × (function_of code log (child p (suc k)) ≡ Some g)
  earlier p k f function =
      let c = is_created p (suc (suc k)) f function in
      let made = started (steps_at code c.function (places_in code log p c.function)) in
      let within = slice_get_within made (suc k) f c.created in (
        get_or made k f,
        function_of_child code log p (suc k) ∙ ap (option_and_then (λ g. child_function code log p g (suc k))) c.parent
            ∙ slice_get-get_or made k f (omega (arith, within)),
      )

  -- each created child is a thread, in order
  child_place : (p : Name) (k f : ℕ) → function_of code log (child p (suc k)) ≡ Some f → (t : HasThread (child p (suc k))) × (k ≤ t.place)
  child_place p zero f function = (thread_of (child p 1) f function, omega arith)
  child_place p (suc k) f function =
      let e = earlier p k f function in
      let before = child_place p k e.0 e.1 in
      let t = thread_of (child p (suc (suc k))) f function in
      (t, omega (arith, before.1, place_after (child p (suc k)) (child p (suc (suc k))) before.0 t (next_child p (suc k))))

  module _ (few : length log.threads ≤ THREADS) where
    child_fits : (p : Name) (k f : ℕ) → function_of code log (child p k) ≡ Some f → is_child k ≡ true
    child_fits p zero f function = absurd (none-some f (is_created p zero f function).created)
    child_fits p (suc k) f function =
        let t = child_place p k f function in
        let within = slice_get_within log.threads t.0.place t.0.thread t.0.there in
        and_from (nat_le 1 (suc k)) (nat_le (suc k) 255) (le-leb 1 (suc k) (omega arith)) (le-leb (suc k) 255 (omega (arith, t.1, within, few)))

    children_fit : (m : ℕ) (n : Name) (f : ℕ) → length n ≤ m → function_of code log n ≡ Some f → list_all is_child n ≡ true
    children_fit m [] f short function = refl
    children_fit zero (a ∷ n) f short function = absurd (omega (arith, short))
    children_fit (suc m) (a ∷ n) f short function = elim (parent_of (a ∷ n)) [
      | inl none ↦ absurd (omega (arith, ap length none))
      | inr q ↦
          let own : function_of code log (child q.parent q.number) ≡ Some f = subst (λ k. function_of code log k ≡ Some f) q.name function in
          let c = is_created q.parent q.number f own in
          let shorter : length q.parent ≤ m = omega (arith, short, ap length q.name, length-append q.parent (q.number ∷ [])) in
          ap (list_all is_child) q.name ∙ list_all-append is_child q.parent (q.number ∷ [])
          ∙ ap₂ (λ b d. b && (d && true)) (children_fit m q.parent c.function shorter c.parent) (child_fits q.parent q.number f own)
    ]

-- a thread has as many places as steps
places_count : (code : Code) (log : Log) (t : ThreadPath) (f : ℕ) → Fits code log → function_of code log t.name ≡ Some f
    → path_under t.name log.threads ≡ Some t.path → length (places_in code log t.name f) ≡ t.path.steps
places_count code log t f fits function under =
    let r = places_of code f (ending_of log t.name) t.path in
    let whole : r ≡ Ok (result_unwrap_or r []) = is_ok r [] (sym (by_path code log t.name f t.path function under) ∙ fits t.name) in
    let told : places_in code log t.name f ≡ result_unwrap_or r [] = ap (λ q. result_unwrap_or q []) (walked_there code log t.name f t.path under) in
    ap length told
    ∙ count code f t.path.steps 0 t.path.outcomes (result_unwrap_or r [])
    (fits_from code f (ending_of log t.name) t.path (places_from code f t.path.steps 0 t.path.outcomes) (result_unwrap_or r []) whole)

pub have_room : (code : Code) (log : Log) → is_log log ≡ true → IsWithin code log → All (λ t. t.path.steps ≤ STEPS) log.threads → HaveRoom (paths_of code log)
have_room code log is within few = record {
  threads = omega (arith, length-map log.threads (walk_of code log), within.shallow.threads);
  steps = each (λ q. length q.places ≤ STEPS) (λ t i.
      let n = named t i in
      let f : function_in code log t ≡ n.0 = ap (λ o. unwrap_or o 0) n.1 in
      omega (
        arith,
        ap (λ g. length (places_in code log t.name g)) f,
        places_count code log t n.0 within.fits n.1 (under t i),
        All-contains (λ (u : ThreadPath). u.path.steps ≤ STEPS) log.threads t few i,
      ));
  names = each (λ q. IsTrue (is_name q.name)) (λ t i.
      let n = named t i in
      let p = in_at log.threads t i in
      let short : length t.name ≤ DEPTH =
      ltb-false DEPTH (length t.name) (none_found (nat_lt DEPTH) (map (λ (u : ThreadPath). length u.name) log.threads) p.0 (length t.name) within.shallow.names
      (slice_get-map (λ (u : ThreadPath). length u.name) log.threads p.0 ∙ ap (option_map (λ (u : ThreadPath). length u.name)) p.1)) in
      and_from (nat_le (length t.name) DEPTH) (list_all is_child t.name) (le-leb (length t.name) DEPTH short)
      (children_fit code log is within.fits within.shallow.threads (length t.name) t.name n.0 (omega arith) n.1));
  events = omega (arith, (whole code (paths_of code log) (record { log = log; fits = within.fits; are = refl })).counted, within.events);
}
  where
    under : (t : ThreadPath) → Contains log.threads t → path_under t.name log.threads ≡ Some t.path
    under t i = let p = in_at log.threads t i in own_under log is p.0 t p.1

    named : (t : ThreadPath) → Contains log.threads t → (f : ℕ) × (function_of code log t.name ≡ Some f)
    named t i = fitting code log t.name t.path (under t i) (within.fits t.name)

    each : (P : Walk → Type 0) → ((t : ThreadPath) → Contains log.threads t → P (walk_of code log t)) → All P (paths_of code log).threads
    each P of = each_in P (map (walk_of code log) log.threads) (λ q j.
        let o = of_map (walk_of code log) q log.threads j in subst P o.2 (of o.0 o.1))

-- there is room for the log's clauses, and for levels over them
pub clauses_have_room : (buffered : Bool) (bound : Binding) (code : Code) (log : Log) → IsWithin code log → All (λ t. t.path.steps ≤ STEPS) log.threads
    → ClausesHaveRoom (system_of buffered bound code log)
clauses_have_room buffered bound code log within few =
    sizes.has_room buffered bound code log (record { threads = within.shallow.threads; steps = few; events = within.events; operators = within.operators })
