-- The terms of a thread's path determine its next request.
use Rattle.std.proofs.Common.{◌≡◌, ◌∙◌, ℕ, suc, ◌+◌, ◌≤◌, ◌<◌, ◌==◌, ◌&&◌, ℤ, pos, Bool, true, false, not, cond}
use Rattle.std.proofs.Common.{List, [], ◌∷◌, ◌++◌, map, length, take, drop, fold, get_or, Option, Some, None, refl, ap, ap₂, sym, subst, arith, append-nil, slice_index_or}
use Rattle.std.specs.Prelude.{slice_get, option_map}
use Rattle.std.specs.FinMap as fin
use Rattle.std.specs.List.{AllByRecursion as Each, filter, find, flat_map, cons_option}
use Rattle.std.specs.Bool.{IsTrue}
use Rattle.std.specs.Option.{option_map_or}
use Rattle.std.proofs.lemmas.Bool.{eq-eqb}
use Rattle.std.proofs.Math.Seq.{take-suc}
use Rattle.std.proofs.lemmas.List.{append_cancel_left}
use Rattle.std.proofs.lemmas.List.Sums.{fold-append}
use Rattle.std.proofs.lemmas.Option.{none-some, same_Some, get_or_from_slice_get}
use Rattle.order_events.specs.tc_base.Paths.{ThreadPath}
use Rattle.order_events.specs.tc_base.Names.{Name}
use Rattle.order_events.specs.tc_base.States.{Local, Thread}
use Rattle.order_events.specs.tc_base.declared.request.Request.{Request}
use Rattle.order_events.specs.tc_code.Step.{request, is_nonzero, value_in}
use Rattle.order_events.specs.tc_code.declared.instr.Instr.{Instr}
use Rattle.order_events.specs.run_laws.Ints.{PassesInts}
use Rattle.order_events.proofs.run_laws.Changes.{is_fail}
use Rattle.sym_laws.specs.run_history.History.{history}
use Rattle.sym_laws.specs.run_history.Locals.{locals_in}
use Rattle.sym_laws.specs.run_history.Told.{steps_in, children_in, failed_in}
use Rattle.sym_laws.proofs.run_history.Ints.{models_pass_ints}
use Rattle.sym_laws.proofs.run_history.Threads.{children_are}
use Rattle.sym_laws.specs.run_follows.Follow.{OtherIs}
use Rattle.sym_laws.proofs.run_history.of_pending.In.{In, in_left, in_right}
use Rattle.order_events.proofs.list_laws.Lists.{get_seam}
use Rattle.order_events.specs.path_walk.Events.{kind_with}
use Rattle.order_events.specs.path_walk.Fits.{fails_in}
use Rattle.order_events.specs.path_walk.Marks.{marks_at_start, marks_after}
use Rattle.order_events.specs.path_walk.Paths.{Walk, walk_of, paths_of}
use Rattle.order_events.specs.path_walk.Steps.{Step, Onward, onward, is_site, steps_at}
use Rattle.order_events.specs.path_walk.Steps as path
use Rattle.order_events.specs.path_walk.declared.event.Event.{Event}
use Rattle.order_events.specs.path_walk.declared.event.EventKind.{EventKind}
use Rattle.sym_laws.specs.path_laws.Setting.{Setting}
use Rattle.sym_laws.specs.path_laws.Deeds.{kind_of}
use Rattle.sym_laws.specs.path_laws.history.Along.{IsThread, PathThread, path_thread}
use Rattle.sym_laws.specs.path_laws.history.Next.{fails_next, IsNextOnPath, BranchesAlong}
use Rattle.sym_laws.proofs.path_laws.of_history.Told.{RunOf, its_run}
use Rattle.sym_laws.proofs.path_laws.of_history.Walks.{IsWalk, walk_is, thread_path_at}
use Rattle.sym_laws.proofs.path_laws.of_history.Next.{asks_told, thread_next, steps_left, next_leads, has_marks, as_wanted, path_step, fails_there}
use Rattle.sym_laws.proofs.path_laws.of_events.Lists.{each_of, each_in, contains_in, all_pass}
use Rattle.sym_laws.proofs.path_laws.of_events.Marked.{event_at, event_found}
use Rattle.sym_laws.proofs.path_laws.of_events.Sites.{last_is_site}
use Rattle.order_events.specs.sym_terms.declared.node.Node.{Node}
use Rattle.sym_laws.specs.sym_exec.Making.{Grows}
use Rattle.sym_laws.specs.sym_exec.helpers.Threads.{names_within}
use Rattle.sym_laws.specs.sym_exec.Thread.{Doing, Route, route_of, after_step, after_instr, wanted_of}
use Rattle.sym_laws.specs.sym_exec.Executed.{Course, has_failed, fails_at, thread_started, thread_done}
use Rattle.sym_laws.specs.sym_exec.Alone.{Asked, asked_by, condition, outcome_by}
use Rattle.sym_laws.specs.sym_exec.declared.symbolic.Access.{Access}
use Rattle.sym_laws.specs.sym_exec.declared.symbolic.Test.{Test}
use Rattle.sym_laws.proofs.sym_exec.Sound.{instr_named}
use Rattle.sym_laws.proofs.sym_exec.Tells.{told, short_is}
use Rattle.sym_laws.specs.Valued.{AgreesWith, asked_of, found, found_before, execution, HasValues}
use Rattle.sym_laws.proofs.Executed.{course_of}
use Rattle.sym_laws.proofs.Follows.{Follows, fine_at, begins_at, grows_at, found_at_log}
use Rattle.sym_laws.proofs.Lists.{each_weaker, none_pass}
use Rattle.sym_laws.proofs.Names.{failing_is}
use Rattle.sym_laws.proofs.Runs.{follow_after}
use Rattle.sym_laws.proofs.Steps.{IsFine, Begins, Adds, adds, next, next_is, line_of}
use Rattle.sym_laws.proofs.Valued.{valued}
use Rattle.sym_steps.specs.Next.{kind_at, accesses_at, TestsAreMet, IsToldNext}
use Rattle.sym_steps.proofs.Cells.{has_cells, cells_of}
use Rattle.sym_steps.proofs.Wanted.{fails_as_told, deed_fails, asked_kind, site_is_wanted, passes_before, one_wanted}
use Rattle.sym_steps.specs.Valued.{ValuedHistory, ExecutedThread}

-- Lists.

filter_append : {X : Type 0} (p : X → Bool) (xs ys : List X) → filter p (xs ++ ys) ≡ filter p xs ++ filter p ys
filter_append p [] ys = refl
filter_append {X} p (x ∷ xs) ys = by (p x) (filter_append p xs ys)
  where
    by : (b : Bool) → filter p (xs ++ ys) ≡ filter p xs ++ filter p ys
        → cond b (x ∷ filter p (xs ++ ys)) (filter p (xs ++ ys)) ≡ cond b (x ∷ filter p xs) (filter p xs) ++ filter p ys
    by true e = ap (λ zs. x ∷ zs) e
    by false e = e

apart_below : (m n : ℕ) → m < n → (m == n) ≡ false
apart_below m n lt = grind (arith, lt)

apart_above : (m n : ℕ) → n < m → (m == n) ≡ false
apart_above m n lt = grind (arith, lt)

-- the kind of an event that a path maps from a step's kind
kind_back : (o : Option EventKind) (event : EventKind → Event) → ((a : EventKind) → (event a).kind ≡ a) → option_map (λ (e : Event). e.kind) (option_map event o) ≡ o
kind_back None event is = refl
kind_back (Some a) event is = ap (λ k. Some k) (is a)

-- a branch that leads on has an outcome left
outcome_there : (next to : ℕ) (os : List Bool) (on : Onward) → path.branched next to os ≡ Some on → (b : Bool) × (rest : List Bool) × (os ≡ b ∷ rest)
outcome_there next to [] on e = absurd (none-some on e)
outcome_there next to (b ∷ os) on e = (b, os, refl)

module _ {B : Type 0} (setting : Setting B) (nodes : List Node) (loads : List ℤ) (taken : ValuedHistory setting nodes loads) where
  open setting use {machine, ops, model, bound, laws, code, lawful, log, log_is as is}
  open taken use {history as along, terms, agrees}
  open along use {deeds as h, fits}

  abbrev r : RunOf machine log h
  r = its_run setting along

  ints : PassesInts ops
  ints = models_pass_ints ops model bound laws

  agrees_so : AgreesWith (found code log nodes).symbolic loads (history ops code r.moves)
  agrees_so = subst (AgreesWith (found code log nodes).symbolic loads) (sym r.is) agrees

  module _ (one : ExecutedThread code log nodes) where
    open one use {index as j, walk as w, course as c, there, executed}

    -- what runs have, histories have
    pub has_values : (t : Local) → fin.get (locals_in code h) w.name ≡ Some t → HasValues code log nodes loads h j w c t
    has_values t at = by (fin.get r.state.threads w.name) refl
      where
        by : (o : Option (Thread B)) → fin.get r.state.threads w.name ≡ o → HasValues code log nodes loads h j w c t
        by None none = absurd (none-some t (sym (r.told.tells.locals w.name ∙ ap (option_map (λ (x : Thread B). x.local)) none) ∙ at))
        by (Some x) here =
            let same : x.local ≡ t = same_Some x.local t (sym (r.told.tells.locals w.name ∙ ap (option_map (λ (x : Thread B). x.local)) here) ∙ at) in
            let v = valued ops code log nodes loads ints lawful is fits terms r.moves r.state r.leads r.on agrees_so j w c x there executed here in
            subst (HasValues code log nodes loads h j w c) same (subst (λ g. HasValues code log nodes loads g j w c x.local) r.is v)

  -- The thread under a path of the log.
  module _ (j : ℕ) (p : ThreadPath) (at : slice_get log.threads j ≡ Some p) (there : IsThread code log j (walk_of code log p)) (going : failed_in h ≡ None)
      (dead : (paths_of code log).dead ≡ false) (x : IsNextOnPath code h (walk_of code log p)) where
    abbrev w : Walk
    w = walk_of code log p

    abbrev thread : PathThread code log
    thread = record { index = j; walk = w; there = there }

    abbrev t : Local
    t = x.local

    abbrev i : Instr
    i = x.instr

    abbrev k : ℕ
    k = t.steps

    abbrev walk : IsWalk code log w
    walk = walk_is code log is fits thread

    abbrev failing_step : Option ℕ
    failing_step = fails_at (paths_of code log) j w

    abbrev upto : ℕ → Doing
    upto n = execution code log nodes j w n

    abbrev d : Doing
    d = upto k

    abbrev whole : Doing
    whole = thread_done code (paths_of code log) (found_before code log nodes j) w

    abbrev later : List Node
    later = (found code log nodes).nodes

    follow : Follows later loads d t (flat_map (asked_of w.name) h)
    follow =
        let y = thread_next setting along thread going x in
        let f = follow_after ops code log nodes loads ints lawful is fits terms r.moves r.state r.leads r.on agrees_so j p y.0 at y.1 in
        subst (λ (l : Local). Follows later loads (upto l.steps) l (flat_map (asked_of w.name) h)) y.2
        (subst (λ g. Follows later loads (upto y.0.local.steps) y.0.local (flat_map (asked_of w.name) g)) r.is f)

    fine : IsFine code w.function d
    fine = fine_at code log nodes lawful is terms j p at k

    few : k < length w.places
    few = omega (arith, x.steps, steps_left setting along thread going x)

    place : slice_get w.places k ≡ Some t.instruction
    place = ap (slice_get w.places) x.steps ∙ x.place

    abbrev along_path : Route
    along_path = route_of code w failing_step

    -- the execution with the next step
    abbrev e : Doing
    e = next along_path d t.instruction

    one_more : upto (suc k) ≡ e
    one_more =
        let step = after_step along_path in
        let start = thread_started code (found_before code log nodes j) w in
        ap (fold step start)
        (take-suc w.places k t.instruction few ∙ ap (λ q. take k w.places ++ q ∷ []) (get_or_from_slice_get w.places k t.instruction t.instruction place))
        ∙ fold-append step start (take k w.places) (t.instruction ∷ [])

    begins : Begins e whole
    begins = subst (λ (y : Doing). Begins y whole) one_more (begins_at code log nodes lawful is terms j p at (suc k))

    grows : Grows e.nodes later
    grows = subst (λ (y : Doing). Grows y.nodes later) one_more (grows_at code log nodes lawful is terms j p at (suc k))

    abbrev wanted : Bool
    wanted = wanted_of w.outcomes failing_step d i

    abbrev line : ℕ
    line = line_of along_path t.instruction

    abbrev plain : Doing
    plain = after_instr line wanted d i

    is_next : e ≡ record plain { steps = d.steps + 1 }
    is_next = next_is along_path d t.instruction i x.at

    grows_plain : Grows plain.nodes later
    grows_plain = subst (λ (y : Doing). Grows y.nodes later) is_next grows

    abbrev add : Adds i wanted d plain
    add = adds line wanted d i

    -- the accesses and tests of the step are those of the path
    accesses_are : whole.accesses ≡ (d.accesses ++ add.found) ++ begins.found
    accesses_are = begins.accesses ∙ ap (λ xs. xs ++ begins.found) (ap (λ (y : Doing). y.accesses) is_next ∙ add.accesses)

    tests_are : whole.tests ≡ (d.tests ++ add.test) ++ begins.test
    tests_are = begins.tests ∙ ap (λ xs. xs ++ begins.test) (ap (λ (y : Doing). y.tests) is_next ∙ add.tests)

    number : d.steps ≡ k
    number = follow.steps

    next_number : e.steps ≡ k + 1
    next_number = ap (λ (y : Doing). y.steps) is_next ∙ ap (λ n. n + 1) number

    named_here : IsTrue (names_within (length d.slots) i)
    named_here = instr_named code w.function t.instruction (length d.slots) i lawful x.at fine.ints

    -- The tests of the step.
    module _ (c : Course) (same : course_of w whole ≡ c) (met : TestsAreMet later loads h c) where
      abbrev comes : Test → Type 0
      comes y = outcome_by later loads y ≡ wanted

      tests_come : Each comes add.test
      tests_come = each_of comes add.test (λ y one.
          let its = each_in (λ (z : Test). (z.step ≡ d.steps) × (z.wanted ≡ wanted)) y add.test add.tested one in
          let among : In y c.tests =
          subst (λ (z : Course). In y z.tests) same
          (subst (In y) (sym tests_are) (in_left y (d.tests ++ add.test) begins.test (in_right y d.tests add.test one))) in
          met y (contains_in y c.tests among) (its.0 ∙ number ∙ x.steps ∙ ap (λ (z : Course). steps_in h z.name) same) ∙ its.1)

      comes_out : (b : Bool) → condition t i ≡ Some b → b ≡ wanted
      comes_out b tests =
          let v = get_or loads d.loads (pos 0) in
          let q = told loads line wanted d i t v fine.terms fine.sound named_here (short_is code w.function t.instruction i lawful x.at) follow.slots (λ l. refl) in
          let one : q.test ≡ add.test = append_cancel_left d.tests q.test add.test (sym q.tests ∙ add.tests) in
          one_wanted (outcome_by later loads) wanted b add.test
          (ap (map (outcome_by later loads)) (sym one) ∙ q.comes later grows_plain ∙ ap (λ o. cons_option o []) tests) tests_come

      -- a branch uses the path's next outcome
      branches : BranchesAlong w t i
      branches ex to at_branch =
          let on = next_leads setting along thread going x in
          let o = outcome_there (t.instruction + 1) to x.later on.0 (ap (λ a. onward t.instruction a x.later) (sym at_branch) ∙ on.1) in
          let next_is : slice_get w.outcomes (length t.outcomes) ≡ Some o.0 =
          ap (λ os. slice_get os (length t.outcomes)) (x.outcomes ∙ ap (λ os. t.outcomes ++ os) o.2) ∙ get_seam t.outcomes o.0 o.1 in
          let b = is_nonzero (value_in t ex) in
          let goes = comes_out b (ap (condition t) at_branch) in
          next_is
          ∙ ap (λ v. Some v) (sym (get_or_from_slice_get w.outcomes (length t.outcomes) o.0 true next_is)
          ∙ ap (λ n. slice_index_or w.outcomes n true) (sym follow.branches)
          ∙ ap (wanted_of w.outcomes failing_step d) (sym at_branch)
          ∙ sym goes)

      -- a site passes unless it should fail
      site_goes : (b : Bool) → condition t i ≡ Some b → is_site i ≡ true → b ≡ not (fails_next log h w)
      site_goes b tests site =
          comes_out b tests
          ∙ site_is_wanted w.outcomes failing_step d i site
          ∙ ap (λ n. option_map_or (λ m. not (n == m)) failing_step true) number
          ∙ passes_before (has_failed log.failing j) k (length w.places) few
          ∙ ap₂ (λ a n. not (a && n + 1 == length w.places)) (sym (failing_is log is j p at)) x.steps

      fails_is : is_fail (request t i) ≡ fails_next log h w
      fails_is =
          fails_as_told t i (fails_next log h w) (as_wanted setting along thread going x dead) site_goes
          (λ fails. last_is_site code log w walk k t.instruction i place x.at (ap (λ n. fails_in log w.name && n + 1 == length w.places) x.steps ∙ fails))

      -- the event of the step
      event_is : (other : Option Name) → OtherIs h w.name (request t i) other → kind_of (request t i) other ≡ kind_at w (steps_in h w.name)
      event_is other other_is =
          let ss = steps_at code w.function w.places in
          let start = marks_at_start code w.function in
          let m = marks_after start (take k ss) in
          let s : Step = record { place = t.instruction; instr = i } in
          let y = thread_next setting along thread going x in
          let children : t.children ≡ children_in h w.name =
          ap (λ (l : Local). l.children) (sym y.2) ∙ children_are ops code r.state h w.name r.told.tells.deeds.buffers.threads y.0 y.1 in
          let fails = fails_in log w.name && length (drop (suc k) ss) == 0 in
          let last : fails ≡ fails_next log h w = fails_there setting along thread going x in
          let event = event_found code w.function (fails_in log w.name) 0 start ss k s k (path_step code w k t.instruction i place x.at) (omega arith) in
          asked_kind h w.name t m i other other_is children (has_marks setting along thread going x)
          ∙ ap (kind_with m i) (fails_is ∙ sym last)
          ∙ sym (kind_back (kind_with m i fails) (event_at code w.function (fails_in log w.name) k s m) (λ a. refl))
          ∙ ap (option_map (λ (z : Event). z.kind)) (sym event)
          ∙ ap₂ (λ es n. option_map (λ (z : Event). z.kind) (find (λ (z : Event). z.step == n) es)) (sym walk.events) x.steps

      -- the cells of the step
      abbrev at_step : Access → Bool
      at_step a = a.step == k

      only_these : filter at_step whole.accesses ≡ add.found
      only_these =
          let before = none_pass at_step d.accesses
          (each_weaker (λ (a : Access). a.step < k) (λ a. at_step a ≡ false) d.accesses (λ a lt. apart_below a.step k lt) follow.before) in
          let mine = all_pass at_step add.found
          (each_weaker (λ (a : Access). a.step ≡ d.steps) (λ a. at_step a ≡ true) add.found (λ a same. eq-eqb a.step k (same ∙ number)) add.accessed) in
          let after = none_pass at_step begins.found
          (each_weaker (λ (a : Access). e.steps ≤ a.step) (λ a. at_step a ≡ false) begins.found
          (λ a le. apart_above a.step k (omega (arith, le, next_number))) begins.accessed) in
          ap (filter at_step) accesses_are
          ∙ filter_append at_step (d.accesses ++ add.found) begins.found
          ∙ ap₂ (λ xs ys. xs ++ ys) (filter_append at_step d.accesses add.found ∙ ap₂ (λ xs ys. xs ++ ys) before mine) after
          ∙ append-nil add.found

      cells_are : (took : ℤ) → map (λ (a : Asked). a.cell) (asked_by took (request t i)) ≡ cells_of later loads (accesses_at c (steps_in h w.name))
      cells_are took =
          let q = has_cells loads line wanted d i t fine.terms fine.sound named_here follow.slots in
          let one : q.found ≡ add.found = append_cancel_left d.accesses q.found add.found (sym q.accesses ∙ add.accesses) in
          q.cells later grows_plain took
          ∙ ap (cells_of later loads) (one ∙ sym only_these ∙ ap (λ n. filter (λ (a : Access). a.step == n) whole.accesses) x.steps
          ∙ ap (λ (z : Course). accesses_at z (steps_in h w.name)) same)

      pub told_next : (executed : slice_get (found code log nodes).symbolic.threads j ≡ Some c)
          → (q : Request) × IsToldNext loads h (record { thread = thread; course = c; executed = executed }) x q
      told_next executed = (
        request t i,
        record {
          asks = asks_told code h w x;
          request_is = refl;
          fails_so = λ n took other. deed_fails w.name n (request t i) took other ∙ ap (λ b. cond b (Some w.name) None) fails_is;
          branches = branches;
          event = event_is;
          cells = cells_are;
        },
      )

  -- so it is of each thread of the paths
  abbrev with_walk : (one : ExecutedThread code log nodes) (w : Walk) → IsThread code log one.index w → ExecutedThread code log nodes
  with_walk one w there = record { thread = path_thread one.index w there; course = one.course; executed = one.executed }

  pub next_told : (one : ExecutedThread code log nodes) (x : IsNextOnPath code h one.walk) → failed_in h ≡ None → (paths_of code log).dead ≡ false
      → TestsAreMet (found code log nodes).nodes loads h one.course → (q : Request) × IsToldNext loads h one x q
  next_told one x going dead met =
      let j = one.index in
      let c = one.course in
      let p = thread_path_at code log j one.walk one.there in
      subst (λ (w : Walk). (x : IsNextOnPath code h w) (there : IsThread code log j w) → (q : Request) × IsToldNext loads h (with_walk one w there) x q) p.2
      (λ x there.
      told_next j p.0 p.1 there going dead x c (same_Some _ c (sym (found_at_log code log nodes lawful is terms j p.0 p.1).course ∙ one.executed)) met
      one.executed)
      x one.there
