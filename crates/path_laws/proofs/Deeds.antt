-- The deeds of a thread are the steps and the events of its path.
use Rattle.std.proofs.Common.{◌≡◌, ◌≢◌, ◌∙◌, inl, inr, ℕ, zero, suc, ◌+◌, ◌-◌, ◌≤◌, ℤ, pos, Bool, true, false, ◌==◌, ◌&&◌, cond}
use Rattle.std.proofs.Common.{List, [], ◌∷◌, ◌++◌, length, map}
use Rattle.std.proofs.Common.{Option, Some, None, refl, sym, ap, ap₂, subst, arith, append-nil, take, drop, slice_index_or}
use Rattle.std.specs.Prelude.{option_map, unwrap_or, nat_lt, if◌then◌else◌}
use Rattle.std.specs.FinMap as fin
use Rattle.std.specs.List.{filter, filter_map, cons_option, range_with_len}
use Rattle.std.specs.Option.{option_map_or}
use Rattle.std.specs.Result.{result_unwrap_or}
use Rattle.std.proofs.Math.Bool.{and-true, and-false}
use Rattle.std.proofs.Math.Dec.{eqb-suc-zero}
use Rattle.std.proofs.lemmas.Bool.{eqb-true, eq-eqb, lt-ltb, le-ltb}
use Rattle.std.proofs.lemmas.List.{length-map, length-drop, length-take-le, map-append, take-append-drop}
use Rattle.path_walk.specs.tc_base.Buffers.{BufferOps}
use Rattle.path_walk.specs.run_log.Logs.{Log}
use Rattle.path_walk.specs.tc_base.Paths.{ThreadPath}
use Rattle.path_walk.specs.tc_base.Names.{Name, by_name}
use Rattle.path_walk.specs.tc_base.States.{Local, Thread, State}
use Rattle.path_walk.specs.tc_base.declared.handle.Handle.TheVariants.{Unset}
use Rattle.path_walk.specs.tc_base.declared.moves.Move.{Move}
use Rattle.path_walk.specs.tc_base.declared.request.Request.{Request}
use Rattle.path_walk.specs.tc_base.declared.request.Request.TheVariants.{WakeOne}
use Rattle.path_walk.specs.tc_code.Code.{Code, instr_at, line_at}
use Rattle.path_walk.proofs.tc_code.Facts.{at_its_place}
use Rattle.path_walk.specs.tc_code.declared.instr.Instr.{Instr}
use Rattle.path_walk.specs.tc_code.declared.instr.Instr.TheVariants.{Inside, Holds, Signal, Create, Ready, Join, Assert, Nonzero, InRange}
use Rattle.path_walk.specs.tc_code.Lawful.{IsLawful}
use Rattle.path_walk.specs.tc_code.Run.{run, IsReached}
use Rattle.path_walk.specs.tc_code.Step.{request, site, child_number, instr_of, perform, state_after_wake, opening}
use Rattle.path_walk.specs.tc_code.Step as machine
use Rattle.path_walk.specs.Steps.{Step, step_at, steps_at}
use Rattle.path_walk.specs.Fits.{fails_in, places_in, Fits}
use Rattle.path_walk.specs.Marks.{Marks, Marked, marks_at_start, marks_after_instr, marked_from, marked_steps}
use Rattle.path_walk.specs.Events.{kind_with, event_of, events_of}
use Rattle.path_walk.specs.Paths.{walk_of}
use Rattle.path_walk.specs.declared.event.Event.{Event}
use Rattle.path_walk.specs.declared.event.EventKind.{EventKind}
use Rattle.path_walk.specs.declared.event.EventKind.TheVariants as kind
use Rattle.path_walk.proofs.Places.{count}
use Rattle.run_follows.proofs.run_laws.Changes.{is_fail}
use Rattle.run_follows.proofs.run_laws.Names.{same_self, same_other, same_or_apart, get_put, get_put_apart}
use Rattle.run_follows.specs.run_history.History.{Deed, Did, Drained, value_taken, created_by, history}
use Rattle.run_follows.specs.run_history.Locals.{after_step}
use Rattle.run_follows.proofs.run_history.Frame.{Keeps, holds_after}
use Rattle.run_follows.proofs.run_history.Lists.{filter_map-push, last_or-push}
use Rattle.run_follows.proofs.run_history.Threads.{own, steps_by, find, Its_own, Its_child, Another}
use Rattle.path_laws.specs.Along.{HasMarks, IsAlong}
use Rattle.path_laws.specs.Deeds.{number_by, kind_of, EventDone, done_as, event_by, events_before}
use Rattle.path_laws.specs.Prefixes.{fails_by, AreOnPaths}
use Rattle.path_laws.proofs.Does.{own_fails, none_else_fails, Does, ran_does, woke_does, flush_drains, unchanged}
use Rattle.path_laws.proofs.Local.{marked_push, steps_push, marks_here, now}
use Rattle.path_laws.proofs.Prefixes.{so_far}
use Rattle.path_laws.proofs.States.{Stands, told, told_is, same_function, step_told, reached_known}

abbrev the_done : EventDone → EventDone
the_done e = e

-- the event of a step, if its thread is the one asked for
abbrev event_if : Bool → ℕ → Option EventKind → Option EventDone
event_if b k o = if b then option_map (λ asked. the_done (record { step = k; kind = asked })) o else None

-- The facts that deeds give about threads, step by step.

module _ {B : Type 0} (ops : BufferOps B) (code : Code) where
  -- only a step of the thread gives such a fact about it, and each step adds the fact of its deed
  pub record TellsSteps {X : Type 0} (tells : Name → Deed → Option X) (is : Bool → Local → List X) : Type 0 where
    pub foreign : (q n : Name) (k : ℕ) (r : Request) (v : ℤ) (o : Option Name) → q ≢ n → tells q (Did n k r v o) ≡ None
    pub flushed : (q n : Name) (k c : ℕ) (v : ℤ) → tells q (Drained n k c v) ≡ None
    pub start : (b : Bool) (f : ℕ) (vs : List ℤ) → is b (machine.born ops code f vs).local ≡ []
    pub steps : (s : State B) (n : Name) (t : Thread B) (i : Instr) (r : Request) (w v : ℤ) (o : Option Name) → IsReached ops code s → s.failed ≡ None
        → fin.get s.threads n ≡ Some t → instr_of code t.local ≡ Some i → request t.local i ≡ r
        → kind_of r o ≡ kind_of r (created_by ops code n t.local r)
        → is (is_fail r) (after_step t.local i r w) ≡ is false t.local ++ cons_option (tells n (Did n t.local.steps r v o)) []

  module _ {X : Type 0} (tells : Name → Deed → Option X) (is : Bool → Local → List X) (laws : TellsSteps tells is) where
    abbrev told_at : Bool → Option (Thread B) → List X
    told_at b o = option_map_or (λ (t : Thread B). is b t.local) o []

    -- the deeds tell what the state does of each thread, and nothing of other names
    abbrev AreTold : State B → List Deed → Type 0
    AreTold s h = (q : Name) → filter_map (tells q) h ≡ told_at (fails_by s.failed q) (fin.get s.threads q)

    -- a deed that tells nothing of a thread adds nothing for it
    untold : (h : List Deed) (q : Name) (d : Deed) → tells q d ≡ None → filter_map (tells q) (h ++ d ∷ []) ≡ filter_map (tells q) h
    untold h q d none =
        filter_map-push (tells q) h d ∙ ap (λ o. filter_map (tells q) h ++ cons_option o []) none ∙ append-nil (filter_map (tells q) h)

    -- a step adds the fact of its thread, and no fact about a new child
    told_by_step : (s u : State B) (h : List Deed) (n : Name) (t : Thread B) (i : Instr) (r : Request) (v : ℤ) (o : Option Name) → IsReached ops code s
        → s.failed ≡ None → Does ops code s u n t i r → kind_of r o ≡ kind_of r (created_by ops code n t.local r) → AreTold s h
        → AreTold u (h ++ Did n t.local.steps r v o ∷ [])
    told_by_step s u h n t i r v o reached going does asks are q =
        let d = Did n t.local.steps r v o in
        elim (find ops code s u n t i r reached does.there does.threads q) [
          | Its_own e there ↦
              let w = own ops code s t i r in
              filter_map-push (tells q) h d
              ∙ ap (λ m. filter_map (tells m) h ++ cons_option (tells m d) []) e
              ∙ ap (λ xs. xs ++ cons_option (tells n d) [])
              (are n ∙ ap (told_at (fails_by s.failed n)) does.there ∙ ap (λ f. is (fails_by f n) t.local) going)
              ∙ sym (laws.steps s n t i r (value_taken ops code s t r) v o reached going does.there does.at does.asks asks)
              ∙ ap (λ b. is b w.local) (sym (own_fails r n) ∙ ap (λ f. fails_by f n) (sym does.failed))
              ∙ ap (λ m. is (fails_by u.failed m) w.local) (sym e)
              ∙ ap (told_at (fails_by u.failed q)) (sym there)
          | Its_child f vs other there new made ↦
              untold h q d (laws.foreign q n t.local.steps r v o other)
              ∙ are q
              ∙ ap (told_at (fails_by s.failed q)) new
              ∙ sym (laws.start (fails_by u.failed q) f vs)
              ∙ ap (told_at (fails_by u.failed q)) (sym there)
          | Another other there none ↦
              untold h q d (laws.foreign q n t.local.steps r v o other)
              ∙ are q
              ∙ ap₂ told_at
              (ap (λ f. fails_by f q) going ∙ sym (none_else_fails r n q other) ∙ ap (λ f. fails_by f q) (sym does.failed)) (sym there)
        ]

    -- each deed keeps that the deeds tell what the state does
    keeps_told : Keeps ops code AreTold
    keeps_told = record {
      ran = λ s h n t i r reached going there at asks _ are.
          told_by_step s (perform ops code s n t i r) h n t i r (value_taken ops code s t r) (created_by ops code n t.local r) reached going
          (ran_does ops code s n t i r going there at asks) refl are;
      waked = λ s h n u t c reached going there at _ _ are.
          told_by_step s (state_after_wake ops s n u t c) h n t (Signal c) (WakeOne c) (pos 0) (Some u) reached going
          (woke_does ops code s n u t c going there at) refl are;
      flushed = λ s h n t form _ going there _ are q.
          untold h q _ (laws.flushed q n _ _ _)
          ∙ are q
          ∙ sym (unchanged ops code s (machine.state_after_drain ops s n t form) n t (ops.drain t.buffer form).rest
          (flush_drains ops code s n t form going there) (told_at (fails_by s.failed q)) refl q);
    }

    -- at the start, the empty history has no fact about any thread
    opening_told : AreTold (opening ops code) []
    opening_told q =
        elim (same_or_apart q []) [
          | inl e ↦
              sym (ap (λ m. told_at false (fin.get (opening ops code).threads m)) e
              ∙ ap (told_at false) (get_put fin.empty [] (machine.born ops code (length code.functions - 1) []))
              ∙ laws.start false (length code.functions - 1) [])
          | inr other ↦
              sym (ap (told_at false) (get_put_apart fin.empty [] (machine.born ops code (length code.functions - 1) []) q other
              ∙ fin.get-empty by_name q))
        ]

    -- after each run the deeds tell what the state does
    pub all_told : (ms : List Move) (s : State B) → run ops code ms ≡ Some s → AreTold s (history ops code ms)
    all_told ms s leads = holds_after ops code AreTold keeps_told opening_told ms s leads

-- The numbers of steps.

-- a range of numbers with one number appended
range_push : (a n e : ℕ) → a + n ≡ e → range_with_len a (suc n) ≡ range_with_len a n ++ e ∷ []
range_push a zero e is = let same : a ≡ e = omega (arith, is) in ap (λ k. range_with_len k 1) same
range_push a (suc n) e is =
    let next : (a + 1) + n ≡ e = omega (arith, is) in
    ap (λ xs. a ∷ xs) (range_push (a + 1) n e next)

-- the numbers of the steps of a thread, from 0 on
abbrev numbers_below : Bool → Local → List ℕ
numbers_below b t = range_with_len 0 t.steps

-- the number of a step, if its thread is the one asked for
abbrev number_if : Bool → ℕ → Option ℕ
number_if b k = if b then Some k else None

-- the number of a step is the number of the steps before it
numbers_laws : {B : Type 0} (ops : BufferOps B) (code : Code) → TellsSteps ops code number_by numbers_below
numbers_laws ops code = record {
  foreign = λ q n k r v o other. ap (λ b. number_if b k) (same_other q n other);
  flushed = λ q n k c v. refl;
  start = λ b f vs. refl;
  steps = λ s n t i r w v o _ _ _ _ _ _.
      let count : (after_step t.local i r w).steps ≡ suc t.local.steps = steps_by t.local i r w ∙ omega arith in
      ap (range_with_len 0) count
      ∙ range_push 0 t.local.steps t.local.steps (omega arith)
      ∙ ap (λ b. range_with_len 0 t.local.steps ++ cons_option (number_if b t.local.steps) []) (sym (same_self n n refl));
}

-- a thread's steps in the history are numbered from 0 on
pub steps_are_numbered : {B : Type 0} (ops : BufferOps B) (code : Code) (ms : List Move) (s : State B) (n : Name) → run ops code ms ≡ Some s
    → filter_map (number_by n) (history ops code ms) ≡ range_with_len 0 (option_map_or (λ t. t.local.steps) (fin.get s.threads n) 0)
steps_are_numbered {B} ops code ms s n leads = all_told ops code number_by numbers_below (numbers_laws ops code) ms s leads n ∙ by (fin.get s.threads n)
  where
    by : (o : Option (Thread B)) → option_map_or (λ (t : Thread B). range_with_len 0 t.local.steps) o []
        ≡ range_with_len 0 (option_map_or (λ (t : Thread B). t.local.steps) o 0)
    by None = refl
    by (Some t) = refl

-- The kinds of steps as events.

-- a site is an event only if it fails
site_kind : {B : Type 0} (ops : BufferOps B) (code : Code) (n : Name) (t : Local) (b : Bool)
    → kind_of (site b) (created_by ops code n t (site b)) ≡ (if is_fail (site b) then Some kind.Fail else None)
site_kind ops code n t true = refl
site_kind ops code n t false = refl

-- the kind of a request is the one that the path gives the instruction
kind_asked : {B : Type 0} (ops : BufferOps B) (code : Code) (n : Name) (t : Local) (m : Marks) (i : Instr) → HasMarks t m
    → kind_of (request t i) (created_by ops code n t (request t i)) ≡ kind_with m i (is_fail (request t i))
kind_asked ops code n t m (Inside len e) marks = site_kind ops code n t _
kind_asked ops code n t m (Holds k) marks = site_kind ops code n t _
kind_asked ops code n t m (Ready h) marks = site_kind ops code n t _
kind_asked ops code n t m (Assert e) marks = site_kind ops code n t _
kind_asked ops code n t m (Nonzero e) marks = site_kind ops code n t _
kind_asked ops code n t m (InRange e) marks = site_kind ops code n t _
kind_asked ops code n t m (Create h f es) marks =
    ap (option_map kind.Create) (last_or-push None n (t.children + 1)) ∙ ap (λ k. Some (kind.Create (k + 1))) (sym marks.children)
kind_asked ops code n t m (Join h) marks = ap (λ xs. Some (kind.Join (child_number (slice_index_or xs h Unset)))) (sym marks.handles)
kind_asked ops code n t m i marks = refl

-- The events of steps.

module _ (code : Code) where
  -- the events of a thread's path so far
  abbrev events_told : Bool → Local → List EventDone
  events_told b t = map done_as (events_of code t.function (marked_steps code t.function b (steps_at code t.function (told code t))))

  -- the event of a marked step, by its kind
  abbrev event_at : ℕ → ℕ → Step → Marks → EventKind → Event
  event_at f k x m asked = record { step = k; line = unwrap_or (line_at code f x.place) 0; kind = asked; bars = m.bars }

  -- one marked step as an event, if it is one
  done_one : (f k : ℕ) (x : Step) (b : Bool) (m : Marks)
      → map done_as (cons_option (event_of code f (record { number = k; step = x; fails = b; marks = m })) [])
      ≡ cons_option (option_map (λ asked. the_done (record { step = k; kind = asked })) (kind_with m x.instr b)) []
  done_one f k x b m = by (kind_with m x.instr b)
    where
      by : (o : Option EventKind)
          → map done_as (cons_option (option_map (event_at f k x m) o) [])
          ≡ cons_option (option_map (λ asked. the_done (record { step = k; kind = asked })) o) []
      by None = refl
      by (Some asked) = refl

  -- a step adds its event
  event_added : (t u : Local) (i : Instr) (b : Bool) (ps : List ℕ) (along : IsAlong code t ps) (at : instr_at code t.function t.instruction ≡ Some i)
      → u.function ≡ t.function → told code u ≡ ps ++ t.instruction ∷ []
      → events_told b u ≡ events_told false t
      ++ cons_option (option_map (λ asked. the_done (record { step = t.steps; kind = asked })) (kind_with (marks_here code t t i ps along at) i b)) []
  event_added t u i b ps along at function all =
      let f = t.function in
      let ss = steps_at code f ps in
      let m = marks_here code t t i ps along at in
      let older = marked_from false 0 (marks_at_start code f) ss in
      let own : Marked = record { number = 0 + length ss; step = now code t t i ps along at; fails = b; marks = m } in
      let number : 0 + length ss ≡ t.steps = omega (arith, length-map ps (step_at code f), count code f t.steps 0 t.outcomes ps along.told) in
      ap₂ (λ g xs. map done_as (events_of code g (marked_steps code g b (steps_at code g xs)))) function all
      ∙ ap (λ xs. map done_as (events_of code f (marked_steps code f b xs))) (steps_push code t t i ps along at)
      ∙ ap (λ xs. map done_as (events_of code f xs)) (marked_push b 0 (marks_at_start code f) ss (now code t t i ps along at))
      ∙ ap (map done_as) (filter_map-push (event_of code f) older own)
      ∙ map-append done_as (events_of code f older) (cons_option (event_of code f own) [])
      ∙ ap₂ (λ xs ys. xs ++ ys)
      (ap (λ xs. map done_as (events_of code f (marked_steps code f false (steps_at code f xs)))) (sym (told_is code false t ps along)))
      (done_one f (0 + length ss) (now code t t i ps along at) b m
      ∙ ap (λ k. cons_option (option_map (λ asked. the_done (record { step = k; kind = asked })) (kind_with m i b)) []) number)

  -- the deeds of a thread tell the events of its path
  events_laws : {B : Type 0} (ops : BufferOps B) → IsLawful code → TellsSteps ops code event_by events_told
  events_laws ops lawful = record {
    foreign = λ q n k r v o other. ap (λ b. event_if b k (kind_of r o)) (same_other q n other);
    flushed = λ q n k c v. refl;
    start = λ b f vs. refl;
    steps = λ s n t i r w v o reached going there at asks same.
        let k = reached_known ops code lawful s reached n t there in
        let along : IsAlong code t.local k.places = subst (λ f. Stands code (fails_by f n) t.local k.places) going k.stands in
        let placed = at_its_place code t.local i at in
        let m = marks_here code t.local t.local i k.places along placed in
        let told : told code (after_step t.local i r w) ≡ k.places ++ t.local.instruction ∷ [] =
        ap (λ x. result_unwrap_or x []) (step_told code t.local i r w k.places along placed asks) in
        let asked : kind_of r o ≡ kind_with m i (is_fail r) =
        same
        ∙ ap (λ x. kind_of x (created_by ops code n t.local x)) (sym asks)
        ∙ kind_asked ops code n t.local m i along.marks
        ∙ ap (λ x. kind_with m i (is_fail x)) asks in
        event_added t.local (after_step t.local i r w) i (is_fail r) k.places along placed (same_function t.local i r w) told
        ∙ ap (λ x. events_told false t.local ++ cons_option (event_if true t.local.steps x) []) (sym asked)
        ∙ ap (λ b. events_told false t.local ++ cons_option (event_if b t.local.steps (kind_of r o)) []) (sym (same_self n n refl));
  }

-- The events of the first steps.

-- an event that doesn't pass is filtered out
left_out : (p : Event → Bool) (o : Option EventKind) (event : EventKind → Event) (es : List Event) → ((asked : EventKind) → p (event asked) ≡ false)
    → filter p (cons_option (option_map event o) es) ≡ filter p es
left_out p None event es h = refl
left_out p (Some asked) event es h = ap (λ b. cond b (event asked ∷ filter p es) (filter p es)) (h asked)

-- one that passes is kept
kept : (p : Event → Bool) (o : Option EventKind) (event : EventKind → Event) (es : List Event) → ((asked : EventKind) → p (event asked) ≡ true)
    → filter p (cons_option (option_map event o) es) ≡ cons_option (option_map event o) (filter p es)
kept p None event es h = refl
kept p (Some asked) event es h = ap (λ b. cond b (event asked ∷ filter p es) (filter p es)) (h asked)

-- the flag of the last step belongs to the second of two lists, or to the first if that is empty
fails_last : (b : Bool) (xs ys : List Step) → (b && length (xs ++ ys) == 0) ≡ ((b && length ys == 0) && length xs == 0)
fails_last b [] ys = sym (and-true (b && length ys == 0))
fails_last b (x ∷ xs) ys =
    ap (λ c. b && c) (eqb-suc-zero (length (xs ++ ys))) ∙ and-false b
    ∙ sym (ap (λ c. (b && length ys == 0) && c) (eqb-suc-zero (length xs)) ∙ and-false (b && length ys == 0))

module _ (code : Code) (f : ℕ) where
  -- whether an event is of a step before the one with this number
  abbrev before : ℕ → Event → Bool
  before k e = nat_lt e.step k

  -- no event of later steps comes before it
  none_before : (b : Bool) (k j : ℕ) (m : Marks) (ss : List Step) → k ≤ j → filter (before k) (events_of code f (marked_from b j m ss)) ≡ []
  none_before b k j m [] few = refl
  none_before b k j m (x ∷ ss) few =
      left_out (before k) (kind_with m x.instr (b && length ss == 0)) _
      (events_of code f (marked_from b (j + 1) (marks_after_instr m x.instr) ss)) (λ asked. le-ltb j k few)
      ∙ none_before b k (j + 1) (marks_after_instr m x.instr) ss (omega (arith, few))

  -- the events before a step's number are those of the steps before it
  first_events : (b : Bool) (j : ℕ) (m : Marks) (xs ys : List Step)
      → filter (before (j + length xs)) (events_of code f (marked_from b j m (xs ++ ys))) ≡ events_of code f (marked_from (b && length ys == 0) j m xs)
  first_events b j m [] ys = none_before b (j + 0) j m ys (omega arith)
  first_events b j m (x ∷ xs) ys =
      let count : j + suc (length xs) ≡ (j + 1) + length xs = omega arith in
      let later = events_of code f (marked_from b (j + 1) (marks_after_instr m x.instr) (xs ++ ys)) in
      kept (before (j + suc (length xs))) (kind_with m x.instr (b && length (xs ++ ys) == 0)) _ later (λ asked. lt-ltb j (j + suc (length xs)) (omega arith))
      ∙ ap₂ (λ c es. cons_option (event_of code f (record { number = j; step = x; fails = c; marks = m })) es)
      (fails_last b xs ys)
      (ap (λ k. filter (before k) later) count ∙ first_events b (j + 1) (marks_after_instr m x.instr) xs ys)

-- two tests with the same meaning are the same
pub same_test : (a b c d : ℕ) → (a ≡ b → c ≡ d) → (c ≡ d → a ≡ b) → (a == b) ≡ (c == d)
same_test a b c d to back = by (a == b) refl (c == d) refl
  where
    by : (x : Bool) → (a == b) ≡ x → (y : Bool) → (c == d) ≡ y → x ≡ y
    by true e true g = refl
    by false e false g = refl
    by true e false g = sym (eq-eqb c d (to (eqb-true a b e))) ∙ g
    by false e true g = sym e ∙ eq-eqb a b (back (eqb-true c d g))

-- the events of a thread's deeds are those of the first steps of its path
pub deeds_are_events : {B : Type 0} (ops : BufferOps B) (code : Code) (log : Log) (ms : List Move) (s : State B) (p : ThreadPath) (t : Thread B) → IsLawful code
    → Fits code log → run ops code ms ≡ Some s → AreOnPaths log s → fin.get s.threads p.name ≡ Some t
    → filter_map (event_by p.name) (history ops code ms) ≡ events_before t.local.steps (walk_of code log p).events
deeds_are_events ops code log ms s p t lawful fits leads on there =
    let n = p.name in
    let f = t.local.function in
    let k = t.local.steps in
    let so = so_far ops code lawful log fits s (record { moves = ms; leads = leads }) on n t there in
    let all = places_in code log n f in
    let fails = fails_in log n in
    let few = so.on.steps in
    let front = steps_at code f (take k all) in
    let rest = steps_at code f (drop k all) in
    let count : 0 + length front ≡ k = omega (arith, length-map (take k all) (step_at code f), length-take-le k all (omega (arith, few, so.count))) in
    let left : length rest ≡ length all - k = length-map (drop k all) (step_at code f) ∙ length-drop k all in
    let ends : (length rest == 0) ≡ (k == so.on.path.steps) =
    same_test (length rest) 0 k so.on.path.steps (λ none. omega (arith, none, left, few, so.count)) (λ same. omega (arith, same, left, so.count)) in
    all_told ops code event_by (events_told code) (events_laws code ops lawful) ms s leads n
    ∙ ap (λ o. option_map_or (λ x. events_told code (fails_by s.failed n) x.local) o []) there
    ∙ ap (λ xs. map done_as (events_of code f (marked_steps code f (fails_by s.failed n) (steps_at code f xs))))
    (told_is code (fails_by s.failed n) t.local _ so.stands)
    ∙ ap (λ b. map done_as (events_of code f (marked_steps code f b front))) (so.on.fails ∙ ap (λ b. fails && b) (sym ends))
    ∙ ap (map done_as)
    (sym (first_events code f fails 0 (marks_at_start code f) front rest)
    ∙ ap₂ (λ j xs. filter (before code f j) (events_of code f (marked_steps code f fails xs))) count
    (sym (map-append (step_at code f) (take k all) (drop k all)) ∙ ap (steps_at code f) (take-append-drop k all)))
    ∙ ap (λ g. events_before k (events_of code g (marked_steps code g fails (steps_at code g (places_in code log n g)))))
    (sym (ap (λ o. unwrap_or o 0) so.function))
