-- Each thread of the paths except main is created by an event of another thread.
use Rattle.std.proofs.Common.{◌≡◌, ◌⊎◌, ◌∙◌, inl, inr, ℕ, zero, suc, ◌+◌, ◌<◌, ◌==◌, ◌&&◌, Bool, true, false, List, [], ◌∷◌, length, take, drop}
use Rattle.std.proofs.Common.{Option, Some, None, refl, sym, ap, subst, arith}
use Rattle.std.specs.Prelude.{slice_get, unwrap_or}
use Rattle.std.specs.List.{cons_option}
use Rattle.std.proofs.lemmas.Bool.{false≢true, false_from_ne_true}
use Rattle.std.proofs.lemmas.List.{length-map}
use Rattle.std.proofs.lemmas.Option.{none-some, same_Some, slice_get-map, slice_get_within, option_and_then_some}
use Rattle.condition_order.specs.run_log.Logs.{Log}
use Rattle.condition_order.specs.tc_base.Paths.{path_under}
use Rattle.condition_order.specs.tc_base.Names.{Name, main, child}
use Rattle.condition_order.proofs.tc_base.Names.{parent_of}
use Rattle.condition_order.specs.tc_code.Code.{Code, instr_at}
use Rattle.condition_order.specs.tc_code.declared.instr.Instr.{Instr}
use Rattle.condition_order.specs.tc_code.declared.instr.Instr.TheVariants.{Create, Exit}
use Rattle.sym_steps.proofs.run_history.of_pending.In.{In}
use Rattle.condition_order.specs.run_log.Logs.{is_log}
use Rattle.condition_order.specs.path_walk.Events.{asks, kind_with}
use Rattle.condition_order.specs.path_walk.Fits.{starts, started, fails_in, places_in, child_function, function_of, Fits}
use Rattle.condition_order.specs.path_walk.Marks.{Marks, marks_at_start, marks_after_instr, marks_after}
use Rattle.condition_order.specs.path_walk.Paths.{Walk}
use Rattle.condition_order.specs.path_walk.Steps.{Step, is_site, step_at, steps_at}
use Rattle.condition_order.specs.path_walk.declared.event.Event.{Event}
use Rattle.condition_order.specs.path_walk.declared.event.EventKind.TheVariants as kind
use Rattle.condition_order.proofs.path_walk.Faults.{option_is, function_of_child, no_child}
use Rattle.sym_steps.specs.path_laws.history.Along.{IsThread, IsNameOfThread, path_thread}
use Rattle.sym_steps.proofs.path_laws.of_history.Next.{last_step}
use Rattle.sym_steps.proofs.path_laws.of_history.Walks.{IsWalk, walk_is, named}
use Rattle.sym_steps.proofs.path_laws.of_events.Marked.{event_at, event_there}
use Rattle.sym_steps.proofs.path_laws.of_events.Sites.{last_is_site}
use Rattle.sym_steps.proofs.path_laws.of_stuck.Rests.{mapped_from}

-- a create isn't a site, and its request is for the next child
no_site : (i : Instr) (f : ℕ) → starts i ≡ Some f → is_site i ≡ true → ⊥
no_site (Create h g es) f e site = false≢true site
no_site i f e site = none-some f e

asks_child : (m : Marks) (i : Instr) (f : ℕ) → starts i ≡ Some f → asks m i ≡ Some (kind.Create (m.children + 1))
asks_child m (Create h g es) f e = refl
asks_child m i f e = absurd (none-some f e)

exit_starts : (o : Option Instr) (f : ℕ) → starts (unwrap_or o Exit) ≡ Some f → (i : Instr) × (o ≡ Some i)
exit_starts None f e = absurd (none-some f e)
exit_starts (Some i) f e = (i, refl)

-- the create of a child among steps, after those of the children before it
record StartedAt (m : Marks) (ss : List Step) (j f : ℕ) : Type 0 where
  place : ℕ
  step : Step
  there : slice_get ss place ≡ Some step
  creates : starts step.instr ≡ Some f
  children : (marks_after m (take place ss)).children ≡ m.children + j

started_at : (m : Marks) (ss : List Step) (j f : ℕ) → slice_get (started ss) j ≡ Some f → StartedAt m ss j f
started_at m [] j f at = absurd (none-some f at)
started_at m (s ∷ ss) j f at = by s.instr refl j at (λ k e. started_at (marks_after_instr m s.instr) ss k f e)
  where
    further : (a : Instr) (i n : ℕ) → s.instr ≡ a → (marks_after_instr m a).children + i ≡ m.children + n → StartedAt (marks_after_instr m a) ss i f → StartedAt m (s ∷ ss) n f
    further a i n is sum o = record {
      place = suc o.place;
      step = o.step;
      there = o.there;
      creates = o.creates;
      children = ap (λ b. (marks_after (marks_after_instr m b) (take o.place ss)).children) is ∙ o.children ∙ sum;
    }

    by : (a : Instr) → s.instr ≡ a → (i : ℕ) → slice_get (cons_option (starts a) (started ss)) i ≡ Some f
        → ((k : ℕ) → slice_get (started ss) k ≡ Some f → StartedAt (marks_after_instr m a) ss k f) → StartedAt m (s ∷ ss) i f
    by (Create h g es) is zero e rest =
        let none : m.children ≡ m.children + 0 = omega arith in
        record { place = 0; step = s; there = refl; creates = ap starts is ∙ e; children = none }
    by (Create h g es) is (suc i) e rest =
        let sum : (m.children + 1) + i ≡ m.children + suc i = omega arith in further (Create h g es) i (suc i) is sum (rest i e)
    by a is i e rest = further a i i is refl (rest i e)

module _ (code : Code) (log : Log) where
  -- the create of each child is an event
  module _ (v : Walk) (k : IsWalk code log v) (j f : ℕ) (at : slice_get (started (steps_at code v.function v.places)) j ≡ Some f) where
    abbrev steps : List Step
    steps = steps_at code v.function v.places

    abbrev s : StartedAt (marks_at_start code v.function) steps j f
    s = started_at (marks_at_start code v.function) steps j f at

    abbrev marks : Marks
    marks = marks_after (marks_at_start code v.function) (take s.place steps)

    abbrev fails : Bool
    fails = fails_in log v.name && length (drop (suc s.place) steps) == 0

    within : s.place < length v.places
    within = omega (arith, slice_get_within steps s.place s.step s.there, length-map v.places (step_at code v.function))

    not_failing : fails ≡ false
    not_failing =
        false_from_ne_true fails (λ yes.
        let p = mapped_from (step_at code v.function) (slice_get v.places s.place) s.step
        (sym (slice_get-map (step_at code v.function) v.places s.place) ∙ s.there) in
        let i = exit_starts (instr_at code v.function p.0) f (ap (λ (x : Step). starts x.instr) p.2 ∙ s.creates) in
        let same : unwrap_or (instr_at code v.function p.0) Exit ≡ i.0 = ap (λ o. unwrap_or o Exit) i.1 in
        no_site i.0 f (ap starts (sym same) ∙ ap (λ (x : Step). starts x.instr) p.2 ∙ s.creates)
        (last_is_site code log v k s.place p.0 i.0 p.1 i.1 (ap (λ b. fails_in log v.name && b) (sym (last_step code v s.place within)) ∙ yes)))

    asks_it : kind_with marks s.step.instr fails ≡ Some (kind.Create (suc j))
    asks_it =
        let sum : marks.children + 1 ≡ suc j = omega (arith, s.children) in
        ap (kind_with marks s.step.instr) not_failing
        ∙ asks_child marks s.step.instr f s.creates
        ∙ ap (λ n. Some (kind.Create n)) sum

    pub create_event : (x : Event) × In x v.events × (x.kind ≡ kind.Create (suc j))
    create_event = (
      event_at code v.function (fails_in log v.name) (0 + s.place) s.step marks (kind.Create (suc j)),
      subst (In (event_at code v.function (fails_in log v.name) (0 + s.place) s.step marks (kind.Create (suc j)))) (sym k.events)
          (event_there code v.function (fails_in log v.name) 0 (marks_at_start code v.function) steps s.place s.step (kind.Create (suc j)) s.there asks_it),
      refl,
    )

  -- an event of a thread that creates the thread with this name
  pub record IsCreatedBy (n : Name) : Type 0 where
    pub place : ℕ
    pub walk : Walk
    pub there : IsThread code log place walk
    pub event : Event
    pub among : In event walk.events
    pub number : ℕ
    pub creates : event.kind ≡ kind.Create number
    pub name : n ≡ child walk.name number

  module _ (is : is_log log ≡ true) (fits : Fits code log) where
    by_number : (n : Name) (k f : ℕ) (o : IsNameOfThread code log n) → child_function code log n o.walk.function k ≡ Some f → IsCreatedBy (child n k)
    by_number n zero f o creates = absurd (none-some f creates)
    by_number n (suc j) f o creates =
        let v = o.walk in
        let k = walk_is code log is fits o.thread in
        let at : slice_get (started (steps_at code v.function v.places)) j ≡ Some f =
        ap (λ ps. slice_get (started (steps_at code v.function ps)) j) (sym k.told ∙ ap (λ m. places_in code log m v.function) o.name_is) ∙ creates in
        let e = create_event v k j f at in
        record {
          place = o.index;
          walk = v;
          there = o.there;
          event = e.0;
          among = e.1;
          number = suc j;
          creates = e.2;
          name = ap (λ m. child m (suc j)) (sym o.name_is);
        }

    by_parent : (n : Name) (k f : ℕ) → function_of code log (child n k) ≡ Some f → IsCreatedBy (child n k)
    by_parent n k f function =
        elim (option_is (path_under n log.threads)) [
          | inl none ↦ absurd (none-some f (sym (no_child code log n k none) ∙ function))
          | inr has ↦
              let o = named code log is fits n has.0 has.1 in
              option_and_then_some (λ g. child_function code log n g k) (function_of code log n) f (sym (function_of_child code log n k) ∙ function)
              (λ g of creates.
              let known = (walk_is code log is fits o.thread).function in
              let same : g ≡ o.walk.function = same_Some g o.walk.function (sym of ∙ ap (function_of code log) (sym o.name_is) ∙ known) in
              by_number n k f o (ap (λ a. child_function code log n a k) (sym same) ∙ creates))
        ]

    pub created_by : (c : ℕ) (q : Walk) → IsThread code log c q → (q.name ≡ main) ⊎ IsCreatedBy q.name
    created_by c q there =
        elim (parent_of q.name) [
          | inl first ↦ inl first
          | inr h ↦
              inr (subst IsCreatedBy (sym h.name)
              (by_parent h.parent h.number q.function (ap (function_of code log) (sym h.name) ∙ (walk_is code log is fits (path_thread c q there)).function)))
        ]
