-- The sleeps of a path, and the wakes that end them.
use Rattle.std.proofs.Common.{◌≡◌, ◌∙◌, inl, inr, ℕ, zero, suc, ◌+◌, Bool, true, false, ◌==◌, ◌&&◌, List, [], ◌∷◌, length}
use Rattle.std.proofs.Common.{Option, Some, None, Ok, refl, sym, ap, subst, arith}
use Rattle.std.specs.Prelude.{slice_get, unwrap_or, option_map, option_and_then}
use Rattle.std.specs.List.{cons_option}
use Rattle.std.proofs.lemmas.List.{length-map}
use Rattle.std.proofs.lemmas.Option.{none-some, same_Some}
use Rattle.path_walk.specs.run_log.Logs.{Log}
use Rattle.path_walk.specs.tc_code.Code.{Code, instr_at}
use Rattle.path_walk.specs.tc_code.Lawful.{IsLawful}
use Rattle.path_walk.specs.tc_code.declared.code.Func.{Func}
use Rattle.path_walk.specs.tc_code.declared.instr.Instr.{Instr}
use Rattle.path_walk.specs.tc_code.declared.instr.Instr.TheVariants as instr
use Rattle.path_walk.specs.tc_code.declared.instr.Instr.TheVariants.{Exit}
use Rattle.path_walk.proofs.tc_code.Facts.{placed}
use Rattle.run_follows.proofs.run_history.of_pending.In.{In}
use Rattle.path_walk.specs.Events.{kind_with, sleep_by, sleeps_of}
use Rattle.path_walk.specs.Fits.{fails_in}
use Rattle.path_walk.specs.Marks.{Marks, marks_at_start, marks_after_instr}
use Rattle.path_walk.specs.Paths.{Walk}
use Rattle.path_walk.specs.Steps.{Step, Onward, onward, places_from, step_at, steps_at}
use Rattle.path_walk.specs.declared.event.Event.{Event}
use Rattle.path_walk.specs.declared.event.EventKind.{EventKind}
use Rattle.path_walk.specs.declared.event.EventKind.TheVariants as kind
use Rattle.path_walk.specs.declared.event.Sleep.{Sleep}
use Rattle.path_walk.proofs.Places.{unrolled}
use Rattle.path_laws.proofs.of_history.Walks.{IsWalk}
use Rattle.path_laws.proofs.of_events.Marked.{event_at, events_from}

-- Sleeps begin with events.

-- an event begins this sleep
pub record IsSleepOf (x : Event) (c m : ℕ) (s : Sleep) : Type 0 where
  pub step : s.step ≡ x.step
  pub condition : s.condition ≡ c
  pub mutex : s.mutex ≡ m

behind : {X : Type 0} (o : Option X) (x : X) (xs : List X) → In x xs → In x (cons_option o xs)
behind None x xs i = i
behind (Some y) x xs i = inr i

pub sleep_of_event : (es : List Event) (x : Event) (c m : ℕ) → In x es → x.kind ≡ kind.Sleep c m → (s : Sleep) × In s (sleeps_of es) × IsSleepOf x c m s
sleep_of_event [] x c m i is = absurd i
sleep_of_event (e ∷ es) x c m (inl same) is =
    let s : Sleep = record { step = e.step; condition = c; mutex = m; wake = option_map (λ w. w.step) (slice_get es 0) } in
    let kind_is : e.kind ≡ kind.Sleep c m = ap (λ (y : Event). y.kind) same ∙ is in (
      s,
      subst (λ k. In s (cons_option (sleep_by e.step (slice_get es 0) k) (sleeps_of es))) (sym kind_is) (inl refl),
      record { step = ap (λ (y : Event). y.step) same; condition = refl; mutex = refl },
    )
sleep_of_event (e ∷ es) x c m (inr i) is =
    let rest = sleep_of_event es x c m i is in (rest.0, behind (sleep_by e.step (slice_get es 0) e.kind) rest.0 (sleeps_of es) rest.1, rest.2)

-- Wakes follow sleeps.

-- the step after one that begins a wait is its wake
abbrev NextWakes : Step → List Step → Type 0
NextWakes s [] = Unit {0}
NextWakes s (t ∷ ss) = (c m : ℕ) → s.instr ≡ instr.Sleep c m → t.instr ≡ instr.Wake c m

abbrev WakesFollow : List Step → Type 0
WakesFollow [] = Unit {0}
WakesFollow (s ∷ ss) = NextWakes s ss × WakesFollow ss

-- the second half of a wait follows the first
wake_behind : (code : Code) (f k c m : ℕ) → IsLawful code → instr_at code f k ≡ Some (instr.Sleep c m) → instr_at code f (k + 1) ≡ Some (instr.Wake c m)
wake_behind code f k c m lawful at =
    let g = placed code f k (instr.Sleep c m) lawful at in
    ap (option_and_then (λ (x : Func). slice_get x.instrs (k + 1))) g.there ∙ g.lawful.wait k c m g.at

module _ (code : Code) (lawful : IsLawful code) (f : ℕ) where
  next_wakes : (n k : ℕ) (os : List Bool) (i : Instr) (next : Onward) (rest : List ℕ) → instr_at code f k ≡ Some i → onward k i os ≡ Some next
      → places_from code f n next.place next.outcomes ≡ Ok rest → NextWakes (step_at code f k) (steps_at code f rest)
  next_wakes zero k os i next [] at leads told = tt
  next_wakes zero k os i next (p ∷ rest) at leads told = by next.outcomes told
    where
      by : (os : List Bool) → places_from code f 0 next.place os ≡ Ok (p ∷ rest) → NextWakes (step_at code f k) (steps_at code f (p ∷ rest))
      by [] e = absurd cc
      by (o ∷ os) e = absurd cc
  next_wakes (suc n) k os i next rest at leads told =
      let v = unrolled code f n next.place next.outcomes rest told in
      subst (λ xs. NextWakes (step_at code f k) (steps_at code f xs)) (sym v.all)
      (λ c m sleeps.
      let here : i ≡ instr.Sleep c m = ap (λ o. unwrap_or o Exit) (sym at) ∙ sleeps in
      let place : next.place ≡ k + 1 =
      ap (λ (o : Onward). o.place) (same_Some next _ (sym leads ∙ ap (λ x. onward k x os) here)) in
      ap (λ p. unwrap_or (instr_at code f p) Exit) place
      ∙ ap (λ o. unwrap_or o Exit) (wake_behind code f k c m lawful (at ∙ ap (λ x. Some x) here)))

  wakes_follow : (n k : ℕ) (os : List Bool) (ps : List ℕ) → places_from code f n k os ≡ Ok ps → WakesFollow (steps_at code f ps)
  wakes_follow zero k [] [] told = tt
  wakes_follow zero k [] (p ∷ ps) told = absurd cc
  wakes_follow zero k (o ∷ os) ps told = absurd cc
  wakes_follow (suc n) k os ps told =
      let u = unrolled code f n k os ps told in
      subst (λ xs. WakesFollow (steps_at code f xs)) (sym u.all)
      (next_wakes n k os u.instr u.next u.rest u.at u.leads u.told, wakes_follow n u.next.place u.next.outcomes u.rest u.told)

  -- the end of a sleep, among steps that end before a number
  pub record WakesSo (end : ℕ) (s : Sleep) : Type 0 where
    pub next : (k : ℕ) → s.wake ≡ Some k → k ≡ s.step + 1
    pub last : s.wake ≡ None → s.step + 1 ≡ end

  -- an event that begins a wait is the first half of a wait
  sleep_is : (m : Marks) (i : Instr) (fails : Bool) (c l : ℕ) → kind_with m i fails ≡ Some (kind.Sleep c l) → i ≡ instr.Sleep c l
  sleep_is m i true c l e = absurd cc
  sleep_is m (instr.Sleep d n) false c l e = let same : instr.Sleep d n ≡ instr.Sleep c l = cc in same
  sleep_is m i false c l e = absurd cc

  -- a wake is an event, even as the failing step
  wake_asks : (m : Marks) (c l : ℕ) (fails : Bool) → (k : EventKind) × (kind_with m (instr.Wake c l) fails ≡ Some k)
  wake_asks m c l true = (kind.Fail, refl)
  wake_asks m c l false = (kind.Wake c l, refl)

  module _ (b : Bool) where
    first_step : (j : ℕ) (m : Marks) (t : Step) (ss : List Step) (c l : ℕ) → t.instr ≡ instr.Wake c l
        → option_map (λ (e : Event). e.step) (slice_get (events_from code f b j m (t ∷ ss)) 0) ≡ Some j
    first_step j m t ss c l is =
        let k = wake_asks m c l (b && length ss == 0) in
        let later = events_from code f b (j + 1) (marks_after_instr m t.instr) ss in
        let asked : kind_with m t.instr (b && length ss == 0) ≡ Some k.0 = ap (λ i. kind_with m i (b && length ss == 0)) is ∙ k.1 in
        ap (λ o. option_map (λ (e : Event). e.step) (slice_get (cons_option (option_map (event_at code f b j t m) o) later) 0)) asked

    -- the sleep that a step begins
    abbrev begun : (j c l : ℕ) → Marks → List Step → Sleep
    begun j c l m ss =
        record { step = j; condition = c; mutex = l; wake = option_map (λ (w : Event). w.step) (slice_get (events_from code f b (j + 1) m ss) 0) }

    begun_so : (j c l : ℕ) (m : Marks) (x : Step) (ss : List Step) → x.instr ≡ instr.Sleep c l → NextWakes x ss → WakesSo (j + suc (length ss)) (begun j c l m ss)
    begun_so j c l m x [] is follow = record { next = λ k e. absurd (none-some k e); last = λ e. omega arith }
    begun_so j c l m x (t ∷ ss) is follow =
        let first = first_step (j + 1) m t ss c l (follow c l is) in
        record { next = λ k e. same_Some k (j + 1) (sym e ∙ first); last = λ e. absurd (none-some (j + 1) (sym e ∙ first)) }

    pub wakes_so : (j : ℕ) (m : Marks) (ss : List Step) (s : Sleep) → WakesFollow ss → In s (sleeps_of (events_from code f b j m ss))
        → WakesSo (j + length ss) s
    wakes_so j m [] s follow i = absurd i
    wakes_so j m (x ∷ ss) s follow i =
        let end : (j + 1) + length ss ≡ j + suc (length ss) = omega arith in
        by (kind_with m x.instr (b && length ss == 0)) refl i
        (λ g. subst (λ e. WakesSo e s) end (wakes_so (j + 1) (marks_after_instr m x.instr) ss s follow.1 g))
      where
        by_kind : (k : EventKind) → kind_with m x.instr (b && length ss == 0) ≡ Some k
            → In s (cons_option (sleep_by j (slice_get (events_from code f b (j + 1) (marks_after_instr m x.instr) ss) 0) k)
            (sleeps_of (events_from code f b (j + 1) (marks_after_instr m x.instr) ss)))
            → (In s (sleeps_of (events_from code f b (j + 1) (marks_after_instr m x.instr) ss)) → WakesSo (j + suc (length ss)) s) → WakesSo (j + suc (length ss)) s
        by_kind (kind.Sleep c l) e (inl same) rest =
            subst (WakesSo (j + suc (length ss))) same
            (begun_so j c l (marks_after_instr m x.instr) x ss (sleep_is m x.instr (b && length ss == 0) c l e) follow.0)
        by_kind (kind.Sleep c l) e (inr i) rest = rest i
        by_kind k e i rest = rest i

        by : (o : Option EventKind) → kind_with m x.instr (b && length ss == 0) ≡ o
            → In s (sleeps_of (cons_option (option_map (event_at code f b j x m) o) (events_from code f b (j + 1) (marks_after_instr m x.instr) ss)))
            → (In s (sleeps_of (events_from code f b (j + 1) (marks_after_instr m x.instr) ss)) → WakesSo (j + suc (length ss)) s) → WakesSo (j + suc (length ss)) s
        by None e i rest = rest i
        by (Some k) e i rest = by_kind k e i rest

-- the sleeps of each thread's path end with their wakes
pub walk_wakes : (code : Code) (lawful : IsLawful code) (log : Log) (w : Walk) → IsWalk code log w → (s : Sleep) → In s w.sleeps
    → WakesSo code lawful w.function (length w.places) s
walk_wakes code lawful log w k s i =
    let ss = steps_at code w.function w.places in
    let long : 0 + length ss ≡ length w.places = omega (arith, length-map w.places (step_at code w.function)) in
    let events : w.sleeps ≡ sleeps_of (events_from code w.function (fails_in log w.name) 0 (marks_at_start code w.function) ss) =
    k.sleeps ∙ ap sleeps_of k.events in
    subst (λ e. WakesSo code lawful w.function e s) long
    (wakes_so code lawful w.function (fails_in log w.name) 0 (marks_at_start code w.function) ss s
    (wakes_follow code lawful w.function k.path.steps 0 k.path.outcomes w.places k.places) (subst (In s) events i))
