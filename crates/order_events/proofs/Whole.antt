-- The paths of a log are whole.
use Rattle.std.proofs.Common.{◌≡◌, ◌∙◌, ℕ, zero, suc, ◌+◌, ◌<◌, inl, inr, Bool, true, false, cond, List, [], ◌∷◌, map, length, sum}
use Rattle.std.proofs.Common.{Option, Some, None, refl, sym, ap, subst, arith, ◌&&◌, ◌==◌, ◌≤◌, length-append}
use Rattle.std.proofs.lemmas.List.{length-map}
use Rattle.std.proofs.lemmas.List.Sums.{sum_by-cons}
use Rattle.std.specs.Prelude.{slice_get, option_map}
use Rattle.std.specs.List.{Contains, filter_map, cons_option}
use Rattle.std.specs.Option.{option_map_or}
use Rattle.std.proofs.lemmas.Option.{none-some, same_Some}
use Rattle.path_walk.specs.run_log.Logs.{Log}
use Rattle.path_walk.specs.tc_base.Paths.{ThreadPath}
use Rattle.path_walk.specs.tc_code.Code.{Code}
use Rattle.path_walk.specs.Fits.{ending_of, places_in}
use Rattle.path_walk.specs.Steps.{Step, is_failing, steps_at}
use Rattle.path_walk.specs.Marks.{Marks, Marked, marks_at_start, marks_after_instr, marked_from}
use Rattle.path_walk.specs.Events.{event_of, kind_with, acquired_mutex, released_mutex, release_step, regions_of, sleep_by, sleeps_of, create_by, creates_of, join_by, joins_of}
use Rattle.path_walk.specs.Paths.{Walk, Paths, ArePaths, paths_of, walk_of, function_in}
use Rattle.path_walk.specs.declared.event.Event.{Event}
use Rattle.path_walk.specs.declared.event.EventKind.{EventKind}
use Rattle.path_walk.specs.declared.event.EventKind.TheVariants as kind
use Rattle.path_walk.specs.declared.event.Region.{Region}
use Rattle.path_walk.specs.declared.event.Sleep.{Sleep}
use Rattle.path_walk.specs.declared.event.Link.{Link}
use Rattle.lawful_order.specs.Events.{Placed, Has, placed_in, all_from}
use Rattle.lawful_order.specs.Whole.{HasStep, AreWhole}
use Rattle.order_events.proofs.Lists.{of_nil, of_cons, in_front, in_back, of_filter_map}

-- ---- one thread

-- one of the events is that step
abbrev IsStepOf : List Event → ℕ → Type 0
IsStepOf es k = (x : Event) × Contains es x × (x.step ≡ k)

one_more : (e : Event) (es : List Event) (k : ℕ) → IsStepOf es k → IsStepOf (e ∷ es) k
one_more e es k s = (s.0, in_back s.0 e es s.1, s.2)

first_of : (e : Event) (es : List Event) → IsStepOf (e ∷ es) e.step
first_of e es = (e, in_front e es, refl)

left_is_step : (m k : ℕ) (es : List Event) → release_step m es ≡ Some k → IsStepOf es k
left_is_step m k [] is = absurd (none-some k is)
left_is_step m k (e ∷ es) is = by (option_map_or (λ l. l == m) (released_mutex e.kind) false) is (left_is_step m k es)
  where
    by : (b : Bool) → cond b (Some e.step) (release_step m es) ≡ Some k → (release_step m es ≡ Some k → IsStepOf es k) → IsStepOf (e ∷ es) k
    by true h later = subst (λ n. IsStepOf (e ∷ es) n) (same_Some e.step k h) (first_of e es)
    by false h later = one_more e es k (later h)

record IsRegionOf (es : List Event) (r : Region) : Type 0 where
  taken : IsStepOf es r.«from»
  left : (k : ℕ) → r.to ≡ Some k → IsStepOf es k

region_more : (e : Event) (es : List Event) (r : Region) → IsRegionOf es r → IsRegionOf (e ∷ es) r
region_more e es r o = record { taken = one_more e es r.«from» o.taken; left = λ k to. one_more e es k (o.left k to) }

regions_are : (es : List Event) (r : Region) → Contains (regions_of es) r → IsRegionOf es r
regions_are [] r i = absurd (of_nil r i)
regions_are (e ∷ es) r i = by (acquired_mutex e.kind) i (regions_are es r)
  where
    new : (m : ℕ) → record { mutex = m; «from» = e.step; to = release_step m es } ≡ r → IsRegionOf (e ∷ es) r
    new m same = record {
      taken = subst (λ n. IsStepOf (e ∷ es) n) (ap (λ (s : Region). s.«from») same) (first_of e es);
      left = λ k to. one_more e es k (left_is_step m k es (ap (λ (s : Region). s.to) same ∙ to));
    }

    by : (o : Option ℕ) → Contains (cons_option (option_map (λ m. record { mutex = m; «from» = e.step; to = release_step m es }) o) (regions_of es)) r
        → (Contains (regions_of es) r → IsRegionOf es r) → IsRegionOf (e ∷ es) r
    by None j later = region_more e es r (later j)
    by (Some m) j later = elim (of_cons r (record { mutex = m; «from» = e.step; to = release_step m es }) (regions_of es) j) [
      | inl same ↦ new m same
      | inr rest ↦ region_more e es r (later rest)
    ]

record IsSleepOf (es : List Event) (s : Sleep) : Type 0 where
  slept : IsStepOf es s.step
  woken : (k : ℕ) → s.wake ≡ Some k → IsStepOf es k

sleep_more : (e : Event) (es : List Event) (s : Sleep) → IsSleepOf es s → IsSleepOf (e ∷ es) s
sleep_more e es s o = record { slept = one_more e es s.step o.slept; woken = λ k at. one_more e es k (o.woken k at) }

next_is_step : (es : List Event) (k : ℕ) → option_map (λ (w : Event). w.step) (slice_get es 0) ≡ Some k → IsStepOf es k
next_is_step [] k is = absurd (none-some k is)
next_is_step (e ∷ es) k is = subst (λ n. IsStepOf (e ∷ es) n) (same_Some e.step k is) (first_of e es)

sleeps_are : (es : List Event) (s : Sleep) → Contains (sleeps_of es) s → IsSleepOf es s
sleeps_are [] s i = absurd (of_nil s i)
sleeps_are (e ∷ es) s i = by (sleep_by e.step (slice_get es 0) e.kind) refl i (sleeps_are es s)
  where
    new : (x : Sleep) → sleep_by e.step (slice_get es 0) e.kind ≡ Some x → x ≡ s → IsSleepOf (e ∷ es) s
    new x is same = of_kind e.kind is
      where
        told : (c m : ℕ) → Some (record { step = e.step; condition = c; mutex = m; wake = option_map (λ (w : Event). w.step) (slice_get es 0) }) ≡ Some x
            → IsSleepOf (e ∷ es) s
        told c m here =
            let own : record { step = e.step; condition = c; mutex = m; wake = option_map (λ (w : Event). w.step) (slice_get es 0) } ≡ s =
            same_Some _ x here ∙ same in
            record {
              slept = subst (λ n. IsStepOf (e ∷ es) n) (ap (λ (y : Sleep). y.step) own) (first_of e es);
              woken = λ k at. one_more e es k (next_is_step es k (ap (λ (y : Sleep). y.wake) own ∙ at));
            }

        of_kind : (k : EventKind) → sleep_by e.step (slice_get es 0) k ≡ Some x → IsSleepOf (e ∷ es) s
        of_kind (kind.Sleep c m) h = told c m h
        of_kind kind.Load h = absurd (none-some x h)
        of_kind kind.Store h = absurd (none-some x h)
        of_kind kind.Exchange h = absurd (none-some x h)
        of_kind (kind.Lock m) h = absurd (none-some x h)
        of_kind (kind.Unlock m) h = absurd (none-some x h)
        of_kind (kind.Wake c m) h = absurd (none-some x h)
        of_kind (kind.Signal c) h = absurd (none-some x h)
        of_kind (kind.Broadcast c) h = absurd (none-some x h)
        of_kind (kind.Create c) h = absurd (none-some x h)
        of_kind (kind.Join c) h = absurd (none-some x h)
        of_kind kind.Fence h = absurd (none-some x h)
        of_kind kind.Exit h = absurd (none-some x h)
        of_kind kind.Fail h = absurd (none-some x h)

    by : (o : Option Sleep) → sleep_by e.step (slice_get es 0) e.kind ≡ o → Contains (cons_option o (sleeps_of es)) s
        → (Contains (sleeps_of es) s → IsSleepOf es s) → IsSleepOf (e ∷ es) s
    by None is j later = sleep_more e es s (later j)
    by (Some x) is j later = elim (of_cons s x (sleeps_of es) j) [
      | inl same ↦ new x is same
      | inr rest ↦ sleep_more e es s (later rest)
    ]

create_is_step : (k : EventKind) (step : ℕ) (l : Link) → create_by step k ≡ Some l → step ≡ l.step
create_is_step (kind.Create c) step l h = ap (λ (y : Link). y.step) (same_Some _ l h)
create_is_step kind.Load step l h = absurd (none-some l h)
create_is_step kind.Store step l h = absurd (none-some l h)
create_is_step kind.Exchange step l h = absurd (none-some l h)
create_is_step (kind.Lock m) step l h = absurd (none-some l h)
create_is_step (kind.Unlock m) step l h = absurd (none-some l h)
create_is_step (kind.Sleep c m) step l h = absurd (none-some l h)
create_is_step (kind.Wake c m) step l h = absurd (none-some l h)
create_is_step (kind.Signal c) step l h = absurd (none-some l h)
create_is_step (kind.Broadcast c) step l h = absurd (none-some l h)
create_is_step (kind.Join c) step l h = absurd (none-some l h)
create_is_step kind.Fence step l h = absurd (none-some l h)
create_is_step kind.Exit step l h = absurd (none-some l h)
create_is_step kind.Fail step l h = absurd (none-some l h)

join_is_step : (k : EventKind) (step : ℕ) (l : Link) → join_by step k ≡ Some l → step ≡ l.step
join_is_step (kind.Join c) step l h = ap (λ (y : Link). y.step) (same_Some _ l h)
join_is_step kind.Load step l h = absurd (none-some l h)
join_is_step kind.Store step l h = absurd (none-some l h)
join_is_step kind.Exchange step l h = absurd (none-some l h)
join_is_step (kind.Lock m) step l h = absurd (none-some l h)
join_is_step (kind.Unlock m) step l h = absurd (none-some l h)
join_is_step (kind.Sleep c m) step l h = absurd (none-some l h)
join_is_step (kind.Wake c m) step l h = absurd (none-some l h)
join_is_step (kind.Signal c) step l h = absurd (none-some l h)
join_is_step (kind.Broadcast c) step l h = absurd (none-some l h)
join_is_step (kind.Create c) step l h = absurd (none-some l h)
join_is_step kind.Fence step l h = absurd (none-some l h)
join_is_step kind.Exit step l h = absurd (none-some l h)
join_is_step kind.Fail step l h = absurd (none-some l h)

creates_are : (es : List Event) (l : Link) → Contains (creates_of es) l → IsStepOf es l.step
creates_are es l i =
    let o = of_filter_map (λ (e : Event). create_by e.step e.kind) l es i in
    (o.0, o.1, create_is_step o.0.kind o.0.step l o.2)

joins_are : (es : List Event) (l : Link) → Contains (joins_of es) l → IsStepOf es l.step
joins_are es l i =
    let o = of_filter_map (λ (e : Event). join_by e.step e.kind) l es i in
    (o.0, o.1, join_is_step o.0.kind o.0.step l o.2)

-- ---- events rise

-- the steps of events rise, from a number on
abbrev RiseFrom : ℕ → List Event → Type 0
RiseFrom n [] = Unit {0}
RiseFrom n (e ∷ es) = (n ≤ e.step) × RiseFrom (e.step + 1) es

rise_earlier : (n m : ℕ) (es : List Event) → n ≤ m → RiseFrom m es → RiseFrom n es
rise_earlier n m [] up r = tt
rise_earlier n m (e ∷ es) up r = (omega (arith, up, r.0), r.1)

step_is : (o : Option EventKind) (e : Event) (k l bars : ℕ) → option_map (λ x. record { step = k; line = l; kind = x; bars = bars }) o ≡ Some e → k ≡ e.step
step_is None e k l bars h = absurd (none-some e h)
step_is (Some x) e k l bars h = ap (λ (y : Event). y.step) (same_Some _ e h)

event_rises : (code : Code) (f k : ℕ) (m : Marked) (es : List Event) → m.number ≡ k → RiseFrom (k + 1) es → RiseFrom k (cons_option (event_of code f m) es)
event_rises code f k m es at rest = by (event_of code f m) refl
  where
    by : (o : Option Event) → event_of code f m ≡ o → RiseFrom k (cons_option o es)
    by None is = rise_earlier k (k + 1) es (omega arith) rest
    by (Some e) is =
        let same : m.number ≡ e.step = step_is (kind_with m.marks m.step.instr m.fails) e m.number _ m.marks.bars is in
        (omega (arith, same, at), subst (λ n. RiseFrom (n + 1) es) (sym at ∙ same) rest)

events_rise : (code : Code) (f : ℕ) (fails : Bool) (k : ℕ) (t : Marks) (steps : List Step)
    → RiseFrom k (filter_map (event_of code f) (marked_from fails k t steps))
events_rise code f fails k t [] = tt
events_rise code f fails k t (s ∷ steps) =
    event_rises code f k (record { number = k; step = s; fails = fails && length steps == 0; marks = t })
    (filter_map (event_of code f) (marked_from fails (k + 1) (marks_after_instr t s.instr) steps)) refl (events_rise code f fails (k + 1) (marks_after_instr t s.instr) steps)

rise_above : (n k : ℕ) (es : List Event) (x : Event) → RiseFrom n es → slice_get es k ≡ Some x → n ≤ x.step
rise_above n k [] x r at = absurd (none-some x at)
rise_above n zero (e ∷ es) x r at = omega (arith, r.0, ap (λ (y : Event). y.step) (same_Some e x at))
rise_above n (suc k) (e ∷ es) x r at = omega (arith, r.0, rise_above (e.step + 1) k es x r.1 at)

rise_between : (n j k : ℕ) (es : List Event) (x y : Event) → RiseFrom n es → slice_get es j ≡ Some x → slice_get es k ≡ Some y → j < k
    → x.step < y.step
rise_between n j k [] x y r at to less = absurd (none-some x at)
rise_between n j zero (e ∷ es) x y r at to less = absurd (omega (arith, less))
rise_between n zero (suc k) (e ∷ es) x y r at to less =
    omega (arith, rise_above (e.step + 1) k es y r.1 to, ap (λ (z : Event). z.step) (same_Some e x at))
rise_between n (suc j) (suc k) (e ∷ es) x y r at to less = rise_between (e.step + 1) j k es x y r.1 at to (omega (arith, less))

-- ---- all threads

-- the parts of a walk come from its events
record IsWalk (q : Walk) : Type 0 where
  regions : q.regions ≡ regions_of q.events
  sleeps : q.sleeps ≡ sleeps_of q.events
  creates : q.creates ≡ creates_of q.events
  joins : q.joins ≡ joins_of q.events
  rise : RiseFrom 0 q.events

walk_is : (code : Code) (log : Log) (t : ThreadPath) → IsWalk (walk_of code log t)
walk_is code log t = record {
  regions = refl;
  sleeps = refl;
  creates = refl;
  joins = refl;
  rise =
      events_rise code (function_in code log t) (is_failing (ending_of log t.name)) 0 (marks_at_start code (function_in code log t))
      (steps_at code (function_in code log t) (places_in code log t.name (function_in code log t)));
}

mapped_at : (code : Code) (log : Log) (ts : List ThreadPath) (k : ℕ) (q : Walk) → slice_get (map (walk_of code log) ts) k ≡ Some q → IsWalk q
mapped_at code log [] k q at = absurd (none-some q at)
mapped_at code log (t ∷ ts) zero q at = subst IsWalk (same_Some (walk_of code log t) q at) (walk_is code log t)
mapped_at code log (t ∷ ts) (suc k) q at = mapped_at code log ts k q at

counted : (code : Code) (log : Log) (t : ℕ) (ts : List ThreadPath)
    → sum (map (λ u. length (walk_of code log u).events) ts) ≡ length (all_from (λ w. w.events) t (map (walk_of code log) ts))
counted code log t [] = refl
counted code log t (u ∷ ts) =
    let own = (walk_of code log u).events in
    let placed : List (Placed Event) = placed_in t own in
    let long : length placed ≡ length own = length-map own (λ x. record { thread = t; it = x }) in
    let later = all_from (λ w. w.events) (t + 1) (map (walk_of code log) ts) in
    sum_by-cons (λ n. n) (length own) (map (λ (x : ThreadPath). length (walk_of code log x).events) ts) ∙ ap (λ n. length own + n) (counted code log (t + 1) ts) ∙ ap (λ n. n + length later) (sym long) ∙ sym (length-append placed later)

whole_of : (code : Code) (log : Log) → AreWhole (paths_of code log)
whole_of code log = record {
  counted = counted code log 0 log.threads;
  rise = λ t j k q x y at xs ys less. rise_between 0 j k q.events x y (mapped_at code log log.threads t q at).rise xs ys less;
  taken = λ t r h. let o = regions_of_walk t r h in step_in t h.0 r.«from» h.1 o.taken;
  left = λ t k r h to. let o = regions_of_walk t r h in step_in t h.0 k h.1 (o.left k to);
  slept = λ t s h. let o = sleeps_of_walk t s h in step_in t h.0 s.step h.1 o.slept;
  woken = λ t k s h at. let o = sleeps_of_walk t s h in step_in t h.0 k h.1 (o.woken k at);
  created = λ t l h.
      step_in t h.0 l.step h.1 (creates_are h.0.events l (subst (λ ls. Contains ls l) (mapped_at code log log.threads t h.0 h.1).creates h.2));
  joined = λ t l h.
      step_in t h.0 l.step h.1 (joins_are h.0.events l (subst (λ ls. Contains ls l) (mapped_at code log log.threads t h.0 h.1).joins h.2));
}
  where
    paths : Paths
    paths = paths_of code log

    step_in : (t : ℕ) (q : Walk) (k : ℕ) → slice_get paths.threads t ≡ Some q → IsStepOf q.events k → HasStep paths t k
    step_in t q k at s = (s.0, (q, at, s.1), s.2)

    regions_of_walk : (t : ℕ) (r : Region) (h : Has paths t (λ q. q.regions) r) → IsRegionOf h.0.events r
    regions_of_walk t r h = regions_are h.0.events r (subst (λ rs. Contains rs r) (mapped_at code log log.threads t h.0 h.1).regions h.2)

    sleeps_of_walk : (t : ℕ) (s : Sleep) (h : Has paths t (λ q. q.sleeps) s) → IsSleepOf h.0.events s
    sleeps_of_walk t s h = sleeps_are h.0.events s (subst (λ ss. Contains ss s) (mapped_at code log log.threads t h.0 h.1).sleeps h.2)

pub whole : (code : Code) (paths : Paths) → ArePaths code paths → AreWhole paths
whole code paths is = subst AreWhole (sym is.are) (whole_of code is.log)
