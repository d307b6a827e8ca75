-- The regions, sleeps, creates and joins of a path begin with its events.
use Rattle.std.proofs.Common.{◌≡◌, ◌∙◌, inl, inr, ℕ, zero, suc, ◌<◌, Bool, true, false, cond, ◌==◌}
use Rattle.std.proofs.Common.{List, [], ◌∷◌, Option, Some, None, refl, sym, ap, subst, arith}
use Rattle.std.specs.Prelude.{slice_get, option_map}
use Rattle.std.specs.List.{AllByRecursion as Each, cons_option}
use Rattle.std.specs.Option.{option_map_or}
use Rattle.std.proofs.lemmas.Option.{none-some, same_Some}
use Rattle.sym_steps.proofs.run_history.of_pending.In.{In, in_mapped}
use Rattle.condition_order.specs.path_walk.Events.{acquired_mutex, released_mutex, release_step, regions_of, sleep_by, sleeps_of, create_by, creates_of, join_by, joins_of}
use Rattle.condition_order.specs.path_walk.declared.event.Event.{Event}
use Rattle.condition_order.specs.path_walk.declared.event.EventKind.{EventKind}
use Rattle.condition_order.specs.path_walk.declared.event.EventKind.TheVariants as kind
use Rattle.condition_order.specs.path_walk.declared.event.Region.{Region}
use Rattle.condition_order.specs.path_walk.declared.event.Sleep.{Sleep}
use Rattle.sym_steps.proofs.path_laws.of_events.Lists.{in_place, each_in, each_of}
use Rattle.sym_steps.proofs.path_laws.of_events.Marked.{Rising}

behind : {X : Type 0} (o : Option X) (x : X) (xs : List X) → In x xs → In x (cons_option o xs)
behind None x xs i = i
behind (Some y) x xs i = inr i

-- Regions.

-- the region of an event that acquires a mutex
abbrev region_at : Event → List Event → ℕ → Region
region_at x later m = record { mutex = m; «from» = x.step; to = release_step m later }

-- the first step that releases a mutex is that of an event
left_after : (m : ℕ) (es : List Event) (j k : ℕ) → release_step m es ≡ Some k → Each (λ y. j < y.step) es → j < k
left_after m [] j k left each = absurd (none-some k left)
left_after m (e ∷ es) j k left each = by (option_map_or (λ l. l == m) (released_mutex e.kind) false) left (λ l. left_after m es j k l each.1)
  where
    by : (b : Bool) → cond b (Some e.step) (release_step m es) ≡ Some k → (release_step m es ≡ Some k → j < k) → j < k
    by true left rest = subst (λ i. j < i) (same_Some e.step k left) each.0
    by false left rest = rest left

-- a region of a mutex that begins with an event and ends later
pub record BeginsRegion (es : List Event) (x : Event) (m : ℕ) : Type 0 where
  pub region : Region
  pub there : In region (regions_of es)
  pub mutex : region.mutex ≡ m
  pub begins : region.«from» ≡ x.step
  pub ends : (k : ℕ) → region.to ≡ Some k → x.step < k

further_region : (e : Event) (es : List Event) (x : Event) (m : ℕ) → BeginsRegion es x m → BeginsRegion (e ∷ es) x m
further_region e es x m b = record {
  region = b.region;
  there = behind (option_map (region_at e es) (acquired_mutex e.kind)) b.region (regions_of es) b.there;
  mutex = b.mutex;
  begins = b.begins;
  ends = b.ends;
}

pub taken_region : (es : List Event) (x : Event) (m : ℕ) → Rising es → In x es → acquired_mutex x.kind ≡ Some m → BeginsRegion es x m
taken_region [] x m rise i takes_it = absurd i
taken_region (e ∷ es) x m rise (inl same) takes_it =
    let is : acquired_mutex e.kind ≡ Some m = ap (λ (y : Event). acquired_mutex y.kind) same ∙ takes_it in
    let step : e.step ≡ x.step = ap (λ (y : Event). y.step) same in
    record {
      region = region_at e es m;
      there = subst (λ o. In (region_at e es m) (cons_option o (regions_of es))) (sym (ap (option_map (region_at e es)) is)) (inl refl);
      mutex = refl;
      begins = step;
      ends = λ k left. subst (λ i. i < k) step (left_after m es e.step k left rise.0);
    }
taken_region (e ∷ es) x m rise (inr i) takes_it = further_region e es x m (taken_region es x m rise.1 i takes_it)

-- the event with which a region begins
pub record RegionEvent (es : List Event) (r : Region) : Type 0 where
  pub event : Event
  pub there : In event es
  pub step : event.step ≡ r.«from»
  pub takes_it : acquired_mutex event.kind ≡ Some r.mutex

pub region_event : (es : List Event) (r : Region) → In r (regions_of es) → RegionEvent es r
region_event [] r i = absurd i
region_event (e ∷ es) r i = by (acquired_mutex e.kind) refl i (λ j. later (region_event es r j))
  where
    later : RegionEvent es r → RegionEvent (e ∷ es) r
    later o = record { event = o.event; there = inr o.there; step = o.step; takes_it = o.takes_it }

    by : (o : Option ℕ) → acquired_mutex e.kind ≡ o → In r (cons_option (option_map (region_at e es) o) (regions_of es))
        → (In r (regions_of es) → RegionEvent (e ∷ es) r) → RegionEvent (e ∷ es) r
    by None is i rest = rest i
    by (Some m) is (inl same) rest =
        record { event = e; there = inl refl; step = ap (λ (g : Region). g.«from») same; takes_it = is ∙ ap (λ (g : Region). Some g.mutex) same }
    by (Some m) is (inr i) rest = rest i

-- Sleeps.

-- the event with which a sleep begins
pub record SleepEvent (es : List Event) (s : Sleep) : Type 0 where
  pub event : Event
  pub there : In event es
  pub step : event.step ≡ s.step
  pub sleeps : event.kind ≡ kind.Sleep s.condition s.mutex

pub sleep_event : (es : List Event) (s : Sleep) → In s (sleeps_of es) → SleepEvent es s
sleep_event [] s i = absurd i
sleep_event (e ∷ es) s i = by e.kind refl i (λ j. later (sleep_event es s j))
  where
    later : SleepEvent es s → SleepEvent (e ∷ es) s
    later o = record { event = o.event; there = inr o.there; step = o.step; sleeps = o.sleeps }

    by : (k : EventKind) → e.kind ≡ k → In s (cons_option (sleep_by e.step (slice_get es 0) k) (sleeps_of es))
        → (In s (sleeps_of es) → SleepEvent (e ∷ es) s) → SleepEvent (e ∷ es) s
    by (kind.Sleep c m) is (inl same) rest = record {
      event = e;
      there = inl refl;
      step = ap (λ (z : Sleep). z.step) same;
      sleeps = is ∙ ap (λ (z : Sleep). kind.Sleep z.condition z.mutex) same;
    }
    by (kind.Sleep c m) is (inr i) rest = rest i
    by k is i rest = rest i

-- the steps of sleeps rise
abbrev pub SleepsRise : List Sleep → Type 0
SleepsRise [] = Unit {0}
SleepsRise (s ∷ ss) = Each (λ z. s.step < z.step) ss × SleepsRise ss

pub sleeps_rise : (es : List Event) → Rising es → SleepsRise (sleeps_of es)
sleeps_rise [] rise = tt
sleeps_rise (e ∷ es) rise = by (sleep_by e.step (slice_get es 0) e.kind) (first e.kind) (sleeps_rise es rise.1)
  where
    first : (k : EventKind) (s : Sleep) → sleep_by e.step (slice_get es 0) k ≡ Some s → e.step ≡ s.step
    first (kind.Sleep c m) s is = ap (λ (z : Sleep). z.step) (same_Some _ s is)
    first k s is = absurd (none-some s is)

    by : (o : Option Sleep) → ((s : Sleep) → o ≡ Some s → e.step ≡ s.step) → SleepsRise (sleeps_of es) → SleepsRise (cons_option o (sleeps_of es))
    by None is rest = rest
    by (Some s) is rest = (
      each_of (λ z. s.step < z.step) (sleeps_of es) (λ z i.
          let o = sleep_event es z i in
          subst (λ j. j < z.step) (is s refl) (subst (λ j. e.step < j) o.step (each_in (λ y. e.step < y.step) o.event es rise.0 o.there))),
      rest,
    )

pub sleeps_rise_at : (ss : List Sleep) → SleepsRise ss → (j k : ℕ) (x y : Sleep) → slice_get ss j ≡ Some x → slice_get ss k ≡ Some y → j < k
    → x.step < y.step
sleeps_rise_at [] rise j k x y xj yk less = absurd (none-some x xj)
sleeps_rise_at (s ∷ ss) rise j zero x y xj yk less = absurd (omega (arith, less))
sleeps_rise_at (s ∷ ss) rise zero (suc k) x y xj yk less =
    subst (λ (z : Sleep). z.step < y.step) (same_Some s x xj) (each_in (λ z. s.step < z.step) y ss rise.0 (in_place y ss k yk))
sleeps_rise_at (s ∷ ss) rise (suc j) (suc k) x y xj yk less = sleeps_rise_at ss rise.1 j k x y xj yk (omega (arith, less))

-- Creates and joins.

pub created_link : (es : List Event) (x : Event) (k : ℕ) → In x es → x.kind ≡ kind.Create k → In (record { step = x.step; child = k }) (creates_of es)
created_link es x k i is = in_mapped (λ (e : Event). create_by e.step e.kind) x (record { step = x.step; child = k }) es i (ap (create_by x.step) is)

pub joined_link : (es : List Event) (x : Event) (k : ℕ) → In x es → x.kind ≡ kind.Join k → In (record { step = x.step; child = k }) (joins_of es)
joined_link es x k i is = in_mapped (λ (e : Event). join_by e.step e.kind) x (record { step = x.step; child = k }) es i (ap (join_by x.step) is)
