-- The links, regions and sleeps of a path begin and end with events of their kinds.
use Rattle.std.proofs.Common.{◌≡◌, ◌∙◌, inl, inr, ℕ, ◌==◌, Bool, true, false, cond, List, [], ◌∷◌, Option, Some, None, refl, ap, ap₂, subst}
use Rattle.std.specs.Prelude.{slice_get, option_map, option_and_then}
use Rattle.std.specs.Option.{option_map_or}
use Rattle.std.specs.List.{Contains, cons_option, last_or}
use Rattle.std.proofs.lemmas.Bool.{eqb-true}
use Rattle.std.proofs.lemmas.Option.{none-some, same_Some}
use Rattle.sym_events.specs.tc_base.Names.{Name}
use Rattle.sym_events.specs.tc_base.declared.request.Request.{Request}
use Rattle.sym_events.specs.tc_base.declared.request.Request.TheVariants.{Silent, Bar, Acquire, BeginWait, EndWait, WakeOne, WakeAll, Start, Await}
use Rattle.sym_events.specs.path_walk.Events.{acquired_mutex, released_mutex, release_step, regions_of, sleep_by, sleeps_of, create_by, creates_of, join_by, joins_of}
use Rattle.sym_events.specs.path_walk.declared.event.Event.{Event}
use Rattle.sym_events.specs.path_walk.declared.event.EventKind.{EventKind}
use Rattle.sym_events.specs.path_walk.declared.event.EventKind.TheVariants as kind
use Rattle.sym_events.specs.path_walk.declared.event.Link.{Link}
use Rattle.sym_events.specs.path_walk.declared.event.Region.{Region}
use Rattle.sym_events.specs.path_walk.declared.event.Sleep.{Sleep}
use Rattle.sym_steps.specs.path_laws.Deeds.{kind_of}
use Rattle.sym_steps.proofs.path_laws.of_stuck.Rests.{mapped_from}
use Rattle.sym_events.proofs.order_events.Lists.{of_nil, of_cons, in_front, in_back, of_filter_map}

-- the event of a step, whose kind has this property
pub record IsEventOf (es : List Event) (k : ℕ) (P : EventKind → Type 0) : Type 0 where
  pub event : Event
  pub among : Contains es event
  pub step : event.step ≡ k
  pub kind : P event.kind

one_more : (e : Event) (es : List Event) (k : ℕ) (P : EventKind → Type 0) → IsEventOf es k P → IsEventOf (e ∷ es) k P
one_more e es k P x = record { event = x.event; among = in_back x.event e es x.among; step = x.step; kind = x.kind }

-- links
create_kind : (k : EventKind) (step : ℕ) (l : Link) → create_by step k ≡ Some l → (step ≡ l.step) × (k ≡ kind.Create l.child)
create_kind (kind.Create c) step l e =
    let same = same_Some (record { step = step; child = c }) l e in (ap (λ (x : Link). x.step) same, ap (λ (x : Link). kind.Create x.child) same)
create_kind kind.Load step l e = absurd (none-some l e)
create_kind k step l e = absurd (none-some l e)

join_kind : (k : EventKind) (step : ℕ) (l : Link) → join_by step k ≡ Some l → (step ≡ l.step) × (k ≡ kind.Join l.child)
join_kind (kind.Join c) step l e =
    let same = same_Some (record { step = step; child = c }) l e in (ap (λ (x : Link). x.step) same, ap (λ (x : Link). kind.Join x.child) same)
join_kind kind.Load step l e = absurd (none-some l e)
join_kind k step l e = absurd (none-some l e)

pub created_by : (es : List Event) (l : Link) → Contains (creates_of es) l → IsEventOf es l.step (λ k. k ≡ kind.Create l.child)
created_by es l i =
    let o = of_filter_map (λ (e : Event). create_by e.step e.kind) l es i in
    let is = create_kind o.0.kind o.0.step l o.2 in
    record { event = o.0; among = o.1; step = is.0; kind = is.1 }

pub joined_by : (es : List Event) (l : Link) → Contains (joins_of es) l → IsEventOf es l.step (λ k. k ≡ kind.Join l.child)
joined_by es l i =
    let o = of_filter_map (λ (e : Event). join_by e.step e.kind) l es i in
    let is = join_kind o.0.kind o.0.step l o.2 in
    record { event = o.0; among = o.1; step = is.0; kind = is.1 }

-- regions
first_left : (m k : ℕ) (es : List Event) → release_step m es ≡ Some k → IsEventOf es k (λ a. released_mutex a ≡ Some m)
first_left m k [] is = absurd (none-some k is)
first_left m k (e ∷ es) is = by (released_mutex e.kind) refl is (first_left m k es)
  where
    here : (l : ℕ) → released_mutex e.kind ≡ Some l → (b : Bool) → (l == m) ≡ b → cond b (Some e.step) (release_step m es) ≡ Some k
        → (release_step m es ≡ Some k → IsEventOf es k (λ a. released_mutex a ≡ Some m)) → IsEventOf (e ∷ es) k (λ a. released_mutex a ≡ Some m)
    here l left true same is later =
        record { event = e; among = in_front e es; step = same_Some e.step k is; kind = left ∙ ap (λ i. Some i) (eqb-true l m same) }
    here l left false same is later = one_more e es k (λ a. released_mutex a ≡ Some m) (later is)

    by : (o : Option ℕ) → released_mutex e.kind ≡ o → cond (option_map_or (λ l. l == m) o false) (Some e.step) (release_step m es) ≡ Some k
        → (release_step m es ≡ Some k → IsEventOf es k (λ a. released_mutex a ≡ Some m)) → IsEventOf (e ∷ es) k (λ a. released_mutex a ≡ Some m)
    by None left is later = one_more e es k (λ a. released_mutex a ≡ Some m) (later is)
    by (Some l) left is later = here l left (l == m) refl is later

pub record IsRegionOf (es : List Event) (r : Region) : Type 0 where
  pub taken : IsEventOf es r.«from» (λ a. acquired_mutex a ≡ Some r.mutex)
  pub left : (k : ℕ) → r.to ≡ Some k → IsEventOf es k (λ a. released_mutex a ≡ Some r.mutex)

abbrev region_at : Event → List Event → ℕ → Region
region_at e later m = record { mutex = m; «from» = e.step; to = release_step m later }

pub region_of_events : (es : List Event) (r : Region) → Contains (regions_of es) r → IsRegionOf es r
region_of_events [] r i = absurd (of_nil r i)
region_of_events (e ∷ es) r i = by (acquired_mutex e.kind) refl i (region_of_events es r)
  where
    new : (m : ℕ) → acquired_mutex e.kind ≡ Some m → region_at e es m ≡ r → IsRegionOf (e ∷ es) r
    new m taken same =
        subst (IsRegionOf (e ∷ es)) same
        (record {
          taken = record { event = e; among = in_front e es; step = refl; kind = taken };
          left = λ k to. one_more e es k (λ a. released_mutex a ≡ Some m) (first_left m k es to);
        })

    behind : IsRegionOf es r → IsRegionOf (e ∷ es) r
    behind o = record {
      taken = one_more e es r.«from» (λ a. acquired_mutex a ≡ Some r.mutex) o.taken;
      left = λ k to. one_more e es k (λ a. released_mutex a ≡ Some r.mutex) (o.left k to);
    }

    by : (o : Option ℕ) → acquired_mutex e.kind ≡ o → Contains (cons_option (option_map (region_at e es) o) (regions_of es)) r
        → (Contains (regions_of es) r → IsRegionOf es r) → IsRegionOf (e ∷ es) r
    by None taken j later = behind (later j)
    by (Some m) taken j later =
        elim (of_cons r (region_at e es m) (regions_of es) j) [
          | inl same ↦ new m taken same
          | inr more ↦ behind (later more)
        ]

-- sleeps
pub slept_by : (es : List Event) (s : Sleep) → Contains (sleeps_of es) s → IsEventOf es s.step (λ k. k ≡ kind.Sleep s.condition s.mutex)
slept_by [] s i = absurd (of_nil s i)
slept_by (e ∷ es) s i = by e.kind refl i (slept_by es s)
  where
    Sleeps : List Event → Type 0
    Sleeps xs = IsEventOf xs s.step (λ k. k ≡ kind.Sleep s.condition s.mutex)

    by : (k : EventKind) → e.kind ≡ k → Contains (cons_option (sleep_by e.step (slice_get es 0) k) (sleeps_of es)) s
        → (Contains (sleeps_of es) s → Sleeps es) → Sleeps (e ∷ es)
    by (kind.Sleep c m) is j later =
        elim (of_cons s (record { step = e.step; condition = c; mutex = m; wake = option_map (λ (w : Event). w.step) (slice_get es 0) }) (sleeps_of es) j) [
          | inl same ↦ record {
            event = e;
            among = in_front e es;
            step = ap (λ (x : Sleep). x.step) same;
            kind = is ∙ ap (λ (x : Sleep). kind.Sleep x.condition x.mutex) same;
          }
          | inr more ↦ one_more e es s.step (λ k. k ≡ kind.Sleep s.condition s.mutex) (later more)
        ]
    by kind.Load is j later = one_more e es s.step (λ k. k ≡ kind.Sleep s.condition s.mutex) (later j)
    by k is j later = one_more e es s.step (λ k. k ≡ kind.Sleep s.condition s.mutex) (later j)

-- The kinds of events of requests.

abbrev child_number : Option Name → Option ℕ
child_number other = option_and_then (last_or None) other

pub start_is : (r : Request) (other : Option Name) (n : ℕ) → kind_of r other ≡ Some (kind.Create n)
    → (f : ℕ) × (r ≡ Start f) × (option_and_then (last_or None) other ≡ Some n)
start_is (Start f) other n e =
    let m = mapped_from kind.Create (child_number other) (kind.Create n) e in
    let same : m.0 ≡ n = cc in
    (f, refl, m.1 ∙ ap (λ i. Some i) same)
start_is Silent other n e = absurd (none-some (kind.Create n) e)
start_is r other n e = absurd cc

pub await_is : (r : Request) (other : Option Name) (n : ℕ) → kind_of r other ≡ Some (kind.Join n) → r ≡ Await n
await_is (Await k) other n e = let same : k ≡ n = cc in ap Await same
await_is (Start f) other n e =
    let m = mapped_from kind.Create (child_number other) (kind.Join n) e in let bad : kind.Create m.0 ≡ kind.Join n = m.2 in absurd cc
await_is Silent other n e = absurd (none-some (kind.Join n) e)
await_is r other n e = absurd cc

pub begin_is : (r : Request) (other : Option Name) (c m : ℕ) → kind_of r other ≡ Some (kind.Sleep c m) → r ≡ BeginWait c m
begin_is (BeginWait d l) other c m e = let one : d ≡ c = cc in let two : l ≡ m = cc in ap₂ BeginWait one two
begin_is (Start f) other c m e =
    let x = mapped_from kind.Create (child_number other) (kind.Sleep c m) e in let bad : kind.Create x.0 ≡ kind.Sleep c m = x.2 in absurd cc
begin_is Silent other c m e = absurd (none-some (kind.Sleep c m) e)
begin_is r other c m e = absurd cc

pub signal_is : (r : Request) (other : Option Name) (c : ℕ) → kind_of r other ≡ Some (kind.Signal c) → r ≡ WakeOne c
signal_is (WakeOne d) other c e = let same : d ≡ c = cc in ap WakeOne same
signal_is (Start f) other c e =
    let x = mapped_from kind.Create (child_number other) (kind.Signal c) e in let bad : kind.Create x.0 ≡ kind.Signal c = x.2 in absurd cc
signal_is Silent other c e = absurd (none-some (kind.Signal c) e)
signal_is r other c e = absurd cc

pub broadcast_is : (r : Request) (other : Option Name) (c : ℕ) → kind_of r other ≡ Some (kind.Broadcast c) → r ≡ WakeAll c
broadcast_is (WakeAll d) other c e = let same : d ≡ c = cc in ap WakeAll same
broadcast_is (Start f) other c e =
    let x = mapped_from kind.Create (child_number other) (kind.Broadcast c) e in let bad : kind.Create x.0 ≡ kind.Broadcast c = x.2 in absurd cc
broadcast_is Silent other c e = absurd (none-some (kind.Broadcast c) e)
broadcast_is r other c e = absurd cc

-- a request that acquires a mutex
pub data Takes (m : ℕ) (r : Request) : Type 0 where
  Locks : r ≡ Acquire m → Takes m r
  Wakes : (c : ℕ) → r ≡ EndWait c m → Takes m r

pub taker_is : (r : Request) (other : Option Name) (k : EventKind) (m : ℕ) → kind_of r other ≡ Some k → acquired_mutex k ≡ Some m → Takes m r
taker_is (Acquire l) other k m e t =
    let same : l ≡ m = same_Some l m (ap acquired_mutex (same_Some (kind.Lock l) k e) ∙ t) in Locks (ap Acquire same)
taker_is (EndWait c l) other k m e t =
    let same : l ≡ m = same_Some l m (ap acquired_mutex (same_Some (kind.Wake c l) k e) ∙ t) in Wakes c (ap (EndWait c) same)
taker_is (Start f) other k m e t =
    let x = mapped_from kind.Create (child_number other) k e in absurd (none-some m (ap acquired_mutex x.2 ∙ t))
taker_is Silent other k m e t = absurd (none-some k e)
taker_is Bar other k m e t = absurd (none-some k e)
taker_is r other k m e t = absurd (none-some m (ap acquired_mutex (same_Some _ k e) ∙ t))
