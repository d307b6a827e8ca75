-- A sleep lasts until its ender has come.
use Rattle.std.proofs.Common.{◌≡◌, ◌↔◌, ◌⊎◌, ◌∙◌, inl, inr, ℕ, ◌+◌, ◌<◌, ◌≤◌, ◌==◌, ◌&&◌, ℤ, Bool, true, false, cond, List, [], ◌∷◌, ◌++◌}
use Rattle.std.proofs.Common.{Option, Some, None, refl, sym, ap, ap₂, subst, arith, append_assoc}
use Rattle.std.specs.Prelude.{slice_get, option_map, option_and_then}
use Rattle.std.specs.FinSet as set
use Rattle.std.specs.List.{Contains, filter_map, cons_option, last_or}
use Rattle.std.proofs.lemmas.Bool.{false≢true, true≢false, cases_lt, and_parts, eqb-true, eq-eqb}
use Rattle.std.proofs.lemmas.Option.{none-some, same_Some}
use Rattle.condition_order.specs.tc_base.Names.{Name}
use Rattle.condition_order.specs.tc_base.declared.request.Request.{Request}
use Rattle.condition_order.specs.tc_base.declared.request.Request.TheVariants.{Silent, BeginWait, WakeOne, WakeAll, Start}
use Rattle.condition_order.proofs.run_laws.Names.{is_same, same_self}
use Rattle.sym_steps.specs.run_history.History.{Deed, Did, Drained, same}
use Rattle.sym_steps.specs.run_history.Last.{waits_by}
use Rattle.sym_steps.specs.run_history.Told.{waiting_in, is_step_of, steps_in}
use Rattle.sym_steps.proofs.run_history.Lists.{filter_map-push, count-push}
use Rattle.sym_steps.specs.run_follows.Follow.{MayFollow}
use Rattle.sym_steps.proofs.run_history.of_pending.Apart.{last_or_before}
use Rattle.sym_steps.proofs.run_history.of_pending.In.{In}
use Rattle.condition_order.specs.path_walk.Paths.{Walk, Paths, paths_of}
use Rattle.condition_order.specs.path_walk.declared.event.Event.{Event}
use Rattle.condition_order.specs.path_walk.declared.event.EventKind.{EventKind}
use Rattle.condition_order.specs.path_walk.declared.event.EventKind.TheVariants as kind
use Rattle.condition_order.specs.path_walk.declared.event.Sleep.{Sleep}
use Rattle.sym_steps.specs.path_laws.Setting.{Setting}
use Rattle.sym_steps.specs.path_laws.Deeds.{kind_of}
use Rattle.sym_steps.specs.path_laws.history.Along.{IsAlongPaths, IsThread, path_thread}
use Rattle.sym_steps.specs.path_laws.events.Done.{IsDoneIn, IsAsleepIn}
use Rattle.sym_steps.proofs.path_laws.of_events.Events.{event_done, done_event}
use Rattle.sym_steps.proofs.path_laws.of_events.Lists.{in_contains, contains_in}
use Rattle.condition_order.specs.sym_terms.declared.node.Node.{Node}
use Rattle.condition_order.specs.order_formula.Worlds.{World, position}
use Rattle.condition_order.specs.order_formula.declared.group.Group.TheVariants.{Condition}
use Rattle.condition_order.specs.lawful_order.Events.{Placed, all_events, all_sleeps, number_of, place_of, ender_of}
use Rattle.condition_order.specs.lawful_order.Conditions.{is_signal, is_broadcast}
use Rattle.condition_order.specs.lawful_order.Memory.{is_store}
use Rattle.world_plan.specs.Going.{IsLawfulWorld, HasGone, NextEvent, SleepUntilEnded, is_pending, place}
use Rattle.world_plan.specs.Plan.{woken_by, other_of}
use Rattle.world_plan.proofs.Numbers.{event_numbered, number_is}
use Rattle.world_plan.proofs.Places.{same_event}
use Rattle.world_plan.proofs.Threads.{one_thread}
use Rattle.plan_runs.proofs.of_waits.Begun.{SleepEvent}
use Rattle.plan_runs.proofs.of_waits.Sleepers.{owner, to_wake, wakes_none, is_signal_at, is_broadcast_at, begins_with, begun_before, before_begun, one_sleep}
use Rattle.plan_runs.proofs.of_waits.Waking.{still, waits, waits_no_more, lasts}
use Rattle.plan_runs.proofs.of_waits.Worlds.{are_whole}
use Rattle.plan_runs.proofs.Histories.{history_of}

-- A sleep, and one more deed.

-- a deed begins a sleep of a thread
record BeginsSleep (d : Deed) (n : Name) (s : Sleep) : Type 0 where
  took : ℤ
  other : Option Name
  is : d ≡ Did n s.step (BeginWait s.condition s.mutex) took other

begins_last : (h : List Deed) (d : Deed) (n : Name) (s : Sleep) → BeginsSleep d n s → IsAsleepIn (h ++ d ∷ []) n s
begins_last h d n s b =
    record { older = h; newer = []; took = b.took; other = b.other; there = ap (λ e. h ++ e ∷ []) b.is; lasts = refl }

-- a sleep lasts through a deed that doesn't concern it
sleeps_on : (h : List Deed) (d : Deed) (n : Name) (s : Sleep) → waits_by s.condition n d ≡ None → IsAsleepIn h n s → IsAsleepIn (h ++ d ∷ []) n s
sleeps_on h d n s none a = record {
  older = a.older;
  newer = a.newer ++ d ∷ [];
  took = a.took;
  other = a.other;
  there = ap (λ g. g ++ d ∷ []) a.there ∙ append_assoc a.older (Did n s.step (BeginWait s.condition s.mutex) a.took a.other ∷ a.newer) (d ∷ []);
  lasts = filter_map-push (waits_by s.condition n) a.newer d ∙ ap₂ (λ xs o. xs ++ cons_option o []) a.lasts none;
}

nil_parts : {X : Type 0} (xs : List X) (o : Option X) → xs ++ cons_option o [] ≡ [] → (xs ≡ []) × (o ≡ None)
nil_parts [] None e = (refl, refl)
nil_parts [] (Some x) e = absurd cc
nil_parts (x ∷ xs) o e = absurd cc

-- a sleep after a deed lasted before it, or begins with it
lasted : (h : List Deed) (d : Deed) (n : Name) (s : Sleep) → IsAsleepIn (h ++ d ∷ []) n s
    → BeginsSleep d n s ⊎ (IsAsleepIn h n s × (waits_by s.condition n d ≡ None))
lasted h d n s a =
    let deed = Did n s.step (BeginWait s.condition s.mutex) a.took a.other in
    elim (last_or_before h d a.older deed a.newer a.there) [
      | inl last ↦ inl (record { took = a.took; other = a.other; is = last.1 })
      | inr b ↦
          let f = waits_by s.condition n in
          let parts = nil_parts (filter_map f b.rest) (f d) (sym (filter_map-push f b.rest d) ∙ ap (filter_map f) (sym b.ends) ∙ a.lasts) in
          inr (record { older = a.older; newer = b.rest; took = a.took; other = a.other; there = b.there; lasts = parts.0 }, parts.1)
    ]

-- Requests, by the events that they are.

begin_is : (r : Request) (other : Option Name) (c m : ℕ) → kind_of r other ≡ Some (kind.Sleep c m) → r ≡ BeginWait c m
begin_is (BeginWait d l) other c m e = let same : kind.Sleep d l ≡ kind.Sleep c m = same_Some _ _ e in let is : BeginWait d l ≡ BeginWait c m = cc in is
begin_is (Start f) other c m e = absurd (by (option_and_then (last_or None) other) e)
  where
    by : (o : Option ℕ) → option_map kind.Create o ≡ Some (kind.Sleep c m) → ⊥
    by None e = none-some (kind.Sleep c m) e
    by (Some k) e = cc
begin_is r other c m e = absurd cc

signal_is : (r : Request) (other : Option Name) (c : ℕ) → kind_of r other ≡ Some (kind.Signal c) → r ≡ WakeOne c
signal_is (WakeOne d) other c e = let same : kind.Signal d ≡ kind.Signal c = same_Some _ _ e in let is : WakeOne d ≡ WakeOne c = cc in is
signal_is (Start f) other c e = absurd (by (option_and_then (last_or None) other) e)
  where
    by : (o : Option ℕ) → option_map kind.Create o ≡ Some (kind.Signal c) → ⊥
    by None e = none-some (kind.Signal c) e
    by (Some k) e = cc
signal_is r other c e = absurd cc

broadcast_is : (r : Request) (other : Option Name) (c : ℕ) → kind_of r other ≡ Some (kind.Broadcast c) → r ≡ WakeAll c
broadcast_is (WakeAll d) other c e = let same : kind.Broadcast d ≡ kind.Broadcast c = same_Some _ _ e in let is : WakeAll d ≡ WakeAll c = cc in is
broadcast_is (Start f) other c e = absurd (by (option_and_then (last_or None) other) e)
  where
    by : (o : Option ℕ) → option_map kind.Create o ≡ Some (kind.Broadcast c) → ⊥
    by None e = none-some (kind.Broadcast c) e
    by (Some k) e = cc
broadcast_is r other c e = absurd cc

signals : (c : ℕ) (k : EventKind) → is_signal c k ≡ true → k ≡ kind.Signal c
signals c (kind.Signal d) e = ap (λ i. kind.Signal i) (eqb-true d c e)
signals c k e = absurd (false≢true e)

broadcasts : (c : ℕ) (k : EventKind) → is_broadcast c k ≡ true → k ≡ kind.Broadcast c
broadcasts c (kind.Broadcast d) e = ap (λ i. kind.Broadcast i) (eqb-true d c e)
broadcasts c k e = absurd (false≢true e)

-- The effect of a step on a wait.

is_some_when : (b x v : Bool) → cond b (Some x) None ≡ Some v → b ≡ true
is_some_when true x v e = refl
is_some_when false x v e = absurd (none-some v e)

-- a step that concerns a thread's wait begins a wait of its own thread, or ends that wait
data AboutWait (c : ℕ) (n q : Name) (r : Request) (other : Option Name) : Type 0 where
  Begins : (m : ℕ) → q ≡ n → r ≡ BeginWait c m → AboutWait c n q r other
  Wakes_it : r ≡ WakeOne c → other ≡ Some n → AboutWait c n q r other
  Wakes_all : r ≡ WakeAll c → AboutWait c n q r other

about : (c : ℕ) (n q : Name) (k : ℕ) (r : Request) (took : ℤ) (other : Option Name) (v : Bool) → waits_by c n (Did q k r took other) ≡ Some v
    → AboutWait c n q r other
about c n q k (BeginWait d m) took other v e =
    let both = and_parts (d == c) (same n q) (is_some_when (d == c && same n q) true v e) in
    Begins m (sym (is_same n q both.1)) (ap (λ i. BeginWait i m) (eqb-true d c both.0))
about c n q k (WakeOne d) took (Some u) v e =
    let both = and_parts (d == c) (same n u) (is_some_when (d == c && same n u) false v e) in
    Wakes_it (ap (λ i. WakeOne i) (eqb-true d c both.0)) (ap (λ i. Some i) (sym (is_same n u both.1)))
about c n q k (WakeOne d) took None v e = absurd (none-some v e)
about c n q k (WakeAll d) took other v e = Wakes_all (ap (λ i. WakeAll i) (eqb-true d c (is_some_when (d == c) false v e)))
about c n q k Silent took other v e = absurd (none-some v e)
about c n q k r took other v e = absurd (none-some v e)

-- a step that concerns a wait is an event other than a store
no_store : (c : ℕ) (n q : Name) (r : Request) (other : Option Name) → AboutWait c n q r other
    → (a : EventKind) × (kind_of r other ≡ Some a) × (is_store a ≡ false)
no_store c n q r other (Begins m own is) = (kind.Sleep c m, ap (λ x. kind_of x other) is, refl)
no_store c n q r other (Wakes_it is to) = (kind.Signal c, ap (λ x. kind_of x other) is, refl)
no_store c n q r other (Wakes_all is) = (kind.Broadcast c, ap (λ x. kind_of x other) is, refl)

-- the event of a deed
abbrev pub kind_done : Deed → Option EventKind
kind_done (Did n k r took other) = kind_of r other
kind_done (Drained n k c v) = None

module _ {B : Type 0} (setting : Setting B) (nodes : List Node) (w : World) (lawful : IsLawfulWorld setting nodes w) (p : ℕ) (h : List Deed)
    (gone : HasGone setting nodes w p h) where
  open setting use {machine, ops, bound, code, log}

  abbrev paths : Paths
  paths = paths_of code log

  -- the ender of a sleep has this position or a later one
  abbrev Until : ℕ → ℕ → Type 0
  Until j s = (g : ℕ) → ender_of w s ≡ Some g → j ≤ position w g

  one_later : (s : ℕ) → ((g : ℕ) → ender_of w s ≡ Some g → position w g ≡ p → ⊥) → Until p s ↔ Until (p + 1) s
  one_later s none = (
    λ all g ends.
        let least = all g ends in
        elim (cases_lt p (position w g)) [
          | inl less ↦ omega (arith, less)
          | inr most ↦ absurd (none g ends (omega (arith, least, most)))
        ],
    λ all g ends. omega (arith, all g ends),
  )

  -- an ender with the position of an event is that event
  module _ (t : ℕ) (q : Walk) (x : Event) (there : IsThread code log t q) (i : Contains q.events x) (at : place code log w t x ≡ p) where
    is_it : (g : ℕ) (e : Placed Event) → slice_get (all_events paths) g ≡ Some e → position w g ≡ p → (number_of paths t x.step ≡ g) × (x ≡ e.it)
    is_it g e is here =
        let whole = are_whole setting nodes w lawful in
        let o = event_numbered paths whole g e is in
        let number = number_is paths whole g e is in
        let same = same_event paths w lawful.world lawful.of.events whole t e.thread q o.0 x e.it there o.1 i o.2
        (at ∙ sym here ∙ ap (position w) (sym number)) in
        (ap₂ (number_of paths) same.0 (ap (λ (y : Event). y.step) same.1) ∙ number, same.1)

    ends_here : (s g : ℕ) (z : Placed Sleep) → slice_get (all_sleeps paths) s ≡ Some z → ender_of w s ≡ Some g → position w g ≡ p
        → (number_of paths t x.step ≡ g) × ((x.kind ≡ kind.Signal z.it.condition) ⊎ (x.kind ≡ kind.Broadcast z.it.condition))
    ends_here s g z is ends here =
        let c = z.it.condition in
        elim (lawful.of.enders s g c z (record { is = is; condition = refl }) ends) [
          | inl signal ↦
              let same = is_it g signal.event signal.is here in
              (same.0, inl (signals c x.kind (ap (λ (y : Event). is_signal c y.kind) same.1 ∙ signal.signals)))
          | inr broadcast ↦
              let same = is_it g broadcast.event broadcast.is here in
              (same.0, inr (broadcasts c x.kind (ap (λ (y : Event). is_broadcast c y.kind) same.1 ∙ broadcast.broadcasts)))
        ]

  module _ (d : Deed) (along : IsAlongPaths machine log (h ++ d ∷ [])) where
    abbrev after : List Deed
    after = h ++ d ∷ []

    -- a step has the next number of its thread
    next_number : (n : Name) (k : ℕ) (r : Request) (took : ℤ) (other : Option Name) → d ≡ Did n k r took other → k ≡ steps_in h n
    next_number n k r took other is = (subst (MayFollow ops.buffered bound code h) is (along.follow h [] d refl).1).number

    -- the deed does this event
    record IsNow (n : Name) (e : Event) : Type 0 where
      request : Request
      took : ℤ
      other : Option Name
      is : d ≡ Did n e.step request took other
      asks : kind_of request other ≡ Some e.kind

    -- an event that is done is done by the deed or before it
    done_now : (u : ℕ) (v : Walk) (e : Event) → IsThread code log u v → In e v.events → e.step < steps_in after v.name
        → (e.step < steps_in h v.name) ⊎ IsNow v.name e
    done_now u v e there i done =
        let o = event_done setting (record { deeds = after; fits = lawful.fits; along = along }) (path_thread u v there) e i done in
        elim (last_or_before h d o.older (Did v.name e.step o.request o.took o.other) o.newer o.there) [
          | inl last ↦ inr (record { request = o.request; took = o.took; other = o.other; is = last.1; asks = o.asks })
          | inr b ↦
              let before : IsDoneIn h v.name e.step e.kind =
              record { older = o.older; newer = b.rest; request = o.request; took = o.took; other = o.other; there = b.there; asks = o.asks } in
              inl (done_event setting (history_of lawful gone) (path_thread u v there) e.step e.kind before).4
        ]

    kind_now : (n : Name) (e : Event) → IsNow n e → kind_done d ≡ Some e.kind
    kind_now n e now = ap kind_done now.is ∙ now.asks

    module _ (s : ℕ) (z : Placed Sleep) (v : Walk) (is : slice_get (all_sleeps paths) s ≡ Some z) (there : IsThread code log z.thread v) where
      abbrev c : ℕ
      c = z.it.condition

      among : Contains v.sleeps z.it
      among = let o = owner paths s z is in subst (λ (y : Walk). Contains y.sleeps z.it) (same_Some o.walk v (sym o.there ∙ there)) o.among

      first : SleepEvent v.events z.it
      first = begins_with setting nodes w lawful z.thread v z.it there among

      -- a sleep has begun before the deed or begins with it
      begun_when : z.it.step < steps_in after v.name → (z.it.step < steps_in h v.name) ⊎ IsNow v.name first.event
      begun_when done =
          elim (done_now z.thread v first.event there first.there (subst (λ k. k < steps_in after v.name) (sym first.step) done)) [
            | inl before ↦ inl (subst (λ k. k < steps_in h v.name) first.step before)
            | inr now ↦ inr now
          ]

      -- a sleep that begins with the deed lasts
      begins_now : IsNow v.name first.event → IsAsleepIn after v.name z.it
      begins_now now =
          let request = begin_is now.request now.other c z.it.mutex (now.asks ∙ ap (λ a. Some a) first.sleeps) in
          begins_last h d v.name z.it
          (record {
            took = now.took;
            other = now.other;
            is = now.is ∙ ap₂ (λ k r. Did v.name k r now.took now.other) first.step request;
          })

      -- the ender of a sleep that begins with the deed comes later
      ends_after : IsNow v.name first.event → Until (p + 1) s
      ends_after now g ends =
          let order = (lawful.lawful.meets (Condition c)).ends s g z (record { is = is; condition = refl }) ends in
          let next = next_number v.name first.event.step now.request now.took now.other now.is in
          elim (cases_lt (place_of paths w z.thread z.it.step) p) [
            | inl before ↦
                let begun = before_begun setting nodes w lawful z.thread v z.it there among p h gone before in
                absurd (omega (arith, begun, next, first.step))
            | inr least ↦ omega (arith, least, order)
          ]

      module _ (begun : z.it.step < steps_in h v.name) where
        -- a sleep that has begun doesn't begin with the deed
        begins_no_more : BeginsSleep d v.name z.it → ⊥
        begins_no_more b = omega (arith, next_number v.name z.it.step (BeginWait c z.it.mutex) b.took b.other b.is, begun)

        lasts_on : waits_by c v.name d ≡ None → IsAsleepIn after v.name z.it ↔ IsAsleepIn h v.name z.it
        lasts_on none = (
          λ a. elim (lasted h d v.name z.it a) [
            | inl b ↦ absurd (begins_no_more b)
            | inr o ↦ o.0
          ],
          sleeps_on h d v.name z.it none,
        )

        lasts_no_more : (b : Bool) → waits_by c v.name d ≡ Some b → IsAsleepIn after v.name z.it → ⊥
        lasts_no_more b ended a =
            elim (lasted h d v.name z.it a) [
              | inl b ↦ begins_no_more b
              | inr o ↦ none-some b (sym o.1 ∙ ended)
            ]

        until : IsAsleepIn h v.name z.it ↔ Until p s
        until = gone.sleeps s z v is there begun

        untouched : waits_by c v.name d ≡ None → IsAsleepIn after v.name z.it ↔ Until p s
        untouched none = let on = lasts_on none in (λ a. until.0 (on.0 a), λ all. on.1 (until.1 all))

        untouched_later : waits_by c v.name d ≡ None → ((g : ℕ) → ender_of w s ≡ Some g → position w g ≡ p → ⊥)
            → IsAsleepIn after v.name z.it ↔ Until (p + 1) s
        untouched_later none not_here =
            let on = untouched none in
            let later = one_later s not_here in
            (λ a. later.0 (on.0 a), λ all. on.1 (later.1 all))

    -- The deed is a drain, a step that isn't an event, or a store that waits in a buffer.

    module _ (quiet : (e : EventKind) → kind_done d ≡ Some e → is_store e ≡ true) (silent : (c : ℕ) (n : Name) → waits_by c n d ≡ None) where
      quiet_begun : (s : ℕ) (z : Placed Sleep) (v : Walk) → slice_get (all_sleeps paths) s ≡ Some z → IsThread code log z.thread v
          → z.it.step < steps_in after v.name → z.it.step < steps_in h v.name
      quiet_begun s z v is there done =
          elim (begun_when s z v is there done) [
            | inl before ↦ before
            | inr now ↦
                let e = first s z v is there in
                absurd (false≢true (sym (ap is_store e.sleeps) ∙ quiet e.event.kind (kind_now v.name e.event now)))
          ]

      pub quiet_until : SleepUntilEnded code log w p after
      quiet_until s z v is there done = untouched s z v is there (quiet_begun s z v is there done) (silent z.it.condition v.name)

      pub store_until : (t : ℕ) (q : Walk) (x : Event) → IsThread code log t q → Contains q.events x → is_pending ops.buffered x ≡ true
          → place code log w t x ≡ p → SleepUntilEnded code log w (p + 1) after
      store_until t q x own i pending at s z v is there done =
          untouched_later s z v is there (quiet_begun s z v is there done) (silent z.it.condition v.name)
          (λ g ends here.
          let store = (and_parts ops.buffered (is_store x.kind) pending).1 in
          elim (ends_here t q x own i at s g z is ends here).1 [
            | inl signal ↦ false≢true (sym (ap is_store signal) ∙ store)
            | inr broadcast ↦ false≢true (sym (ap is_store broadcast) ∙ store)
          ])

    -- The event at the position.

    module _ (t : ℕ) (q : Walk) (x : Event) (own_there : IsThread code log t q) (x_among : Contains q.events x) (x_at : place code log w t x ≡ p)
        (x_steps : steps_in h q.name ≡ x.step) (k : ℕ) (r : Request) (took : ℤ)
        (other : Option Name) (does : d ≡ Did q.name k r took other) (other_is : other ≡ other_of paths w h t q.name r) where
      abbrev now : NextEvent setting nodes w
      now = record {
        here = record { position = p; deeds = h; gone = gone; thread = path_thread t q own_there; event = x; among = x_among; at = x_at };
        steps = x_steps;
      }

      abbrev g : ℕ
      g = number_of paths t x.step

      here : position w g ≡ p
      here = x_at

      one_more : steps_in after q.name ≡ steps_in h q.name + 1
      one_more =
          count-push (is_step_of q.name) h d
          ∙ ap (λ e. steps_in h q.name + cond (is_step_of q.name e) 1 0) does
          ∙ ap (λ b. steps_in h q.name + cond b 1 0) (same_self q.name q.name refl)

      -- the deed does the event
      asks : kind_of r other ≡ Some x.kind
      asks =
          elim (done_now t q x own_there (in_contains x q.events x_among) (omega (arith, one_more, x_steps))) [
            | inl before ↦ absurd (omega (arith, before, x_steps))
            | inr now ↦ sym (ap kind_done does) ∙ kind_now q.name x now
          ]

      woken : (c : ℕ) → r ≡ WakeOne c → other ≡ woken_by paths w g
      woken c is =
          other_is ∙ ap (λ a. other_of paths w h t q.name a) is ∙ ap (λ i. woken_by paths w (number_of paths t i)) x_steps

      signals_now : (c : ℕ) → r ≡ WakeOne c → x.kind ≡ kind.Signal c
      signals_now c is = same_Some x.kind (kind.Signal c) (sym asks ∙ ap (λ a. kind_of a other) is)

      broadcasts_now : (c : ℕ) → r ≡ WakeAll c → x.kind ≡ kind.Broadcast c
      broadcasts_now c is = same_Some x.kind (kind.Broadcast c) (sym asks ∙ ap (λ a. kind_of a other) is)

      module _ (s : ℕ) (z : Placed Sleep) (v : Walk) (is : slice_get (all_sleeps paths) s ≡ Some z) (there : IsThread code log z.thread v) where
        -- a signal that ends a sleep wakes the sleep's thread
        wakes_it : (j : ℕ) → x.kind ≡ kind.Signal z.it.condition → g ≡ j → ender_of w s ≡ Some j → other ≡ Some v.name
        wakes_it j signal same ends = by (woken_by paths w g) refl
          where
            c : ℕ
            c = z.it.condition

            ends_g : ender_of w s ≡ Some g
            ends_g = ends ∙ ap (λ i. Some i) (sym same)

            by : (o : Option Name) → woken_by paths w g ≡ o → other ≡ Some v.name
            by None none = absurd (wakes_none paths w g s z none is ends_g)
            by (Some n) wakes =
                let o = to_wake paths w g n wakes in
                let one = (lawful.lawful.meets (Condition z.it.condition)).one s o.number g
                (is_signal_at paths w (are_whole setting nodes w lawful) t q x z.it.condition own_there x_among signal) ends_g o.ends in
                let sleep = same_Some z o.sleep (sym is ∙ ap (slice_get (all_sleeps paths)) one ∙ o.is) in
                let walk = same_Some v o.walk (sym there ∙ ap (λ (y : Placed Sleep). slice_get paths.threads y.thread) sleep ∙ o.there) in
                woken z.it.condition (signal_is r other z.it.condition (asks ∙ ap (λ a. Some a) signal))
                ∙ wakes
                ∙ ap (λ i. Some i) (sym o.name ∙ sym (ap (λ (y : Walk). y.name) walk))

        -- a deed that doesn't concern the wait doesn't end the sleep
        not_here : waits_by z.it.condition v.name d ≡ None → (j : ℕ) → ender_of w s ≡ Some j → position w j ≡ p → ⊥
        not_here none j ends at_j =
            let c = z.it.condition in
            let e = ends_here t q x own_there x_among x_at s j z is ends at_j in
            elim e.1 [
              | inl signal ↦
                  none-some false
                  (sym none
                  ∙ ap (waits_by c v.name) does
                  ∙ ap₂ (λ a o. waits_by c v.name (Did q.name k a took o)) (signal_is r other c (asks ∙ ap (λ a. Some a) signal)) (wakes_it j signal e.0 ends)
                  ∙ ap₂ (λ a b. cond (a && b) (Some false) None) (eq-eqb c c refl) (same_self v.name v.name refl))
              | inr broadcast ↦
                  none-some false
                  (sym none
                  ∙ ap (waits_by c v.name) does
                  ∙ ap (λ a. waits_by c v.name (Did q.name k a took other)) (broadcast_is r other c (asks ∙ ap (λ a. Some a) broadcast))
                  ∙ ap (λ a. cond a (Some false) None) (eq-eqb c c refl))
            ]

        module _ (begun : z.it.step < steps_in h v.name) (later : Until (p + 1) s) where
          asleep : IsAsleepIn h v.name z.it
          asleep = (until s z v is there begun).1 (λ j ends. omega (arith, later j ends))

          -- a deed that concerns the wait ends the sleep
          not_later : AboutWait z.it.condition v.name q.name r other → ⊥
          not_later (Begins m own begins) =
              let waiting = (waits setting nodes w lawful p h gone z.thread v z.it.condition there).1
              (z.it, among s z v is there, refl, asleep) in
              true≢false (sym waiting ∙ ap (set.contains (waiting_in h z.it.condition)) (sym own)
              ∙ waits_no_more setting nodes w lawful now z.it.condition)
          not_later (Wakes_it signal to) =
              let c = z.it.condition in
              let o = to_wake paths w g v.name (sym (woken c signal) ∙ to) in
              let other_asleep = lasts setting nodes w lawful now c (signals_now c signal) v.name o in
              let mine = still setting nodes w lawful p h gone v.name z.it asleep in
              let its = still setting nodes w lawful p h gone o.walk.name o.sleep.it other_asleep in
              let thread = one_thread code log setting.log_is z.thread o.sleep.thread v o.walk there o.there (sym o.name) in
              let name = ap (steps_in h) o.name in
              let number = one_sleep setting nodes w lawful s o.number z o.sleep is o.is thread (omega (arith, mine, its, name)) in
              let least = later g (ap (ender_of w) number ∙ o.ends) in
              omega (arith, least, here)
          not_later (Wakes_all broadcast) =
              let c = z.it.condition in
              let before = begun_before setting nodes w lawful z.thread v z.it there (among s z v is there) p h gone begun in
              let ends = (lawful.lawful.meets (Condition c)).each s g z
              (is_broadcast_at paths w (are_whole setting nodes w lawful) t q x c own_there x_among (broadcasts_now c broadcast))
              (record { is = is; condition = refl })
              (record { begun = omega (arith, before, here); lasts = λ j ends less. omega (arith, later j ends, less, here) }) in
              omega (arith, later g ends, here)

      pub event_until : SleepUntilEnded code log w (p + 1) after
      event_until s z v is there done =
          elim (begun_when s z v is there done) [
            | inr now ↦ (λ a. ends_after s z v is there now, λ all. begins_now s z v is there now)
            | inl begun ↦ by s z v is there begun (waits_by z.it.condition v.name d) refl
          ]
        where
          by : (s : ℕ) (z : Placed Sleep) (v : Walk) (is : slice_get (all_sleeps paths) s ≡ Some z) (there : IsThread code log z.thread v)
              → z.it.step < steps_in h v.name → (o : Option Bool) → waits_by z.it.condition v.name d ≡ o → IsAsleepIn after v.name z.it ↔ Until (p + 1) s
          by s z v is there begun None none = untouched_later s z v is there begun none (not_here s z v is there none)
          by s z v is there begun (Some b) touched = (
            λ a. absurd (lasts_no_more s z v is there begun b touched a),
            λ all.
                absurd (not_later s z v is there begun all
                (about z.it.condition v.name q.name k r took other b (ap (waits_by z.it.condition v.name) (sym does) ∙ touched))),
          )

-- A deed is a drain, a step that isn't an event, or an event of its thread's path.
module _ {B : Type 0} (setting : Setting B) (nodes : List Node) (w : World) (lawful : IsLawfulWorld setting nodes w) (p : ℕ) (h : List Deed)
    (gone : HasGone setting nodes w p h) where
  open setting use {machine, ops, bound, code, log}

  pub step_until : (t : ℕ) (q : Walk) (k : ℕ) (r : Request) (took : ℤ) (other : Option Name) → IsThread code log t q
      → ((x : Event) → Contains q.events x → x.step ≡ steps_in h q.name → is_pending ops.buffered x ≡ true)
      → IsAlongPaths machine log (h ++ Did q.name k r took other ∷ [])
      → SleepUntilEnded code log w p (h ++ Did q.name k r took other ∷ [])
  step_until t q k r took other there waiting along =
      quiet_until setting nodes w lawful p h gone d along quiet (λ c n. by c n (waits_by c n d) refl)
    where
      d : Deed
      d = Did q.name k r took other

      quiet : (e : EventKind) → kind_of r other ≡ Some e → is_store e ≡ true
      quiet e asks =
          let done : IsDoneIn (h ++ Did q.name k r took other ∷ []) q.name k e =
          record { older = h; newer = []; request = r; took = took; other = other; there = refl; asks = asks } in
          let o = done_event setting (record { deeds = h ++ d ∷ []; fits = lawful.fits; along = along }) (path_thread t q there) k e done in
          let next = (along.follow h [] (Did q.name k r took other) refl).1.number in
          let pending = waiting o.0 (contains_in o.0 q.events o.1) (o.2 ∙ next) in
          ap is_store (sym o.3) ∙ (and_parts ops.buffered (is_store o.0.kind) pending).1

      by : (c : ℕ) (n : Name) (o : Option Bool) → waits_by c n (Did q.name k r took other) ≡ o → waits_by c n (Did q.name k r took other) ≡ None
      by c n None none = none
      by c n (Some b) touched =
          let a = no_store c n q.name r other (about c n q.name k r took other b touched) in
          absurd (false≢true (sym a.2 ∙ quiet a.0 a.1))

  pub drain_until : (n : Name) (k c : ℕ) (v : ℤ) → IsAlongPaths machine log (h ++ Drained n k c v ∷ [])
      → SleepUntilEnded code log w p (h ++ Drained n k c v ∷ [])
  drain_until n k c v along =
      quiet_until setting nodes w lawful p h gone (Drained n k c v) along (λ e asks. absurd (none-some e asks)) (λ i m. refl)

  pub drained_until : (t : ℕ) (q : Walk) (x : Event) (n : Name) (k c : ℕ) (v : ℤ) → IsThread code log t q → Contains q.events x
      → is_pending ops.buffered x ≡ true → place code log w t x ≡ p → IsAlongPaths machine log (h ++ Drained n k c v ∷ [])
      → SleepUntilEnded code log w (p + 1) (h ++ Drained n k c v ∷ [])
  drained_until t q x n k c v there i pending at along =
      store_until setting nodes w lawful p h gone (Drained n k c v) along (λ e asks. absurd (none-some e asks)) (λ j m. refl) t q x there i
      pending at
