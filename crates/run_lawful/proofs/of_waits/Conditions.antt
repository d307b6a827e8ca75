-- What ends the waits of a run.
use Rattle.std.proofs.Common.{◌≡◌, ◌∙◌, inl, inr, ℕ, ◌+◌, ◌<◌, ◌==◌, ℤ, true, false, not, cond, ◌&&◌, ◌||◌, List, ◌∷◌, ◌++◌}
use Rattle.std.proofs.Common.{Option, Some, None, refl, sym, ap, ap₂, subst, arith, append_assoc}
use Rattle.std.specs.Prelude.{slice_get, map, option_map, unwrap_or}
use Rattle.std.specs.FinSet as set
use Rattle.std.specs.Option.{option_map_or}
use Rattle.std.specs.List.{Contains, filter_map, list_any}
use Rattle.std.proofs.lemmas.Bool.{false≢true, true≢false, and_parts, cases_Bool, eq-eqb, eqb-true, false_from_ne_true}
use Rattle.std.proofs.lemmas.List.{append_cancel_left}
use Rattle.std.proofs.lemmas.Option.{none-some, same_Some, slice_get-map, slice_get_cases, unwrap_or-slice_get}
use Rattle.sym_events.specs.list_laws.Lists.{is_nil}
use Rattle.sym_events.specs.tc_base.Names.{Name}
use Rattle.sym_events.specs.tc_base.declared.moves.Move.{Move}
use Rattle.sym_events.specs.tc_base.declared.request.Request.TheVariants.{BeginWait, WakeOne, WakeAll}
use Rattle.sym_events.specs.tc_code.Run.{Reproduces}
use Rattle.sym_events.specs.tc_code.Step.{drains_first}
use Rattle.sym_events.specs.store_buffers.Pending.{stores}
use Rattle.sym_events.proofs.run_laws.Names.{same_self}
use Rattle.sym_steps.specs.run_history.History.{Deed, Did, pending}
use Rattle.sym_steps.specs.run_history.Last.{waits_by}
use Rattle.sym_steps.specs.run_history.Told.{waiting_in}
use Rattle.sym_steps.proofs.run_follows.of_deeds.Nobody.{nobody_waits}
use Rattle.sym_steps.specs.run_follows.Follow.{may_do_in}
use Rattle.sym_steps.specs.run_history.pending.Deeds.{DeedName, name_of}
use Rattle.sym_events.specs.path_walk.Fits.{Fits}
use Rattle.sym_events.specs.path_walk.Paths.{Walk, Paths}
use Rattle.sym_events.specs.path_walk.declared.event.Event.{Event}
use Rattle.sym_events.specs.path_walk.declared.event.EventKind.{EventKind}
use Rattle.sym_events.specs.path_walk.declared.event.EventKind.TheVariants as kind
use Rattle.sym_events.specs.path_walk.declared.event.Sleep.{Sleep}
use Rattle.sym_steps.specs.path_laws.Setting.{Setting}
use Rattle.sym_steps.specs.path_laws.history.Along.{IsThread, path_thread}
use Rattle.sym_steps.proofs.path_laws.of_history.Walks.{walk_is}
use Rattle.sym_steps.proofs.path_laws.of_events.Lists.{in_contains}
use Rattle.sym_steps.proofs.path_laws.of_events.Sleeps.{walk_wakes}
use Rattle.sym_steps.proofs.path_laws.of_events.Waiters.{sleep_waits, waiter_named}
use Rattle.sym_steps.specs.sym_laws.Valued.{found}
use Rattle.sym_events.specs.sym_terms.declared.node.Node.{Node}
use Rattle.sym_events.specs.order_formula.Worlds.{World, position}
use Rattle.sym_events.specs.lawful_order.Conditions.{is_signal, is_broadcast, Waits, ConditionRule}
use Rattle.sym_events.specs.lawful_order.Events.{Placed, all_events, all_sleeps, number_of, place_of, ender_of, IsBefore}
use Rattle.sym_events.specs.lawful_order.Memory.{is_store}
use Rattle.sym_events.proofs.order_events.Lists.{in_at as place_of_one}
use Rattle.sym_events.proofs.order_events.Numbers.{in_all_from, one_step}
use Rattle.world_plan.specs.Sights.{Shows}
use Rattle.world_plan.proofs.Numbers.{event_numbered, number_is}
use Rattle.run_lawful.specs.world.Order.{TakesPlace}
use Rattle.run_lawful.specs.world.WorldOf.{ends_wait, ender_in}
use Rattle.run_lawful.proofs.of_world.Enders.{EndsWait, Woken, AllWoken, ends_told, is_ender, is_its_step, ended_is, shows_one}
use Rattle.run_lawful.proofs.of_world.Found.{some_found}
use Rattle.run_lawful.proofs.of_world.Run.{seen}
use Rattle.run_lawful.proofs.of_world.Steps.{steps_ordered}
use Rattle.run_lawful.proofs.of_world.Splits.{TwoPlaces, Before, Same, After, two_places}
use Rattle.run_lawful.proofs.of_waits.Deeds.{none_pending, sleeps_are, h, paths, w, fit, ordered, EventDeed, event_deed, before_deed}
use Rattle.run_lawful.proofs.of_waits.First.{comes_first}
use Rattle.run_lawful.proofs.of_waits.Parts.{signal_is, broadcast_is}
use Rattle.run_lawful.proofs.of_waits.Sleeping.{gives_none, none_ends, SleepDeed, sleep_deed, waits_while, none_between, EndsAt, ends_at, ended_by, waiter_rests}
use Rattle.run_lawful.proofs.of_waits.Sleeps.{one_sleep}
use Rattle.sym_steps.proofs.path_laws.of_history.Logged.{history_again}

-- a signal that wakes a thread ends its wait, and a broadcast ends all waits on its condition
wakes_it : (c : ℕ) (n q : Name) (k : ℕ) (took : ℤ) → ends_wait c n (Did q k (WakeOne c) took (Some n)) ≡ true
wakes_it c n q k took = ap₂ (λ a b. option_map_or not (cond (a && b) (Some false) None) false) (eq-eqb c c refl) (same_self n n refl)

wakes_all : (c : ℕ) (n q : Name) (k : ℕ) (took : ℤ) (other : Option Name) → ends_wait c n (Did q k (WakeAll c) took other) ≡ true
wakes_all c n q k took other = ap (λ a. option_map_or not (cond a (Some false) None) false) (eq-eqb c c refl)

-- the kinds of a signal and of a broadcast
signal_kind : (c : ℕ) (k : EventKind) → is_signal c k ≡ true → k ≡ kind.Signal c
signal_kind c (kind.Signal d) e = let same : d ≡ c = eqb-true d c e in ap kind.Signal same
signal_kind c kind.Load e = absurd (false≢true e)
signal_kind c k e = absurd (false≢true e)

broadcast_kind : (c : ℕ) (k : EventKind) → is_broadcast c k ≡ true → k ≡ kind.Broadcast c
broadcast_kind c (kind.Broadcast d) e = let same : d ≡ c = eqb-true d c e in ap kind.Broadcast same
broadcast_kind c kind.Load e = absurd (false≢true e)
broadcast_kind c k e = absurd (false≢true e)

module _ {B : Type 0} (setting : Setting B) (nodes : List Node) (moves : List Move) (again : Reproduces setting.ops setting.code setting.log moves) where
  open setting use {ops, bound, code, lawful, log, log_is as is}

  abbrev done : List Deed
  done = h setting nodes moves again

  abbrev threads : Paths
  threads = paths setting nodes moves again

  abbrev f : Fits code log
  f = fit setting nodes moves again

  abbrev world : World
  world = w setting nodes moves again

  abbrev Its_deed : Placed Sleep → Type 0
  Its_deed x = SleepDeed setting nodes moves again x

  abbrev Ends : (x : Placed Sleep) → Its_deed x → ℕ → Type 0
  Ends x d g = EndsAt setting nodes moves again x d g

  -- what ends a sleep comes after the sleep begins
  ends_later : (s g : ℕ) (x : Placed Sleep) → slice_get (all_sleeps threads) s ≡ Some x → ender_of world s ≡ Some g
      → place_of threads world x.thread x.it.step < position world g
  ends_later s g x at ended =
      let d = sleep_deed setting nodes moves again s x at in
      let e = ends_at setting nodes moves again x d s g at ended in
      subst (λ n. place_of threads world x.thread x.it.step < position world n) (sym e.number)
      ((ordered setting nodes moves again).order d.older e.between e.newer d.deed e.ender x.thread x.it.step e.thread e.step
      e.at d.shows e.shows)

  -- a deed that ended a sleep before another deed
  record EndedBefore (x : Placed Sleep) (d : Its_deed x) (between : List Deed) : Type 0 where
    number : ℕ
    thread : ℕ
    step : ℕ
    ends : Ends x d number
    told : number ≡ number_of threads thread step
    older : List Deed
    ender : Deed
    newer : List Deed
    there : d.older ++ d.deed ∷ between ≡ older ++ ender ∷ newer
    shows : Shows ops.buffered threads ender thread step

  ended_before : (x : Placed Sleep) (d : Its_deed x) (between newer : List Deed) → done ≡ (d.older ++ d.deed ∷ between) ++ newer
      → list_any (ends_wait x.it.condition d.walk.name) between ≡ true → EndedBefore x d between
  ended_before x d between newer split some =
      let p = some_found (ends_wait x.it.condition d.walk.name) between some in
      let there : d.older ++ d.deed ∷ between ≡ (d.older ++ d.deed ∷ p.1.older) ++ p.0 ∷ p.1.newer =
      ap (λ xs. d.older ++ d.deed ∷ xs) p.1.there ∙ sym (append_assoc d.older (d.deed ∷ p.1.older) (p.0 ∷ p.1.newer)) in
      let at : done ≡ (d.older ++ d.deed ∷ p.1.older) ++ p.0 ∷ (p.1.newer ++ newer) =
      split ∙ ap (λ xs. xs ++ newer) there ∙ append_assoc (d.older ++ d.deed ∷ p.1.older) (p.0 ∷ p.1.newer) newer in
      let e = is_ender setting moves again x.it.condition d.walk.name (d.older ++ d.deed ∷ p.1.older) p.0
      (p.1.newer ++ newer) at p.1.passes in
      record {
        number = number_of threads e.thread e.event.step;
        thread = e.thread;
        step = e.event.step;
        ends = record {
          between = p.1.older;
          ender = p.0;
          newer = p.1.newer ++ newer;
          at = at;
          ends = p.1.passes;
          lasts = p.1.none;
          thread = e.thread;
          step = e.event.step;
          shows = e.shows;
          number = refl;
        };
        told = refl;
        older = d.older ++ d.deed ∷ p.1.older;
        ender = p.0;
        newer = p.1.newer;
        there = there;
        shows = e.shows;
      }

  -- something has ended a sleep before its thread wakes
  wakes_after : (s k : ℕ) (x : Placed Sleep) → slice_get (all_sleeps threads) s ≡ Some x → x.it.wake ≡ Some k
      → (g : ℕ) × (ender_of world s ≡ Some g) × (position world g < place_of threads world x.thread k)
  wakes_after s k x at wake = first later.0 (later.1 ∙ ap (λ y. d.older ++ y ∷ later.0) (sym d.begins))
    where
      d : Its_deed x
      d = sleep_deed setting nodes moves again s x at

      n : Name
      n = d.walk.name

      next : k ≡ x.it.step + 1
      next =
          (walk_wakes code lawful log d.walk (walk_is code log is f (path_thread x.thread d.walk d.there)) x.it (in_contains x.it d.walk.sleeps d.among)).next k wake

      y : (y : Event) × Contains d.walk.events y × (y.step ≡ k)
      y =
          let s = (seen setting moves again).whole.woken x.thread k x.it (d.walk, d.there, d.among) wake in
          let same : s.1.0 ≡ d.walk = same_Some s.1.0 d.walk (sym s.1.1 ∙ d.there) in
          (s.0, subst (λ (p : Walk). Contains p.events s.0) same s.1.2, s.2)

      e : EventDeed setting nodes moves again x.thread d.walk y.0
      e = event_deed setting nodes moves again x.thread d.walk y.0 d.there y.1

      waking : Deed
      waking = Did n y.0.step e.request e.took e.other

      first : (between : List Deed) → e.older ≡ d.older ++ d.deed ∷ between
          → (g : ℕ) × (ender_of world s ≡ Some g) × (position world g < place_of threads world x.thread k)
      first between front =
          let split : done ≡ (d.older ++ d.deed ∷ between) ++ waking ∷ e.newer = e.at ∙ ap (λ g. g ++ waking ∷ e.newer) front in
          elim (cases_Bool (list_any (ends_wait x.it.condition n) between)) [
            | inl some ↦
                let z = ended_before x d between (waking ∷ e.newer) split some in
                let less = comes_first setting nodes moves again x.thread d.walk y.0 d.there y.1 e z.thread z.step z.older
                z.newer z.ender z.shows (front ∙ z.there) in (
                  z.number,
                  ended_by setting nodes moves again x d s z.number at z.ends,
                  subst (λ g. position world g < place_of threads world x.thread k) (sym z.told)
                      (subst (λ i. IsBefore threads world z.thread z.step x.thread i) y.2 less),
                )
            | inr none ↦
                let silent = none_between setting nodes moves again x d between (waking ∷ e.newer) split none in
                let waits = waits_while setting nodes moves again x d between (waking ∷ e.newer) split silent in
                absurd (waiter_rests setting nodes moves again (before_deed setting nodes moves again e) n x.it.condition y.0.step e.request e.took e.other
                d.within (ap (λ g. set.contains (waiting_in g x.it.condition) n) front ∙ waits) e.may)
          ]

      -- the wake comes after the sleep
      later : (between : List Deed) × (e.older ≡ d.older ++ Did n x.it.step (BeginWait x.it.condition x.it.mutex) d.took d.other ∷ between)
      later =
          steps_ordered ops.buffered bound code done (history_again setting moves again).along.follow n x.it.step y.0.step d.older
          d.newer e.older e.newer (BeginWait x.it.condition x.it.mutex) e.request d.took e.took d.other e.other
          (d.at ∙ ap (λ z. d.older ++ z ∷ d.newer) d.begins) e.at (omega (arith, y.2, next))

  -- the deed of the event with this number
  record Signalled (g : ℕ) (e : Placed Event) : Type 0 where
    walk : Walk
    there : IsThread code log e.thread walk
    among : Contains walk.events e.it
    deed : EventDeed setting nodes moves again e.thread walk e.it
    number : number_of threads e.thread e.it.step ≡ g
    shows : Shows ops.buffered threads (Did walk.name e.it.step deed.request deed.took deed.other) e.thread e.it.step

  signalled : (g : ℕ) (e : Placed Event) → slice_get (all_events threads) g ≡ Some e → is_store e.it.kind ≡ false → Signalled g e
  signalled g e at quiet =
      let whole = (seen setting moves again).whole in
      let v = event_numbered threads whole g e at in
      let d = event_deed setting nodes moves again e.thread v.0 e.it v.1 v.2 in
      record {
        walk = v.0;
        there = v.1;
        among = v.2;
        deed = d;
        number = number_is threads whole g e at;
        shows = d.shows (none_pending ops.buffered e.it.kind quiet);
      }

  -- a sleep that has begun before an event, and that no deed before it ended
  record WaitsAt (x : Placed Sleep) (d : Its_deed x) (older : List Deed) : Type 0 where
    between : List Deed
    front : older ≡ d.older ++ d.deed ∷ between
    lasts : list_any (ends_wait x.it.condition d.walk.name) between ≡ false
    waits : set.contains (waiting_in older x.it.condition) d.walk.name ≡ true

  module _ (s g : ℕ) (x : Placed Sleep) (at : slice_get (all_sleeps threads) s ≡ Some x) (e : Placed Event) (v : Signalled g e)
      (waits : Waits threads world s x g) where
    d : Its_deed x
    d = sleep_deed setting nodes moves again s x at

    abbrev signal : Deed
    signal = Did v.walk.name e.it.step v.deed.request v.deed.took v.deed.other

    -- the place of an event among all deeds
    its_place : position world g ≡ place_of threads world e.thread e.it.step
    its_place = ap (position world) (sym v.number)

    still_waits : (between : List Deed) → v.deed.older ≡ d.older ++ d.deed ∷ between → WaitsAt x d v.deed.older
    still_waits between front =
        let split : done ≡ (d.older ++ d.deed ∷ between) ++ signal ∷ v.deed.newer = v.deed.at ∙ ap (λ xs. xs ++ signal ∷ v.deed.newer) front in
        let lasts : list_any (ends_wait x.it.condition d.walk.name) between ≡ false =
        false_from_ne_true (list_any (ends_wait x.it.condition d.walk.name) between) (λ some.
        let z = ended_before x d between (signal ∷ v.deed.newer) split some in
        let less = (ordered setting nodes moves again).order z.older z.newer v.deed.newer z.ender signal z.thread z.step
        e.thread e.it.step (v.deed.at ∙ ap (λ xs. xs ++ signal ∷ v.deed.newer) (front ∙ z.there)) z.shows v.shows in
        waits.lasts z.number (ended_by setting nodes moves again x d s z.number at z.ends)
        (omega (arith, less, its_place, ap (position world) z.told))) in
        let silent = none_between setting nodes moves again x d between (signal ∷ v.deed.newer) split lasts in
        record {
          between = between;
          front = front;
          lasts = lasts;
          waits =
              ap (λ xs. set.contains (waiting_in xs x.it.condition) d.walk.name) front
              ∙ waits_while setting nodes moves again x d between (signal ∷ v.deed.newer) split silent;
        }

    waits_at : WaitsAt x d v.deed.older
    waits_at = by (two_places d.older d.deed d.newer v.deed.older signal v.deed.newer (sym d.at ∙ v.deed.at))
      where
        by : TwoPlaces d.older d.deed d.newer v.deed.older signal v.deed.newer → WaitsAt x d v.deed.older
        by (Before between front rest) = still_waits between front
        by (Same older deed rest) =
            let one = shows_one ops.buffered threads done (seen setting moves again) signal x.thread x.it.step e.thread
            e.it.step (subst (λ y. Shows ops.buffered threads y x.thread x.it.step) deed d.shows) v.shows in
            let same : place_of threads world x.thread x.it.step ≡ place_of threads world e.thread e.it.step =
            ap₂ (place_of threads world) one.0 one.1 in
            absurd (omega (arith, same, its_place, waits.begun))
        by (After between back rest) =
            let less = (ordered setting nodes moves again).order v.deed.older between d.newer signal d.deed e.thread
            e.it.step x.thread x.it.step (d.at ∙ ap (λ xs. xs ++ d.deed ∷ d.newer) back) v.shows d.shows in
            absurd (omega (arith, less, its_place, waits.begun))

    -- a broadcast ends the sleep
    broadcast_ends : v.deed.request ≡ WakeAll x.it.condition → ender_of world s ≡ Some g
    broadcast_ends asked =
        let a = waits_at in
        ended_by setting nodes moves again x d s g at
        (record {
          between = a.between;
          ender = signal;
          newer = v.deed.newer;
          at = v.deed.at ∙ ap (λ xs. xs ++ signal ∷ v.deed.newer) a.front;
          ends =
              ap (λ r. ends_wait x.it.condition d.walk.name (Did v.walk.name e.it.step r v.deed.took v.deed.other)) asked
              ∙ wakes_all x.it.condition d.walk.name v.walk.name e.it.step v.deed.took v.deed.other;
          lasts = a.lasts;
          thread = e.thread;
          step = e.it.step;
          shows = v.shows;
          number = sym v.number;
        })

    -- a signal ends some sleep
    signal_ends : v.deed.request ≡ WakeOne x.it.condition → (r : ℕ) × (ender_of world r ≡ Some g)
    signal_ends asked = by v.deed.other refl
      where
        c : ℕ
        c = x.it.condition

        may : (o : Option Name) → v.deed.other ≡ o → may_do_in ops.buffered v.deed.older v.walk.name (WakeOne c) o ≡ true
        may o other = ap₂ (may_do_in ops.buffered v.deed.older v.walk.name) (sym asked) (sym other) ∙ v.deed.may.may

        -- the signal wakes the thread of a sleep
        woken : (u : Name) → v.deed.other ≡ Some u → set.contains (waiting_in v.deed.older c) u ≡ true → (r : ℕ) × (ender_of world r ≡ Some g)
        woken u other waits =
            let before = before_deed setting nodes moves again v.deed in
            let p = waiter_named setting before c u waits in
            let a = (sleep_waits setting before p.thread c).0 (ap (λ m. set.contains (waiting_in v.deed.older c) m) p.name_is ∙ waits) in
            let z : Placed Sleep = record { thread = p.index; it = a.0 } in
            let r = place_of_one (all_sleeps threads) z
            (in_all_from (λ (q : Walk). q.sleeps) 0 p.index p.index threads.threads p.walk a.0 p.there a.1 (omega arith)) in
            let begun = Did p.walk.name a.0.step (BeginWait a.0.condition a.0.mutex) a.3.took a.3.other in
            let is_it : signal ≡ Did v.walk.name e.it.step (WakeOne a.0.condition) v.deed.took (Some p.walk.name) =
            ap₂ (λ q o. Did v.walk.name e.it.step q v.deed.took o) (asked ∙ ap WakeOne (sym a.2)) (other ∙ ap (λ m. Some m) (sym p.name_is)) in (
              r.0,
              ended_is ops.buffered threads done (seen setting moves again) (found code log nodes).symbolic r.0 g z r.1
                  (record {
                    sleeper = p.walk;
                    sleeps = p.there;
                    older = a.3.older;
                    sleep = begun;
                    between = a.3.newer;
                    ender = signal;
                    newer = v.deed.newer;
                    there = v.deed.at ∙ ap (λ xs. xs ++ signal ∷ v.deed.newer) a.3.there;
                    begins = is_its_step p.walk.name a.0.step (BeginWait a.0.condition a.0.mutex) a.3.took a.3.other;
                    ends = ap (ends_wait a.0.condition p.walk.name) is_it
                        ∙ wakes_it a.0.condition p.walk.name v.walk.name e.it.step v.deed.took;
                    lasts = none_ends a.0.condition p.walk.name a.3.newer a.3.lasts;
                    thread = e.thread;
                    step = e.it.step;
                    shows = v.shows;
                    number = sym v.number;
                  }),
            )

        by : (o : Option Name) → v.deed.other ≡ o → (r : ℕ) × (ender_of world r ≡ Some g)
        by None other =
            let met = and_parts (not (drains_first (WakeOne c)) || is_nil (stores (pending ops.buffered v.deed.older v.walk.name)))
            (set.len (waiting_in v.deed.older c) == 0) (may None other) in
            absurd (true≢false (sym waits_at.waits ∙ (nobody_waits v.deed.older c).0 met.1 d.walk.name))
        by (Some u) other =
            woken u other
            (and_parts (is_nil (stores (pending ops.buffered v.deed.older v.walk.name))) (set.contains (waiting_in v.deed.older c) u) (may (Some u) other)).1

  -- A signal ends at most one sleep.

  -- if a sleep begins after another of its thread, a deed between has ended the first
  not_between : (x y : Placed Sleep) (d : Its_deed x) (b : Its_deed y) (between mid later newer : List Deed) → done ≡ (d.older ++ d.deed ∷ between) ++ newer
      → list_any (ends_wait x.it.condition d.walk.name) between ≡ false → between ≡ mid ++ b.deed ∷ later → x.it.condition ≡ y.it.condition
      → d.walk.name ≡ b.walk.name → ⊥
  not_between x y d b between mid later newer split lasts is_it condition name =
      let silent = none_between setting nodes moves again x d between newer split lasts in
      let none = gives_none (waits_by x.it.condition d.walk.name) mid later b.deed
      (ap (filter_map (waits_by x.it.condition d.walk.name)) (sym is_it) ∙ silent) in
      none-some true
      (sym none ∙ ap (waits_by x.it.condition d.walk.name) b.begins
      ∙ ap₂ (λ p q. cond (p && q) (Some true) None) (eq-eqb y.it.condition x.it.condition (sym condition)) (same_self d.walk.name b.walk.name name))

  module _ (g : ℕ) (e : Placed Event) (v : Signalled g e) (c : ℕ) (asked : v.deed.request ≡ WakeOne c) where
    abbrev the_signal : Deed
    the_signal = Did v.walk.name e.it.step v.deed.request v.deed.took v.deed.other

    -- the deed that ends the sleep is this signal
    record EndsBySignal (x : Placed Sleep) (d : Its_deed x) (a : Ends x d g) : Type 0 where
      front : d.older ++ d.deed ∷ a.between ≡ v.deed.older
      condition : x.it.condition ≡ c
      wakes : v.deed.other ≡ Some d.walk.name

    ends_by_signal : (x : Placed Sleep) (d : Its_deed x) (a : Ends x d g) → EndsBySignal x d a
    ends_by_signal x d a =
        by (two_places (d.older ++ d.deed ∷ a.between) a.ender a.newer v.deed.older the_signal v.deed.newer (sym a.at ∙ v.deed.at))
      where
        takes : TakesPlace ops.buffered threads done a.thread a.step
        takes = record { older = d.older ++ d.deed ∷ a.between; deed = a.ender; newer = a.newer; there = a.at; shows = a.shows }

        one : (a.thread ≡ e.thread) × (a.step ≡ e.it.step)
        one =
            one_step threads a.thread a.step e.thread e.it.step
            ((ordered setting nodes moves again).events a.thread a.step takes) (sym a.number ∙ sym v.number)

        its_shows : Shows ops.buffered threads a.ender e.thread e.it.step
        its_shows =
            subst (λ t. Shows ops.buffered threads a.ender t e.it.step) one.0 (subst (λ k. Shows ops.buffered threads a.ender a.thread k) one.1 a.shows)

        told : d.older ++ d.deed ∷ a.between ≡ v.deed.older → EndsWait x.it.condition d.walk.name the_signal → EndsBySignal x d a
        told front (Woken q k took is_it) =
            let request : v.deed.request ≡ WakeOne x.it.condition = cc in
            let other : v.deed.other ≡ Some d.walk.name = cc in
            let same : WakeOne x.it.condition ≡ WakeOne c = sym request ∙ asked in
            let condition : x.it.condition ≡ c = cc in
            record { front = front; condition = condition; wakes = other }
        told front (AllWoken q k took other is_it) =
            let request : v.deed.request ≡ WakeAll x.it.condition = cc in
            let same : WakeAll x.it.condition ≡ WakeOne c = sym request ∙ asked in
            absurd cc

        by : TwoPlaces (d.older ++ d.deed ∷ a.between) a.ender a.newer v.deed.older the_signal v.deed.newer → EndsBySignal x d a
        by (Before between front rest) =
            absurd ((ordered setting nodes moves again).once (d.older ++ d.deed ∷ a.between) between v.deed.newer a.ender
            the_signal e.thread e.it.step (v.deed.at ∙ ap (λ xs. xs ++ the_signal ∷ v.deed.newer) front) its_shows v.shows)
        by (Same front deed rest) =
            told front
            (ends_told x.it.condition d.walk.name the_signal (ap (ends_wait x.it.condition d.walk.name) (sym deed) ∙ a.ends))
        by (After between back rest) =
            absurd ((ordered setting nodes moves again).once v.deed.older between a.newer the_signal a.ender e.thread
            e.it.step (a.at ∙ ap (λ xs. xs ++ a.ender ∷ a.newer) back) v.shows its_shows)

    -- two sleeps that the signal ends are the same
    one_step_of : (x y : Placed Sleep) (d : Its_deed x) (b : Its_deed y) → Ends x d g → Ends y b g → (x.thread ≡ y.thread) × (x.it.step ≡ y.it.step)
    one_step_of x y d b ends also = (thread, by (two_places d.older d.deed d.newer b.older b.deed b.newer (sym d.at ∙ b.at)))
      where
        first : EndsBySignal x d ends
        first = ends_by_signal x d ends

        second : EndsBySignal y b also
        second = ends_by_signal y b also

        name : d.walk.name ≡ b.walk.name
        name = same_Some d.walk.name b.walk.name (sym first.wakes ∙ second.wakes)

        thread : x.thread ≡ y.thread
        thread = (seen setting moves again).names x.thread y.thread d.walk b.walk d.there b.there name

        condition : x.it.condition ≡ y.it.condition
        condition = first.condition ∙ sym second.condition

        -- the deeds between the first sleep and the signal
        rest_is : (o : List Deed) (z : Deed) (between mid : List Deed) (p : List Deed) (y : Deed) (later : List Deed) → o ++ z ∷ between ≡ p ++ y ∷ later
            → p ≡ o ++ z ∷ mid → between ≡ mid ++ y ∷ later
        rest_is o z between mid p y later whole front =
            let same : z ∷ between ≡ z ∷ (mid ++ y ∷ later) =
            append_cancel_left o (z ∷ between) (z ∷ (mid ++ y ∷ later))
            (whole ∙ ap (λ xs. xs ++ y ∷ later) front ∙ append_assoc o (z ∷ mid) (y ∷ later)) in
            cc

        by : TwoPlaces d.older d.deed d.newer b.older b.deed b.newer → x.it.step ≡ y.it.step
        by (Before mid front rest) =
            absurd (not_between x y d b ends.between mid also.between (ends.ender ∷ ends.newer) ends.at ends.lasts
            (rest_is d.older d.deed ends.between mid b.older b.deed also.between (first.front ∙ sym second.front) front) condition name)
        by (Same older deed rest) =
            ap (λ (m : DeedName). m.number) (ap name_of (sym d.begins ∙ deed ∙ b.begins))
        by (After mid back rest) =
            absurd (not_between y x b d also.between mid ends.between (also.ender ∷ also.newer) also.at also.lasts
            (rest_is b.older b.deed also.between mid d.older d.deed ends.between (second.front ∙ sym first.front) back) (sym condition) (sym name))

  -- a number with an ender is that of a sleep
  sleep_there : (s g : ℕ) → ender_of world s ≡ Some g → (x : Placed Sleep) × (slice_get (all_sleeps threads) s ≡ Some x)
  sleep_there s g ended =
      elim (slice_get_cases (all_sleeps threads) s).1 [
        | inl at ↦ (at.0, at.2)
        | inr past ↦
            absurd (none-some g
            (sym (ap (λ o. unwrap_or o None) (slice_get-map (ender_in ops.buffered threads done) (all_sleeps threads) s
            ∙ ap (option_map (ender_in ops.buffered threads done)) past.1))
            ∙ unwrap_or-slice_get (map (ender_in ops.buffered threads done) (all_sleeps threads)) s None
            ∙ ended))
      ]

  pub condition_rule : (c : ℕ) → ConditionRule threads world c
  condition_rule c = record {
    ends = λ s g x sleep ended. ends_later s g x sleep.is ended;
    wakes = λ s k x sleep wake. wakes_after s k x sleep.is wake;
    one = λ s r g signal ended also.
        let x = sleep_there s g ended in
        let y = sleep_there r g also in
        let d = sleep_deed setting nodes moves again s x.0 x.1 in
        let b = sleep_deed setting nodes moves again r y.0 y.1 in
        let is_it = signal_kind c signal.event.it.kind signal.signals in
        let v = signalled g signal.event signal.is (ap is_store is_it) in
        let same = one_step_of g signal.event v c (signal_is v.deed.request v.deed.other c (v.deed.asks ∙ ap (λ k. Some k) is_it)) x.0 y.0 d b
        (ends_at setting nodes moves again x.0 d s g x.1 ended)
        (ends_at setting nodes moves again y.0 b r g y.1 also) in
        one_sleep threads (seen setting moves again).whole (sleeps_are code log is f) s r x.0 y.0 x.1 y.1 same.0 same.1;
    some = λ s g x signal sleep waits.
        let is_it = signal_kind c signal.event.it.kind signal.signals in
        let v = signalled g signal.event signal.is (ap is_store is_it) in
        signal_ends s g x sleep.is signal.event v waits
        (signal_is v.deed.request v.deed.other c (v.deed.asks ∙ ap (λ k. Some k) is_it) ∙ ap WakeOne (sym sleep.condition));
    each = λ s g x broadcast sleep waits.
        let is_it = broadcast_kind c broadcast.event.it.kind broadcast.broadcasts in
        let v = signalled g broadcast.event broadcast.is (ap is_store is_it) in
        broadcast_ends s g x sleep.is broadcast.event v waits
        (broadcast_is v.deed.request v.deed.other c (v.deed.asks ∙ ap (λ k. Some k) is_it) ∙ ap WakeAll (sym sleep.condition));
  }
