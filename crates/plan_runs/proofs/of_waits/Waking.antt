-- Sleeps and their enders, when an event comes.
use Rattle.std.proofs.Common.{◌≡◌, ◌↔◌, ◌∙◌, ℕ, ◌+◌, ◌<◌, ◌≤◌, ◌==◌, Bool, true, false, List, length, Option, Some, None, refl, sym, ap, subst, arith}
use Rattle.std.specs.Prelude.{slice_get}
use Rattle.std.specs.FinSet as set
use Rattle.std.specs.List.{Contains}
use Rattle.std.proofs.lemmas.Option.{same_Some}
use Rattle.condition_order.specs.tc_base.Names.{Name}
use Rattle.sym_steps.specs.run_history.History.{Deed}
use Rattle.sym_steps.specs.run_history.Told.{waiting_in, steps_in}
use Rattle.sym_steps.proofs.run_follows.of_deeds.Nobody.{nobody_waits}
use Rattle.condition_order.specs.path_walk.Paths.{Walk, Paths, paths_of}
use Rattle.condition_order.specs.path_walk.declared.event.EventKind.TheVariants as kind
use Rattle.condition_order.specs.path_walk.declared.event.Sleep.{Sleep}
use Rattle.sym_steps.specs.path_laws.Setting.{Setting}
use Rattle.sym_steps.specs.path_laws.history.Along.{IsThread, IsNameOfThread, path_thread}
use Rattle.sym_steps.specs.path_laws.events.Done.{IsAsleepIn}
use Rattle.sym_steps.proofs.path_laws.of_events.Events.{event_within}
use Rattle.sym_steps.proofs.path_laws.of_events.Lists.{in_contains}
use Rattle.sym_steps.proofs.path_laws.of_events.Sleeps.{WakesSo, walk_wakes}
use Rattle.sym_steps.proofs.path_laws.of_events.Waiters.{sleeps_still, sleep_waits, waiter_named}
use Rattle.condition_order.specs.sym_terms.declared.node.Node.{Node}
use Rattle.condition_order.specs.order_formula.Worlds.{World, position}
use Rattle.condition_order.specs.order_formula.declared.group.Group.TheVariants.{Condition}
use Rattle.condition_order.specs.lawful_order.Events.{Placed, all_sleeps, number_of, place_of, ender_of}
use Rattle.condition_order.specs.lawful_order.Conditions.{IsSleep, IsSignal}
use Rattle.sym_steps.specs.sym_laws.Valued.{found}
use Rattle.condition_order.proofs.Among.{sleep_of}
use Rattle.world_plan.specs.Going.{IsLawfulWorld, HasGone, NextEvent}
use Rattle.world_plan.specs.Plan.{woken_by}
use Rattle.plan_runs.proofs.of_waits.Sleepers.{sleep_number, owner, Wakes, to_wake, wakes_none, is_signal_at, begun_before, before_begun}
use Rattle.plan_runs.proofs.of_waits.Worlds.{are_whole, walk}
use Rattle.plan_runs.proofs.Histories.{history_of}

module _ {B : Type 0} (setting : Setting B) (nodes : List Node) (w : World) (lawful : IsLawfulWorld setting nodes w) (p : ℕ) (h : List Deed) where
  open setting use {code, log}

  abbrev paths : Paths
  paths = paths_of code log

  abbrev Asleep : Walk → ℕ → Type 0
  Asleep q c = (s : Sleep) × Contains q.sleeps s × (s.condition ≡ c) × IsAsleepIn h q.name s

  module _ (gone : HasGone setting nodes w p h) where
    pub still : (n : Name) (s : Sleep) → IsAsleepIn h n s → steps_in h n ≡ s.step + 1
    still n s asleep = sleeps_still setting (history_of lawful gone) n s asleep

    -- a thread waits while a sleep of its path lasts
    pub waits : (t : ℕ) (q : Walk) (c : ℕ) → IsThread code log t q → (set.contains (waiting_in h c) q.name ≡ true) ↔ Asleep q c
    waits t q c there = sleep_waits setting (history_of lawful gone) (path_thread t q there) c

    pub named : (c : ℕ) (n : Name) → set.contains (waiting_in h c) n ≡ true → IsNameOfThread code log n
    named c n is = waiter_named setting (history_of lawful gone) c n is

    -- the ender of a sleep that lasts has the position or a later one
    pub ends_later : (t : ℕ) (q : Walk) (s : Sleep) (k g : ℕ) → IsThread code log t q → slice_get (all_sleeps paths) k ≡ Some (record { thread = t; it = s })
        → IsAsleepIn h q.name s → ender_of w k ≡ Some g → p ≤ position w g
    ends_later t q s k g there is asleep ends =
        let done : s.step < steps_in h q.name = omega (arith, still q.name s asleep) in
        (gone.sleeps k (record { thread = t; it = s }) q is there done).0 asleep g ends

module _ {B : Type 0} (setting : Setting B) (nodes : List Node) (w : World) (lawful : IsLawfulWorld setting nodes w) (at : NextEvent setting nodes w) where
  open setting use {code, log}
  open at use {position as p, deeds as h, gone, thread, event as x, among as x_among}
  open thread use {index as t, walk as q, there as own_there}

  abbrev ps : Paths
  ps = paths_of code log

  abbrev Sleeps : Walk → ℕ → Type 0
  Sleeps q c = Asleep setting nodes w lawful p h q c

  -- no sleep of a thread lasts whose event comes
  ended : (c : ℕ) → Sleeps q c → ⊥
  ended c a = by a.0.wake refl
    where
      s : Sleep
      s = a.0

      wakes : WakesSo code setting.lawful q.function (length q.places) a.0
      wakes = walk_wakes code setting.lawful log q (walk setting nodes w lawful t q own_there) s (in_contains s q.sleeps a.1)

      by : (o : Option ℕ) → s.wake ≡ o → ⊥
      by None none =
          let within = event_within code log q (walk setting nodes w lawful t q own_there) x (in_contains x q.events x_among) in
          omega (arith, within, wakes.last none, still setting nodes w lawful p h gone q.name s a.3, at.steps)
      by (Some k) wake =
          let n = sleep_number ps t q s own_there a.1 in
          let e = (lawful.lawful.meets (Condition c)).wakes n.0 k (record { thread = t; it = s }) (record { is = n.1; condition = a.2 }) wake in
          let later = ends_later setting nodes w lawful p h gone t q s n.0 e.0 own_there n.1 a.3 e.1 in
          let now : k ≡ x.step = omega (arith, wakes.next k wake, still setting nodes w lawful p h gone q.name s a.3, at.steps) in
          let before : position w e.0 < place_of ps w t x.step = subst (λ j. position w e.0 < place_of ps w t j) now e.2 in
          omega (arith, later, before, at.at)

  pub waits_no_more : (c : ℕ) → set.contains (waiting_in h c) q.name ≡ false
  waits_no_more c = by (set.contains (waiting_in h c) q.name) refl
    where
      by : (b : Bool) → set.contains (waiting_in h c) q.name ≡ b → set.contains (waiting_in h c) q.name ≡ false
      by false is = is
      by true is = absurd (ended c ((waits setting nodes w lawful p h gone t q c own_there).0 is))

  module _ (c : ℕ) (signals : x.kind ≡ kind.Signal c) where
    abbrev g : ℕ
    g = number_of ps t x.step

    abbrev is_signal_now : IsSignal ps w g c
    is_signal_now = is_signal_at ps w (are_whole setting nodes w lawful) t q x c own_there x_among signals

    -- a sleep that it ends is on its condition
    pub on_condition : (s : ℕ) (z : Placed Sleep) → slice_get (all_sleeps ps) s ≡ Some z → ender_of w s ≡ Some g → IsSleep ps w s z c
    on_condition s z is ends =
        let o = sleep_of ps (found code log nodes).symbolic w lawful.of s g c is_signal_now ends in
        subst (λ y. IsSleep ps w s y c) (same_Some o.0 z (sym o.1.is ∙ is)) o.1

    among : (n : Name) (k : Wakes ps w g n) → Contains k.walk.sleeps k.sleep.it
    among n k =
        let o = owner ps k.number k.sleep k.is in
        subst (λ (v : Walk). Contains v.sleeps k.sleep.it) (same_Some o.walk k.walk (sym o.there ∙ k.there)) o.among

    -- the sleep that it ends lasts
    pub lasts : (n : Name) (k : Wakes ps w g n) → IsAsleepIn h k.walk.name k.sleep.it
    lasts n k =
        let z = k.sleep in
        let first = (lawful.lawful.meets (Condition c)).ends k.number g z (on_condition k.number z k.is k.ends) k.ends in
        let begun = before_begun setting nodes w lawful z.thread k.walk z.it k.there (among n k) p h gone (omega (arith, first, at.at)) in
        (gone.sleeps k.number z k.walk k.is k.there begun).1 (λ j ends.
        let same : g ≡ j = same_Some g j (sym k.ends ∙ ends) in
        subst (λ i. p ≤ position w i) same (omega (arith, at.at)))

    pub finds_its_own : (n : Name) → woken_by ps w g ≡ Some n → set.contains (waiting_in h c) n ≡ true
    finds_its_own n wakes =
        let k = to_wake ps w g n wakes in
        let sleep = on_condition k.number k.sleep k.is k.ends in
        ap (set.contains (waiting_in h c)) (sym k.name)
        ∙ (waits setting nodes w lawful p h gone k.sleep.thread k.walk c k.there).1 (k.sleep.it, among n k, sleep.condition, lasts n k)

    -- where no sleep is to end none lasts
    none_lasts : woken_by ps w g ≡ None → (u : ℕ) (v : Walk) → IsThread code log u v → Sleeps v c → ⊥
    none_lasts none u v there a =
        let s = a.0 in
        let n = sleep_number ps u v s there a.1 in
        let done : s.step < steps_in h v.name = omega (arith, still setting nodes w lawful p h gone v.name s a.3) in
        let begun = begun_before setting nodes w lawful u v s there a.1 p h gone done in
        let r = (lawful.lawful.meets (Condition c)).some n.0 g (record { thread = u; it = s }) is_signal_now (record { is = n.1; condition = a.2 })
        (record {
          begun = omega (arith, begun, at.at);
          lasts = λ j ends before. omega (arith, ends_later setting nodes w lawful p h gone u v s n.0 j there n.1 a.3 ends, before, at.at);
        }) in
        let z = sleep_of ps (found code log nodes).symbolic w lawful.of r.0 g c is_signal_now r.1 in
        wakes_none ps w g r.0 z.0 none z.1.is r.1

    pub finds_none : woken_by ps w g ≡ None → (set.len (waiting_in h c) == 0) ≡ true
    finds_none none = (nobody_waits h c).1 (λ n. by n (set.contains (waiting_in h c) n) refl)
      where
        by : (n : Name) (b : Bool) → set.contains (waiting_in h c) n ≡ b → set.contains (waiting_in h c) n ≡ false
        by n false is = is
        by n true is =
            let t_is = named setting nodes w lawful p h gone c n is in
            absurd (none_lasts none t_is.index t_is.walk t_is.there
            ((waits setting nodes w lawful p h gone t_is.index t_is.walk c t_is.there).0 (ap (set.contains (waiting_in h c)) t_is.name_is ∙ is)))
