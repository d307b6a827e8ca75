-- The sleeps of paths, by number, and the thread that an event wakes.
use Rattle.std.proofs.Common.{◌≡◌, ◌∙◌, inl, inr, ℕ, ◌<◌, false, List, Option, Some, None, refl, sym, ap, subst, arith}
use Rattle.std.specs.Prelude.{slice_get, option_map, option_and_then}
use Rattle.std.specs.List.{Contains, enumerate_from, find}
use Rattle.std.proofs.lemmas.Bool.{eq-eqb, cases_order}
use Rattle.std.proofs.lemmas.Option.{none-some, same_Some}
use Rattle.condition_order.specs.tc_base.Names.{Name}
use Rattle.sym_steps.specs.run_history.History.{Deed}
use Rattle.sym_steps.specs.run_history.Told.{steps_in}
use Rattle.sym_steps.proofs.run_history.of_pending.In.{In}
use Rattle.condition_order.specs.path_walk.Paths.{Walk, Paths, paths_of}
use Rattle.condition_order.specs.path_walk.declared.event.Event.{Event}
use Rattle.condition_order.specs.path_walk.declared.event.EventKind.TheVariants as kind
use Rattle.condition_order.specs.path_walk.declared.event.Sleep.{Sleep}
use Rattle.sym_steps.specs.path_laws.Setting.{Setting}
use Rattle.sym_steps.specs.path_laws.history.Along.{IsThread}
use Rattle.sym_steps.proofs.path_laws.of_events.Lists.{in_contains, contains_in}
use Rattle.condition_order.specs.sym_terms.declared.node.Node.{Node}
use Rattle.condition_order.specs.order_formula.Worlds.{World, is_ended}
use Rattle.condition_order.specs.lawful_order.Events.{Placed, all_events, all_sleeps, number_of, place_of, ender_of}
use Rattle.condition_order.specs.lawful_order.Conditions.{is_signal, is_broadcast, IsSignal, IsBroadcast}
use Rattle.condition_order.specs.lawful_order.Memory.{is_store}
use Rattle.condition_order.specs.lawful_order.Whole.{AreWhole}
use Rattle.condition_order.proofs.order_events.Lists.{at_in, in_at, in_enumerated, of_enumerated}
use Rattle.condition_order.proofs.order_events.Numbers.{in_all_from, of_all_from}
use Rattle.condition_order.proofs.Truth.{ended_to, ended_from}
use Rattle.world_plan.specs.Going.{IsLawfulWorld, HasGone}
use Rattle.world_plan.specs.Plan.{woken_by}
use Rattle.world_plan.proofs.Numbers.{of_find, in_find, Rise, of_rise, number_is}
use Rattle.world_plan.proofs.Places.{among_all}
use Rattle.plan_runs.proofs.of_waits.Begun.{SleepEvent, sleep_event, SleepsRise, sleeps_rise, sleeps_rise_at}
use Rattle.plan_runs.proofs.of_waits.Worlds.{walk, rising, went_before}

module _ (paths : Paths) where
  -- each sleep of a thread has a number
  pub sleep_number : (t : ℕ) (q : Walk) (s : Sleep) → slice_get paths.threads t ≡ Some q → Contains q.sleeps s
      → (k : ℕ) × (slice_get (all_sleeps paths) k ≡ Some (record { thread = t; it = s }))
  sleep_number t q s there i =
      in_at (all_sleeps paths) (record { thread = t; it = s })
      (in_all_from (λ (v : Walk). v.sleeps) 0 t t paths.threads q s there i (omega arith))

  -- a sleep with a number belongs to a thread
  pub record OwnerOf (z : Placed Sleep) : Type 0 where
    pub walk : Walk
    pub there : slice_get paths.threads z.thread ≡ Some walk
    pub among : Contains walk.sleeps z.it

  pub owner : (k : ℕ) (z : Placed Sleep) → slice_get (all_sleeps paths) k ≡ Some z → OwnerOf z
  owner k z is =
      let o = of_all_from (λ (v : Walk). v.sleeps) 0 paths.threads z (at_in (all_sleeps paths) k z is) in
      let same : o.place ≡ z.thread = omega (arith, o.thread) in
      record { walk = o.owner; there = ap (slice_get paths.threads) (sym same) ∙ o.at; among = o.among }

  -- each event of a thread has its number
  pub numbered : (whole : AreWhole paths) (t : ℕ) (q : Walk) (x : Event) → slice_get paths.threads t ≡ Some q → Contains q.events x
      → slice_get (all_events paths) (number_of paths t x.step) ≡ Some (record { thread = t; it = x })
  numbered whole t q x there i =
      let e : Placed Event = record { thread = t; it = x } in
      let at = in_at (all_events paths) e (among_all paths t q x there i) in
      ap (slice_get (all_events paths)) (number_is paths whole at.0 e at.1) ∙ at.1

  module _ (w : World) where
    -- an event ends a sleep of the thread that it wakes
    pub record Wakes (g : ℕ) (n : Name) : Type 0 where
      pub number : ℕ
      pub sleep : Placed Sleep
      pub is : slice_get (all_sleeps paths) number ≡ Some sleep
      pub walk : Walk
      pub there : slice_get paths.threads sleep.thread ≡ Some walk
      pub name : walk.name ≡ n
      pub ends : ender_of w number ≡ Some g

    abbrev ended_sleep : ℕ → Option (ℕ × Placed Sleep)
    ended_sleep g = find (λ s. is_ended w s.0 g) (enumerate_from 0 (all_sleeps paths))

    abbrev owner_name : Option (ℕ × Placed Sleep) → Option Name
    owner_name o = option_and_then (λ (s : ℕ × Placed Sleep). option_map (λ (q : Walk). q.name) (slice_get paths.threads s.1.thread)) o

    pub to_wake : (g : ℕ) (n : Name) → woken_by paths w g ≡ Some n → Wakes g n
    to_wake g n wakes = by (ended_sleep g) refl wakes
      where
        by_thread : (e : ℕ × Placed Sleep) → ended_sleep g ≡ Some e → (o : Option Walk) → slice_get paths.threads e.1.thread ≡ o
            → option_map (λ (q : Walk). q.name) o ≡ Some n → Wakes g n
        by_thread e found None none is = absurd (none-some n is)
        by_thread e found (Some q) there is =
            let f = of_find (λ (s : ℕ × Placed Sleep). is_ended w s.0 g) (enumerate_from 0 (all_sleeps paths)) e found in
            record {
              number = e.0;
              sleep = e.1;
              is = of_enumerated e (all_sleeps paths) f.0;
              walk = q;
              there = there;
              name = same_Some q.name n is;
              ends = ended_to w e.0 g f.1;
            }

        by : (o : Option (ℕ × Placed Sleep)) → ended_sleep g ≡ o → owner_name o ≡ Some n → Wakes g n
        by None none is = absurd (none-some n is)
        by (Some e) found is = by_thread e found (slice_get paths.threads e.1.thread) refl is

    -- an event that wakes no thread ends no sleep
    pub wakes_none : (g s : ℕ) (z : Placed Sleep) → woken_by paths w g ≡ None → slice_get (all_sleeps paths) s ≡ Some z → ender_of w s ≡ Some g → ⊥
    wakes_none g s z none is ends =
        let f = in_find (λ (e : ℕ × Placed Sleep). is_ended w e.0 g) (enumerate_from 0 (all_sleeps paths)) (s, z) (in_enumerated s z (all_sleeps paths) is)
        (ended_from w s g ends) in
        let i = of_find (λ (e : ℕ × Placed Sleep). is_ended w e.0 g) (enumerate_from 0 (all_sleeps paths)) f.0 f.1 in
        let o = owner f.0.0 f.0.1 (of_enumerated f.0 (all_sleeps paths) i.0) in
        none-some o.walk.name (sym none ∙ ap owner_name f.1 ∙ ap (option_map (λ (q : Walk). q.name)) o.there)

    -- an event is a signal or a broadcast if its kind is
    pub is_signal_at : (whole : AreWhole paths) (t : ℕ) (q : Walk) (x : Event) (c : ℕ) → slice_get paths.threads t ≡ Some q → Contains q.events x
        → x.kind ≡ kind.Signal c → IsSignal paths w (number_of paths t x.step) c
    is_signal_at whole t q x c there i is = record {
      event = record { thread = t; it = x };
      is = numbered whole t q x there i;
      signals = ap (is_signal c) is ∙ eq-eqb c c refl;
    }

    pub is_broadcast_at : (whole : AreWhole paths) (t : ℕ) (q : Walk) (x : Event) (c : ℕ) → slice_get paths.threads t ≡ Some q → Contains q.events x
        → x.kind ≡ kind.Broadcast c → IsBroadcast paths w (number_of paths t x.step) c
    is_broadcast_at whole t q x c there i is = record {
      event = record { thread = t; it = x };
      is = numbered whole t q x there i;
      broadcasts = ap (is_broadcast c) is ∙ eq-eqb c c refl;
    }

module _ {B : Type 0} (setting : Setting B) (nodes : List Node) (w : World) (lawful : IsLawfulWorld setting nodes w) where
  open setting use {code, log}

  -- a thread's sleep with a step has only one number
  pub one_sleep : (i j : ℕ) (a b : Placed Sleep) → slice_get (all_sleeps (paths_of code log)) i ≡ Some a
      → slice_get (all_sleeps (paths_of code log)) j ≡ Some b → a.thread ≡ b.thread → a.it.step ≡ b.it.step → i ≡ j
  one_sleep i j a b ia jb thread same =
      elim (cases_order i j) [
        | inl e ↦ e
        | inr (inl less) ↦ absurd (apart i j a b ia jb less thread same)
        | inr (inr more) ↦ absurd (apart j i b a jb ia more (sym thread) (sym same))
      ]
    where
      rise : Rise (λ (v : Walk). v.sleeps) (λ (z : Sleep). z.step) (paths_of code log).threads
      rise u j k v x y there =
          let all = (walk setting nodes w lawful u v there).sleeps in
          sleeps_rise_at v.sleeps (subst SleepsRise (sym all) (sleeps_rise v.events (rising setting nodes w lawful u v there))) j k x y

      apart : (i j : ℕ) (a b : Placed Sleep) → slice_get (all_sleeps (paths_of code log)) i ≡ Some a → slice_get (all_sleeps (paths_of code log)) j ≡ Some b
          → i < j → a.thread ≡ b.thread → a.it.step ≡ b.it.step → ⊥
      apart i j a b ia jb less thread same =
          elim (of_rise (λ (v : Walk). v.sleeps) (λ (z : Sleep). z.step) 0 (paths_of code log).threads rise i j a b ia jb less) [
            | inl earlier ↦ omega (arith, earlier, thread)
            | inr earlier ↦ omega (arith, earlier.1, same)
          ]

module _ {B : Type 0} (setting : Setting B) (nodes : List Node) (w : World) (lawful : IsLawfulWorld setting nodes w) (t : ℕ) (q : Walk) (s : Sleep)
    (there : IsThread setting.code setting.log t q) (i : Contains q.sleeps s) where
  open setting use {code, log}

  -- the event with which a sleep begins
  pub begins_with : SleepEvent q.events s
  begins_with = sleep_event q.events s (subst (In s) (walk setting nodes w lawful t q there).sleeps (in_contains s q.sleeps i))

  no_store : is_store begins_with.event.kind ≡ false
  no_store = ap is_store begins_with.sleeps

  module _ (p : ℕ) (h : List Deed) (gone : HasGone setting nodes w p h) where
    -- a sleep has begun exactly if its first event comes before the position
    pub begun_before : s.step < steps_in h q.name → place_of (paths_of code log) w t s.step < p
    begun_before done =
        let e = begins_with in
        let before = went_before setting nodes w lawful p h t q e.event gone there (contains_in e.event q.events e.there) no_store
        (subst (λ k. k < steps_in h q.name) (sym e.step) done) in
        subst (λ k. place_of (paths_of code log) w t k < p) e.step before

    pub before_begun : place_of (paths_of code log) w t s.step < p → s.step < steps_in h q.name
    before_begun before =
        let e = begins_with in
        let done = gone.did t q e.event there (contains_in e.event q.events e.there)
        (subst (λ k. place_of (paths_of code log) w t k < p) (sym e.step) before) in
        subst (λ k. k < steps_in h q.name) e.step done
