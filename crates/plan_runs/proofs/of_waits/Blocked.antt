-- At the end of a deadlock each thread is blocked.
use Rattle.std.proofs.Common.{◌≡◌, ◌∙◌, inl, inr, ℕ, ◌<◌, true, List, Some, refl, sym, ap, subst, arith}
use Rattle.std.specs.Prelude.{is_some, option_map}
use Rattle.std.specs.FinMap as fin
use Rattle.std.specs.List.{Contains}
use Rattle.std.proofs.lemmas.Bool.{false_from_ne_true}
use Rattle.std.proofs.lemmas.Option.{none-some}
use Rattle.condition_order.specs.tc_base.Names.{Name, child}
use Rattle.condition_order.specs.tc_base.States.{Thread}
use Rattle.condition_order.specs.tc_base.declared.failing.Failing.TheVariants.{Deadlock}
use Rattle.condition_order.proofs.run_laws.Basics.{found, some_is, some_value}
use Rattle.sym_steps.specs.run_history.History.{Deed}
use Rattle.sym_steps.specs.run_history.Told.{owner_in, is_thread_in, steps_in, has_exited_in}
use Rattle.sym_steps.proofs.run_history.of_pending.In.{In}
use Rattle.sym_steps.specs.run_follows.blocked.Stuck.{IsBlockedIn, IsBlockedNext, AllAreBlocked}
use Rattle.condition_order.specs.path_walk.Paths.{Walk, Paths, paths_of}
use Rattle.condition_order.specs.path_walk.declared.event.Blocked.{Blocked}
use Rattle.condition_order.specs.path_walk.declared.event.Blocked.TheVariants as blocked
use Rattle.sym_steps.specs.path_laws.Setting.{Setting}
use Rattle.sym_steps.specs.path_laws.history.Along.{IsThread, AllHaveDone, PathThread, path_thread}
use Rattle.sym_steps.proofs.path_laws.of_history.Told.{RunOf, its_run}
use Rattle.sym_steps.proofs.path_laws.of_history.Walks.{thread_named}
use Rattle.sym_steps.proofs.path_laws.of_events.Events.{event_within}
use Rattle.sym_steps.proofs.path_laws.of_events.Lists.{in_contains}
use Rattle.sym_steps.proofs.path_laws.of_events.Owners.{region_owned}
use Rattle.sym_steps.proofs.path_laws.of_events.Waiters.{exits_told}
use Rattle.sym_steps.specs.path_laws.stuck.Blocked.{asked_at}
use Rattle.sym_steps.proofs.path_laws.of_stuck.Ends.{at_last_sleep}
use Rattle.sym_steps.proofs.path_laws.of_stuck.Rests.{asks_blocked, left_blocked}
use Rattle.condition_order.specs.sym_terms.declared.node.Node.{Node}
use Rattle.condition_order.specs.order_formula.Worlds.{World}
use Rattle.condition_order.specs.order_formula.declared.group.Group.TheVariants.{Stuck}
use Rattle.condition_order.specs.lawful_order.Stuck.{IsHeld}
use Rattle.condition_order.proofs.order_events.Lists.{at_in}
use Rattle.world_plan.specs.Going.{IsLawfulWorld, HasGone}
use Rattle.plan_runs.proofs.of_waits.Begun.{region_event}
use Rattle.plan_runs.proofs.of_waits.Sleepers.{sleep_number}
use Rattle.plan_runs.proofs.of_waits.Waking.{waits}
use Rattle.plan_runs.proofs.of_waits.Worlds.{walk}
use Rattle.plan_runs.proofs.Histories.{history_of}

module _ {B : Type 0} (setting : Setting B) (nodes : List Node) (w : World) (lawful : IsLawfulWorld setting nodes w) (p : ℕ) (h : List Deed)
    (gone : HasGone setting nodes w p h) (deadlock : setting.log.failing ≡ Deadlock) (done : AllHaveDone setting.code setting.log h) where
  open setting use {machine, code, log}

  abbrev paths : Paths
  paths = paths_of code log

  abbrev r : RunOf machine log h
  r = its_run setting (history_of lawful gone)

  -- a mutex that is held at the end has an owner
  held_is_owned : (m : ℕ) → IsHeld paths w m → (n : Name) × (owner_in h m ≡ Some n)
  held_is_owned m held =
      let v = held.there.0 in
      let thread : PathThread code log = path_thread held.thread v held.there.1 in
      let k = walk setting nodes w lawful held.thread v thread.there in
      let e = region_event v.events held.region (subst (In held.region) k.regions (in_contains held.region v.regions held.there.2)) in
      let within = event_within code log v k e.event e.there in (
        v.name,
        (region_owned setting (history_of lawful gone) thread m).1 (
          held.region,
          held.there.2,
          held.of,
          record {
            begun = omega (arith, within, e.step, done thread);
            lasts = λ j left. absurd (none-some j (sym held.lasts ∙ left));
          },
        ),
      )

  owned : (m : ℕ) → IsHeld paths w m → is_some (owner_in h m) ≡ true
  owned m held = let o = held_is_owned m held in some_is (owner_in h m) o.0 o.1

  -- a child that has exited is a thread
  exited_there : (n : Name) → has_exited_in h n ≡ true → is_thread_in h n ≡ true
  exited_there n gone_from =
      let t = found (λ (t : Thread B). t.local.has_exited) (fin.get r.state.threads n) (r.told.tells.deeds.buffers.threads.exits n ∙ gone_from) in
      sym (r.told.tells.deeds.buffers.threads.there n) ∙ ap is_some t.1

  blocked_at : (t : ℕ) (q : Walk) (there : IsThread code log t q) (b : Blocked) → q.blocked ≡ Some b → IsBlockedIn h q.name (asked_at b)
  blocked_at t q there (blocked.Lock m) is = owned m ((lawful.lawful.meets (Stuck t)).stuck q (blocked.Lock m) there is)
  blocked_at t q there (blocked.Wake c m k) is =
      elim ((lawful.lawful.meets (Stuck t)).stuck q (blocked.Wake c m k) there is) [
        | inl held ↦ inr (owned m held)
        | inr sleeps_on ↦
            let l = at_last_sleep code setting.lawful log q (walk setting nodes w lawful t q there) c m k is in
            let among : Contains q.sleeps l.sleep = at_in q.sleeps _ l.sleep l.last in
            let n = sleep_number paths t q l.sleep there among in
            let none = sleeps_on n.0 (record { thread = t; it = l.sleep }) n.1 refl l.step in
            let begun : l.sleep.step < steps_in h q.name = omega (arith, l.step, l.ends, done (path_thread t q there)) in
            let asleep = (gone.sleeps n.0 (record { thread = t; it = l.sleep }) q n.1 there begun).1 (λ g ends. absurd (none-some g (sym none ∙ ends))) in
            inl ((waits setting nodes w lawful p h gone t q c there).1 (l.sleep, among, l.condition, asleep))
      ]
  blocked_at t q there (blocked.Join k) is =
      false_from_ne_true (has_exited_in h (child q.name k)) (λ gone_from.
      let n = thread_named setting (history_of lawful gone) (child q.name k) (exited_there (child q.name k) gone_from) in
      let e = (exits_told setting (history_of lawful gone) n.thread).0 (ap (has_exited_in h) n.name_is ∙ gone_from) in
      (lawful.lawful.meets (Stuck t)).stuck q (blocked.Join k) there is n.index e.0 (q, n.walk, there, n.there, n.name_is) (n.walk, n.there, e.1) e.2)

  pub all_blocked : AllAreBlocked code h
  all_blocked n left =
      let o = thread_named setting (history_of lawful gone) n left.there in
      let is_there : is_thread_in h o.walk.name ≡ true = ap (is_thread_in h) o.name_is ∙ left.there in
      let some = (left_blocked setting (history_of lawful gone) o.thread is_there (done o.thread) deadlock).0 (ap (has_exited_in h) o.name_is ∙ left.going) in
      let b = some_value o.walk.blocked some in
      subst (IsBlockedNext code h) o.name_is
      (record {
        request = asked_at b.0;
        asks =
            asks_blocked setting (history_of lawful gone) o.thread is_there (done o.thread) deadlock
            ∙ ap (λ x. option_map asked_at x) b.1;
        blocked = blocked_at o.index o.walk o.there b.0 b.1;
      })
