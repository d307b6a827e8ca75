-- A history in the order of a lawful world goes on with one more step, or with a drain.
use Rattle.std.proofs.Common.{◌≡◌, ◌∙◌, ◌≢◌, ◌⊎◌, inl, inr, ℕ, suc, ◌+◌, ◌<◌, ◌==◌, ℤ, pos, true, false, List}
use Rattle.std.proofs.Common.{[], ◌∷◌, ◌++◌, Option, Some, None, refl, sym, ap, subst, arith, slice_index_or}
use Rattle.std.specs.Prelude.{slice_get, option_map}
use Rattle.std.specs.List.{Contains, find}
use Rattle.std.proofs.lemmas.Bool.{cases_order, eqb-true, eq-eqb, and_parts}
use Rattle.std.proofs.lemmas.Option.{none-some, same_Some}
use Rattle.condition_order.specs.tc_base.Names.{Name}
use Rattle.condition_order.proofs.run_laws.Names.{same_or_apart}
use Rattle.sym_steps.specs.run_history.History.{Deed, Did, Drained}
use Rattle.sym_steps.specs.run_history.Told.{steps_in, failed_in}
use Rattle.sym_steps.specs.run_follows.Follow.{taken_in, IsNextDrain}
use Rattle.condition_order.specs.path_walk.Paths.{Walk, Paths, paths_of}
use Rattle.condition_order.specs.path_walk.declared.event.Event.{Event}
use Rattle.condition_order.specs.path_walk.declared.event.EventKind.{EventKind}
use Rattle.condition_order.specs.path_walk.declared.event.EventKind.TheVariants as kind
use Rattle.sym_steps.specs.path_laws.Setting.{Setting}
use Rattle.sym_steps.specs.path_laws.Deeds.{kind_of}
use Rattle.sym_steps.specs.path_laws.history.Along.{IsThread, PathThread}
use Rattle.sym_steps.proofs.path_laws.of_history.Stays.{drain_stays}
use Rattle.condition_order.specs.sym_terms.declared.node.Node.{Node}
use Rattle.condition_order.specs.sym_exec.Executed.{Course}
use Rattle.condition_order.specs.sym_exec.declared.symbolic.Access.{Access}
use Rattle.sym_steps.specs.sym_laws.Valued.{AgreesWith, found}
use Rattle.sym_steps.specs.Next.{kind_at}
use Rattle.sym_steps.proofs.Agree.{agree_step, agree_drain}
use Rattle.condition_order.specs.order_formula.Worlds.{World}
use Rattle.condition_order.specs.lawful_order.Memory.{is_store}
use Rattle.condition_order.specs.lawful_order.Whole as order
use Rattle.condition_order.proofs.order_events.Lists.{at_in}
use Rattle.world_plan.specs.Going.{IsLawfulWorld, is_pending, place, HaveDrained}
use Rattle.world_plan.specs.Sights.{AreInOrder}
use Rattle.world_plan.proofs.Numbers.{of_find, in_find, one_event}
use Rattle.world_plan.proofs.Places.{same_event}
use Rattle.world_plan.proofs.Threads.{one_thread}
use Rattle.plan_runs.proofs.Deeds.{GoesOn, goes_push, steps_own, steps_other, steps_drained, failed_after, fails_not}
use Rattle.plan_runs.proofs.Given.{IsQuiet, Gone, Along, Given, Here, Next}
use Rattle.plan_runs.proofs.May.{quiet_may, event_may}
use Rattle.plan_runs.proofs.Next as next
use Rattle.plan_runs.proofs.Next.{NextIs, paths_whole, paths_executed, of_thread, is_other}

-- a position below the next is below this one, or is this one
pub below_next : (a p : ℕ) → a < suc p → (a < p) ⊎ (a ≡ p)
below_next a p lt = by (cases_order a p)
  where
    by : ((a ≡ p) ⊎ ((a < p) ⊎ (p < a))) → (a < p) ⊎ (a ≡ p)
    by (inl e) = inr e
    by (inr (inl less)) = inl less
    by (inr (inr more)) = absurd (omega (arith, more, lt))

store_only : (k : EventKind) → is_store k ≡ true → k ≡ kind.Store
store_only kind.Store e = refl
store_only kind.Load e = absurd cc
store_only k e = absurd cc

-- an access that takes a value isn't a store
no_load : (a b : Option ℕ) (m : ℕ) → a ≡ Some m → order.kind_of a b ≢ kind.Store
no_load None b m is e = none-some m is
no_load (Some j) None m is e = cc
no_load (Some j) (Some k) m is e = cc

-- a deed that adds one step of a thread
pub record Step (h g : List Deed) (q : Walk) : Type 0 where
  pub goes : GoesOn h g
  pub steps : steps_in g q.name ≡ steps_in h q.name + 1
  pub others : (n : Name) → n ≢ q.name → steps_in g n ≡ steps_in h n

module _ {B : Type 0} (setting : Setting B) (nodes : List Node) (w : World) (l : IsLawfulWorld setting nodes w) (g : Given setting nodes w) where
  open setting use {machine, ops, bound, code, log}

  abbrev paths : Paths
  paths = paths_of code log

  abbrev is_gone : ℕ → List Deed → Type 0
  is_gone p h = Gone setting nodes w p h

  -- two events at one place are the same
  pub one_at : (t u : ℕ) (p q : Walk) (x y : Event) → IsThread code log t p → IsThread code log u q → Contains p.events x → Contains q.events y
      → place code log w t x ≡ place code log w u y → (t ≡ u) × (x ≡ y)
  one_at t u p q x y at bt i j same =
      same_event paths w l.world l.of.events (paths_whole setting nodes w l) t u p q x y at bt i j same

  one_step : (t : ℕ) (q : Walk) (x y : Event) → IsThread code log t q → Contains q.events x → Contains q.events y → x.step ≡ y.step → x ≡ y
  one_step t q x y there i j same = one_event paths (paths_whole setting nodes w l) t q x y there i j same

  -- two walks of one thread are the same
  one_walk : (t u : ℕ) (p q : Walk) → IsThread code log t p → IsThread code log u q → t ≡ u → p ≡ q
  one_walk t u p q at bt same = same_Some p q (sym at ∙ ap (slice_get paths.threads) same ∙ bt)

  -- the event of a step
  event_of_step : (q : Walk) (k : ℕ) (asked : EventKind) → kind_at q k ≡ Some asked → (x : Event) × Contains q.events x × (x.step ≡ k) × (x.kind ≡ asked)
  event_of_step q k asked is = by (find (λ (e : Event). e.step == k) q.events) refl
    where
      by : (o : Option Event) → find (λ (e : Event). e.step == k) q.events ≡ o → (x : Event) × Contains q.events x × (x.step ≡ k) × (x.kind ≡ asked)
      by None none = absurd (none-some asked (sym (ap (option_map (λ (e : Event). e.kind)) none) ∙ is))
      by (Some x) one =
          let f = of_find (λ (e : Event). e.step == k) q.events x one in
          (x, f.0, eqb-true x.step k f.1, same_Some x.kind asked (sym (ap (option_map (λ (e : Event). e.kind)) one) ∙ is))

  pub kind_of_event : (t : ℕ) (q : Walk) (x : Event) → IsThread code log t q → Contains q.events x → kind_at q x.step ≡ Some x.kind
  kind_of_event t q x there i =
      let f = in_find (λ (e : Event). e.step == x.step) q.events x i (eq-eqb x.step x.step refl) in
      let o = of_find (λ (e : Event). e.step == x.step) q.events f.0 f.1 in
      ap (option_map (λ (e : Event). e.kind)) f.1
      ∙ ap (λ (e : Event). Some e.kind) (one_step t q f.0 x there o.0 i (eqb-true f.0.step x.step o.1))

  -- a step is quiet if its only events are stores that wait
  abbrev pub QuietAt : Walk → ℕ → Type 0
  QuietAt q k = (x : Event) → Contains q.events x → x.step ≡ k → is_pending ops.buffered x ≡ true

  quiet_kind : (q : Walk) (k : ℕ) → QuietAt q k → IsQuiet ops.buffered (kind_at q k)
  quiet_kind q k quiet = by (kind_at q k) refl
    where
      by : (o : Option EventKind) → kind_at q k ≡ o → IsQuiet ops.buffered o
      by None none = inl refl
      by (Some asked) is =
          let e = event_of_step q k asked is in
          let waits = and_parts ops.buffered (is_store e.0.kind) (quiet e.0 e.1 e.2) in
          inr (waits.0, ap (λ a. Some a) (sym e.3 ∙ store_only e.0.kind waits.1))

  -- One step more.
  module _ (p : ℕ) (h : List Deed) (gone : is_gone p h) (thread : PathThread code log) (n : NextIs setting nodes w l h thread) where
    open thread use {index as t, walk as q, there}

    abbrev deed : Deed
    deed = next.deed setting nodes w l p h gone thread n

    abbrev other : Option Name
    other = next.other setting nodes w l p h gone thread n

    abbrev took : ℤ
    took = taken_in ops.buffered code h q.name n.request

    abbrev longer : List Deed
    longer = h ++ deed ∷ []

    pub one_more : Step h longer q
    one_more = record {
      goes = goes_push h deed;
      steps = steps_own h q.name (steps_in h q.name) n.request took other;
      others = λ m apart. steps_other h q.name m (steps_in h q.name) n.request took other apart;
    }

    -- a step that is done is this one, or was done before
    step_was : (u : ℕ) (v : Walk) (k : ℕ) → IsThread code log u v → k < steps_in longer v.name
        → (k < steps_in h v.name) ⊎ ((u ≡ t) × (k ≡ steps_in h q.name))
    step_was u v k at done =
        elim (same_or_apart v.name q.name) [
          | inl same ↦
              let own : steps_in longer v.name ≡ steps_in h v.name + 1 =
              ap (steps_in longer) same ∙ one_more.steps ∙ ap (λ m. steps_in h m + 1) (sym same) in
              let is : u ≡ t = one_thread code log setting.log_is u t v q at there same in
              let names : steps_in h v.name ≡ steps_in h q.name = ap (steps_in h) same in
              elim (below_next k (steps_in h v.name) (omega (arith, done, own))) [
                | inl before ↦ inl before
                | inr now ↦ inr (is, now ∙ names)
              ]
          | inr apart ↦ let less = one_more.others v.name apart in inl (omega (arith, done, less))
        ]

    going_on : kind_of n.request other ≢ Some kind.Fail → failed_in longer ≡ None
    going_on not = failed_after h deed gone.going ∙ fails_not q.name (steps_in h q.name) n.request took other not

    kind_told : kind_of n.request other ≡ kind_at q (steps_in h q.name)
    kind_told = next.kind_is setting nodes w l p h gone thread n

    -- the history with this step agrees with the world's loads, if the loads of the step do
    agree_on : ((c : Course) (a : Access) (m : ℕ) → slice_get (found code log nodes).symbolic.threads t ≡ Some c → Contains c.accesses a
        → a.step ≡ steps_in h q.name → a.takes ≡ Some m → slice_index_or w.loads m (pos 0) ≡ took)
        → AgreesWith (found code log nodes).symbolic w.loads longer
    agree_on takes =
        agree_step (found code log nodes).symbolic w.loads h q.name (steps_in h q.name) n.request took other gone.agrees
        (λ c a m ic ia name step is.
        let same = of_thread setting nodes w l t ic.0 q c there ic.1 name in
        takes c a m (ap (slice_get (found code log nodes).symbolic.threads) (sym same) ∙ ic.1) (at_in c.accesses ia.0 a ia.1) step is)

    -- A step that no other thread sees.
    module _ (quiet : QuietAt q (steps_in h q.name)) where
      quiet_so : IsQuiet ops.buffered (kind_of n.request other)
      quiet_so = subst (IsQuiet ops.buffered) (sym kind_told) (quiet_kind q (steps_in h q.name) quiet)

      no_fail : (o : Option EventKind) → IsQuiet ops.buffered o → o ≢ Some kind.Fail
      no_fail o (inl none) e = none-some kind.Fail (sym none ∙ e)
      no_fail o (inr store) e = let both : Some kind.Store ≡ Some kind.Fail = sym store.1 ∙ e in cc

      along_on : Along setting nodes w longer
      along_on =
          next.along setting nodes w l p h gone thread n
          (quiet_may ops.buffered h q.name n.request other (is_other paths w h t q.name n.request) quiet_so)

      no_takes : (c : Course) (a : Access) (m : ℕ) → slice_get (found code log nodes).symbolic.threads t ≡ Some c → Contains c.accesses a
          → a.step ≡ steps_in h q.name → a.takes ≡ Some m → slice_index_or w.loads m (pos 0) ≡ took
      no_takes c a m at i step is =
          let e = (paths_executed setting nodes w l).accesses t a (c, at, i) in
          let among : Contains q.events e.0 = subst (λ (v : Walk). Contains v.events e.0) (one_walk t t e.1.0 q e.1.1 there refl) e.1.2 in
          let waits = and_parts ops.buffered (is_store e.0.kind) (quiet e.0 among (e.2 ∙ step)) in
          absurd (no_load a.takes a.writes m is (sym e.3 ∙ store_only e.0.kind waits.1))

      pub quiet_goes : is_gone p longer
      quiet_goes =
          let seen = g.quiet_seen p h thread (steps_in h q.name) n.request took other gone quiet_so in
          record {
            along = along_on;
            agrees = agree_on no_takes;
            going = going_on (no_fail _ quiet_so);
            did = λ u v x at i before. let done = gone.did u v x at i before in omega (arith, done, one_more.goes.grows v.name);
            only = λ u v x at i done.
                elim (step_was u v x.step at done) [
                  | inl earlier ↦ gone.only u v x at i earlier
                  | inr now ↦ inr (quiet x (subst (λ (y : Walk). Contains y.events x) (one_walk u t v q at there now.0) i) now.1)
                ];
            drained = seen.0;
            sleeps = g.quiet_sleeps p h thread n.request took other gone quiet along_on;
            order = seen.1;
          }

    -- The event at the position, which takes place by the step.
    module _ (x : Event) (x_among : Contains q.events x) (here : place code log w t x ≡ p) (now_steps : steps_in h q.name ≡ x.step) where
      abbrev at : Next setting nodes w
      at = record {
        here = record { position = p; deeds = h; gone = gone; thread = thread; event = x; among = x_among; at = here };
        steps = now_steps;
      }

      kind_here : kind_of n.request other ≡ Some x.kind
      kind_here = kind_told ∙ ap (kind_at q) at.steps ∙ kind_of_event t q x there x_among

      pub event_along : Along setting nodes w longer
      event_along =
          next.along setting nodes w l p h gone thread n
          (event_may setting nodes w g at n.request kind_here)

      pub event_order : is_pending ops.buffered x ≡ false
          → AreInOrder ops.buffered paths w longer
      event_order seen =
          subst (λ k. AreInOrder ops.buffered paths w (h ++ Did q.name k n.request took other ∷ [])) (sym at.steps)
          (g.event_seen at n.request took other seen kind_here).1

      pub event_goes : is_pending ops.buffered x ≡ false → x.kind ≢ kind.Fail → is_gone (suc p) longer
      event_goes now not = record {
        along = event_along;
        agrees = agree_on (λ c a m there i step is. g.loads at n.request n.told.asks c a m there i (step ∙ at.steps) is);
        going = going_on (λ e. not (same_Some x.kind kind.Fail (sym kind_here ∙ e)));
        did = λ u v y there_too i before.
            elim (below_next (place code log w u y) p before) [
              | inl less ↦ let done = gone.did u v y there_too i less in omega (arith, done, one_more.goes.grows v.name)
              | inr here ↦
                  let one = one_at u t v q y x there_too there i x_among (here ∙ sym at.at) in
                  let same = one_walk u t v q there_too there one.0 in
                  let steps : steps_in longer v.name ≡ steps_in h q.name + 1 = ap (λ (z : Walk). steps_in longer z.name) same ∙ one_more.steps in
                  omega (arith, steps, at.steps, ap (λ (z : Event). z.step) one.1)
            ];
        only = λ u v y there_too i done.
            elim (step_was u v y.step there_too done) [
              | inl earlier ↦
                  elim (gone.only u v y there_too i earlier) [
                    | inl less ↦ inl (omega (arith, less))
                    | inr waits ↦ inr waits
                  ]
              | inr own ↦
                  let among = subst (λ (z : Walk). Contains z.events y) (one_walk u t v q there_too there own.0) i in
                  let one = one_step t q y x there among x_among (own.1 ∙ at.steps) in
                  let here : place code log w u y ≡ p = ap (λ a. place code log w a y) own.0 ∙ ap (place code log w t) one ∙ at.at in
                  inl (omega (arith, here))
            ];
        drained = subst (λ k. HaveDrained code log w ops.buffered (suc p) (h ++ Did q.name k n.request took other ∷ [])) (sym at.steps)
            (g.event_seen at n.request took other now kind_here).0;
        sleeps = g.event_sleeps at n.request took now event_along;
        order = event_order now;
      }

  -- The drain of the store at the position.
  module _ (e : Here setting nodes w) (waits : is_pending ops.buffered e.event ≡ true) (issued : e.event.step < steps_in e.deeds e.thread.name)
      (c : ℕ) (v : ℤ) (follows : IsNextDrain ops.buffered bound e.deeds e.thread.name e.event.step c v) where
    open e use {position as p, deeds as h, gone, thread, event as x, among as i, at as here}
    open thread use {index as t, walk as q, there}

    abbrev drained : List Deed
    drained = h ++ Drained q.name x.step c v ∷ []

    drain_along : Along setting nodes w drained
    drain_along = drain_stays machine log h q.name x.step c v gone.along gone.going follows

    pub drain_goes : is_gone (suc p) drained
    drain_goes =
        let seen = g.drain_seen e c v waits issued in
        let steps = steps_drained h q.name in
        record {
          along = drain_along;
          agrees = agree_drain (found code log nodes).symbolic w.loads h q.name x.step c v gone.agrees;
          going = failed_after h (Drained q.name x.step c v) gone.going;
          did = λ u z y at j before.
              elim (below_next (place code log w u y) p before) [
                | inl less ↦ let done = gone.did u z y at j less in omega (arith, done, steps z.name x.step c v)
                | inr same ↦
                    let one = one_at u t z q y x at there j i (same ∙ sym here) in
                    let name = ap (λ (a : Walk). steps_in h a.name) (one_walk u t z q at there one.0) in
                    omega (arith, issued, steps z.name x.step c v, name, ap (λ (a : Event). a.step) one.1)
              ];
          only = λ u z y at j done.
              elim (gone.only u z y at j (omega (arith, done, steps z.name x.step c v))) [
                | inl less ↦ inl (omega (arith, less))
                | inr more ↦ inr more
              ];
          drained = seen.0;
          sleeps = g.drain_sleeps e c v waits drain_along;
          order = seen.1;
        }
