-- The plan of a lawful world goes up to each position before the end.
use Rattle.std.proofs.Common.{◌≡◌, ◌∙◌, ◌≢◌, ◌⊎◌, inl, inr, ℕ, zero, suc, ◌+◌, ◌-◌, ◌≤◌, ◌<◌, Bool, true, false, not, ◌||◌, cond, List}
use Rattle.std.proofs.Common.{[], ◌∷◌, ◌++◌, length, Option, Some, None, refl, sym, ap, subst, arith}
use Rattle.std.specs.Prelude.{slice_get}
use Rattle.std.specs.List.{Contains}
use Rattle.std.specs.Option.{option_map_or}
use Rattle.std.proofs.lemmas.Bool.{cases_order}
use Rattle.std.proofs.lemmas.Option.{none-some}
use Rattle.condition_order.specs.tc_base.Names.{Name}
use Rattle.condition_order.specs.tc_code.Code.{Code}
use Rattle.sym_steps.specs.run_history.History.{Deed, Drained}
use Rattle.sym_steps.specs.run_history.Told.{steps_in, is_thread_in}
use Rattle.condition_order.specs.path_walk.Paths.{Walk, Paths, paths_of}
use Rattle.condition_order.specs.path_walk.declared.event.Event.{Event}
use Rattle.condition_order.specs.path_walk.declared.event.EventKind.TheVariants as kind
use Rattle.condition_order.specs.path_walk.declared.event.Sleep.{Sleep}
use Rattle.sym_steps.specs.path_laws.Setting.{Setting}
use Rattle.sym_steps.specs.path_laws.history.Along.{IsThread, PathThread, path_thread}
use Rattle.sym_steps.proofs.path_laws.of_events.Events.{event_within}
use Rattle.sym_steps.proofs.path_laws.of_events.Lists.{in_contains}
use Rattle.sym_steps.proofs.path_laws.of_history.Stays.{start_along}
use Rattle.sym_steps.proofs.path_laws.of_history.Walks.{walk_is, few_steps}
use Rattle.condition_order.specs.sym_terms.declared.node.Node.{Node}
use Rattle.condition_order.specs.order_formula.Worlds.{World, position}
use Rattle.condition_order.specs.order_formula.declared.group.Group.TheVariants.{Own}
use Rattle.condition_order.specs.lawful_order.Events.{Placed, all_events, all_sleeps, ender_of}
use Rattle.world_plan.specs.Going.{IsLawfulWorld, is_pending, place}
use Rattle.world_plan.specs.Plan.{event_at, drains_next, does_next, goes_on, goes_to, with_drain, with_event, up_to}
use Rattle.world_plan.proofs.Numbers.{event_numbered, number_is, one_event}
use Rattle.world_plan.proofs.Places.{event_at_is, none_at}
use Rattle.plan_runs.proofs.Deeds.{GoesOn, goes_nowhere, goes_further, goes_push}
use Rattle.plan_runs.proofs.Given.{Gone, Given, Here}
use Rattle.plan_runs.proofs.Next as next
use Rattle.plan_runs.proofs.Next.{NextIs, next_is, paths_whole}
use Rattle.plan_runs.proofs.Steps.{below_next, quiet_goes, event_goes, drain_goes, one_more, QuietAt}
use Rattle.plan_runs.proofs.Histories.{history_of}

at_most : (a b : ℕ) → (a ≤ b) ⊎ (b < a)
at_most a b = by (cases_order a b)
  where
    by : ((a ≡ b) ⊎ ((a < b) ⊎ (b < a))) → (a ≤ b) ⊎ (b < a)
    by (inl e) = inl (omega (arith, e))
    by (inr (inl lt)) = inl (omega (arith, lt))
    by (inr (inr gt)) = inr gt

-- one more step, at the end
pub goes_last : (buffered : Bool) (code : Code) (paths : Paths) (w : World) (m : ℕ) (h : List Deed) (t : ℕ) (n : Name)
    → goes_on buffered code paths w (suc m) h t n
    ≡ goes_on buffered code paths w m h t n ++ does_next buffered code paths w (goes_on buffered code paths w m h t n) t n
goes_last buffered code paths w zero h t n = refl
goes_last buffered code paths w (suc m) h t n = goes_last buffered code paths w m (h ++ does_next buffered code paths w h t n) t n

module _ {B : Type 0} (setting : Setting B) (nodes : List Node) (w : World) (l : IsLawfulWorld setting nodes w) (g : Given setting nodes w) where
  open setting use {machine, ops, code, log}

  abbrev paths : Paths
  paths = paths_of code log

  abbrev is_gone : ℕ → List Deed → Type 0
  is_gone p h = Gone setting nodes w p h

  abbrev goes : ℕ → List Deed → ℕ → Name → List Deed
  goes m h t n = goes_on ops.buffered code paths w m h t n

  abbrev Quiet : Walk → ℕ → Type 0
  Quiet q k = QuietAt setting nodes w l g q k

  -- a thread has done `k` of its steps, and no other thread has seen anything new
  pub record Reached (p : ℕ) (h : List Deed) (q : Walk) (k : ℕ) (later : List Deed) : Type 0 where
    pub gone : is_gone p later
    pub steps : steps_in later q.name ≡ k
    pub on : GoesOn h later

  pub quiet_on : (m p : ℕ) (h : List Deed) → is_gone p h → (t : PathThread code log) → is_thread_in h t.name ≡ true
      → steps_in h t.name + m ≤ length t.places → ((k : ℕ) → steps_in h t.name ≤ k → k < steps_in h t.name + m → Quiet t.walk k)
      → Reached p h t.walk (steps_in h t.name + m) (goes m h t.index t.name)
  quiet_on zero p h gone t is_there few quiet = record { gone = gone; steps = omega arith; on = goes_nowhere h }
  quiet_on (suc m) p h gone t is_there few quiet =
      let q = t.walk in
      let n = next_is setting nodes w l p h gone t is_there (omega (arith, few)) in
      let d = next.deed setting nodes w l p h gone t n in
      let one = one_more setting nodes w l g p h gone t n in
      let later = quiet_goes setting nodes w l g p h gone t n (quiet (steps_in h q.name) (omega arith) (omega arith)) in
      let rest = quiet_on m p (h ++ d ∷ []) later t (one.goes.there q.name is_there) (omega (arith, one.steps, few))
      (λ k low high. quiet k (omega (arith, low, one.steps)) (omega (arith, high, one.steps))) in
      subst (λ ds. Reached p h q (steps_in h q.name + suc m) (goes m (h ++ ds) t.index q.name))
      (sym (next.does_it setting nodes w l p h gone t n))
      (record {
        gone = rest.gone;
        steps = omega (arith, rest.steps, one.steps);
        on = goes_further h (h ++ d ∷ []) (goes m (h ++ d ∷ []) t.index q.name) one.goes rest.on;
      })

  -- all steps before a thread's next event are quiet
  not_pending : (b c : Bool) → b ≡ false → (not b || c) ≡ true
  not_pending false c e = refl
  not_pending true c e = absurd cc

  pub quiet_before : (p : ℕ) (h : List Deed) → is_gone p h → (t : ℕ) (q : Walk) (x : Event) → IsThread code log t q → Contains q.events x
      → place code log w t x ≡ p → (k : ℕ) → steps_in h q.name ≤ k → k < x.step → Quiet q k
  quiet_before p h gone t q x there i at k low high y j step = by (is_pending ops.buffered y) refl
    where
      by : (b : Bool) → is_pending ops.buffered y ≡ b → is_pending ops.buffered y ≡ true
      by true e = e
      by false e =
          let before = (l.lawful.meets (Own t)).own y x (q, there, j) (q, there, i) (omega (arith, step, high)) (not_pending _ _ e) in
          let done = gone.did t q y there j (omega (arith, before, at)) in
          absurd (omega (arith, done, low, step))

  pub within : (t : ℕ) (q : Walk) (x : Event) → IsThread code log t q → Contains q.events x → x.step < length q.places
  within t q x there i = event_within code log q (walk_is code log setting.log_is l.fits (path_thread t q there)) x (in_contains x q.events i)

  -- An event that comes.
  module _ (e : Here setting nodes w) where
    open e use {position as p, deeds as h, gone, thread, event as x, among as i, at as here}
    open thread use {index as t, walk as q, there}

    abbrev is_there : is_thread_in h q.name ≡ true
    is_there = g.there e

    abbrev upto : List Deed
    upto = goes_to ops.buffered code paths w h t q.name (x.step + 1)

    -- a store that waits was issued before, or is issued now
    module _ (waits : is_pending ops.buffered x ≡ true) where
      pub quiet_through : (k : ℕ) → steps_in h q.name ≤ k → k < steps_in h q.name + (x.step + 1 - steps_in h q.name) → Quiet q k
      quiet_through k low high =
          elim (below_next k x.step (omega (arith, high, low))) [
            | inl less ↦ quiet_before p h gone t q x there i here k low less
            | inr same ↦ λ y j step.
                ap (is_pending ops.buffered)
                (one_event paths (paths_whole setting nodes w l) t q y x there j i (step ∙ same))
                ∙ waits
          ]

      pub few_left : steps_in h q.name + (x.step + 1 - steps_in h q.name) ≤ length q.places
      few_left =
          elim (at_most (x.step + 1) (steps_in h q.name)) [
            | inl done ↦ omega (arith, done, few_steps setting (history_of l gone) thread)
            | inr left ↦ omega (arith, left, within t q x there i)
          ]

      issued : Reached p h q (steps_in h q.name + (x.step + 1 - steps_in h q.name)) upto
      issued = quiet_on (x.step + 1 - steps_in h q.name) p h gone thread is_there few_left quiet_through

      pub pending_passes : is_gone (suc p) (upto ++ drains_next ops.buffered upto q.name x.step)
          × GoesOn h (upto ++ drains_next ops.buffered upto q.name x.step)
      pending_passes =
          let done : x.step < steps_in upto q.name = omega (arith, issued.steps) in
          let issued_at : Here setting nodes w =
          record { position = p; deeds = upto; gone = issued.gone; thread = thread; event = x; among = i; at = here } in
          let turn = g.turns issued_at waits done in
          let d = Drained q.name x.step turn.0 turn.1 in
          subst (λ ds. is_gone (suc p) (upto ++ ds) × GoesOn h (upto ++ ds)) (sym turn.3) (
            drain_goes setting nodes w l g issued_at waits done turn.0 turn.1 turn.2,
            goes_further h upto (upto ++ d ∷ []) issued.on (goes_push upto d),
          )

    -- any other event is done now
    module _ (now : is_pending ops.buffered x ≡ false) where
      pub not_done : steps_in h q.name ≤ x.step
      not_done =
          elim (at_most (steps_in h q.name) x.step) [
            | inl left ↦ left
            | inr done ↦
                elim (gone.only t q x there i done) [
                  | inl less ↦ absurd (omega (arith, less, here))
                  | inr waits ↦ absurd (let both : true ≡ false = sym waits ∙ now in cc)
                ]
          ]

      abbrev before : List Deed
      before = goes (x.step - steps_in h q.name) h t q.name

      pub come : Reached p h q x.step before
      come =
          let r = quiet_on (x.step - steps_in h q.name) p h gone thread is_there (omega (arith, not_done, within t q x there i))
          (λ k low high. quiet_before p h gone t q x there i here k low (omega (arith, high, low, not_done))) in
          record { gone = r.gone; steps = omega (arith, r.steps, not_done); on = r.on }

      pub next_there : NextIs setting nodes w l before thread
      next_there =
          next_is setting nodes w l p before come.gone thread (come.on.there q.name is_there)
          (omega (arith, come.steps, within t q x there i))

      upto_is : upto ≡ before ++ does_next ops.buffered code paths w before t q.name
      upto_is =
          let one : x.step + 1 - steps_in h q.name ≡ suc (x.step - steps_in h q.name) = omega (arith, not_done) in
          ap (λ m. goes m h t q.name) one ∙ goes_last ops.buffered code paths w (x.step - steps_in h q.name) h t q.name

      pub event_passes : x.kind ≢ kind.Fail → is_gone (suc p) upto × GoesOn h upto
      event_passes not =
          let n = next_there in
          let d = next.deed setting nodes w l p before come.gone thread n in
          subst (λ k. is_gone (suc p) k × GoesOn h k)
          (sym (upto_is ∙ ap (λ ds. before ++ ds) (next.does_it setting nodes w l p before come.gone thread n))) (
            event_goes setting nodes w l g p before come.gone thread n x i here come.steps now not,
            goes_further h before (before ++ d ∷ []) come.on (goes_push before d),
          )

    pub passes : x.kind ≢ kind.Fail
        → is_gone (suc p) (with_drain ops.buffered code paths w upto q.name x) × GoesOn h (with_drain ops.buffered code paths w upto q.name x)
    passes not = by (is_pending ops.buffered x) refl
      where
        by : (b : Bool) → is_pending ops.buffered x ≡ b
            → is_gone (suc p) (cond b (upto ++ drains_next ops.buffered upto q.name x.step) upto)
            × GoesOn h (cond b (upto ++ drains_next ops.buffered upto q.name x.step) upto)
        by true waits = pending_passes waits
        by false now = event_passes now not

  -- A position without an event.
  module _ (p : ℕ) (h : List Deed) (gone : is_gone p h) (none : event_at paths w p ≡ None) where
    nowhere : (t : ℕ) (q : Walk) (x : Event) → IsThread code log t q → Contains q.events x → place code log w t x ≡ p → ⊥
    nowhere t q x there i at = none_at paths w l.world l.of.events (paths_whole setting nodes w l) p t q x none there i at

    -- no sleep ends at a position without an event
    no_ender : (s k : ℕ) (x : Placed Sleep) → slice_get (all_sleeps paths) s ≡ Some x → ender_of w s ≡ Some k → position w k ≡ p → ⊥
    no_ender s k x is ends at =
        elim (l.of.enders s k x.it.condition x (record { is = is; condition = refl }) ends) [
          | inl signal ↦ of_event signal.event signal.is
          | inr broadcast ↦ of_event broadcast.event broadcast.is
        ]
      where
        of_event : (e : Placed Event) → slice_get (all_events paths) k ≡ Some e → ⊥
        of_event e here =
            let whole = paths_whole setting nodes w l in
            let q = event_numbered paths whole k e here in
            nowhere e.thread q.0 e.it q.1 q.2 (ap (position w) (number_is paths whole k e here) ∙ at)

    pub none_passes : is_gone (suc p) h
    none_passes = record {
      along = gone.along;
      agrees = gone.agrees;
      going = gone.going;
      did = λ t q x there i before.
          elim (below_next (place code log w t x) p before) [
            | inl less ↦ gone.did t q x there i less
            | inr at ↦ absurd (nowhere t q x there i at)
          ];
      only = λ t q x there i done.
          elim (gone.only t q x there i done) [
            | inl less ↦ inl (omega (arith, less))
            | inr waits ↦ inr waits
          ];
      drained = λ t q x there i waits.
          let told = gone.drained t q x there i waits in (
            λ yes. let less = told.0 yes in omega (arith, less),
            λ before.
                elim (below_next (place code log w t x) p before) [
                  | inl less ↦ told.1 less
                  | inr at ↦ absurd (nowhere t q x there i at)
                ],
          );
      sleeps = λ s x q is there done.
          let told = gone.sleeps s x q is there done in (
            λ asleep k ends.
                elim (cases_order p (position w k)) [
                  | inl at ↦ absurd (no_ender s k x is ends (sym at))
                  | inr more ↦ let low = told.0 asleep k ends in after (position w k) more low
                ],
            λ later. told.1 (λ k ends. let high = later k ends in omega (arith, high)),
          );
      order = gone.order;
    }
      where
        after : (n : ℕ) → (p < n) ⊎ (n < p) → p ≤ n → suc p ≤ n
        after n (inl lt) low = lt
        after n (inr gt) low = absurd (omega (arith, gt, low))

  -- At the start.
  pub starts : is_gone 0 []
  starts = record {
    along = start_along machine log l.fits;
    agrees = λ c a m r took other ic ia is one. absurd (none-some _ one.1);
    going = refl;
    did = λ t q x there i before. absurd (omega (arith, before));
    only = λ t q x there i done. absurd (omega (arith, done));
    drained = λ t q x there i waits. (λ yes. absurd (let e : false ≡ true = yes in cc), λ before. absurd (omega (arith, before)));
    sleeps = λ s x q is there done. absurd (omega (arith, done));
    order = λ older between newer d e t k u j is. absurd (nothing_ends (older ++ d ∷ between) e newer is);
  }
    where
      nothing_ends : (older : List Deed) (e : Deed) (newer : List Deed) → [] ≡ older ++ e ∷ newer → ⊥
      nothing_ends [] e newer is = cc
      nothing_ends (d ∷ older) e newer is = cc

  -- The plan goes up to each position before that of the failing event.
  module _ (end : ℕ)
      (unfailed : (t : ℕ) (q : Walk) (x : Event) → IsThread code log t q → Contains q.events x → place code log w t x < end → x.kind ≢ kind.Fail) where
    -- the deeds by which an event comes, given its thread
    abbrev by_walk : List Deed → Placed Event → Option Walk → List Deed
    by_walk h e o =
        option_map_or (λ (q : Walk). with_drain ops.buffered code paths w (goes_to ops.buffered code paths w h e.thread q.name (e.it.step + 1)) q.name e.it)
        o h

    event_is_passed : (p : ℕ) (h : List Deed) → is_gone p h → p < end → (e : Placed Event) → event_at paths w p ≡ Some e
        → is_gone (suc p) (with_event ops.buffered code paths w h e)
    event_is_passed p h gone lt e is =
        let a = event_at_is paths w l.world l.of.events (paths_whole setting nodes w l) p e is in
        subst (is_gone (suc p)) (ap (by_walk h e) (sym a.1))
        (passes (record { position = p; deeds = h; gone = gone; thread = path_thread e.thread a.0 a.1; event = e.it; among = a.2; at = a.3 }) (unfailed e.thread a.0 e.it a.1 a.2 (omega (arith, a.3, lt)))).0

    pub gone_up_to : (p : ℕ) → p ≤ end → is_gone p (up_to ops.buffered code paths w p)
    gone_up_to zero le = starts
    gone_up_to (suc p) le = by (event_at paths w p) refl (gone_up_to p (omega (arith, le)))
      where
        so_far : List Deed
        so_far = up_to ops.buffered code paths w p

        by : (o : Option (Placed Event)) → event_at paths w p ≡ o → is_gone p so_far
            → is_gone (suc p) (option_map_or (with_event ops.buffered code paths w so_far) o so_far)
        by None none gone = none_passes p so_far gone none
        by (Some e) is gone = event_is_passed p so_far gone (omega (arith, le)) e is
