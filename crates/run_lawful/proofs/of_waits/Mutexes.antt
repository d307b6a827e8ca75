-- A mutex is released before it is acquired again.
use Rattle.std.proofs.Common.{◌≡◌, ◌≢◌, ◌∙◌, ◌⊎◌, inl, inr, ℕ, ◌<◌, ◌≤◌, Bool, true, false, not, ◌&&◌, ◌||◌, List, ◌∷◌, ◌++◌}
use Rattle.std.proofs.Common.{Option, Some, None, refl, sym, ap, subst, arith}
use Rattle.std.specs.Prelude.{is_none}
use Rattle.std.specs.FinSet as set
use Rattle.std.specs.List.{Contains}
use Rattle.std.proofs.lemmas.Bool.{false≢true, and_parts, cases_lt}
use Rattle.std.proofs.lemmas.Option.{none-some, same_Some}
use Rattle.sym_events.specs.list_laws.Lists.{is_nil}
use Rattle.sym_events.specs.tc_base.Names.{Name}
use Rattle.sym_events.specs.tc_base.declared.moves.Move.{Move}
use Rattle.sym_events.specs.tc_base.declared.request.Request.{Request}
use Rattle.sym_events.specs.tc_base.declared.request.Request.TheVariants.{Acquire, EndWait}
use Rattle.sym_events.specs.tc_code.Run.{Reproduces}
use Rattle.sym_events.specs.tc_code.Step.{drains_first}
use Rattle.sym_events.specs.store_buffers.Pending.{stores}
use Rattle.sym_steps.specs.run_history.History.{Deed, Did, pending}
use Rattle.sym_steps.specs.run_history.Told.{steps_in, owner_in, waiting_in}
use Rattle.sym_steps.specs.run_follows.Follow.{may_do_in}
use Rattle.sym_steps.specs.run_history.pending.Deeds.{DeedName, name_of}
use Rattle.sym_events.specs.path_walk.Events.{acquired_mutex, released_mutex}
use Rattle.sym_events.specs.path_walk.Paths.{Walk, Paths}
use Rattle.sym_events.specs.path_walk.declared.event.Event.{Event}
use Rattle.sym_events.specs.path_walk.declared.event.EventKind.{EventKind}
use Rattle.sym_events.specs.path_walk.declared.event.EventKind.TheVariants as kind
use Rattle.sym_events.specs.path_walk.declared.event.Region.{Region}
use Rattle.sym_steps.specs.path_laws.Setting.{Setting}
use Rattle.sym_steps.specs.path_laws.history.Along.{IsThread, HistoryAlong, PathThread, path_thread}
use Rattle.sym_steps.proofs.path_laws.of_events.Events.{event_done}
use Rattle.sym_steps.proofs.path_laws.of_events.Lists.{in_contains}
use Rattle.sym_steps.proofs.path_laws.of_events.Owners.{region_owned}
use Rattle.sym_steps.proofs.path_laws.of_events.Steps.{step_is}
use Rattle.sym_events.specs.sym_terms.declared.node.Node.{Node}
use Rattle.sym_events.specs.lawful_order.Events.{HasRegion, IsBefore}
use Rattle.sym_events.specs.lawful_order.Memory.{is_store}
use Rattle.sym_events.specs.lawful_order.Mutexes.{IsLeftBefore, MutexRule}
use Rattle.run_lawful.proofs.of_world.Run.{seen}
use Rattle.run_lawful.proofs.of_world.Seen.{shows_step}
use Rattle.run_lawful.proofs.of_world.Splits.{TwoPlaces, Before, Same, After, two_places}
use Rattle.run_lawful.proofs.of_waits.Deeds.{none_pending, regions_are, h, paths, w, fit, ordered, EventDeed, event_deed, before_deed}
use Rattle.run_lawful.proofs.of_waits.Parts.{IsRegionOf, region_of_events, Takes, Locks, Wakes, taker_is}

-- an event that acquires or releases a mutex isn't a store
taker_no_store : (k : EventKind) (m : ℕ) → acquired_mutex k ≡ Some m → is_store k ≡ false
taker_no_store kind.Store m t = absurd (none-some m t)
taker_no_store k m t = refl

leaver_no_store : (k : EventKind) (m : ℕ) → released_mutex k ≡ Some m → is_store k ≡ false
leaver_no_store kind.Store m t = absurd (none-some m t)
leaver_no_store k m t = refl

none_is : {X : Type 0} (o : Option X) → is_none o ≡ true → o ≡ None
none_is None e = refl
none_is (Some x) e = absurd (false≢true e)

-- a mutex that may be taken has no owner
free_to_take : (buffered : Bool) (g : List Deed) (n : Name) (r : Request) (other : Option Name) (m : ℕ) → Takes m r
    → may_do_in buffered g n r other ≡ true → owner_in g m ≡ None
free_to_take buffered g n r other m (Locks is) may =
    let met : may_do_in buffered g n (Acquire m) other ≡ true = ap (λ x. may_do_in buffered g n x other) (sym is) ∙ may in
    none_is (owner_in g m) (and_parts (not (drains_first (Acquire m)) || is_nil (stores (pending buffered g n))) (is_none (owner_in g m)) met).1
free_to_take buffered g n r other m (Wakes c is) may =
    let met : may_do_in buffered g n (EndWait c m) other ≡ true = ap (λ x. may_do_in buffered g n x other) (sym is) ∙ may in
    none_is (owner_in g m)
    (and_parts (not (set.contains (waiting_in g c) n)) (is_none (owner_in g m))
    (and_parts (not (drains_first (EndWait c m)) || is_nil (stores (pending buffered g n)))
    (not (set.contains (waiting_in g c) n) && is_none (owner_in g m)) met).1).1

module _ {B : Type 0} (setting : Setting B) (nodes : List Node) (moves : List Move) (again : Reproduces setting.ops setting.code setting.log moves) where
  open setting use {ops, code, log, log_is as is}

  abbrev done : List Deed
  done = h setting nodes moves again

  abbrev threads : Paths
  threads = paths setting nodes moves again

  abbrev Deed_of : (t : ℕ) (q : Walk) → Event → Type 0
  Deed_of t q x = EventDeed setting nodes moves again t q x

  abbrev Before_in : (t k u j : ℕ) → Type 0
  Before_in t k u j = IsBefore threads (w setting nodes moves again) t k u j

  -- the region of a mutex, with the deed that acquires it
  record RegionDeed (t : ℕ) (q : Walk) (r : Region) : Type 0 where
    parts : IsRegionOf q.events r
    deed : Deed_of t q parts.taken.event

  region_deed : (t : ℕ) (q : Walk) (r : Region) → IsThread code log t q → Contains q.regions r → RegionDeed t q r
  region_deed t q r there i =
      let f = fit setting nodes moves again in
      let parts = region_of_events q.events r (subst (λ rs. Contains rs r) (regions_are code log is f t q there) i) in
      record {
        parts = parts;
        deed = event_deed setting nodes moves again t q parts.taken.event there parts.taken.among;
      }

  module _ (t u : ℕ) (p q : Walk) (r s : Region) (p_there : IsThread code log t p) (q_there : IsThread code log u q) (i : Contains p.regions r)
      (j : Contains q.regions s) (same : r.mutex ≡ s.mutex) (a : RegionDeed t p r) (b : RegionDeed u q s) where
    abbrev first : Deed
    first = Did p.name a.parts.taken.event.step a.deed.request a.deed.took a.deed.other

    abbrev second : Deed
    second = Did q.name b.parts.taken.event.step b.deed.request b.deed.took b.deed.other

    -- if another region of the mutex begins later, this one has ended
    left_before : (between : List Deed) → b.deed.older ≡ a.deed.older ++ first ∷ between
        → IsLeftBefore threads (w setting nodes moves again) t r u s
    left_before between before = by r.to refl
      where
        g : List Deed
        g = b.deed.older

        before_it : HistoryAlong setting
        before_it = before_deed setting nodes moves again b.deed

        first_thread : PathThread code log
        first_thread = path_thread t p p_there

        free : owner_in g r.mutex ≡ None
        free =
            ap (owner_in g) same
            ∙ free_to_take ops.buffered g q.name b.deed.request b.deed.other s.mutex
            (taker_is b.deed.request b.deed.other b.parts.taken.event.kind s.mutex b.deed.asks b.parts.taken.kind) b.deed.may.may

        begun : r.«from» < steps_in g p.name
        begun =
            let step = step_is setting before_it first_thread a.deed.older between a.parts.taken.event.step a.deed.request a.deed.took a.deed.other before in
            subst (λ k. k < steps_in g p.name) a.parts.taken.step step.done

        closed : ((k : ℕ) → r.to ≡ Some k → steps_in g p.name ≤ k) → ⊥
        closed lasts =
            none-some p.name
            (sym free ∙ (region_owned setting before_it first_thread r.mutex).1 (r, i, refl, record { begun = begun; lasts = lasts }))

        ends : (k : ℕ) → r.to ≡ Some k → k < steps_in g p.name → Before_in t k u s.«from»
        ends k to less =
            let x = a.parts.left k to in
            let d = event_done setting before_it first_thread x.event (in_contains x.event p.events x.among) (subst (λ n. n < steps_in g p.name) (sym x.step) less) in
            let leave = Did p.name x.event.step d.request d.took d.other in
            subst (λ n. Before_in t n u s.«from») x.step
            (subst (λ n. Before_in t x.event.step u n) b.parts.taken.step
            ((ordered setting nodes moves again).order d.older d.newer b.deed.newer leave second t x.event.step u
            b.parts.taken.event.step (b.deed.at ∙ ap (λ xs. xs ++ second ∷ b.deed.newer) d.there)
            (shows_step ops.buffered threads t x.event.step p d.request d.took d.other x.event.kind p_there d.asks
            (none_pending ops.buffered x.event.kind (leaver_no_store x.event.kind r.mutex x.kind)))
            (b.deed.shows (none_pending ops.buffered b.parts.taken.event.kind (taker_no_store b.parts.taken.event.kind s.mutex b.parts.taken.kind)))))

        by : (o : Option ℕ) → r.to ≡ o → IsLeftBefore threads (w setting nodes moves again) t r u s
        by None to = absurd (closed (λ k at. absurd (none-some k (sym to ∙ at))))
        by (Some k) to =
            elim (cases_lt k (steps_in g p.name)) [
              | inl less ↦ (k, to, ends k to less)
              | inr more ↦ absurd (closed (λ n at. let one = same_Some k n (sym to ∙ at) in omega (arith, one, more)))
            ]

  exclusive : (t u : ℕ) (r s : Region) → HasRegion threads t r → HasRegion threads u s → r.mutex ≡ s.mutex → (t ≢ u) ⊎ (r.«from» ≢ s.«from»)
      → IsLeftBefore threads (w setting nodes moves again) t r u s
      ⊎ IsLeftBefore threads (w setting nodes moves again) u s t r
  exclusive t u r s has also same apart =
      by (two_places a.deed.older first_deed a.deed.newer b.deed.older second_deed b.deed.newer (sym a.deed.at ∙ b.deed.at))
    where
      a : RegionDeed t has.0 r
      a = region_deed t has.0 r has.1 has.2

      b : RegionDeed u also.0 s
      b = region_deed u also.0 s also.1 also.2

      first_deed : Deed
      first_deed = Did has.0.name a.parts.taken.event.step a.deed.request a.deed.took a.deed.other

      second_deed : Deed
      second_deed = Did also.0.name b.parts.taken.event.step b.deed.request b.deed.took b.deed.other

      -- the two deeds are different
      differ : first_deed ≡ second_deed → ⊥
      differ one =
          let name = ap (λ (n : DeedName). n.thread) (ap name_of one) in
          let number = ap (λ (n : DeedName). n.number) (ap name_of one) in
          elim apart [
            | inl other ↦ other ((seen setting moves again).names t u has.0 also.0 has.1 also.1 name)
            | inr other ↦ other (sym a.parts.taken.step ∙ number ∙ b.parts.taken.step)
          ]

      by : TwoPlaces a.deed.older first_deed a.deed.newer b.deed.older second_deed b.deed.newer
          → IsLeftBefore threads (w setting nodes moves again) t r u s
          ⊎ IsLeftBefore threads (w setting nodes moves again) u s t r
      by (Before between before rest) = inl (left_before t u has.0 also.0 r s has.1 also.1 has.2 also.2 same a b between before)
      by (Same one deed rest) = absurd (differ deed)
      by (After between before rest) = inr (left_before u t also.0 has.0 s r also.1 has.1 also.2 has.2 (sym same) b a between before)

  pub mutex_rule : (m : ℕ) → MutexRule threads (w setting nodes moves again) m
  mutex_rule m = record { exclusive = λ t u r s has also one two apart. exclusive t u r s has also (one ∙ sym two) apart }
