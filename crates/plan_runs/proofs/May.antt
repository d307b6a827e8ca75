-- The next step of a thread may be done.
use Rattle.std.proofs.Common.{◌≡◌, ◌∙◌, inl, inr, ℕ, ◌+◌, Bool, true, false, not, List, Option, Some, None, refl, sym, ap}
use Rattle.std.specs.Prelude.{is_none, option_map, option_and_then}
use Rattle.std.specs.List.{last_or}
use Rattle.std.proofs.lemmas.Bool.{and_from}
use Rattle.std.proofs.lemmas.Option.{same_Some}
use Rattle.condition_order.specs.list_laws.Lists.{is_nil}
use Rattle.condition_order.specs.tc_base.Names.{Name}
use Rattle.condition_order.specs.tc_base.declared.request.Request.{Request}
use Rattle.condition_order.specs.tc_base.declared.request.Request.TheVariants.{Silent, Read, Write, Exchange, Bar, Acquire, Release, BeginWait}
use Rattle.condition_order.specs.tc_base.declared.request.Request.TheVariants.{EndWait, WakeOne, WakeAll, Start, Await, OrderStores, Finish, Fail}
use Rattle.condition_order.specs.store_buffers.Pending.{stores}
use Rattle.sym_steps.specs.run_history.History.{Deed, pending}
use Rattle.sym_steps.specs.run_history.Told.{children_in, owner_in}
use Rattle.sym_steps.proofs.run_history.Lists.{last_or-push}
use Rattle.sym_steps.specs.run_follows.Follow.{may_do_in, OtherIs}
use Rattle.condition_order.specs.path_walk.Events.{acquired_mutex}
use Rattle.condition_order.specs.path_walk.Paths.{paths_of}
use Rattle.condition_order.specs.path_walk.declared.event.EventKind.{EventKind}
use Rattle.condition_order.specs.path_walk.declared.event.EventKind.TheVariants as kind
use Rattle.sym_steps.specs.path_laws.Setting.{Setting}
use Rattle.sym_steps.specs.path_laws.Deeds.{kind_of}
use Rattle.condition_order.specs.sym_terms.declared.node.Node.{Node}
use Rattle.condition_order.specs.order_formula.Worlds.{World}
use Rattle.condition_order.specs.lawful_order.Events.{number_of}
use Rattle.condition_order.specs.lawful_order.Memory.{may_overtake}
use Rattle.world_plan.specs.Plan.{woken_by, other_of}
use Rattle.plan_runs.proofs.Given.{IsQuiet, Given, Next}

-- the request of a create is a create of that child
pub start_kind : (h : List Deed) (n : Name) (f : ℕ) (other : Option Name) → OtherIs h n (Start f) other
    → kind_of (Start f) other ≡ Some (kind.Create (children_in h n + 1))
start_kind h n f other is =
    ap (λ o. option_map kind.Create (option_and_then (last_or None) o)) is
    ∙ ap (option_map kind.Create) (last_or-push None n (children_in h n + 1))

-- A quiet step.
none_may : (buffered : Bool) (h : List Deed) (n : Name) (r : Request) (other : Option Name) → OtherIs h n r other → kind_of r other ≡ None
    → may_do_in buffered h n r other ≡ true
none_may buffered h n Silent other is none = refl
none_may buffered h n Bar other is none = refl
none_may buffered h n (Start f) other is none = absurd (let e : Some (kind.Create (children_in h n + 1)) ≡ None = sym (start_kind h n f other is) ∙ none in cc)
none_may buffered h n r other is none = absurd cc

store_may : (buffered : Bool) (h : List Deed) (n : Name) (r : Request) (other : Option Name) → OtherIs h n r other → kind_of r other ≡ Some kind.Store
    → may_do_in buffered h n r other ≡ true
store_may buffered h n (Write c v) other is e = refl
store_may buffered h n (Start f) other is e =
    absurd (let made : Some (kind.Create (children_in h n + 1)) ≡ Some kind.Store = sym (start_kind h n f other is) ∙ e in cc)
store_may buffered h n r other is e = absurd cc

pub quiet_may : (buffered : Bool) (h : List Deed) (n : Name) (r : Request) (other : Option Name) → OtherIs h n r other → IsQuiet buffered (kind_of r other)
    → may_do_in buffered h n r other ≡ true
quiet_may buffered h n r other is (inl none) = none_may buffered h n r other is none
quiet_may buffered h n r other is (inr store) = store_may buffered h n r other is store.1

-- The step of the event at a position.
module _ {B : Type 0} (setting : Setting B) (nodes : List Node) (w : World) (g : Given setting nodes w) (now : Next setting nodes w) where
  open setting use {ops, code, log}
  open now use {deeds as h, thread, event as x, steps}
  open thread use {index as t, walk as q}

  -- an event that may not overtake stores finds them in memory, and the other threads allow it
  drained : (k : EventKind) → k ≡ x.kind → may_overtake k ≡ false → is_nil (stores (pending ops.buffered h q.name)) ≡ true
  drained k same not = g.empties now (ap may_overtake (sym same) ∙ not)

  free : (m : ℕ) (k : EventKind) → k ≡ x.kind → acquired_mutex k ≡ Some m → is_none (owner_in h m) ≡ true
  free m k same is = ap is_none (g.frees now m (ap acquired_mutex (sym same) ∙ is))

  signal_may : (c : ℕ) (o : Option Name) → kind.Signal c ≡ x.kind
      → woken_by (paths_of code log) w (number_of (paths_of code log) t x.step) ≡ o → may_do_in ops.buffered h q.name (WakeOne c) o ≡ true
  signal_may c (Some u) same is = and_from _ _ (drained (kind.Signal c) same refl) (g.waits now c (sym same) u is)
  signal_may c None same is = and_from _ _ (drained (kind.Signal c) same refl) (g.lost now c (sym same) is)

  pub event_may : (r : Request) → kind_of r (other_of (paths_of code log) w h t q.name r) ≡ Some x.kind
      → may_do_in ops.buffered h q.name r (other_of (paths_of code log) w h t q.name r) ≡ true
  event_may Silent e = absurd cc
  event_may Bar e = absurd cc
  event_may (Read c) e = refl
  event_may (Write c v) e = refl
  event_may Fail e = refl
  event_may (Exchange c v) e = and_from _ _ (drained kind.Exchange (same_Some kind.Exchange x.kind e) refl) refl
  event_may (Acquire m) e =
      let same = same_Some (kind.Lock m) x.kind e in
      and_from _ _ (drained (kind.Lock m) same refl) (free m (kind.Lock m) same refl)
  event_may (Release m) e = and_from _ _ (drained (kind.Unlock m) (same_Some (kind.Unlock m) x.kind e) refl) refl
  event_may (BeginWait c m) e = and_from _ _ (drained (kind.Sleep c m) (same_Some (kind.Sleep c m) x.kind e) refl) refl
  event_may (EndWait c m) e =
      let same = same_Some (kind.Wake c m) x.kind e in
      and_from _ _ (drained (kind.Wake c m) same refl)
      (and_from _ _ (ap not (g.woken now c m (sym same))) (free m (kind.Wake c m) same refl))
  event_may (WakeOne c) e =
      signal_may c _ (same_Some (kind.Signal c) x.kind e)
      (ap (λ k. woken_by (paths_of code log) w (number_of (paths_of code log) t k)) (sym steps))
  event_may (WakeAll c) e = and_from _ _ (drained (kind.Broadcast c) (same_Some (kind.Broadcast c) x.kind e) refl) refl
  event_may (Start f) e =
      let made = start_kind h q.name f (other_of (paths_of code log) w h t q.name (Start f)) refl in
      and_from _ _ (drained (kind.Create (children_in h q.name + 1)) (same_Some _ x.kind (sym made ∙ e)) refl) refl
  event_may (Await k) e =
      let same = same_Some (kind.Join k) x.kind e in
      and_from _ _ (drained (kind.Join k) same refl) (g.exits now k (sym same))
  event_may OrderStores e = and_from _ _ (drained kind.Fence (same_Some kind.Fence x.kind e) refl) refl
  event_may Finish e = and_from _ _ (drained kind.Exit (same_Some kind.Exit x.kind e) refl) refl
