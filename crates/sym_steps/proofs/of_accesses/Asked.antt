-- What a thread's steps ask of cells is what its accesses ask.
use Rattle.std.proofs.Common.{◌≡◌, ◌∙◌, inl, inr, ℕ, ◌<◌, ℤ, Bool, true, false, cond, List, [], ◌∷◌, ◌++◌, map, Option, refl, ap, ap₂, sym, subst, arith}
use Rattle.std.specs.Prelude.{nat_lt}
use Rattle.std.specs.List.{Contains, filter, flat_map}
use Rattle.std.proofs.lemmas.Bool.{lt-ltb}
use Rattle.order_events.specs.tc_base.Names.{Name}
use Rattle.order_events.specs.tc_base.declared.request.Request.{Request}
use Rattle.order_events.specs.tc_base.declared.request.Request.TheVariants.{Silent, Read, Write, Exchange}
use Rattle.order_events.proofs.run_laws.Names.{is_same, same_self}
use Rattle.sym_laws.specs.run_history.History.{Deed, Did, Drained, same}
use Rattle.sym_laws.specs.run_history.Told.{steps_in}
use Rattle.sym_laws.proofs.run_history.of_pending.In.{In, in_at, in_split, in_filter, from_filter}
use Rattle.sym_laws.specs.path_laws.Setting.{Setting}
use Rattle.sym_laws.proofs.path_laws.of_history.Told.{RunOf, steps_of, local_is, its_run}
use Rattle.sym_laws.proofs.path_laws.of_events.Events.{there_by_step}
use Rattle.sym_laws.proofs.path_laws.of_events.Lists.{in_map, from_map, in_contains, contains_in}
use Rattle.sym_laws.proofs.path_laws.of_events.Steps.{step_is}
use Rattle.order_events.specs.sym_terms.declared.node.Node.{Node}
use Rattle.sym_laws.specs.sym_exec.Alone.{Asked, asked_by, asked_in}
use Rattle.sym_laws.specs.sym_exec.declared.symbolic.Access.{Access}
use Rattle.sym_laws.specs.Valued.{AskedAt, asked_of, asked_at, found}
use Rattle.sym_steps.proofs.Told.{has_values}
use Rattle.order_events.proofs.Lists.{in_front, in_flat_map, of_flat_map}
use Rattle.sym_steps.specs.accesses.Asked.{IsAskedIn}
use Rattle.sym_steps.specs.Valued.{ValuedHistory, ExecutedThread}

-- a request is for at most one cell
only_one : (y z : Asked) → In y (z ∷ []) → z ∷ [] ≡ y ∷ []
only_one y z (inl e) = ap (λ x. x ∷ []) e
only_one y z (inr i) = absurd i

pub asks_one : (took : ℤ) (r : Request) (y : Asked) → In y (asked_by took r) → asked_by took r ≡ y ∷ []
asks_one took (Read c) y i = only_one y _ i
asks_one took (Write c v) y i = only_one y _ i
asks_one took (Exchange c v) y i = only_one y _ i
asks_one took Silent y i = absurd i
asks_one took r y i = absurd i

-- the request of a thread's deed
record IsAskedBy (d : Deed) (n : Name) (y : AskedAt) : Type 0 where
  request : Request
  took : ℤ
  other : Option Name
  is : d ≡ Did n y.step request took other
  asks : asked_by took request ≡ y.asked ∷ []

deed_asks : (n : Name) (d : Deed) (y : AskedAt) → In y (asked_of n d) → IsAskedBy d n y
deed_asks n (Drained q k c v) y i = absurd i
deed_asks n (Did q k r took other) y i = by (same n q) refl i
  where
    by : (b : Bool) → same n q ≡ b → In y (cond b (map (λ x. record { step = k; asked = x }) (asked_by took r)) []) → IsAskedBy (Did q k r took other) n y
    by true e i =
        let from = from_map (λ (x : Asked). record { step = k; asked = x }) y (asked_by took r) i in
        record {
          request = r;
          took = took;
          other = other;
          is = ap₂ (λ p m. Did p m r took other) (sym (is_same n q e)) (ap (λ (x : AskedAt). x.step) from.2);
          asks = asks_one took r y.asked (subst (λ z. In z (asked_by took r)) (ap (λ (x : AskedAt). x.asked) from.2) from.1);
        }
    by false e i = absurd i

module _ {B : Type 0} (setting : Setting B) (nodes : List Node) (loads : List ℤ) (valued : ValuedHistory setting nodes loads)
    (one : ExecutedThread setting.code setting.log nodes) where
  open setting use {machine, code, log}
  open valued use {history, deeds as h}
  open one use {thread, walk as w, course as c}

  abbrev r : RunOf machine log h
  r = its_run setting history

  abbrev at : Access → AskedAt
  at a = asked_at (found code log nodes).nodes loads a

  -- the requests of a thread that has done a step
  asked_so : 0 < steps_in h w.name
      → flat_map (asked_of w.name) h ≡ map at (filter (λ (a : Access). nat_lt a.step (steps_in h w.name)) c.accesses)
  asked_so some =
      let t = there_by_step setting history thread some in
      let local = local_is machine log h r w.name t.0 t.1 in
      let v = has_values setting nodes loads valued one t.0.local local in
      v.accesses
      ∙ ap (λ n. map at (filter (λ (a : Access). nat_lt a.step n) c.accesses)) (steps_of machine log h r w.name t.0 t.1)

  pub access_asked : (a : Access) → In a c.accesses → a.step < steps_in h w.name → IsAskedIn h w.name a.step (asked_in (found code log nodes).nodes loads a)
  access_asked a i before =
      let kept = in_filter (λ (x : Access). nat_lt x.step (steps_in h w.name)) a c.accesses i (lt-ltb a.step (steps_in h w.name) before) in
      let told = subst (In (at a)) (sym (asked_so (omega (arith, before)))) (in_map at a _ kept) in
      let d = of_flat_map (asked_of w.name) (at a) h (contains_in (at a) _ told) in
      let by = deed_asks w.name d.0 (at a) (in_contains (at a) _ d.2) in
      let s = in_split d.0 h (in_contains d.0 h d.1) in
      record {
        older = s.older;
        newer = s.newer;
        request = by.request;
        took = by.took;
        other = by.other;
        there = s.there ∙ ap (λ x. s.older ++ x ∷ s.newer) by.is;
        asks = by.asks;
      }

  pub asked_access : (k : ℕ) (y : Asked) → IsAskedIn h w.name k y
      → (a : Access) × In a c.accesses × (a.step ≡ k) × (asked_in (found code log nodes).nodes loads a ≡ y)
  asked_access k y d =
      let deed = Did w.name k d.request d.took d.other in
      let step = step_is setting history thread d.older d.newer k d.request d.took d.other d.there in
      let z : AskedAt = record { step = k; asked = y } in
      let mine : asked_of w.name deed ≡ z ∷ [] =
      ap (λ b. cond b (map (λ x. record { step = k; asked = x }) (asked_by d.took d.request)) []) (same_self w.name w.name refl)
      ∙ ap (map (λ x. record { step = k; asked = x })) d.asks in
      let among = contains_in deed h (subst (In deed) (sym d.there) (in_at d.older deed d.newer)) in
      let one = in_flat_map (asked_of w.name) deed z h among (subst (λ zs. Contains zs z) (sym mine) (in_front z [])) in
      let from = from_map at z _ (in_contains z _ (subst (λ zs. Contains zs z) (asked_so (omega (arith, step.done))) one)) in
      let kept = from_filter (λ (x : Access). nat_lt x.step (steps_in h w.name)) from.0 c.accesses from.1 in
      (from.0, kept.0, ap (λ (x : AskedAt). x.step) from.2, ap (λ (x : AskedAt). x.asked) from.2)
