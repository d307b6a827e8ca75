-- A mutex is free when it is about to be acquired.
use Rattle.std.proofs.Common.{◌≡◌, ◌≢◌, ◌⊎◌, ◌∙◌, inl, inr, ℕ, ◌<◌, ◌==◌, Bool, true, false, List, Option, Some, None, refl, sym, ap, subst, arith}
use Rattle.std.specs.List.{Contains}
use Rattle.std.proofs.lemmas.Bool.{true≢false, eqb-true, eq-eqb}
use Rattle.std.proofs.lemmas.Option.{none-some, same_Some}
use Rattle.condition_order.specs.tc_base.Names.{Name}
use Rattle.sym_steps.specs.run_history.Told.{owner_in, steps_in}
use Rattle.sym_steps.proofs.run_history.of_pending.In.{In}
use Rattle.condition_order.specs.path_walk.Events.{acquired_mutex}
use Rattle.condition_order.specs.path_walk.Paths.{Walk, paths_of}
use Rattle.condition_order.specs.path_walk.declared.event.EventKind.{EventKind}
use Rattle.condition_order.specs.path_walk.declared.event.EventKind.TheVariants as kind
use Rattle.condition_order.specs.path_walk.declared.event.Region.{Region}
use Rattle.sym_steps.specs.path_laws.Setting.{Setting}
use Rattle.sym_steps.specs.path_laws.history.Along.{IsThread}
use Rattle.sym_steps.specs.path_laws.events.Done.{IsOpenAfter}
use Rattle.sym_steps.proofs.path_laws.of_events.Lists.{in_contains, contains_in}
use Rattle.sym_steps.proofs.path_laws.of_events.Owners.{took_it, region_owned}
use Rattle.condition_order.specs.sym_terms.declared.node.Node.{Node}
use Rattle.condition_order.specs.order_formula.Worlds.{World}
use Rattle.condition_order.specs.order_formula.declared.group.Group.TheVariants.{Mutex}
use Rattle.condition_order.specs.lawful_order.Events.{HasRegion, place_of}
use Rattle.condition_order.specs.lawful_order.Memory.{is_store}
use Rattle.condition_order.specs.lawful_order.Mutexes.{IsLeftBefore}
use Rattle.world_plan.specs.Going.{IsLawfulWorld, NextEvent, place}
use Rattle.plan_runs.proofs.of_waits.Begun.{BeginsRegion, taken_region, region_event}
use Rattle.plan_runs.proofs.of_waits.Worlds.{are_whole, walk, rising, in_turn, went_before}
use Rattle.plan_runs.proofs.Histories.{history_of}

-- a store acquires no mutex
no_store : (k : EventKind) (m : ℕ) → acquired_mutex k ≡ Some m → is_store k ≡ false
no_store kind.Store m takes_it = absurd (none-some m takes_it)
no_store k m takes_it = refl

module _ {B : Type 0} (setting : Setting B) (nodes : List Node) (w : World) (lawful : IsLawfulWorld setting nodes w) (at : NextEvent setting nodes w) (m : ℕ)
    (takes_it : acquired_mutex at.event.kind ≡ Some m) where
  open setting use {code, log}
  open at use {position as p, deeds as h, thread, event as x, among}
  open thread use {index as t, walk as q, there as own_there}

  -- the region that begins now
  mine : BeginsRegion q.events x m
  mine =
      taken_region q.events x m (rising setting nodes w lawful t q own_there) (in_contains x q.events among) takes_it

  has_mine : HasRegion (paths_of code log) t mine.region
  has_mine = (
    q,
    own_there,
    contains_in mine.region q.regions (subst (In mine.region) (sym (walk setting nodes w lawful t q own_there).regions) mine.there),
  )

  module _ (u : ℕ) (v : Walk) (s : Region) (there : IsThread code log u v) (i : Contains v.regions s) (mutex : s.mutex ≡ m)
      (lasts : IsOpenAfter (steps_in h v.name) s) where
    -- an open region of the mutex is a different one
    differ : (t ≢ u) ⊎ (mine.region.«from» ≢ s.«from»)
    differ = by (t == u) refl
      where
        by : (b : Bool) → (t == u) ≡ b → (t ≢ u) ⊎ (mine.region.«from» ≢ s.«from»)
        by false apart = inl (λ same. true≢false (sym (eq-eqb t u same) ∙ apart))
        by true same =
            let one : v ≡ q = same_Some v q (sym (subst (λ j. IsThread code log j v) (sym (eqb-true t u same)) there) ∙ own_there) in
            let begun : s.«from» < steps_in h q.name = subst (λ (y : Walk). s.«from» < steps_in h y.name) one lasts.begun in
            inr (λ e. omega (arith, begun, at.steps, mine.begins, e))

    -- the new region isn't released before the other begins, since the other has begun
    not_after : IsLeftBefore (paths_of code log) w t mine.region u s → ⊥
    not_after left =
        let y = (are_whole setting nodes w lawful).left t left.0 mine.region has_mine left.1 in
        let later = mine.ends left.0 left.1 in
        let own = same_Some y.1.0 q (sym y.1.1 ∙ own_there) in
        let mine_first : place code log w t x < place code log w t y.0 =
        in_turn setting nodes w lawful t q x y.0 own_there among (subst (λ (z : Walk). Contains z.events y.0) own y.1.2)
        (no_store x.kind m takes_it) (omega (arith, later, y.2)) in
        let e = region_event v.events s
        (subst (In s) (walk setting nodes w lawful u v there).regions (in_contains s v.regions i)) in
        let began : place code log w u e.event < p =
        went_before setting nodes w lawful p h u v e.event at.gone there (contains_in e.event v.events e.there)
        (no_store e.event.kind s.mutex e.takes_it) (omega (arith, lasts.begun, e.step)) in
        let first : place_of (paths_of code log) w t y.0.step < place_of (paths_of code log) w u e.event.step =
        subst (λ k. place_of (paths_of code log) w t k < place_of (paths_of code log) w u e.event.step) (sym y.2)
        (subst (λ k. place_of (paths_of code log) w t left.0 < place_of (paths_of code log) w u k) (sym e.step) left.2) in
        omega (arith, mine_first, began, first, at.at)

    -- the other region isn't released before, since it is open
    not_before : IsLeftBefore (paths_of code log) w u s t mine.region → ⊥
    not_before left =
        let y = (are_whole setting nodes w lawful).left u left.0 s (v, there, i) left.1 in
        let before : place_of (paths_of code log) w u y.0.step < place_of (paths_of code log) w t x.step =
        subst (λ k. place_of (paths_of code log) w u k < place_of (paths_of code log) w t x.step) (sym y.2)
        (subst (λ k. place_of (paths_of code log) w u left.0 < place_of (paths_of code log) w t k) mine.begins left.2) in
        let done = at.gone.did u y.1.0 y.0 y.1.1 y.1.2 (omega (arith, before, at.at)) in
        let own = same_Some y.1.0 v (sym y.1.1 ∙ there) in
        let done_there : y.0.step < steps_in h v.name = subst (λ (z : Walk). y.0.step < steps_in h z.name) own done in
        omega (arith, done_there, y.2, lasts.lasts left.0 left.1)

    none_open : ⊥
    none_open =
        elim ((lawful.lawful.meets (Mutex m)).exclusive t u mine.region s has_mine (v, there, i) mine.mutex mutex differ) [
          | inl mine_first ↦ not_after mine_first
          | inr mine_later ↦ not_before mine_later
        ]

  pub is_free : owner_in h m ≡ None
  is_free = by (owner_in h m) refl
    where
      by : (o : Option Name) → owner_in h m ≡ o → owner_in h m ≡ None
      by None free = free
      by (Some n) owns =
          let n_is = (took_it setting (history_of lawful at.gone) m n owns).thread in
          let o = (region_owned setting (history_of lawful at.gone) n_is.thread m).0 (owns ∙ ap (λ k. Some k) (sym n_is.name_is)) in
          absurd (none_open n_is.index n_is.walk o.0 n_is.there o.1 o.2 o.3)
