-- Buffers that are empty.
use Rattle.std.proofs.Common.{◌≡◌, ◌∙◌, ℕ, ◌<◌, ◌==◌, ◌&&◌, ◌||◌, Bool, true, false, not, List, refl, ap, ap₂, sym, subst, arith}
use Rattle.std.specs.List.{Contains}
use Rattle.std.proofs.lemmas.Bool.{true≢false}
use Rattle.sym_steps.specs.run_history.History.{Deed, has_drained}
use Rattle.sym_steps.specs.run_history.pending.Deeds.{IsIssuedIn}
use Rattle.sym_steps.proofs.run_history.of_pending.In.{In}
use Rattle.sym_steps.proofs.run_history.of_pending.Own.{stores_have_drained}
use Rattle.sym_steps.specs.run_follows.blocked.Stuck.{HasDrained, AllDrained}
use Rattle.condition_order.specs.path_walk.Paths.{Walk, paths_of}
use Rattle.condition_order.specs.path_walk.declared.event.Event.{Event}
use Rattle.condition_order.specs.path_walk.declared.event.EventKind.TheVariants as kind
use Rattle.sym_steps.specs.path_laws.Setting.{Setting}
use Rattle.sym_steps.specs.path_laws.history.Along.{IsThread}
use Rattle.sym_steps.proofs.path_laws.of_events.Lists.{contains_in}
use Rattle.condition_order.specs.sym_terms.declared.node.Node.{Node}
use Rattle.sym_steps.specs.sym_laws.Valued.{found}
use Rattle.condition_order.specs.order_formula.Worlds.{World}
use Rattle.condition_order.specs.order_formula.declared.group.Group.TheVariants.{Own}
use Rattle.condition_order.specs.lawful_order.Memory.{OwnRule, is_kept, is_store, may_overtake, same_cell}
use Rattle.world_plan.specs.Going.{IsLawfulWorld, HasGone, NextEvent, place}
use Rattle.plan_runs.proofs.of_memory.Issued.{issuer_named, issue_event}
use Rattle.plan_runs.proofs.Histories.{history_of}

module _ {B : Type 0} (setting : Setting B) (nodes : List Node) (w : World) (l : IsLawfulWorld setting nodes w) where
  open setting use {ops, bound, code, log}

  -- the rule of a thread's own events
  pub own_rule : (t : ℕ) → OwnRule ops.buffered bound (paths_of code log) (found code log nodes).symbolic (found code log nodes).nodes w t
  own_rule t = l.lawful.meets (Own t)

  -- an event that may not overtake stores comes after all earlier ones of its thread
  kept_behind : (t : ℕ) (x y : Event) → may_overtake y.kind ≡ false
      → is_kept ops.buffered bound (paths_of code log) (found code log nodes).symbolic (found code log nodes).nodes w t x y ≡ true
  kept_behind t x y last = by (not (ops.buffered && is_store x.kind)) (may_overtake y.kind) last
    where
      by : (a b : Bool) → b ≡ false
          → a || (not b || is_store y.kind
          && bound (same_cell ops.buffered bound (paths_of code log) (found code log nodes).symbolic (found code log nodes).nodes w t x y) (not (x.bars == y.bars)))
          ≡ true
      by true b e = refl
      by false true e = absurd (true≢false e)
      by false false e = refl

  -- an issued store whose place has passed has drained
  pub passed_has_drained : (p : ℕ) (h : List Deed) → HasGone setting nodes w p h → (t : ℕ) (q : Walk) → IsThread code log t q
      → ops.buffered ≡ true → (x : Event) → In x q.events → x.kind ≡ kind.Store → place code log w t x < p → has_drained h q.name x.step ≡ true
  passed_has_drained p h g t q there has x i store before =
      (g.drained t q x there (contains_in x q.events i) (ap₂ (λ b k. b && is_store k) has store)).1 before

  pub empty_there : (e : NextEvent setting nodes w) → may_overtake e.event.kind ≡ false → HasDrained ops.buffered e.deeds e.thread.name
  empty_there e last = (stores_have_drained ops.buffered e.deeds e.thread.name).1 (λ has k c v i.
      let q = e.thread.walk in
      let t = e.thread.index in
      let own = e.thread.there in
      let y = issue_event setting (history_of l e.gone) e.thread k c v i in
      let among = contains_in y.0 q.events y.1 in
      let before = (own_rule t).own y.0 e.event (q, own, among) (q, own, e.among) (omega (arith, y.2, y.4, e.steps)) (kept_behind t y.0 e.event last) in
      ap (has_drained e.deeds q.name) (sym y.2)
      ∙ passed_has_drained e.position e.deeds e.gone t q own has y.0 y.1 y.3 (omega (arith, before, e.at)))

  pub all_there : (p : ℕ) (h : List Deed) → HasGone setting nodes w p h
      → ((t : ℕ) (q : Walk) (x : Event) → IsThread code log t q → Contains q.events x → place code log w t x < p) → AllDrained ops.buffered h
  all_there p h g all n = (stores_have_drained ops.buffered h n).1 (λ has k c v i.
      let s = issuer_named setting (history_of l g) n k c v i in
      let mine = subst (λ m. IsIssuedIn h m k c v) (sym s.name_is) i in
      let y = issue_event setting (history_of l g) s.thread k c v mine in
      let before = all s.index s.walk y.0 s.there (contains_in y.0 s.walk.events y.1) in
      ap₂ (has_drained h) (sym s.name_is) (sym y.2)
      ∙ passed_has_drained p h g s.index s.walk s.there has y.0 y.1 y.3 before)
