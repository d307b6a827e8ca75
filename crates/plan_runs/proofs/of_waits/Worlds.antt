-- Facts on a lawful world and its paths.
use Rattle.std.proofs.Common.{◌≡◌, ◌∙◌, inl, inr, ℕ, ◌<◌, Bool, true, false, not, ◌&&◌, ◌||◌, List, refl, sym, ap, subst}
use Rattle.std.specs.List.{Contains}
use Rattle.std.proofs.Math.Bool.{and-false}
use Rattle.std.proofs.lemmas.Bool.{false≢true}
use Rattle.sym_steps.specs.run_history.History.{Deed}
use Rattle.sym_steps.specs.run_history.Told.{steps_in}
use Rattle.condition_order.specs.path_walk.Fits.{fails_in}
use Rattle.condition_order.specs.path_walk.Marks.{marks_at_start}
use Rattle.condition_order.specs.path_walk.Paths.{Walk, paths_of}
use Rattle.condition_order.specs.path_walk.Steps.{steps_at}
use Rattle.condition_order.specs.path_walk.declared.event.Event.{Event}
use Rattle.sym_steps.specs.path_laws.Setting.{Setting}
use Rattle.sym_steps.specs.path_laws.history.Along.{IsThread, path_thread}
use Rattle.sym_steps.proofs.path_laws.of_history.Walks.{IsWalk, walk_is}
use Rattle.sym_steps.proofs.path_laws.of_events.Marked.{Rising, events_rise}
use Rattle.condition_order.specs.sym_terms.declared.node.Node.{Node}
use Rattle.condition_order.specs.order_formula.Worlds.{World}
use Rattle.condition_order.specs.order_formula.declared.group.Group.TheVariants.{Own}
use Rattle.condition_order.specs.lawful_order.Memory.{is_store}
use Rattle.condition_order.specs.lawful_order.Whole.{AreWhole}
use Rattle.condition_order.proofs.order_events.Whole.{whole}
use Rattle.world_plan.specs.Going.{IsLawfulWorld, HasGone, place}

kept_by : (buffered store rest : Bool) → store ≡ false → (not (buffered && store) || rest) ≡ true
kept_by b s rest none = ap (λ c. not (b && c) || rest) none ∙ ap (λ c. not c || rest) (and-false b)

module _ {B : Type 0} (setting : Setting B) (nodes : List Node) (w : World) (lawful : IsLawfulWorld setting nodes w) where
  open setting use {ops, code, log}

  pub are_whole : AreWhole (paths_of code log)
  are_whole = whole code (paths_of code log) (record { log = log; fits = lawful.fits; are = refl })

  pub walk : (t : ℕ) (q : Walk) → IsThread code log t q → IsWalk code log q
  walk t q there = walk_is code log setting.log_is lawful.fits (path_thread t q there)

  pub rising : (t : ℕ) (q : Walk) → IsThread code log t q → Rising q.events
  rising t q there =
      subst Rising (sym (walk t q there).events)
      (events_rise code q.function (fails_in log q.name) 0 (marks_at_start code q.function) (steps_at code q.function q.places))

  -- an event other than a store comes before the later ones of its thread
  pub in_turn : (t : ℕ) (q : Walk) (x y : Event) → IsThread code log t q → Contains q.events x → Contains q.events y → is_store x.kind ≡ false
      → x.step < y.step → place code log w t x < place code log w t y
  in_turn t q x y there i j none less =
      (lawful.lawful.meets (Own t)).own x y (q, there, i) (q, there, j) less (kept_by ops.buffered (is_store x.kind) _ none)

  -- such an event comes before a position exactly if it is done
  pub went_before : (p : ℕ) (h : List Deed) (t : ℕ) (q : Walk) (x : Event) → HasGone setting nodes w p h → IsThread code log t q
      → Contains q.events x → is_store x.kind ≡ false → x.step < steps_in h q.name → place code log w t x < p
  went_before p h t q x gone there i none done =
      elim (gone.only t q x there i done) [
        | inl before ↦ before
        | inr waits ↦ absurd (false≢true (sym (and-false ops.buffered) ∙ ap (λ c. ops.buffered && c) (sym none) ∙ waits))
      ]
