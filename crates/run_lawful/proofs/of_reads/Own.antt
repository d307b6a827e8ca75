-- A thread's stores to one cell drain in order.
use Rattle.std.proofs.Common.{◌≡◌, ◌∙◌, inl, inr, ℕ, ◌<◌, ℤ, true, List, ◌∷◌, ◌++◌, Option, Some, refl, sym, ap, subst}
use Rattle.std.specs.Prelude.{slice_get}
use Rattle.std.proofs.lemmas.Bool.{true≢false, true_from_ne_false, eq-eqb}
use Rattle.sym_events.specs.tc_base.Buffers.{BufferOps}
use Rattle.sym_events.specs.tc_base.Names.{Name}
use Rattle.sym_events.specs.memory_models.declared.model.Model.{Model}
use Rattle.sym_events.specs.tc_base.declared.request.Request.TheVariants.{Write}
use Rattle.sym_events.specs.tc_code.Code.{Code}
use Rattle.sym_events.specs.store_buffers.Laws.{Laws}
use Rattle.sym_events.specs.store_buffers.Pending.{Binding}
use Rattle.sym_steps.specs.run_history.History.{Deed, Did, Drained, has_drained}
use Rattle.sym_steps.specs.run_history.pending.Deeds.{IsIssuedIn, has_bar_between}
use Rattle.sym_steps.proofs.run_history.of_pending.In.{In, in_at, in_split}
use Rattle.sym_steps.specs.run_follows.Follow.{AllFollow}
use Rattle.sym_events.specs.path_walk.Paths.{Walk, Paths}
use Rattle.sym_events.specs.order_formula.Worlds.{World}
use Rattle.sym_events.specs.lawful_order.Events.{IsBefore}
use Rattle.sym_events.specs.lawful_order.Whole.{HasStep}
use Rattle.run_lawful.specs.world.Order.{IsOrderOf}
use Rattle.run_lawful.proofs.of_world.Seen.{AreTold, shown_by, shows_drain}
use Rattle.run_lawful.proofs.of_world.Steps.{IsDrainedAt, step_before_drain}
use Rattle.run_lawful.proofs.of_reads.Writes.{drain_in, by_its_drain}
use Rattle.run_lawful.proofs.of_reads.Order.{takes_or_not, first_before}

module _ {B : Type 0} (ops : BufferOps B) (model : Model) (bound : Binding) (laws : Laws ops model bound) (code : Code) (h : List Deed)
    (follow : AllFollow ops.buffered bound code h) (told : AreTold ops.buffered h) where
  -- when a store drains, the thread's older stores to the cell have drained
  older_drained : (n : Name) (i j c : ℕ) (u v took : ℤ) (other : Option Name) (older newer : List Deed) → h ≡ older ++ Drained n j c v ∷ newer
      → In (Did n i (Write c u) took other) h → i < j → has_drained older n i ≡ true
  older_drained n i j c u v took other older newer at store less =
      let s = in_split (Did n i (Write c u) took other) h store in
      let d : IsDrainedAt h n j = record { older = older; newer = newer; cell = c; value = v; there = at } in
      let b = step_before_drain ops.buffered bound code h follow told.stores n i j s.older s.newer (Write c u) took other s.there d less in
      let issued : IsIssuedIn older n i c u = record { before = s.older; after = b.0; took = took; other = other; issued = b.1 } in
      let next = (follow older newer (Drained n j c v) at).1.next in
      true_from_ne_false (has_drained older n i) (λ waits.
      true≢false (sym (ap (λ x. bound x (has_bar_between older n i j)) (eq-eqb c c refl) ∙ laws.same_cell (has_bar_between older n i j))
      ∙ next.is_free i c u issued waits less))

  -- a thread's stores to one cell take place in the order of their steps
  module _ (paths : Paths) (w : World) (order : IsOrderOf ops.buffered paths h w) where
    pub own_in_order : (t : ℕ) (q : Walk) (i j c : ℕ) (u v took taken : ℤ) (other others : Option Name) → slice_get paths.threads t ≡ Some q
        → ops.buffered ≡ true → In (Did q.name i (Write c u) took other) h → In (Did q.name j (Write c v) taken others) h → i < j
        → HasStep paths t i → HasStep paths t j → IsBefore paths w t i t j
    own_in_order t q i j c u v took taken other others at buffers first second less step steps = elim (takes_or_not ops.buffered paths h t j) [
      | inl x ↦
          let there : In x.deed h = subst (In x.deed) (sym x.there) (in_at x.older x.deed x.newer) in
          let seen = shown_by ops.buffered paths t j q x.deed at x.shows in
          let d = by_its_drain ops.buffered h told q.name j c v taken others x.deed buffers second there seen in
          let at_drain : h ≡ x.older ++ Drained q.name j c d.0 ∷ x.newer = x.there ∙ ap (λ y. x.older ++ y ∷ x.newer) d.1 in
          let f = drain_in x.older q.name i (older_drained q.name i j c u d.0 took other x.older x.newer at_drain first less) in
          first_before ops.buffered paths h w order x.older x.newer x.deed t j x.there x.shows t i
          (record { deed = Drained q.name i f.0 f.1; there = f.2; shows = shows_drain ops.buffered paths t i q f.0 f.1 at })
      | inr none ↦
          elim (takes_or_not ops.buffered paths h t i) [
            | inl y ↦ order.never t i t j y steps none
            | inr neither ↦ order.rest t i j step steps neither none less
          ]
    ]
