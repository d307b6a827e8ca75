-- A deed before an event's step comes before the event, even if that is a store that waits in a
-- buffer.
use Rattle.std.proofs.Common.{◌≡◌, ◌∙◌, ℕ, ℤ, Bool, true, false, ◌&&◌, List, ◌∷◌, ◌++◌, Option, None, refl, sym, ap, ap₂, subst, append_assoc}
use Rattle.std.specs.List.{Contains}
use Rattle.std.proofs.lemmas.Bool.{true≢false, eq-eqb}
use Rattle.std.proofs.lemmas.Option.{same_Some}
use Rattle.sym_events.specs.tc_base.Names.{Name}
use Rattle.sym_events.specs.tc_base.declared.moves.Move.{Move}
use Rattle.sym_events.specs.tc_base.declared.request.Request.TheVariants.{Write}
use Rattle.sym_events.specs.tc_code.Run.{Reproduces}
use Rattle.sym_events.proofs.run_laws.Names.{same_self}
use Rattle.sym_steps.specs.run_history.History.{Deed, Did, Drained, drains, has_drained}
use Rattle.sym_steps.proofs.run_history.of_pending.In.{In, in_at, in_any, one_of_name}
use Rattle.sym_events.specs.path_walk.Paths.{Walk, Paths}
use Rattle.sym_events.specs.path_walk.declared.event.Event.{Event}
use Rattle.sym_events.specs.path_walk.declared.event.EventKind.{EventKind}
use Rattle.sym_steps.specs.path_laws.Setting.{Setting}
use Rattle.sym_steps.specs.path_laws.Deeds.{kind_of}
use Rattle.sym_steps.specs.path_laws.history.Along.{IsThread}
use Rattle.sym_events.specs.sym_terms.declared.node.Node.{Node}
use Rattle.sym_events.specs.lawful_order.Events.{IsBefore}
use Rattle.sym_events.specs.lawful_order.Memory.{is_store}
use Rattle.world_plan.specs.Sights.{Shows}
use Rattle.run_lawful.specs.world.Order.{TakesPlace}
use Rattle.run_lawful.proofs.of_world.Enders.{is_its_step}
use Rattle.run_lawful.proofs.of_world.Run.{told}
use Rattle.run_lawful.proofs.of_world.Seen.{SeenBy, Done, Drain, shown_by, shows_drain}
use Rattle.run_lawful.proofs.of_world.Steps.{drained_at}
use Rattle.run_lawful.proofs.of_waits.Deeds.{h, paths, w, ordered, step_once, EventDeed}

is_drain : (n : Name) (k c : ℕ) (v : ℤ) → drains n k (Drained n k c v) ≡ true
is_drain n k c v = ap₂ (λ a b. a && b) (same_self n n refl) (eq-eqb k k refl)

abbrev asked_in : Deed → Option EventKind
asked_in (Did n k r took other) = kind_of r other
asked_in _ = None

module _ {B : Type 0} (setting : Setting B) (nodes : List Node) (moves : List Move) (again : Reproduces setting.ops setting.code setting.log moves) where
  open setting use {ops, code, log}

  abbrev done : List Deed
  done = h setting nodes moves again

  abbrev threads : Paths
  threads = paths setting nodes moves again

  -- the step of an event
  module _ (c : ℕ) (q : Walk) (x : Event) (there : IsThread code log c q) (i : Contains q.events x)
      (e : EventDeed setting nodes moves again c q x) where
    abbrev its_deed : Deed
    its_deed = Did q.name x.step e.request e.took e.other

    -- a deed before that step, which shows a step of a thread
    module _ (t k : ℕ) (older between : List Deed) (deed : Deed) (shows : Shows ops.buffered threads deed t k)
        (before : e.older ≡ older ++ deed ∷ between) where
      abbrev First : Type 0
      First = IsBefore threads (w setting nodes moves again) t k c x.step

      by_step : (ops.buffered && is_store x.kind) ≡ false → First
      by_step kept =
          (ordered setting nodes moves again).order older between e.newer deed its_deed t k c x.step
          (e.at ∙ ap (λ g. g ++ its_deed ∷ e.newer) before) shows (e.shows kept)

      -- a store that has drained did so after its step
      by_drain : has_drained done q.name x.step ≡ true → First
      by_drain drained =
          let z = drained_at done q.name x.step drained in
          let drain = Drained q.name x.step z.cell z.value in
          let store = (told setting moves again).stores z.older z.newer q.name x.step z.cell z.value z.there in
          let issue = Did q.name x.step (Write z.cell z.value) store.took store.other in
          let issued : done ≡ store.before ++ issue ∷ (store.after ++ drain ∷ z.newer) =
          z.there ∙ ap (λ g. g ++ drain ∷ z.newer) store.issued ∙ append_assoc store.before (issue ∷ store.after) (drain ∷ z.newer) in
          let once = step_once setting nodes moves again q.name x.step store.before issue (store.after ++ drain ∷ z.newer)
          e.older its_deed e.newer issued e.at (is_its_step q.name x.step (Write z.cell z.value) store.took store.other)
          (is_its_step q.name x.step e.request e.took e.other) in
          let front : store.before ≡ older ++ deed ∷ between = once.0 ∙ before in
          let all : z.older ≡ older ++ deed ∷ (between ++ issue ∷ store.after) =
          store.issued ∙ ap (λ g. g ++ issue ∷ store.after) front ∙ append_assoc older (deed ∷ between) (issue ∷ store.after) in
          (ordered setting nodes moves again).order older (between ++ issue ∷ store.after) z.newer deed drain t k c x.step
          (z.there ∙ ap (λ g. g ++ drain ∷ z.newer) all) shows (shows_drain ops.buffered threads c x.step q z.cell z.value there)

      -- a store that never drains comes last
      by_never : (ops.buffered && is_store x.kind) ≡ true → has_drained done q.name x.step ≡ false → First
      by_never waits none =
          (ordered setting nodes moves again).never t k c x.step
          (record {
            older = older;
            deed = deed;
            newer = between ++ its_deed ∷ e.newer;
            there = e.at ∙ ap (λ g. g ++ its_deed ∷ e.newer) before ∙ append_assoc older (deed ∷ between) (its_deed ∷ e.newer);
            shows = shows;
          })
          (x, (q, there, i), refl) never
        where
          never : TakesPlace ops.buffered threads done c x.step → ⊥
          never y = by (shown_by ops.buffered threads c x.step q y.deed there y.shows)
            where
              in_done : In y.deed done
              in_done = subst (In y.deed) (sym y.there) (in_at y.older y.deed y.newer)

              by : SeenBy ops.buffered q.name x.step y.deed → ⊥
              by (Done r took other asked is_it asks kept) =
                  let own = Did q.name x.step r took other in
                  let one = one_of_name done own its_deed (told setting moves again).apart
                  (subst (λ g. In g done) is_it in_done) (subst (In its_deed) (sym e.at) (in_at e.older its_deed e.newer)) refl in
                  let same : asked ≡ x.kind = same_Some asked x.kind (sym asks ∙ ap asked_in one ∙ e.asks) in
                  true≢false (sym waits ∙ ap (λ a. ops.buffered && is_store a) (sym same) ∙ kept)
              by (Drain cell v is_it) =
                  true≢false
                  (sym (in_any (drains q.name x.step) y.deed done in_done (ap (drains q.name x.step) is_it ∙ is_drain q.name x.step cell v)) ∙ none)

      pub comes_first : First
      comes_first = by (ops.buffered && is_store x.kind) refl
        where
          by_pending : (ops.buffered && is_store x.kind) ≡ true → (b : Bool) → has_drained done q.name x.step ≡ b → First
          by_pending waits true drained = by_drain drained
          by_pending waits false none = by_never waits none

          by : (b : Bool) → (ops.buffered && is_store x.kind) ≡ b → First
          by true waits = by_pending waits (has_drained done q.name x.step) refl
          by false kept = by_step kept
