-- If no deed may follow a history, no store is pending.
use Rattle.std.proofs.Common.{◌≡◌, ◌∙◌, inl, inr, Bool, true, false, List, ◌∷◌, ◌++◌, Some, refl, ap}
use Rattle.std.proofs.lemmas.Bool.{false≢true}
use Rattle.run_history.specs.tc_base.Names.{Name}
use Rattle.run_history.specs.tc_base.Buffers.{BufferOps}
use Rattle.run_history.specs.list_laws.Lists.{is_nil}
use Rattle.run_history.specs.tc_base.States.{State}
use Rattle.run_history.specs.memory_models.declared.model.Model.{Model}
use Rattle.run_history.specs.tc_base.declared.moves.Move.{Move}
use Rattle.run_history.specs.tc_code.Code.{Code}
use Rattle.run_history.specs.tc_code.Run.{run}
use Rattle.run_history.specs.store_buffers.Laws.{Laws}
use Rattle.run_history.specs.store_buffers.Pending.{Store, Binding, waits}
use Rattle.run_history.specs.store_buffers.helpers.Lists.{first_store, waits_for_none}
use Rattle.run_history.specs.History.{Deed, Drained, pending_issues, pending, history}
use Rattle.run_history.proofs.of_pending.Apart.{Named, deeds_told}
use Rattle.run_history.proofs.of_pending.Issues.{Rises, split_at}
use Rattle.run_history.proofs.of_pending.Own.{stores_have_drained}
use Rattle.run_history.proofs.of_pending.Turns.{next_by_steps}
use Rattle.run_follows.specs.Follow.{NothingFollows}
use Rattle.run_follows.specs.blocked.Stuck.{HasDrained, AllDrained}

module _ (bound : Binding) (code : Code) (h : List Deed) (named : Named h) (n : Name) where
  -- with buffers the oldest store may drain, and without them none is issued
  drained_by : (buffered : Bool) → Rises (pending_issues buffered h n) → NothingFollows buffered bound code h → HasDrained buffered h n
  drained_by false rises none = (stores_have_drained false h n).1 (λ has. absurd (false≢true has))
  drained_by true rises none =
      elim (first_store (pending true h n)) [
        | inl f ↦
            let split = split_at (pending_issues true h n) f.older (Store f.store) f.newer f.there in
            let next = next_by_steps h n named rises bound split.older split.newer split.at.number f.store.cell f.store.value
            (split.there ∙ ap (λ p. split.older ++ record { number = split.at.number; what = p } ∷ split.newer) split.what)
            (ap (λ ps. waits bound ps f.store.cell) split.olders ∙ waits_for_none bound f.older f.store.cell f.first) in
            absurd (none (Drained n split.at.number f.store.cell f.store.value) (record { buffers = refl; next = next }))
        | inr nothing ↦ ap (λ es. is_nil es) nothing
      ]

pub all_drained : {B : Type 0} (ops : BufferOps B) (model : Model) (bound : Binding) (code : Code) (ms : List Move) (s : State B) → Laws ops model bound
    → run ops code ms ≡ Some s → NothingFollows ops.buffered bound code (history ops code ms) → AllDrained ops.buffered (history ops code ms)
all_drained ops model bound code ms s laws leads none n =
    let a = deeds_told ops model bound laws code ms s leads in
    drained_by bound code (history ops code ms) a.named n ops.buffered (a.buffers.numbers n).rises none
