-- The rules of a lawful order allow the steps of threads.
use Rattle.std.proofs.Common.{◌≡◌, ◌∙◌, inl, inr, suc, ◌+◌, ◌&&◌, Bool, true, List, [], ◌∷◌, ◌++◌, Option, Some, None, refl, ap, arith, subst}
use Rattle.std.specs.Prelude.{option_and_then, if◌then◌else◌}
use Rattle.sym_steps.specs.run_history.History.{Did, Drained}
use Rattle.sym_steps.specs.run_history.Told.{steps_in}
use Rattle.condition_order.specs.path_walk.Paths.{paths_of}
use Rattle.condition_order.specs.path_walk.declared.event.EventKind.{EventKind}
use Rattle.sym_steps.specs.path_laws.Setting.{Setting}
use Rattle.sym_steps.specs.path_laws.Deeds.{kind_of}
use Rattle.condition_order.specs.sym_terms.declared.node.Node.{Node}
use Rattle.condition_order.specs.order_formula.Worlds.{World}
use Rattle.condition_order.specs.lawful_order.Memory.{is_store}
use Rattle.world_plan.specs.Going.{IsLawfulWorld, SleepUntilEnded}
use Rattle.world_plan.specs.Plan.{other_of}
use Rattle.world_plan.specs.Sights.{Sight}
use Rattle.plan_runs.proofs.of_memory.Empty.{empty_there, all_there as all_drain}
use Rattle.plan_runs.proofs.of_memory.Drained.{step_drained, event_drained, drain_drained}
use Rattle.plan_runs.proofs.of_memory.Shown.{quiet_order, event_order, drain_order}
use Rattle.plan_runs.proofs.of_memory.Turn.{has_turn}
use Rattle.plan_runs.proofs.of_memory.Taken.{takes_its}
use Rattle.plan_runs.proofs.of_waits.Asleep.{event_until, step_until, drained_until}
use Rattle.plan_runs.proofs.of_waits.Blocked.{all_blocked}
use Rattle.plan_runs.proofs.of_waits.Free.{is_free}
use Rattle.plan_runs.proofs.of_waits.Threads.{has_exited, there_at, all_there}
use Rattle.plan_runs.proofs.of_waits.Waking.{waits_no_more, finds_its_own, finds_none}
use Rattle.plan_runs.proofs.Given.{IsQuiet, Given}

-- a quiet step shows nothing
hidden : (buffered : Bool) (s : Sight) (k : Option EventKind) → IsQuiet buffered k
    → option_and_then (λ kind. if buffered && is_store kind then None else Some s) k ≡ None
hidden buffered s k (inl none) = ap (option_and_then (λ kind. if buffered && is_store kind then None else Some s)) none
hidden buffered s k (inr store) =
    ap (option_and_then (λ kind. if buffered && is_store kind then None else Some s)) store.1
    ∙ ap (λ b. if b && true then None else Some s) store.0

module _ {B : Type 0} (setting : Setting B) (nodes : List Node) (w : World) (l : IsLawfulWorld setting nodes w) where
  open setting use {ops, code, log}

  pub given : Given setting nodes w
  given = record {
    empties = empty_there setting nodes w l;
    loads = takes_its setting nodes w l;
    turns = λ e waits issued.
        has_turn setting nodes w l e.position e.deeds e.gone e.thread.index e.thread.walk e.thread.there e.event e.among waits e.at issued;
    steps_drain = λ p h n k r took other gone. step_drained setting nodes w l p h gone n k r took other;
    quiet_seen = λ p h t k r took other gone quiet. (
      step_drained setting nodes w l p h gone t.name k r took other,
      quiet_order setting nodes w l p h gone (Did t.name k r took other)
          (hidden ops.buffered (record { thread = t.name; step = k }) (kind_of r other) quiet),
    );
    event_seen = λ e r took other now kind. (
      event_drained setting nodes w l e.position e.deeds e.gone e.thread.index e.thread.walk e.event e.thread.there e.among e.at now r took other,
      event_order setting nodes w l e.position e.deeds e.gone e.thread.index e.thread.walk e.event.step r took other e.thread.there e.at,
    );
    drain_seen = λ e c v waits issued. (
      drain_drained setting nodes w l e.position e.deeds e.gone e.thread.index e.thread.walk e.event e.thread.there e.among e.at c v,
      drain_order setting nodes w l e.position e.deeds e.gone e.thread.index e.thread.walk e.event.step c v e.thread.there e.at,
    );
    all_drain = all_drain setting nodes w l;
    frees = is_free setting nodes w l;
    woken = λ e c m is. waits_no_more setting nodes w l e c;
    waits = λ e c signals u. finds_its_own setting nodes w l e c signals u;
    lost = finds_none setting nodes w l;
    exits = has_exited setting nodes w l;
    there = λ e. there_at setting nodes w l e.position e.deeds e.gone e.thread.index e.thread.walk e.event e.thread.there e.among e.at;
    all_there = all_there setting nodes w l;
    quiet_sleeps = λ p h t r took other gone. step_until setting nodes w l p h gone t.index t.walk (steps_in h t.name) r took other t.there;
    event_sleeps = λ e r took now along.
        let h = e.deeds in
        let q = e.thread.walk in
        let other = other_of (paths_of code log) w h e.thread.index q.name r in
        let d = Did q.name (steps_in h q.name) r took other in
        let next : e.position + 1 ≡ suc e.position = omega arith in
        subst (λ n. SleepUntilEnded code log w n (h ++ d ∷ [])) next
        (event_until setting nodes w l e.position h e.gone d along e.thread.index q e.event e.thread.there e.among e.at e.steps (steps_in h q.name) r took other refl refl);
    drain_sleeps = λ e c v waits along.
        let next : e.position + 1 ≡ suc e.position = omega arith in
        let n = e.thread.walk.name in
        subst (λ m. SleepUntilEnded code log w m (e.deeds ++ Drained n e.event.step c v ∷ [])) next
        (drained_until setting nodes w l e.position e.deeds e.gone e.thread.index e.thread.walk e.event n e.event.step c v e.thread.there e.among waits e.at along);
    blocks = λ p h dead gone before done. all_blocked setting nodes w l p h gone dead done;
  }
