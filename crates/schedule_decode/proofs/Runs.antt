-- The moves of the plan of a lawful world, block by block.
use Rattle.std.proofs.Common.{◌≡◌, ◌∙◌, ◌≢◌, ℕ, zero, suc, ◌+◌, ◌≤◌, ◌<◌, ℤ, true, List, [], ◌∷◌, ◌++◌, length}
use Rattle.std.proofs.Common.{replicate, Option, Some, None, refl, sym, ap, arith, append_assoc}
use Rattle.std.proofs.lemmas.List.{append-nil, map-append}
use Rattle.std.specs.Prelude.{◌==◌, option_map}
use Rattle.std.specs.List.{find}
use Rattle.std.proofs.lemmas.Bool.{false≢true, and_parts, eqb-true}
use Rattle.std.proofs.lemmas.Option.{none-some, same_Some}
use Rattle.store_buffers.specs.tc_base.Names.{Name}
use Rattle.store_buffers.specs.tc_base.declared.moves.Move.TheVariants as move
use Rattle.store_buffers.specs.tc_base.declared.request.Request.{Request}
use Rattle.store_buffers.specs.tc_base.declared.request.Request.TheVariants.{WakeOne, Silent}
use Rattle.store_buffers.specs.Pending.{Binding}
use Rattle.world_moves.specs.run_history.History.{Deed, Did}
use Rattle.world_moves.specs.run_history.Told.{steps_in, is_thread_in}
use Rattle.world_moves.specs.run_follows.Follow.{move_for, moves_for, taken_in}
use Rattle.path_walk.specs.Paths.{Walk, Paths, paths_of}
use Rattle.path_walk.specs.declared.event.Event.{Event}
use Rattle.path_walk.specs.declared.event.EventKind.TheVariants as kind
use Rattle.world_moves.specs.path_laws.Setting.{Setting}
use Rattle.world_moves.specs.path_laws.Deeds.{kind_of}
use Rattle.sym_terms.specs.declared.node.Node.{Node}
use Rattle.plan_runs.specs.sym_steps.Next.{kind_at}
use Rattle.order_formula.specs.Worlds.{World}
use Rattle.lawful_terms.specs.lawful_order.Memory.{is_store}
use Rattle.world_moves.specs.world_plan.Going.{IsLawfulWorld}
use Rattle.world_moves.specs.world_plan.Plan.{goes_on}
use Rattle.world_moves.proofs.world_plan.Numbers.{of_find}
use Rattle.plan_runs.proofs.Given.{Gone, Given}
use Rattle.plan_runs.proofs.Next as next
use Rattle.plan_runs.proofs.Next.{next_is}
use Rattle.plan_runs.proofs.Steps.{QuietAt, quiet_goes, one_more}
use Rattle.world_moves.specs.path_laws.history.Along.{PathThread}

-- a step other than a signal is a move of its own thread
pub own_run : (bound : Binding) (n : Name) (k : ℕ) (r : Request) (took : ℤ) (other : Option Name)
    → ((c : ℕ) → kind_of r other ≢ Some (kind.Signal c)) → move_for bound (Did n k r took other) ≡ move.Run n
own_run bound n k (WakeOne c) took other not = absurd (not c refl)
own_run bound n k Silent took other not = refl
own_run bound n k r took other not = refl

module _ {B : Type 0} (setting : Setting B) (nodes : List Node) (w : World) (l : IsLawfulWorld setting nodes w) (g : Given setting nodes w) where
  open setting use {ops, bound, code, log}

  abbrev paths : Paths
  paths = paths_of code log

  abbrev goes : ℕ → List Deed → ℕ → Name → List Deed
  goes m h t n = goes_on ops.buffered code paths w m h t n

  -- a quiet step isn't a signal
  no_signal : (q : Walk) (k c : ℕ) → QuietAt setting nodes w l g q k → kind_at q k ≢ Some (kind.Signal c)
  no_signal q k c quiet signals = by (find (λ (e : Event). e.step == k) q.events) refl
    where
      by : (o : Option Event) → find (λ (e : Event). e.step == k) q.events ≡ o → ⊥
      by None none = none-some (kind.Signal c) (sym (ap (option_map (λ (e : Event). e.kind)) none) ∙ signals)
      by (Some x) one =
          let f = of_find (λ (e : Event). e.step == k) q.events x one in
          let is = same_Some x.kind (kind.Signal c) (sym (ap (option_map (λ (e : Event). e.kind)) one) ∙ signals) in
          let waits = and_parts ops.buffered (is_store x.kind) (quiet x f.0 (eqb-true x.step k f.1)) in
          false≢true (sym (ap is_store is) ∙ waits.1)

  -- so many quiet steps of a thread are so many moves of its own
  pub runs_on : (m p : ℕ) (h : List Deed) → Gone setting nodes w p h → (t : PathThread code log)
      → is_thread_in h t.name ≡ true → steps_in h t.name + m ≤ length t.places
      → ((k : ℕ) → steps_in h t.name ≤ k → k < steps_in h t.name + m → QuietAt setting nodes w l g t.walk k)
      → moves_for bound (goes m h t.index t.name) ≡ moves_for bound h ++ replicate m (move.Run t.name)
  runs_on zero p h gone t is_there few quiet = sym (append-nil (moves_for bound h))
  runs_on (suc m) p h gone t is_there few quiet =
      let q = t.walk in
      let n = next_is setting nodes w l p h gone t is_there (omega (arith, few)) in
      let d = next.deed setting nodes w l p h gone t n in
      let other = next.other setting nodes w l p h gone t n in
      let one = one_more setting nodes w l g p h gone t n in
      let now = quiet (steps_in h q.name) (omega arith) (omega arith) in
      let later = quiet_goes setting nodes w l g p h gone t n now in
      let told = next.kind_is setting nodes w l p h gone t n in
      let own : move_for bound d ≡ move.Run q.name =
      own_run bound q.name (steps_in h q.name) n.request (taken_in ops.buffered code h q.name n.request) other
      (λ c is. no_signal q (steps_in h q.name) c now (sym told ∙ is)) in
      let rest = runs_on m p (h ++ d ∷ []) later t (one.goes.there q.name is_there) (omega (arith, one.steps, few))
      (λ k low high. quiet k (omega (arith, low, one.steps)) (omega (arith, high, one.steps))) in
      let run = replicate m (move.Run q.name) in
      ap (λ ds. moves_for bound (goes m (h ++ ds) t.index q.name)) (next.does_it setting nodes w l p h gone t n)
      ∙ rest ∙ ap (λ ms. ms ++ run) (map-append (move_for bound) h (d ∷ []))
      ∙ append_assoc (moves_for bound h) (move_for bound d ∷ []) run
      ∙ ap (λ a. moves_for bound h ++ (a ∷ run)) own
