-- The events of a lawful world before its end: their steps, their positions, and the cells of stores that wait in buffers.
use Rattle.std.proofs.Common.{◌≡◌, ◌∙◌, ◌⊎◌, inl, inr, ℕ, ℤ, suc, ◌+◌, ◌<◌, ◌==◌, Bool, true, List, length}
use Rattle.std.proofs.Common.{Some, refl, sym, subst, arith}
use Rattle.std.specs.Prelude.{slice_get}
use Rattle.std.specs.List.{Contains, enumerate_from}
use Rattle.std.specs.Option.{IfSome}
use Rattle.std.proofs.lemmas.Bool.{and_parts, eqb-true}
use Rattle.std.proofs.lemmas.Option.{none-some, same_Some, slice_get_within}
use Rattle.store_buffers.specs.tc_base.declared.request.Request.TheVariants.{Write}
use Rattle.tc_code.specs.Code.{Code}
use Rattle.world_moves.specs.run_history.History.{Deed}
use Rattle.world_moves.specs.run_history.pending.Deeds.{IsIssuedIn}
use Rattle.world_moves.proofs.run_follows.of_deeds.Cells.{step_cell}
use Rattle.path_walk.specs.Paths.{Walk, Paths, paths_of}
use Rattle.path_walk.specs.declared.event.Event.{Event}
use Rattle.path_walk.specs.declared.event.EventKind.{EventKind}
use Rattle.path_walk.specs.declared.event.EventKind.TheVariants as kind
use Rattle.world_moves.specs.path_laws.Setting.{Setting}
use Rattle.world_moves.specs.path_laws.history.Along.{IsThread, path_thread}
use Rattle.world_moves.proofs.path_laws.of_events.Lists.{in_contains}
use Rattle.sym_terms.specs.declared.node.Node.{Node}
use Rattle.sym_exec.specs.Alone.{cell_by}
use Rattle.path_execution.specs.declared.execution.Execution.{Execution}
use Rattle.tc_code.specs.declared.cell.Cell.{Cell}
use Rattle.world_moves.specs.sym_laws.Valued.{found}
use Rattle.plan_runs.proofs.sym_events.Terms.{have_terms}
use Rattle.order_formula.specs.Worlds.{World, position}
use Rattle.world_moves.specs.order_cells.Terms.{CellIsOf}
use Rattle.world_moves.proofs.order_cells.Stay.{have_later}
use Rattle.lawful_terms.specs.lawful_order.Events.{Placed, all_events}
use Rattle.lawful_terms.specs.lawful_order.Memory.{cell_of, is_store}
use Rattle.world_moves.specs.world_plan.Going.{IsLawfulWorld, is_pending, place}
use Rattle.world_moves.specs.world_plan.Plan.{up_to}
use Rattle.world_moves.proofs.world_plan.Numbers.{of_find}
use Rattle.world_moves.proofs.world_plan.Places.{event_at_is}
use Rattle.world_moves.specs.Moves.{event_here, last_place}
use Rattle.plan_runs.proofs.of_memory.Issued.{event_issued}
use Rattle.plan_runs.proofs.Given.{Gone, Given}
use Rattle.plan_runs.proofs.Goes.{within}
use Rattle.plan_runs.proofs.Next.{paths_whole}
use Rattle.schedule_decode.specs.Decodable.{executed_with}
use Rattle.schedule_decode.proofs.Events.{At, NoneAt, at_position, same_end}
use Rattle.schedule_decode.proofs.Rest.{gone_to}
use Rattle.schedule_decode.proofs.Stores.{IsStoreOf, store_of}
use Rattle.plan_runs.proofs.Histories.{history_of}

only_store : (k : EventKind) → is_store k ≡ true → k ≡ kind.Store
only_store kind.Store e = refl
only_store kind.Load e = absurd cc
only_store k e = absurd cc

-- a cell of memory, whose terms exist
pub record IsOfMemory (code : Code) (nodes : List Node) (w : World) (c : Cell ℕ) : Type 0 where
  pub terms : CellIsOf (length nodes) c
  pub number : cell_by nodes w.loads c < length code.memory

-- an event at a position, with its number
pub record IsKnown (buffered : Bool) (code : Code) (x : Execution) (w : World) (p : ℕ) (e : ℕ × Placed Event) : Type 0 where
  pub walk : Walk
  pub there : slice_get x.paths.threads e.1.thread ≡ Some walk
  pub step : e.1.it.step < length walk.places
  pub number : e.0 < length w.positions
  pub at : position w e.0 ≡ p
  pub cell : is_pending buffered e.1.it ≡ true → IfSome (cell_of x.symbolic e.1.thread e.1.it.step) (IsOfMemory code x.terms w)

-- each event before the end is known
abbrev pub AreKnown : Bool → Code → Execution → World → Type 0
AreKnown buffered code x w =
    (p : ℕ) (e : ℕ × Placed Event) → p < last_place x.paths w → event_here x.paths w p ≡ Some e → IsKnown buffered code x w p e

module _ {B : Type 0} (setting : Setting B) (nodes more : List Node) (w : World) (l : IsLawfulWorld setting nodes w) (g : Given setting nodes w) where
  open setting use {machine, ops, code, log}

  abbrev paths : Paths
  paths = paths_of code log

  abbrev now : Execution
  now = executed_with code log nodes more

  -- the cell of a store that has been issued
  of_store : (t k c : ℕ) → IsStoreOf setting nodes more w l t k c → c < length code.memory
      → IfSome (cell_of now.symbolic t k) (IsOfMemory code now.terms w)
  of_store t k c s within =
      subst (λ o. IfSome o (IsOfMemory code now.terms w)) (sym s.cell)
      (record {
        terms = (have_later (found code log nodes).nodes now.terms now.symbolic (more, refl) (have_terms code setting.lawful paths nodes) t s.access s.has).cell;
        number = omega (arith, within, s.number);
      })

  issued : (p : ℕ) (h : List Deed) → Gone setting nodes w p h → (t : ℕ) (q : Walk) → IsThread code log t q → (k c : ℕ) (v : ℤ)
      → IsIssuedIn h q.name k c v → IfSome (cell_of now.symbolic t k) (IsOfMemory code now.terms w)
  issued p h gone t q there k c v s =
      of_store t k c (store_of setting nodes more w l p h gone t q there k c v s)
      (step_cell machine h s.before s.after q.name k c (Write c v) s.took s.other gone.along.follow s.issued refl)

  stored : (p : ℕ) (h : List Deed) → Gone setting nodes w p h → (t : ℕ) (q : Walk) (x : Event) → IsThread code log t q → Contains q.events x
      → place code log w t x < p → is_pending ops.buffered x ≡ true → IfSome (cell_of now.symbolic t x.step) (IsOfMemory code now.terms w)
  stored p h gone t q x there i before waits =
      let s = event_issued setting (history_of l gone) (path_thread t q there) x (in_contains x q.events i)
      (only_store x.kind (and_parts ops.buffered (is_store x.kind) waits).1) (gone.did t q x there i before) in
      issued p h gone t q there x.step s.0 s.1 s.2

  pub are_known : AreKnown ops.buffered code now w
  are_known p e before is = by (at_position setting nodes more w l g p)
    where
      known_at : (i : ℕ) (x : Placed Event) → At setting nodes more w l g p i x
          → IsKnown ops.buffered code now w p (0 + i, x)
      known_at i x at =
          let a = event_at_is paths w l.world l.of.events (paths_whole setting nodes w l) p x at.plain in
          let f = of_find (λ (y : ℕ × Placed Event). position w y.0 == p) (enumerate_from 0 (all_events paths)) (0 + i, x) at.numbered in
          let few = slice_get_within (all_events paths) i x at.there in
          let end = same_end setting nodes more w l g in
          record {
            walk = a.0;
            there = a.1;
            step = within setting nodes w l g x.thread a.0 x.it a.1 a.2;
            number = omega (arith, few, l.of.events);
            at = eqb-true (position w (0 + i)) p f.1;
            cell = λ waits.
                stored (suc p) (up_to ops.buffered code paths w (suc p))
                (gone_to setting nodes more w l g (suc p) (omega (arith, before, end)))
                x.thread a.0 x.it a.1 a.2 (omega (arith, a.3)) waits;
          }

      by : (((i : ℕ) × (x : Placed Event) × At setting nodes more w l g p i x) ⊎ NoneAt setting nodes more w l g p)
          → IsKnown ops.buffered code now w p e
      by (inr none) = absurd (none-some e (sym none.numbered ∙ is))
      by (inl r) = subst (IsKnown ops.buffered code now w p) (same_Some (0 + r.0, r.1) e (sym r.2.numbered ∙ is)) (known_at r.0 r.1 r.2)
