-- The accesses of a history's stores and loads, up to a position of a lawful world.
use Rattle.std.proofs.Common.{◌≡◌, ◌∙◌, inl, ℕ, ◌<◌, ◌==◌, ◌&&◌, ℤ, true, not, List}
use Rattle.std.proofs.Common.{Some, None, refl, ap, ap₂, sym, arith}
use Rattle.std.specs.Prelude.{slice_get}
use Rattle.std.specs.List.{Contains}
use Rattle.std.specs.Option.{option_eq}
use Rattle.std.proofs.lemmas.Bool.{and_from, or_right}
use Rattle.condition_order.specs.tc_base.Names.{Name}
use Rattle.condition_order.specs.tc_base.declared.request.Request.TheVariants.{Write}
use Rattle.sym_steps.specs.run_history.History.{Deed}
use Rattle.sym_steps.specs.run_history.pending.Deeds.{IsIssuedIn}
use Rattle.condition_order.specs.path_walk.Paths.{Walk, paths_of}
use Rattle.condition_order.specs.path_walk.declared.event.Event.{Event}
use Rattle.condition_order.specs.path_walk.declared.event.EventKind.TheVariants as kind
use Rattle.sym_steps.specs.path_laws.Setting.{Setting}
use Rattle.sym_steps.specs.path_laws.history.Along.{IsThread, PathThread}
use Rattle.sym_steps.proofs.path_laws.of_history.Walks.{thread_path_at}
use Rattle.sym_steps.proofs.path_laws.of_events.Lists.{contains_in}
use Rattle.sym_steps.proofs.path_laws.of_events.Steps.{step_is}
use Rattle.condition_order.specs.sym_terms.declared.node.Node.{Node}
use Rattle.condition_order.specs.sym_exec.Alone.{Asked, asked_in, cell_by}
use Rattle.condition_order.specs.sym_exec.Executed.{Course}
use Rattle.condition_order.specs.sym_exec.declared.symbolic.Access.{Access}
use Rattle.sym_steps.specs.sym_laws.Valued.{found}
use Rattle.sym_steps.proofs.sym_laws.Follows.{found_at_log}
use Rattle.sym_events.proofs.Whole.{is_executed}
use Rattle.sym_steps.specs.accesses.Asked.{IsAskedIn, IsReachedIn}
use Rattle.sym_steps.proofs.of_accesses.Asked.{asked_access}
use Rattle.sym_steps.proofs.of_accesses.Found.{cell_found}
use Rattle.sym_steps.proofs.of_accesses.Reached.{same_cells}
use Rattle.condition_order.specs.order_formula.Worlds.{World}
use Rattle.condition_order.specs.lawful_order.Cells.{is_same_cell}
use Rattle.condition_order.specs.lawful_order.Events.{IsBefore}
use Rattle.condition_order.specs.lawful_order.Memory.{cell_of, is_store, may_overtake, same_cell}
use Rattle.condition_order.specs.lawful_order.Reads.{HasAccess}
use Rattle.condition_order.specs.lawful_order.Whole.{IsExecutedBy}
use Rattle.world_plan.specs.Going.{IsLawfulWorld}
use Rattle.plan_runs.proofs.of_memory.Empty.{own_rule}
use Rattle.sym_steps.specs.Valued.{ValuedHistory}

-- the request of an issued store
abbrev pub written : (c : ℕ) (v : ℤ) → Asked
written c v = record { cell = c; takes = None; writes = Some v }

pub issue_asks : (h : List Deed) (n : Name) (k c : ℕ) (v : ℤ) → IsIssuedIn h n k c v → IsAskedIn h n k (written c v)
issue_asks h n k c v i =
    record { older = i.before; newer = i.after; request = Write c v; took = i.took; other = i.other; there = i.issued; asks = refl }

module _ {B : Type 0} (setting : Setting B) (nodes : List Node) (w : World) (l : IsLawfulWorld setting nodes w) where
  open setting use {ops, model, bound, code, log}

  abbrev pub executed : IsExecutedBy (paths_of code log) (found code log nodes).symbolic
  executed = is_executed code (paths_of code log) nodes (record { log = log; fits = l.fits; are = refl })

  pub course_at : (t : ℕ) (q : Walk) → IsThread code log t q → (c : Course) × (slice_get (found code log nodes).symbolic.threads t ≡ Some c)
  course_at t q there =
      let p = thread_path_at code log t q there in (_, (found_at_log code log nodes setting.lawful setting.log_is l.terms t p.0 p.1).course)

  -- the cell at the step of an access is the cell of that access
  pub cell_at_step : (t k : ℕ) (a : Access) → HasAccess (found code log nodes).symbolic t a → a.step ≡ k
      → cell_of (found code log nodes).symbolic t k ≡ Some a.cell
  cell_at_step t k a has step =
      ap (cell_of (found code log nodes).symbolic t) (sym step) ∙ cell_found (paths_of code log) (found code log nodes).symbolic t a executed has

  module _ (valued : ValuedHistory setting nodes w.loads) where
    open valued use {history, deeds as h}

    -- the access of a step
    pub record IsOfStep (t k : ℕ) (y : Asked) : Type 0 where
      pub access : Access
      pub has : HasAccess (found code log nodes).symbolic t access
      pub step : access.step ≡ k
      pub asked : asked_in (found code log nodes).nodes w.loads access ≡ y
      pub reached : IsReachedIn code log nodes h t access

    pub access_of : (thread : PathThread code log) (k : ℕ) (y : Asked) → IsAskedIn h thread.name k y → IsOfStep thread.index k y
    access_of thread k y d =
        let c = course_at thread.index thread.walk thread.there in
        let a = asked_access setting nodes w.loads valued (record { thread = thread; course = c.0; executed = c.1 }) k y d in
        let s = step_is setting history thread d.older d.newer k d.request d.took d.other d.there in
        let among = contains_in a.0 c.0.accesses a.1 in
        record {
          access = a.0;
          has = (c.0, c.1, among);
          step = a.2;
          asked = a.3;
          reached = record {
            walk = thread.walk;
            course = c.0;
            thread = thread.there;
            there = c.1;
            among = among;
            reached = inl (omega (arith, s.done, a.2));
          };
        }

    -- accesses are to one cell if their cells have the same number
    pub one_cell : (t u : ℕ) (a b : Access) → IsReachedIn code log nodes h t a → IsReachedIn code log nodes h u b
        → is_same_cell (found code log nodes).nodes w a.cell b.cell
        ≡ (cell_by (found code log nodes).nodes w.loads a.cell == cell_by (found code log nodes).nodes w.loads b.cell)
    one_cell t u a b first second =
        same_cells setting nodes w valued t u a b first second

    -- the cells of two steps of a thread
    pub cells_of_steps : (t j k : ℕ) (y z : Asked) (a : IsOfStep t j y) (b : IsOfStep t k z) (x e : Event) → x.step ≡ j → e.step ≡ k
        → same_cell ops.buffered bound (paths_of code log) (found code log nodes).symbolic (found code log nodes).nodes w t x e ≡ (y.cell == z.cell)
    cells_of_steps t j k y z a b x e first second =
        ap₂ (option_eq (is_same_cell (found code log nodes).nodes w)) (cell_at_step t x.step a.access a.has (a.step ∙ sym first))
        (cell_at_step t e.step b.access b.has (b.step ∙ sym second))
        ∙ one_cell t t a.access b.access a.reached b.reached
        ∙ ap₂ (λ (c d : Asked). c.cell == d.cell) a.asked b.asked

  -- stores that the model binds come in order
  pub bound_before : (t : ℕ) (q : Walk) (x y : Event) → IsThread code log t q → Contains q.events x → Contains q.events y → x.step < y.step
      → y.kind ≡ kind.Store
      → bound (same_cell ops.buffered bound (paths_of code log) (found code log nodes).symbolic (found code log nodes).nodes w t x y) (not (x.bars == y.bars))
      ≡ true
      → IsBefore (paths_of code log) w t x.step t y.step
  bound_before t q x y there i j less store binds =
      (own_rule setting nodes w l t).own x y (q, there, i) (q, there, j) less
      (or_right (not (ops.buffered && is_store x.kind)) _ (or_right (not (may_overtake y.kind)) _ (and_from (is_store y.kind) _ (ap is_store store) binds)))
