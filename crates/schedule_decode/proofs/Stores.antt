-- The stores in the plan of a lawful world, by the accesses of its paths.
use Rattle.std.proofs.Common.{◌≡◌, ◌∙◌, ℕ, ℤ, List, ◌++◌, Some, sym, ap}
use Rattle.world_moves.specs.run_history.History.{Deed}
use Rattle.world_moves.specs.run_history.pending.Deeds.{IsIssuedIn}
use Rattle.path_walk.specs.Paths.{Walk, paths_of}
use Rattle.world_moves.specs.path_laws.Setting.{Setting}
use Rattle.world_moves.specs.path_laws.history.Along.{IsThread, path_thread}
use Rattle.sym_terms.specs.declared.node.Node.{Node}
use Rattle.sym_exec.specs.Alone.{Asked, asked_in, cell_by}
use Rattle.sym_exec.specs.Executed.{Symbolic}
use Rattle.sym_exec.specs.declared.symbolic.Access.{Access}
use Rattle.world_moves.specs.sym_laws.Valued.{found}
use Rattle.plan_runs.proofs.sym_events.Terms.{have_terms, have_tests}
use Rattle.order_formula.specs.Worlds.{World}
use Rattle.lawful_terms.specs.lawful_order.Memory.{cell_of}
use Rattle.lawful_terms.specs.lawful_order.Reads.{HasAccess}
use Rattle.lawful_terms.proofs.Same.{more_mean_same}
use Rattle.world_moves.specs.world_plan.Going.{IsLawfulWorld, HasGone}
use Rattle.plan_runs.proofs.of_memory.Accesses.{written, issue_asks, access_of, cell_at_step}
use Rattle.plan_runs.proofs.Histories.{valued_of}

module _ {B : Type 0} (setting : Setting B) (nodes more : List Node) (w : World) (l : IsLawfulWorld setting nodes w) where
  open setting use {ops, bound, code, log}

  abbrev symbolic : Symbolic
  symbolic = (found code log nodes).symbolic

  abbrev terms : List Node
  terms = (found code log nodes).nodes ++ more

  -- more terms don't change an access's request
  asked_stays : (t : ℕ) (a : Access) → HasAccess symbolic t a → asked_in terms w.loads a ≡ asked_in (found code log nodes).nodes w.loads a
  asked_stays t a has =
      let same = more_mean_same ops.buffered bound code (paths_of code log) symbolic w (found code log nodes).nodes more
      (have_terms code setting.lawful (paths_of code log) nodes) (have_tests code setting.lawful (paths_of code log) nodes) in
      sym (same.asked t a has)

  -- the access of an issued store
  pub record IsStoreOf (t k c : ℕ) : Type 0 where
    pub access : Access
    pub has : HasAccess symbolic t access
    pub cell : cell_of symbolic t k ≡ Some access.cell
    pub number : cell_by terms w.loads access.cell ≡ c

  pub store_of : (p : ℕ) (h : List Deed) → HasGone setting nodes w p h → (t : ℕ) (q : Walk) → IsThread code log t q
      → (k c : ℕ) (v : ℤ) → IsIssuedIn h q.name k c v → IsStoreOf t k c
  store_of p h gone t q there k c v issued =
      let a = access_of setting nodes w l (valued_of l gone) (path_thread t q there) k (written c v) (issue_asks h q.name k c v issued) in
      record {
        access = a.access;
        has = a.has;
        cell = cell_at_step setting nodes w l t k a.access a.has a.step;
        number = ap (λ (y : Asked). y.cell) (asked_stays t a.access a.has ∙ a.asked);
      }
