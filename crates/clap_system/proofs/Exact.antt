-- The system's formula is true exactly in the lawful worlds, group by group.
use Rattle.std.proofs.Common.{◌≡◌, ℕ, Bool, true, List, refl}
use Rattle.tc_code.specs.Code.{Code}
use Rattle.path_walk.specs.Paths.{Paths}
use Rattle.store_buffers.specs.Pending.{Binding}
use Rattle.sym_terms.specs.declared.node.Node.{Node}
use Rattle.sym_exec.specs.Executed.{Symbolic}
use Rattle.order_formula.specs.declared.formula.Conjunct.{Conjunct}
use Rattle.order_formula.specs.declared.group.Group.{Group}
use Rattle.order_formula.specs.declared.group.Group.TheVariants.{Own, Child, Read, Mutex, Condition, Test, Stuck}
use Rattle.order_formula.specs.Groups.{IsExactly}
use Rattle.order_formula.specs.Truth.{body_at, holds_at}
use Rattle.order_formula.specs.Worlds.{World}
use Rattle.order_events.specs.lawful_order.Lawful as order
use Rattle.order_events.specs.lawful_order.Lawful.{MeetsRule}
use Rattle.order_events.proofs.Parts.{all_of, all_from}
use Rattle.memory_order.specs.Own.{own_formula}
use Rattle.sync_order.specs.Sync.{is_sync, sync_formula}
use Rattle.read_write.specs.Reading.{read_formula}
use Rattle.clap_system.specs.Systems.{rules_of}
use Rattle.clap_system.specs.Tests.{test_formula}
use Rattle.clap_system.proofs.Groups.{Apart, own_exact, sync_exact, read_exact, test_exact}

-- the parts of a system are exact for the worlds of its paths, over terms that include all that
-- they need
pub record ArePartsExact (buffered : Bool) (bound : Binding) (code : Code) (paths : Paths) (symbolic : Symbolic) (nodes : List Node) (w : World)
    : Type 0 where
  pub own : (t : ℕ) → IsExactly nodes w (own_formula buffered bound paths symbolic nodes) (Own t) (MeetsRule buffered bound code paths symbolic nodes w (Own t))
  pub sync : (g : Group) → is_sync g ≡ true → IsExactly nodes w (sync_formula paths) g (MeetsRule buffered bound code paths symbolic nodes w g)
  pub read : (t line : ℕ) → IsExactly nodes w (read_formula code paths symbolic nodes) (Read t line)
      (MeetsRule buffered bound code paths symbolic nodes w (Read t line))
  pub test : (t line : ℕ) → IsExactly nodes w (test_formula symbolic) (Test t line) (MeetsRule buffered bound code paths symbolic nodes w (Test t line))
  pub apart : Apart (own_formula buffered bound paths symbolic nodes) (sync_formula paths) (read_formula code paths symbolic nodes) (test_formula symbolic)

module _ (buffered : Bool) (bound : Binding) (code : Code) (paths : Paths) (symbolic : Symbolic) (nodes : List Node) (w : World)
    (parts : ArePartsExact buffered bound code paths symbolic nodes w) where
  abbrev own : List Conjunct
  own = own_formula buffered bound paths symbolic nodes

  abbrev read : List Conjunct
  read = read_formula code paths symbolic nodes

  abbrev Rule : Group → Type 0
  Rule g = MeetsRule buffered bound code paths symbolic nodes w g

  pub group_exact : (g : Group) → IsExactly nodes w (rules_of buffered bound code paths symbolic nodes) g (MeetsRule buffered bound code paths symbolic nodes w g)
  group_exact (Own t) =
      own_exact nodes w own (sync_formula paths) read (test_formula symbolic) parts.apart (Own t) (Rule (Own t)) (parts.own t) refl refl refl
  group_exact (Child t) =
      sync_exact nodes w own (sync_formula paths) read (test_formula symbolic) parts.apart (Child t) (Rule (Child t)) (parts.sync (Child t) refl) refl refl refl
  group_exact (Mutex m) =
      sync_exact nodes w own (sync_formula paths) read (test_formula symbolic) parts.apart (Mutex m) (Rule (Mutex m)) (parts.sync (Mutex m) refl) refl refl refl
  group_exact (Condition c) =
      sync_exact nodes w own (sync_formula paths) read (test_formula symbolic) parts.apart (Condition c) (Rule (Condition c))
      (parts.sync (Condition c) refl) refl refl refl
  group_exact (Stuck t) =
      sync_exact nodes w own (sync_formula paths) read (test_formula symbolic) parts.apart (Stuck t) (Rule (Stuck t)) (parts.sync (Stuck t) refl) refl refl refl
  group_exact (Read t line) =
      read_exact nodes w own (sync_formula paths) read (test_formula symbolic) parts.apart (Read t line) (Rule (Read t line)) (parts.read t line) refl refl refl
  group_exact (Test t line) =
      test_exact nodes w own (sync_formula paths) read (test_formula symbolic) parts.apart (Test t line) (Rule (Test t line)) (parts.test t line) refl refl refl

  pub lawful_where_true : holds_at nodes w (rules_of buffered bound code paths symbolic nodes) ≡ true
      → order.IsLawful buffered bound code paths symbolic nodes w
  lawful_where_true holds = record {
    meets = λ g. (group_exact g).to (λ c there of.
        all_of (λ (d : Conjunct). body_at nodes w d.body) c (rules_of buffered bound code paths symbolic nodes) holds there);
  }

  pub true_where_lawful : order.IsLawful buffered bound code paths symbolic nodes w
      → holds_at nodes w (rules_of buffered bound code paths symbolic nodes) ≡ true
  true_where_lawful lawful =
      all_from (λ (d : Conjunct). body_at nodes w d.body) (rules_of buffered bound code paths symbolic nodes) (λ c there.
      (group_exact c.group).back (lawful.meets c.group) c there refl)
