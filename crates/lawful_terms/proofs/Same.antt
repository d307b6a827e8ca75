-- Lists of terms with the same meaning for the accesses and tests of paths make the same orders
-- lawful.
use Rattle.std.proofs.Common.{◌≡◌, ◌∙◌, ℕ, ℤ, ◌<◌, Bool, not, ◌&&◌, ◌||◌, List, ◌++◌, length, Option, Some, None, refl, ap, ap₂, sym, subst, inl, inr}
use Rattle.std.specs.Prelude.{◌==◌, ◌⊎◌, IsSome, slice_get, option_map}
use Rattle.std.specs.List.{Contains}
use Rattle.std.specs.Option.{IfSome, option_eq}
use Rattle.memory_order.specs.tc_code.Code.{Code}
use Rattle.memory_order.specs.tc_code.Step.{cell_at, is_nonzero}
use Rattle.memory_order.specs.path_walk.Paths.{Paths}
use Rattle.memory_order.specs.path_walk.declared.event.Event.{Event}
use Rattle.memory_order.specs.store_buffers.Pending.{Binding}
use Rattle.memory_order.specs.sym_terms.declared.node.Node.{Node}
use Rattle.memory_order.specs.sym_terms.Values.{value_of}
use Rattle.memory_order.proofs.sym_terms.Folds.{keep}
use Rattle.memory_order.specs.sym_exec.Alone.{Asked, asked_in, cell_by, outcome_by}
use Rattle.memory_order.specs.sym_exec.Executed.{Course, Symbolic}
use Rattle.memory_order.specs.sym_exec.declared.symbolic.Access.{Access}
use Rattle.memory_order.specs.tc_code.declared.cell.Cell.{Cell}
use Rattle.memory_order.specs.tc_code.declared.cell.Cell.TheVariants.{Fixed, Element}
use Rattle.memory_order.specs.sym_exec.declared.symbolic.Test.{Test}
use Rattle.memory_order.specs.order_formula.Worlds.{World}
use Rattle.memory_order.specs.order_formula.declared.group.Group.{Group}
use Rattle.memory_order.specs.order_formula.declared.group.Group.TheVariants.{Own, Child, Read, Mutex, Condition, Test as tested, Stuck}
use Rattle.memory_order.specs.lawful_order.Cells.{is_same_cell}
use Rattle.memory_order.specs.lawful_order.Lawful.{MeetsRule}
use Rattle.memory_order.specs.lawful_order.Memory.{cell_of, is_pending, is_store, may_overtake, same_cell, OwnRule}
use Rattle.memory_order.specs.lawful_order.Reads.{HasAccess, ReadRule, Sees, TakesFrom, TakesFirst}
use Rattle.memory_order.specs.lawful_order.Tests.{TestRule}
use Rattle.memory_order.proofs.order_cells.Stay.{same_stays}
use Rattle.memory_order.specs.order_cells.Terms.{AccessIsOf, CellIsOf, HaveTerms}
use Rattle.memory_order.proofs.Stay.{cell_within}

module _ (buffered : Bool) (bound : Binding) (code : Code) (paths : Paths) (symbolic : Symbolic) (w : World) where
  pub record MeanSame (nodes other : List Node) : Type 0 where
    pub cells : (t u : ℕ) (a b : Access) → HasAccess symbolic t a → HasAccess symbolic u b
        → is_same_cell nodes w a.cell b.cell ≡ is_same_cell other w a.cell b.cell
    pub asked : (t : ℕ) (a : Access) → HasAccess symbolic t a → asked_in nodes w.loads a ≡ asked_in other w.loads a
    pub events : (t : ℕ) (x y : Event)
        → same_cell buffered bound paths symbolic nodes w t x y ≡ same_cell buffered bound paths symbolic other w t x y
    pub tests : (t : ℕ) (c : Course) (x : Test) → slice_get symbolic.threads t ≡ Some c → Contains c.tests x
        → outcome_by nodes w.loads x ≡ outcome_by other w.loads x

  pub turned : (nodes other : List Node) → MeanSame nodes other → MeanSame other nodes
  turned nodes other m = record {
    cells = λ t u a b i j. sym (m.cells t u a b i j);
    asked = λ t a i. sym (m.asked t a i);
    events = λ t x y. sym (m.events t x y);
    tests = λ t c x at i. sym (m.tests t c x at i);
  }

  module _ (nodes other : List Node) (m : MeanSame nodes other) where
    own : (t : ℕ) → OwnRule buffered bound paths symbolic nodes w t → OwnRule buffered bound paths symbolic other w t
    own t r = record {
      own = λ x y i j less kept.
          r.own x y i j less (ap (λ same. not (is_pending buffered bound paths symbolic nodes w x.kind) || (not (may_overtake y.kind)
          || is_store y.kind && bound same (not (x.bars == y.bars)))) (m.events t x y) ∙ kept);
      last = r.last;
    }

    sees : (t u : ℕ) (a b : Access) → HasAccess symbolic t a → Sees code paths symbolic nodes w t a u b → Sees code paths symbolic other w t a u b
    sees t u a b i s = record {
      there = s.there;
      writes = subst (λ (y : Asked). IsSome y.writes) (m.asked u b s.there) s.writes;
      cell = sym (m.cells u t b a s.there i) ∙ s.cell;
      before = s.before;
    }

  module _ (nodes other : List Node) (m : MeanSame nodes other) where
    takes_from : (t u : ℕ) (a b : Access) → HasAccess symbolic t a → TakesFrom code paths symbolic nodes w t a u b
        → TakesFrom code paths symbolic other w t a u b
    takes_from t u a b i r = record {
      sees = sees nodes other m t u a b i r.sees;
      last = λ v c s. r.last v c (sees other nodes (turned nodes other m) t v a c i s);
      takes = ap (λ (y : Asked). y.takes) (sym (m.asked t a i)) ∙ r.takes ∙ ap (λ (y : Asked). y.writes) (m.asked u b r.sees.there);
    }

    takes_first : (t : ℕ) (a : Access) → HasAccess symbolic t a → TakesFirst code paths symbolic nodes w t a → TakesFirst code paths symbolic other w t a
    takes_first t a i r = record {
      sees = λ u b s. r.sees u b (sees other nodes (turned nodes other m) t u a b i s);
      takes = ap (λ (y : Asked). y.takes) (sym (m.asked t a i)) ∙ r.takes;
    }

    read : (t line : ℕ) → ReadRule code paths symbolic nodes w t line → ReadRule code paths symbolic other w t line
    read t line r = record { loads = λ a x i some there step is. by a i (r.loads a x i some there step is) }
      where
        by : (a : Access) → HasAccess symbolic t a
            → ((u : ℕ) × (b : Access) × TakesFrom code paths symbolic nodes w t a u b) ⊎ TakesFirst code paths symbolic nodes w t a
            → ((u : ℕ) × (b : Access) × TakesFrom code paths symbolic other w t a u b) ⊎ TakesFirst code paths symbolic other w t a
        by a i (inl (u, b, s)) = inl (u, b, takes_from t u a b i s)
        by a i (inr s) = inr (takes_first t a i s)

    tests : (t line : ℕ) → TestRule symbolic nodes w t line → TestRule symbolic other w t line
    tests t line r = record { tests = λ c x at i is. sym (m.tests t c x at i) ∙ r.tests c x at i is }

    pub meets : (g : Group) → MeetsRule buffered bound code paths symbolic nodes w g → MeetsRule buffered bound code paths symbolic other w g
    meets (Own t) r = own nodes other m t r
    meets (Child t) r = r
    meets (Read t line) r = read t line r
    meets (Mutex k) r = r
    meets (Condition c) r = r
    meets (tested t line) r = tests t line r
    meets (Stuck t) r = r

  -- adding terms after the named ones keeps the meaning
  module _ (nodes more : List Node) (have : HaveTerms nodes symbolic)
      (named : (t : ℕ) (c : Course) (x : Test) → slice_get symbolic.threads t ≡ Some c → Contains c.tests x → x.term < length nodes) where
    both_cells : (o p : Option (Cell ℕ)) → ((c : Cell ℕ) → o ≡ Some c → CellIsOf (length nodes) c) → ((c : Cell ℕ) → p ≡ Some c → CellIsOf (length nodes) c)
        → option_eq (is_same_cell nodes w) o p ≡ option_eq (is_same_cell (nodes ++ more) w) o p
    both_cells None None f g = refl
    both_cells None (Some d) f g = refl
    both_cells (Some c) None f g = refl
    both_cells (Some c) (Some d) f g = sym (same_stays nodes more w c d (f c refl) (g d refl))

    cell_stays : (c : Cell ℕ) → CellIsOf (length nodes) c → cell_by nodes w.loads c ≡ cell_by (nodes ++ more) w.loads c
    cell_stays (Fixed c) below = refl
    cell_stays (Element f n i) below = ap (cell_at f) (sym (keep nodes more w.loads i below))

    written_stays : (o : Option ℕ) → IfSome o (λ v. v < length nodes)
        → option_map (value_of nodes w.loads) o ≡ option_map (value_of (nodes ++ more) w.loads) o
    written_stays None below = refl
    written_stays (Some v) below = ap Some (sym (keep nodes more w.loads v below))

    asked_stays : (a : Access) → AccessIsOf (length nodes) a → asked_in nodes w.loads a ≡ asked_in (nodes ++ more) w.loads a
    asked_stays a of = ap₂ (λ c v. asked_with a c v) (cell_stays a.cell of.cell) (written_stays a.writes of.writes)
      where
        asked_with : Access → ℕ → Option ℤ → Asked
        asked_with a c v = record { cell = c; takes = (asked_in nodes w.loads a).takes; writes = v }

    pub more_mean_same : MeanSame nodes (nodes ++ more)
    more_mean_same = record {
      cells = λ t u a b i j. sym (same_stays nodes more w a.cell b.cell (have t a i).cell (have u b j).cell);
      asked = λ t a i. asked_stays a (have t a i);
      events = λ t x y. both_cells (cell_of symbolic t x.step) (cell_of symbolic t y.step) (cell_within symbolic nodes have t x.step)
          (cell_within symbolic nodes have t y.step);
      tests = λ t c x at i. ap is_nonzero (sym (keep nodes more w.loads x.term (named t c x at i)));
    }
