-- The formula of synchronization: its parts together.
use Rattle.std.proofs.Common.{◌≡◌, ◌∙◌, ℕ, ◌<◌, Bool, true, List, ◌++◌, length, refl, sym, ap, subst}
use Rattle.std.specs.List.{All, Contains}
use Rattle.std.proofs.lemmas.Bool.{false≢true}
use Rattle.std.proofs.lemmas.List.Elements.{All-append}
use Rattle.std.proofs.lemmas.Option.{slice_get_within}
use Rattle.path_walk.specs.tc_code.Code.{Code}
use Rattle.path_walk.specs.Paths.{Paths}
use Rattle.order_events.specs.store_buffers.Pending.{Binding}
use Rattle.order_formula.specs.sym_terms.declared.node.Node.{Node}
use Rattle.order_events.specs.sym_exec.Executed.{Symbolic}
use Rattle.order_formula.specs.declared.formula.Body.{Body}
use Rattle.order_formula.specs.declared.formula.Body.TheVariants.{Any, Read as Reads}
use Rattle.order_formula.specs.declared.formula.Conjunct.{Conjunct}
use Rattle.order_formula.specs.declared.group.Group.{Group}
use Rattle.order_formula.specs.declared.group.Group.TheVariants.{Own, Child, Read, Mutex, Condition, Test, Stuck}
use Rattle.order_formula.specs.Formulas.{IsOf, BodyIsOf, ConjunctIsOf, LiteralIsOf}
use Rattle.order_formula.specs.Groups.{IsExactly}
use Rattle.order_formula.specs.Orders.{Order, BodyIsIn, ConjunctIsIn, LiteralIsIn}
use Rattle.order_formula.specs.Worlds.{World}
use Rattle.order_events.specs.lawful_order.Events.{all_events, all_sleeps, number_of}
use Rattle.order_events.specs.lawful_order.Lawful.{IsWorldOf, MeetsRule}
use Rattle.order_events.specs.lawful_order.Whole.{AreWhole, HasStep}
use Rattle.condition_order.specs.Conditions.{condition_formula}
use Rattle.condition_order.proofs.Atoms.{no_terms}
use Rattle.condition_order.proofs.Exact.{exact}
use Rattle.condition_order.proofs.Groups.{have_their_group}
use Rattle.condition_order.proofs.Within.{ender_within, of_the_order}
use Rattle.sync_order.specs.Children.{children_formula}
use Rattle.sync_order.specs.Mutexes.{mutexes_formula}
use Rattle.sync_order.specs.Stuck.{stuck_formula}
use Rattle.sync_order.specs.Sync.{is_sync, sync_formula}
use Rattle.sync_order.proofs.Links.{children_group, children_exactly}
use Rattle.sync_order.proofs.Groups.{HasNone, exactly_before, exactly_behind, none_in_both}
use Rattle.sync_order.proofs.Literals.{BodyHas, AreLiterals, in_children, in_mutexes, in_stuck}
use Rattle.sync_order.proofs.Regions.{mutexes_group, mutexes_exactly}
use Rattle.order_events.proofs.Numbers.{has_number}
use Rattle.order_events.proofs.Parts.{each_in}
use Rattle.sync_order.proofs.Deadlocks.{stuck_group, stuck_exactly}

-- the formula's first parts
abbrev two : Paths → List Conjunct
two paths = children_formula paths ++ mutexes_formula paths

abbrev three : Paths → List Conjunct
three paths = two paths ++ condition_formula paths

module _ (paths : Paths) where
  -- the other parts have no conjunct of this group
  no_children : (g : Group) → ((c : ℕ) → Child c ≡ g → ⊥) → HasNone (children_formula paths) g
  no_children g apart z i of = let c = children_group paths z i in apart c.0 (sym c.1 ∙ of)

  no_mutexes : (g : Group) → ((m : ℕ) → Mutex m ≡ g → ⊥) → HasNone (mutexes_formula paths) g
  no_mutexes g apart z i of = let m = mutexes_group paths z i in apart m.0 (sym m.1 ∙ of)

  no_conditions : (g : Group) → ((c : ℕ) → Condition c ≡ g → ⊥) → HasNone (condition_formula paths) g
  no_conditions g apart z i of = let c = have_their_group paths z i in apart c.0 (sym c.1 ∙ of)

  no_stuck : (g : Group) → ((t : ℕ) → Stuck t ≡ g → ⊥) → HasNone (stuck_formula paths) g
  no_stuck g apart z i of = let t = stuck_group paths z i in apart t.0 (sym t.1 ∙ of)

  no_two : (g : Group) → ((c : ℕ) → Child c ≡ g → ⊥) → ((m : ℕ) → Mutex m ≡ g → ⊥) → HasNone (two paths) g
  no_two g child mutex = none_in_both g (children_formula paths) (mutexes_formula paths) (no_children g child) (no_mutexes g mutex)

  module _ (buffered : Bool) (bound : Binding) (code : Code) (symbolic : Symbolic) (nodes : List Node) (w : World)
      (world : IsWorldOf paths symbolic w) where
    abbrev Rule : Group → Type 0
    Rule g = MeetsRule buffered bound code paths symbolic nodes w g

    pub exactly : (g : Group) → is_sync g ≡ true → IsExactly nodes w (sync_formula paths) g (Rule g)
    exactly (Child c) is =
        exactly_before nodes w (Child c) (Rule (Child c)) (three paths) (stuck_formula paths)
        (exactly_before nodes w (Child c) (Rule (Child c)) (two paths) (condition_formula paths)
        (exactly_before nodes w (Child c) (Rule (Child c)) (children_formula paths) (mutexes_formula paths)
        (children_exactly paths nodes w c) (no_mutexes (Child c) (λ m e. cc)))
        (no_conditions (Child c) (λ d e. cc)))
        (no_stuck (Child c) (λ t e. cc))
    exactly (Mutex m) is =
        exactly_before nodes w (Mutex m) (Rule (Mutex m)) (three paths) (stuck_formula paths)
        (exactly_before nodes w (Mutex m) (Rule (Mutex m)) (two paths) (condition_formula paths)
        (exactly_behind nodes w (Mutex m) (Rule (Mutex m)) (children_formula paths) (mutexes_formula paths)
        (mutexes_exactly paths nodes w m) (no_children (Mutex m) (λ c e. cc)))
        (no_conditions (Mutex m) (λ d e. cc)))
        (no_stuck (Mutex m) (λ t e. cc))
    exactly (Condition d) is =
        exactly_before nodes w (Condition d) (Rule (Condition d)) (three paths) (stuck_formula paths)
        (exactly_behind nodes w (Condition d) (Rule (Condition d)) (two paths) (condition_formula paths)
        (exact paths symbolic nodes w world d) (no_two (Condition d) (λ c e. cc) (λ m e. cc)))
        (no_stuck (Condition d) (λ t e. cc))
    exactly (Stuck t) is =
        exactly_behind nodes w (Stuck t) (Rule (Stuck t)) (three paths) (stuck_formula paths) (stuck_exactly paths nodes w t symbolic world)
        (none_in_both (Stuck t) (two paths) (condition_formula paths) (no_two (Stuck t) (λ c e. cc) (λ m e. cc)) (no_conditions (Stuck t) (λ d e. cc)))
    exactly (Own t) other = absurd (false≢true other)
    exactly (Read t line) other = absurd (false≢true other)
    exactly (Test t line) other = absurd (false≢true other)

  -- what holds for the conjuncts of each part holds for all
  pub each_part : (P : Conjunct → Type 0) → ((z : Conjunct) → Contains (children_formula paths) z → P z)
      → ((z : Conjunct) → Contains (mutexes_formula paths) z → P z) → All P (condition_formula paths)
      → ((z : Conjunct) → Contains (stuck_formula paths) z → P z) → All P (sync_formula paths)
  each_part P children mutexes conditions stuck =
      All-append P (three paths) (stuck_formula paths)
      (All-append P (two paths) (condition_formula paths)
      (All-append P (children_formula paths) (mutexes_formula paths)
      (each_in P (children_formula paths) children) (each_in P (mutexes_formula paths) mutexes))
      conditions)
      (each_in P (stuck_formula paths) stuck)

  pub groups : All (λ z. is_sync z.group ≡ true) (sync_formula paths)
  groups = each_part (λ z. is_sync z.group ≡ true) (λ z i. ap is_sync (children_group paths z i).1)
      (λ z i. ap is_sync (mutexes_group paths z i).1)
      (each_in (λ z. is_sync z.group ≡ true) (condition_formula paths) (λ z i. ap is_sync (have_their_group paths z i).1))
      (λ z i. ap is_sync (stuck_group paths z i).1)

  -- no literal names a term
  without_terms : (terms : ℕ) → AreLiterals paths (λ t k. Unit {0}) (LiteralIsOf terms)
  without_terms terms = record {
    event = λ t x has. tt;
    create = λ t l has. tt;
    join = λ t l has. tt;
    taken = λ t r has. tt;
    left = λ t k r has is. tt;
    before = λ t k u j one other. tt;
    unended = λ s x g at among. tt;
  }

  of_terms : (terms : ℕ) (b : Body) → BodyHas (LiteralIsOf terms) b → BodyIsOf terms b
  of_terms terms (Any cases) has = has
  of_terms terms (Reads r) has = absurd has

  pub names_no_terms : (terms : ℕ) → IsOf terms (sync_formula paths)
  names_no_terms terms =
      let are = without_terms terms in
      each_part (ConjunctIsOf terms) (λ z i. of_terms terms z.body (in_children paths _ _ are z i))
      (λ z i. of_terms terms z.body (in_mutexes paths _ _ are z i)) (no_terms paths terms)
      (λ z i. of_terms terms z.body (in_stuck paths _ _ are z i))

  -- all events and sleeps belong to the order
  module _ (whole : AreWhole paths) (o : Order) (events : o.events ≡ length (all_events paths)) (sleeps : o.sleeps ≡ length (all_sleeps paths)) where
    step_in_order : (t k : ℕ) → HasStep paths t k → number_of paths t k < o.events
    step_in_order t k step = subst (λ n. number_of paths t k < n) (sym events) (has_number paths t k step)

    are_in_order : AreLiterals paths (HasStep paths) (LiteralIsIn o)
    are_in_order = record {
      event = λ t x has. (x, has, refl);
      create = whole.created;
      join = whole.joined;
      taken = whole.taken;
      left = whole.left;
      before = λ t k u j one other. (step_in_order t k one, step_in_order u j other);
      unended = λ s x g at among. (
        subst (λ n. s < n) (sym sleeps) (slice_get_within (all_sleeps paths) s x at),
        subst (λ n. g.event < n) (sym events) (ender_within paths x.it.condition g among),
      );
    }

    in_order : (b : Body) → BodyHas (LiteralIsIn o) b → BodyIsIn o b
    in_order (Any cases) has = has
    in_order (Reads r) has = absurd has

    pub is_in_order : All (ConjunctIsIn o) (sync_formula paths)
    is_in_order = each_part (ConjunctIsIn o) (λ z i. in_order z.body (in_children paths _ _ are_in_order z i))
        (λ z i. in_order z.body (in_mutexes paths _ _ are_in_order z i)) (of_the_order paths o whole events sleeps)
        (λ z i. in_order z.body (in_stuck paths _ _ are_in_order z i))
