-- Once the needed terms exist, more terms don't change the formula.
use Rattle.std.proofs.Common.{◌≡◌, ◌∙◌, ℕ, Bool, true, false, not, cond, ◌&&◌, ◌||◌, List, [], ◌∷◌, ◌++◌, map, length}
use Rattle.std.proofs.Common.{Option, Some, None, refl, ap, ap₂, sym, subst}
use Rattle.std.specs.Prelude.{unwrap_or, option_map, option_and_then, slice_get, option_to_list, ◌==◌}
use Rattle.std.specs.List.{All, Contains, enumerate_from, find, flat_map, list_any, position_or_len}
use Rattle.std.proofs.lemmas.List.Elements.{All-contains}
use Rattle.std.proofs.lemmas.List.Folds.{find_at}
use Rattle.std.proofs.lemmas.Bool.{and_from}
use Rattle.std.proofs.lemmas.Option.{none-some, same_Some}
use Rattle.path_walk.specs.Paths.{Walk, Paths}
use Rattle.path_walk.specs.declared.event.Event.{Event}
use Rattle.store_buffers.specs.Pending.{Binding}
use Rattle.sym_terms.specs.Terms.{id_of}
use Rattle.sym_terms.specs.declared.node.Node.{Node}
use Rattle.sym_exec.specs.Executed.{Course, Symbolic}
use Rattle.sym_exec.specs.Making.{Grows}
use Rattle.sym_exec.specs.declared.symbolic.Access.{Access}
use Rattle.sym_exec.specs.tc_code.declared.cell.Cell.{Cell}
use Rattle.order_formula.specs.declared.formula.Conjunct.{Conjunct}
use Rattle.order_formula.specs.declared.group.Group.TheVariants.{Own}
use Rattle.order_cells.specs.lawful_order.Events.{Placed, all_events}
use Rattle.order_cells.specs.lawful_order.Memory.{cell_of}
use Rattle.order_cells.specs.lawful_order.Reads.{HasAccess}
use Rattle.order_cells.specs.Same.{known_same, same_test}
use Rattle.order_cells.specs.Terms.{CellIsOf, HaveTerms}
use Rattle.order_cells.proofs.Needs.{id_stays}
use Rattle.order_cells.proofs.Stay.{known_stays, test_stays}
use Rattle.order_events.proofs.Lists.{in_front, in_back, of_enumerated, at_in}
use Rattle.order_events.specs.Parts.{of_each, one_of}
use Rattle.memory_order.specs.Twos.{Two, twos}
use Rattle.memory_order.specs.Own.{keeps, cells_of, is_always_kept, is_kept_next, kept_test, two_tests, thread_tests, own_needs, fails, in_order, two_formula}
use Rattle.memory_order.specs.Own.{thread_formula, failing_formula, own_formula}
use Rattle.memory_order.proofs.Exact.{in_needs}

-- functions that agree at each element
any_agree : {X : Type 0} (p q : X → Bool) (xs : List X) → ((x : X) → p x ≡ q x) → list_any p xs ≡ list_any q xs
any_agree p q [] agree = refl
any_agree p q (x ∷ xs) agree = ap₂ (λ a b. a || b) (agree x) (any_agree p q xs agree)

flat_map_agree : {X Y : Type 0} (f g : X → List Y) (xs : List X) → ((x : X) → Contains xs x → f x ≡ g x) → flat_map f xs ≡ flat_map g xs
flat_map_agree f g [] agree = refl
flat_map_agree f g (x ∷ xs) agree =
    ap₂ (λ ys zs. ys ++ zs) (agree x (in_front x xs)) (flat_map_agree f g xs (λ y i. agree y (in_back y x xs i)))

each_agree : {A X : Type 0} (f g : ℕ → A → List X) (xs : List A) → ((k : ℕ) (a : A) → slice_get xs k ≡ Some a → f k a ≡ g k a)
    → of_each f xs ≡ of_each g xs
each_agree {A} f g xs agree =
    flat_map_agree (λ (p : ℕ × A). f p.0 p.1) (λ (p : ℕ × A). g p.0 p.1) (enumerate_from 0 xs) (λ p i. agree p.0 p.1 (of_enumerated p xs i))

-- the cell of a step is that of its access
of_find : {X : Type 0} (p : X → Bool) (xs : List X) (x : X) → find p xs ≡ Some x → Contains xs x
of_find p xs x is = at_in xs (position_or_len p xs) x (sym (find_at p xs) ∙ is)

pub cell_has_access : (symbolic : Symbolic) (t k : ℕ) (c : Cell ℕ) → cell_of symbolic t k ≡ Some c → (a : Access) × HasAccess symbolic t a × (a.cell ≡ c)
cell_has_access symbolic t k c is = by (slice_get symbolic.threads t) refl is
  where
    found : (course : Course) (o : Option Access) → slice_get symbolic.threads t ≡ Some course → find (λ (a : Access). a.step == k) course.accesses ≡ o
        → option_map (λ (a : Access). a.cell) o ≡ Some c → (a : Access) × HasAccess symbolic t a × (a.cell ≡ c)
    found course None at first is = absurd (none-some c is)
    found course (Some a) at first is = (a, (course, at, of_find (λ (a : Access). a.step == k) course.accesses a first), same_Some a.cell c is)

    by : (o : Option Course) → slice_get symbolic.threads t ≡ o
        → option_map (λ (a : Access). a.cell) (option_and_then (λ x. find (λ (a : Access). a.step == k) x.accesses) o) ≡ Some c
        → (a : Access) × HasAccess symbolic t a × (a.cell ≡ c)
    by None at is = absurd (none-some c is)
    by (Some course) at is = found course (find (λ (a : Access). a.step == k) course.accesses) at refl is

-- both cells of two events
both_there : (o p : Option (Cell ℕ)) (c : Cell ℕ × Cell ℕ) → option_and_then (λ a. option_and_then (λ b. Some (a, b)) p) o ≡ Some c
    → (o ≡ Some c.0) × (p ≡ Some c.1)
both_there None p c is = absurd (none-some c is)
both_there (Some a) None c is = absurd (none-some c is)
both_there (Some a) (Some b) c is =
    let e = same_Some (a, b) c is in (ap (λ (d : Cell ℕ × Cell ℕ). Some d.0) e, ap (λ (d : Cell ℕ × Cell ℕ). Some d.1) e)

module _ (symbolic : Symbolic) (nodes : List Node) (have : HaveTerms nodes symbolic) where
  -- the indexes of the cells are among the terms
  pub cell_within : (t k : ℕ) (c : Cell ℕ) → cell_of symbolic t k ≡ Some c → CellIsOf (length nodes) c
  cell_within t k c is =
      let a = cell_has_access symbolic t k c is in subst (CellIsOf (length nodes)) a.2 (have t a.0 a.1).cell

  pub cells_within : (t : ℕ) (x y : Event) (c : Cell ℕ × Cell ℕ) → cells_of symbolic t x y ≡ Some c → CellIsOf (length nodes) c.0 × CellIsOf (length nodes) c.1
  cells_within t x y c is =
      let both = both_there (cell_of symbolic t x.step) (cell_of symbolic t y.step) c is in
      (cell_within t x.step c.0 both.0, cell_within t y.step c.1 both.1)

  module _ (later : List Node) (grows : Grows nodes later) where
    known_later : (t : ℕ) (x y : Event) (o : Option (Cell ℕ × Cell ℕ)) → cells_of symbolic t x y ≡ o
        → option_and_then (λ c. known_same later c.0 c.1) o ≡ option_and_then (λ c. known_same nodes c.0 c.1) o
    known_later t x y None is = refl
    known_later t x y (Some c) is =
        let w = cells_within t x y c is in
        ap (λ ns. known_same ns c.0 c.1) grows.1 ∙ known_stays nodes grows.0 c.0 c.1 w.0 w.1

    same_later : (t : ℕ) (x y : Event) (o : Option (Cell ℕ × Cell ℕ)) → cells_of symbolic t x y ≡ o
        → option_and_then (λ c. same_test later c.0 c.1) o ≡ option_and_then (λ c. same_test nodes c.0 c.1) o
    same_later t x y None is = refl
    same_later t x y (Some c) is =
        let w = cells_within t x y c is in
        ap (λ ns. same_test ns c.0 c.1) grows.1 ∙ test_stays nodes grows.0 c.0 c.1 w.0 w.1

    module _ (buffered : Bool) (bound : Binding) where
      always_later : (t : ℕ) (x y : Event) → is_always_kept buffered bound symbolic later t x y ≡ is_always_kept buffered bound symbolic nodes t x y
      always_later t x y = ap (λ o. keeps buffered bound (unwrap_or o false) x y) (known_later t x y (cells_of symbolic t x y) refl)

      pub next_later : (t : ℕ) (p : Two Event) → is_kept_next buffered bound symbolic later t p ≡ is_kept_next buffered bound symbolic nodes t p
      next_later t p = ap₂ (λ a b. a && not b) (always_later t p.first p.second)
          (any_agree (λ z. is_always_kept buffered bound symbolic later t p.first z && is_always_kept buffered bound symbolic later t z p.second)
          (λ z. is_always_kept buffered bound symbolic nodes t p.first z && is_always_kept buffered bound symbolic nodes t z p.second) p.between
          (λ z. ap₂ (λ a b. a && b) (always_later t p.first z) (always_later t z p.second)))

      pub test_later : (t : ℕ) (p : Two Event) → kept_test buffered bound symbolic later t p ≡ kept_test buffered bound symbolic nodes t p
      test_later t p =
          ap (λ o. cond (keeps buffered bound true p.first p.second && not (keeps buffered bound false p.first p.second)) o None)
          (same_later t p.first p.second (cells_of symbolic t p.first p.second) refl)

      pub two_later : (events : List (Placed Event)) (t : ℕ) (p : Two Event)
          → ((test : Node) → kept_test buffered bound symbolic nodes t p ≡ Some test → Contains nodes test)
          → two_formula buffered bound events symbolic later t p ≡ two_formula buffered bound events symbolic nodes t p
      two_later events t p there =
          ap₂ (λ xs ys. xs ++ ys) (ap (λ b. cond b (one_of (Own t) (in_order events t p ∷ []) ∷ []) []) (next_later t p))
          (ap (λ o. map (tested later) (option_to_list o)) (test_later t p) ∙ by (kept_test buffered bound symbolic nodes t p) there)
        where
          tested : List Node → Node → Conjunct
          tested ns test = one_of (Own t) (fails (id_of ns test) ∷ in_order events t p ∷ [])

          by : (o : Option Node) → ((test : Node) → o ≡ Some test → Contains nodes test)
              → map (tested later) (option_to_list o) ≡ map (tested nodes) (option_to_list o)
          by None there = refl
          by (Some test) there =
              ap (λ id. one_of (Own t) (fails id ∷ in_order events t p ∷ []) ∷ []) (id_stays nodes later test grows (there test refl))

      -- the tests that all threads need are the same with later nodes
      pub needs_later : (paths : Paths) → own_needs buffered bound paths symbolic later ≡ own_needs buffered bound paths symbolic nodes
      needs_later paths =
          each_agree (thread_tests buffered bound symbolic later) (thread_tests buffered bound symbolic nodes) paths.threads (λ t q at.
          flat_map_agree (two_tests buffered bound symbolic later t) (two_tests buffered bound symbolic nodes t) (twos q.events)
          (λ p i. ap option_to_list (test_later t p)))

      pub formula_later : (paths : Paths) → All (Contains nodes) (own_needs buffered bound paths symbolic nodes)
          → own_formula buffered bound paths symbolic later ≡ own_formula buffered bound paths symbolic nodes
      formula_later paths needed =
          let events = all_events paths in
          let own : List Node → ℕ → Walk → List Conjunct = thread_formula buffered bound events symbolic in
          ap (λ cs. cs ++ failing_formula buffered events) (each_agree (own later) (own nodes) paths.threads (λ t q at.
          flat_map_agree (two_formula buffered bound events symbolic later t) (two_formula buffered bound events symbolic nodes t) (twos q.events)
          (λ p i. two_later events t p (λ test is. All-contains (Contains nodes) (own_needs buffered bound paths symbolic nodes) test needed
          (in_needs buffered bound paths symbolic nodes t q p test at i is)))))

-- the test for two events that are kept in order exactly if their cells are the same
pub test_of_cells : (buffered : Bool) (bound : Binding) (symbolic : Symbolic) (nodes : List Node) (t : ℕ) (p : Two Event) (c : Cell ℕ × Cell ℕ)
    → keeps buffered bound true p.first p.second ≡ true → keeps buffered bound false p.first p.second ≡ false
    → cells_of symbolic t p.first p.second ≡ Some c
    → kept_test buffered bound symbolic nodes t p ≡ same_test nodes c.0 c.1
test_of_cells buffered bound symbolic nodes t p c keep lost cells =
    ap₂ (λ b o. cond b (option_and_then (λ d. same_test nodes d.0 d.1) o) None)
    (and_from (keeps buffered bound true p.first p.second) (not (keeps buffered bound false p.first p.second)) keep (ap not lost)) cells
