-- All events of the formula belong to the order, and all its terms exist.
use Rattle.std.proofs.Common.{◌≡◌, ℕ, ◌<◌, Bool, List, [], ◌∷◌, length, Some, slice_get, refl, sym, subst}
use Rattle.std.specs.List.{All, Contains}
use Rattle.std.proofs.lemmas.List.Elements.{All-nil, All-cons, All-contains}
use Rattle.path_walk.specs.Paths.{Walk, Paths}
use Rattle.path_walk.specs.declared.event.Event.{Event}
use Rattle.store_buffers.specs.Pending.{Binding}
use Rattle.sym_terms.specs.declared.node.Node.{Node}
use Rattle.sym_exec.specs.Executed.{Symbolic}
use Rattle.order_formula.specs.Formulas.{ConjunctIsOf, IsOf, LiteralIsOf}
use Rattle.order_formula.specs.Orders.{Order, ConjunctIsIn, LiteralIsIn}
use Rattle.order_formula.specs.declared.formula.Conjunct.{Conjunct}
use Rattle.order_cells.specs.lawful_order.Events.{HasEvent, all_events, number_of}
use Rattle.order_cells.proofs.Needs.{id_within}
use Rattle.order_events.proofs.Lists.{at_in}
use Rattle.order_events.proofs.Parts.{each_in}
use Rattle.order_events.proofs.Numbers.{has_number}
use Rattle.memory_order.specs.Twos.{Two, twos}
use Rattle.memory_order.specs.Own.{fails, in_order, own_needs, own_formula}
use Rattle.order_events.specs.Parts.{comes_before}
use Rattle.sym_terms.specs.Terms.{id_of}
use Rattle.memory_order.proofs.Twos.{two_places}
use Rattle.memory_order.proofs.Exact.{IsOwn, Always, Tested, Failing, of_formula, in_needs, event_of}

one_is : {X : Type 0} (P : X → Type 0) (x : X) → P x → All P (x ∷ [])
one_is P x is = All-cons P x [] is (All-nil P)

module _ (buffered : Bool) (bound : Binding) (paths : Paths) (symbolic : Symbolic) (nodes : List Node) where
  abbrev formula : List Conjunct
  formula = own_formula buffered bound paths symbolic nodes

  -- events
  module _ (o : Order) (many : o.events ≡ length (all_events paths)) where
    within : (t : ℕ) (x : Event) → HasEvent paths t x → number_of paths t x.step < o.events
    within t x there = subst (λ n. number_of paths t x.step < n) (sym many) (has_number paths t x.step (x, there, refl))

    order_in : (t : ℕ) (q : Walk) (p : Two Event) → slice_get paths.threads t ≡ Some q → Contains (twos q.events) p
        → LiteralIsIn o (in_order (all_events paths) t p)
    order_in t q p at two =
        let places = two_places q.events p two in (
          within t p.first (q, at, at_in q.events places.low p.first places.first),
          within t p.second (q, at, at_in q.events places.high p.second places.second),
        )

    conjunct_in : (c : Conjunct) → IsOwn buffered bound paths symbolic nodes c → ConjunctIsIn o c
    conjunct_in c (Always t q p at two next is) =
        let l = in_order (all_events paths) t p in
        subst (ConjunctIsIn o) is (one_is (All (LiteralIsIn o)) (l ∷ []) (one_is (LiteralIsIn o) l (order_in t q p at two)))
    conjunct_in c (Tested t q p test at two kept is) =
        let l = in_order (all_events paths) t p in
        let m = fails (id_of nodes test) in
        subst (ConjunctIsIn o) is (All-cons (All (LiteralIsIn o)) (m ∷ []) ((l ∷ []) ∷ []) (one_is (LiteralIsIn o) m tt)
        (one_is (All (LiteralIsIn o)) (l ∷ []) (one_is (LiteralIsIn o) l (order_in t q p at two))))
    conjunct_in c (Failing x f first second before failing is) =
        let l = comes_before (all_events paths) x.thread x.it.step f.thread f.it.step in
        subst (ConjunctIsIn o) is (one_is (All (LiteralIsIn o)) (l ∷ []) (one_is (LiteralIsIn o) l (
          within x.thread x.it (event_of buffered bound paths symbolic nodes x first),
          within f.thread f.it (event_of buffered bound paths symbolic nodes f second),
        )))

    pub formula_in : All (ConjunctIsIn o) formula
    formula_in = each_in (ConjunctIsIn o) formula (λ c i. conjunct_in c (of_formula buffered bound paths symbolic nodes c i))

  -- terms
  module _ (needed : All (Contains nodes) (own_needs buffered bound paths symbolic nodes)) where
    conjunct_of : (c : Conjunct) → IsOwn buffered bound paths symbolic nodes c → ConjunctIsOf (length nodes) c
    conjunct_of c (Always t q p at two next is) =
        let l = in_order (all_events paths) t p in
        subst (ConjunctIsOf (length nodes)) is (one_is (All (LiteralIsOf (length nodes))) (l ∷ []) (one_is (LiteralIsOf (length nodes)) l tt))
    conjunct_of c (Tested t q p test at two kept is) =
        let l = in_order (all_events paths) t p in
        let m = fails (id_of nodes test) in
        let there = All-contains (Contains nodes) (own_needs buffered bound paths symbolic nodes) test needed
        (in_needs buffered bound paths symbolic nodes t q p test at two kept) in
        subst (ConjunctIsOf (length nodes)) is (All-cons (All (LiteralIsOf (length nodes))) (m ∷ []) ((l ∷ []) ∷ [])
        (one_is (LiteralIsOf (length nodes)) m (id_within nodes test there))
        (one_is (All (LiteralIsOf (length nodes))) (l ∷ []) (one_is (LiteralIsOf (length nodes)) l tt)))
    conjunct_of c (Failing x f first second before failing is) =
        let l = comes_before (all_events paths) x.thread x.it.step f.thread f.it.step in
        subst (ConjunctIsOf (length nodes)) is (one_is (All (LiteralIsOf (length nodes))) (l ∷ []) (one_is (LiteralIsOf (length nodes)) l tt))

    pub formula_of_terms : IsOf (length nodes) formula
    formula_of_terms = each_in (ConjunctIsOf (length nodes)) formula (λ c i. conjunct_of c (of_formula buffered bound paths symbolic nodes c i))
