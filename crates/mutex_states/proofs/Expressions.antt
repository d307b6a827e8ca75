-- What regions do is said by expressions over the cells of the state, whose numbers are ints.
use Rattle.std.proofs.Common.{◌≡◌, ℕ, zero, suc, ◌<◌, ◌≤◌, List, [], ◌∷◌, ℤ, pos, Option, Some, None, inl, inr, refl, ◌∙◌, subst, arith, Bool, true, false, length, get_or}
use Rattle.std.specs.Prelude.{◌==◌, IsTrue, filter, fold, if◌then◌else◌, nat_le, option_and_then, slice_get}
use Rattle.std.specs.List.{All, Contains, enumerate_from, find}
use Rattle.std.specs.Option.{option_map_or}
use Rattle.std.specs.Ordering.{int_eq}
use Rattle.std.proofs.lemmas.Bool.{and_from, lt-ltb}
use Rattle.std.proofs.lemmas.Int.{ints}
use Rattle.std.proofs.lemmas.List.{length-map}
use Rattle.std.proofs.lemmas.List.Elements.{All-head, All-tail, Contains-push_cases}
use Rattle.std.proofs.lemmas.List.FromFn.{length-enumerate_from}
use Rattle.std.proofs.lemmas.Option.{none-some, same_Some, slice_get_within}
use Rattle.circuit_sizes.specs.sym_terms.int_ops.Arith.{IsInt}
use Rattle.circuit_sizes.proofs.sym_terms.int_ops.Ints.{truth_int}
use Rattle.circuit_sizes.specs.sym_terms.int_ops.declared.arith.BinOp.{BinOp}
use Rattle.circuit_sizes.specs.sym_terms.int_ops.declared.arith.BinOp.TheVariants as bin
use Rattle.circuit_sizes.specs.sym_terms.int_ops.declared.arith.UnOp.{UnOp}
use Rattle.circuit_sizes.specs.sym_terms.int_ops.declared.arith.UnOp.TheVariants as un
use Rattle.order_cells.specs.sym_exec.path_walk.tc_code.Expr as expr
use Rattle.order_cells.specs.sym_exec.path_walk.tc_code.Expr.{Expr, HasInts, names_slots}
use Rattle.order_cells.specs.sym_exec.path_walk.declared.event.Region.{Region}
use Rattle.circuit_sizes.specs.sym_terms.declared.node.Node.{Node}
use Rattle.circuit_sizes.specs.sym_terms.declared.node.Node.TheVariants.{Constant, Symbol, Unary, Binary}
use Rattle.order_cells.specs.sym_exec.declared.symbolic.Access.{Access}
use Rattle.order_cells.specs.sym_exec.tc_code.declared.cell.Cell.{Cell}
use Rattle.order_cells.specs.sym_exec.tc_code.declared.cell.Cell.TheVariants.{Fixed, Element}
use Rattle.mutex_regions.specs.order_events.lawful_order.Events.{Placed}
use Rattle.mutex_regions.proofs.order_events.Lists.{at_in, in_back, in_front, of_enumerated, of_filter, of_map, of_nil}
use Rattle.circuit_sizes.specs.bit_terms.Laws.{IsIntNode}
use Rattle.mutex_regions.specs.Functions.{Doing, at_begin, choice, chosen, function_of, here_or, index_over, is_dear, is_used, kept, masked, node_expr, of_one, of_two, stored, term_expr, where_is, with_access, with_load, with_store}
use Rattle.mutex_regions.specs.Variables.{same_variable, spots_of, variable_of}
use Rattle.mutex_regions.specs.declared.functions.Holding.{Holding}
use Rattle.mutex_regions.specs.declared.functions.Loaded.{Loaded}
use Rattle.mutex_regions.specs.declared.variables.Spot.{Spot}
use Rattle.mutex_regions.specs.declared.variables.Variable.{Variable}
use Rattle.mutex_regions.proofs.Spots.{spot_is}
use Rattle.mutex_regions.proofs.Values.{found}

module _ (cells : ℕ) where
  -- an expression over the cells, whose numbers are ints
  pub record IsOverCells (e : Expr) : Type 0 where
    pub named : IsTrue (names_slots cells e)
    pub numbers : HasInts e

  abbrev pub Gives : Option Expr → Type 0
  Gives o = (e : Expr) → o ≡ Some e → IsOverCells e

  number_over : (n : ℤ) → IsInt n → IsOverCells (expr.Number n)
  number_over n int = record { named = refl; numbers = int }

  unary_over : (op : UnOp) (a : Expr) → IsOverCells a → IsOverCells (expr.Unary op a)
  unary_over op a g = record { named = g.named; numbers = g.numbers }

  binary_over : (op : BinOp) (a b : Expr) → IsOverCells a → IsOverCells b → IsOverCells (expr.Binary op a b)
  binary_over op a b g h = record { named = and_from (names_slots cells a) (names_slots cells b) g.named h.named; numbers = (g.numbers, h.numbers) }

  none_gives : Gives None
  none_gives e h = absurd (none-some e h)

  some_gives : (a : Expr) → IsOverCells a → Gives (Some a)
  some_gives a g e h = subst IsOverCells (same_Some a e h) g

  kept_gives : (a : Expr) → IsOverCells a → Gives (kept a)
  kept_gives a g = by (nat_le (expr.size a) 256)
    where
      by : (b : Bool) → Gives (if b then Some a else None)
      by true = some_gives a g
      by false = none_gives

  one_gives : (f : Expr → Expr) (o : Option Expr) → ((a : Expr) → IsOverCells a → IsOverCells (f a)) → Gives o → Gives (of_one f o)
  one_gives f None into g = none_gives
  one_gives f (Some a) into g = kept_gives (f a) (into a (g a refl))

  two_gives : (f : Expr → Expr → Expr) (o p : Option Expr) → ((a b : Expr) → IsOverCells a → IsOverCells b → IsOverCells (f a b)) → Gives o → Gives p
      → Gives (of_two f o p)
  two_gives f None p into g h = none_gives
  two_gives f (Some a) p into g h = one_gives (f a) p (λ b k. into a b (g a refl) k) h

  -- terms over loads
  module _ (nodes : List Node) (constants : All IsIntNode nodes) (loads : List Loaded) (right : (l : Loaded) → Contains loads l → Gives l.value) where
    found_gives : (o : Option Loaded) → ((x : Loaded) → o ≡ Some x → Contains loads x) → Gives (option_and_then (λ x. x.value) o)
    found_gives None at = none_gives
    found_gives (Some x) at = right x (at x refl)

    node_gives : (below : ℕ → Option Expr) → ((term : ℕ) → Gives (below term)) → (node : Node) → IsIntNode node → Gives (node_expr below loads node)
    node_gives below so (Constant n) int = some_gives (expr.Number n) (number_over n int)
    node_gives below so (Symbol l) int = found_gives (find (λ x. x.load == l) loads) (λ x h. (found loads l x h).0)
    node_gives below so (Unary op a) int = one_gives (expr.Unary op) (below a) (unary_over op) (so a)
    node_gives below so (Binary op a b) int = by (is_dear op)
      where
        by : (dear : Bool) → Gives (if dear then None else of_two (expr.Binary op) (below a) (below b))
        by true = none_gives
        by false = two_gives (expr.Binary op) (below a) (below b) (binary_over op) (so a) (so b)

    int_at : (ns : List Node) (term : ℕ) → All IsIntNode ns → IsIntNode (get_or ns term (Constant (pos 0)))
    int_at [] term all = truth_int false
    int_at (n ∷ ns) zero all = All-head IsIntNode n ns all
    int_at (n ∷ ns) (suc k) all = int_at ns k (All-tail IsIntNode n ns all)

    pub term_gives : (levels term : ℕ) → Gives (term_expr nodes loads levels term)
    term_gives zero term = none_gives
    term_gives (suc n) term = node_gives (term_expr nodes loads n) (term_gives n) (get_or nodes term (Constant (pos 0))) (int_at nodes term constants)

  -- choices among cells
  masked_over : (test : BinOp) (index : Expr) (k : ℕ) (e : Expr) → IsOverCells index → IsInt (pos k) → IsOverCells e → IsOverCells (masked test index k e)
  masked_over test index k e i int g =
      binary_over bin.And e (expr.Unary un.Neg (expr.Binary test index (expr.Number (pos k)))) g
      (unary_over un.Neg (expr.Binary test index (expr.Number (pos k))) (binary_over test index (expr.Number (pos k)) i (number_over (pos k) int)))

  choice_gives : (index : Expr) (k : ℕ) (new old : Option Expr) → IsOverCells index → IsInt (pos k) → Gives new → Gives old
      → Gives (of_two (choice index k) new old)
  choice_gives index k new old i int g h =
      two_gives (choice index k) new old
      (λ a b p q. binary_over bin.Or (masked bin.Eq index k a) (masked bin.Ne index k b) (masked_over bin.Eq index k a i int p) (masked_over bin.Ne index k b i int q)) g h

  where_gives : (index : Expr) (k : ℕ) (new old : Option Expr) → IsOverCells index → IsInt (pos k) → Gives new → Gives old → Gives (where_is index k new old)
  where_gives (expr.Number n) k new old i int g h = by (int_eq n (pos k))
    where
      by : (b : Bool) → Gives (if b then new else old)
      by true = g
      by false = h
  where_gives (expr.Slot s) k new old i int g h = choice_gives (expr.Slot s) k new old i int g h
  where_gives (expr.Unary op a) k new old i int g h = choice_gives (expr.Unary op a) k new old i int g h
  where_gives (expr.Binary op a b) k new old i int g h = choice_gives (expr.Binary op a b) k new old i int g h

  -- a cell whose index is an int, with an expression if it has one
  pub record IsHeldWell (x : Holding) : Type 0 where
    pub index : IsInt (pos x.spot.index)
    pub gives : Gives x.value

  at_gives : (o : Option Expr) (k : ℕ) (new old : Option Expr) → Gives o → IsInt (pos k) → Gives new → Gives old
      → Gives (option_and_then (λ i. where_is i k new old) o)
  at_gives None k new old i int g h = none_gives
  at_gives (Some e) k new old i int g h = where_gives e k new old (i e refl) int g h

  fold_gives : (index : Option Expr) (xs : List Holding) (old : Option Expr) → Gives index → ((x : Holding) → Contains xs x → IsHeldWell x) → Gives old
      → Gives (fold (here_or index) old xs)
  fold_gives index [] old i held g = g
  fold_gives index (x ∷ xs) old i held g =
      let here : IsHeldWell x = held x (in_front x xs) in
      fold_gives index xs (here_or index old x) i (λ y there. held y (in_back y x xs there)) (at_gives index x.spot.index x.value old i here.index here.gives g)

  chosen_gives : (index : Option Expr) (xs : List Holding) → Gives index → ((x : Holding) → Contains xs x → IsHeldWell x) → Gives (chosen index xs)
  chosen_gives index [] i held = none_gives
  chosen_gives index (x ∷ xs) i held = fold_gives index xs x.value i (λ y there. held y (in_back y x xs there)) (held x (in_front x xs)).gives

  stored_well : (v : Variable) (index value : Option Expr) (x : Holding) → Gives index → Gives value → IsHeldWell x → IsHeldWell (stored v index value x)
  stored_well v index value x i g held = by (same_variable x.spot.variable v)
    where
      by : (b : Bool) → IsHeldWell (if b then (record x { value = option_and_then (λ i. where_is i x.spot.index value x.value) index }) else x)
      by true = record { index = held.index; gives = at_gives index x.spot.index value x.value i held.index g held.gives }
      by false = held

  -- what a region has done so far, by these accesses
  module _ (nodes : List Node) (constants : All IsIntNode nodes) (accesses : List (Placed Access)) where
    abbrev pub IsTaken : ℕ → Type 0
    IsTaken l = (a : Placed Access) × Contains accesses a × (a.it.takes ≡ Some l)

    pub record IsDoneWell (d : Doing) : Type 0 where
      pub count : length d.cells ≡ cells
      pub held : (x : Holding) → Contains d.cells x → IsHeldWell x
      pub loads : (l : Loaded) → Contains d.loads l → Gives l.value
      pub taken : (l : Loaded) → Contains d.loads l → IsTaken l.load

    over_index : (loads : List Loaded) → ((l : Loaded) → Contains loads l → Gives l.value) → (c : Cell ℕ) → Gives (index_over nodes loads c)
    over_index loads right (Fixed c) = some_gives (expr.Number (pos 0)) (number_over (pos 0) (truth_int false))
    over_index loads right (Element f n i) = term_gives nodes constants loads right 8 i

    abbrev own : Cell ℕ → Doing → List Holding
    own c d = filter (λ (x : Holding). same_variable x.spot.variable (variable_of c)) d.cells

    loads_well : (c : Cell ℕ) (d : Doing) (l : ℕ) → IsTaken l → IsDoneWell d → IsDoneWell (with_load nodes c d l)
    loads_well c d l taken so = record {
      count = so.count;
      held = so.held;
      loads = λ x there. elim (Contains-push_cases d.loads (record { load = l; value = chosen (index_over nodes d.loads c) (own c d) }) x there) [
        | inl old ↦ so.loads x old
        | inr is ↦ subst (λ (y : Loaded). Gives y.value) is
            (chosen_gives (index_over nodes d.loads c) (own c d) (over_index d.loads so.loads c)
            (λ y among. so.held y (of_filter (λ (z : Holding). same_variable z.spot.variable (variable_of c)) y d.cells among).0))
      ];
      taken = λ x there. elim (Contains-push_cases d.loads (record { load = l; value = chosen (index_over nodes d.loads c) (own c d) }) x there) [
        | inl old ↦ so.taken x old
        | inr is ↦ subst (λ (y : Loaded). IsTaken y.load) is taken
      ];
    }

    stores_well : (c : Cell ℕ) (d : Doing) (term : ℕ) → IsDoneWell d → IsDoneWell (with_store nodes c d term)
    stores_well c d term so =
        let index : Option Expr = index_over nodes d.loads c in
        let value : Option Expr = term_expr nodes d.loads 8 term in
        record {
          count = length-map d.cells (stored (variable_of c) index value) ∙ so.count;
          held = λ x there.
              let o = of_map {X = Holding} {Y = Holding} (stored (variable_of c) index value) x d.cells there in
              subst IsHeldWell o.2
              (stored_well (variable_of c) index value o.0 (over_index d.loads so.loads c) (term_gives nodes constants d.loads so.loads 8 term) (so.held o.0 o.1));
          loads = so.loads;
          taken = so.taken;
        }

    access_well : (d : Doing) (a : Placed Access) → Contains accesses a → IsDoneWell d → IsDoneWell (with_access nodes d a)
    access_well d a among so =
        store a.it.writes (option_map_or (with_load nodes a.it.cell d) a.it.takes d) (load a.it.takes refl)
      where
        load : (o : Option ℕ) → a.it.takes ≡ o → IsDoneWell (option_map_or (with_load nodes a.it.cell d) o d)
        load None is = so
        load (Some l) is = loads_well a.it.cell d l (a, among, is) so

        store : (o : Option ℕ) (x : Doing) → IsDoneWell x → IsDoneWell (option_map_or (with_store nodes a.it.cell x) o x)
        store None x h = h
        store (Some t) x h = stores_well a.it.cell x t h

    all_well : (xs : List (Placed Access)) (d : Doing) → ((a : Placed Access) → Contains xs a → Contains accesses a) → IsDoneWell d
        → IsDoneWell (fold (with_access nodes) d xs)
    all_well [] d among so = so
    all_well (a ∷ xs) d among so =
        all_well xs (with_access nodes d a) (λ b there. among b (in_back b a xs there)) (access_well d a (among a (in_front a xs)) so)

    -- before a region
    abbrev slot_of : ℕ × Spot → Holding
    slot_of p = record { spot = p.1; value = Some (expr.Slot p.0) }

    begin_well : (vs : List Variable) → length (spots_of vs) ≡ cells → ((v : Variable) → Contains vs v → v.cells ≤ 8) → IsDoneWell (at_begin vs)
    begin_well vs many short = record {
      count = length-map (enumerate_from 0 (spots_of vs)) slot_of ∙ length-enumerate_from 0 (spots_of vs) ∙ many;
      held = λ x there.
          let o = of_map {X = ℕ × Spot} {Y = Holding} slot_of x (enumerate_from 0 (spots_of vs)) there in
          subst IsHeldWell o.2 (slot_well o.0 (of_enumerated o.0 (spots_of vs) o.1));
      loads = λ l i. absurd (of_nil l i);
      taken = λ l i. absurd (of_nil l i);
    }
      where
        slot_well : (p : ℕ × Spot) → slice_get (spots_of vs) p.0 ≡ Some p.1 → IsHeldWell (record { spot = p.1; value = Some (expr.Slot p.0) })
        slot_well p at =
            let low : p.0 < length (spots_of vs) = slice_get_within (spots_of vs) p.0 p.1 at in
            let s = spot_is vs p.1 (at_in (spots_of vs) p.0 p.1 at) in
            let few : p.1.variable.cells ≤ 8 = short p.1.variable s.variable in
            record {
              index = omega (arith, ints, s.within, few);
              gives = some_gives (expr.Slot p.0) (record { named = lt-ltb p.0 cells (omega (arith, low, many)); numbers = tt });
            }

    -- what a region does
    pub does_well : (vs : List Variable) (r : Placed Region) → length (spots_of vs) ≡ cells → ((v : Variable) → Contains vs v → v.cells ≤ 8)
        → IsDoneWell (function_of nodes vs accesses r)
    does_well vs r many short =
        all_well (filter (is_used vs r) accesses) (at_begin vs) (λ a there. (of_filter (is_used vs r) a accesses there).0) (begin_well vs many short)
