-- The terms of expressions among the terms of all of them.
use Rattle.std.proofs.Common.{◌≡◌, ℕ, ◌+◌, ◌<◌, List, [], ◌∷◌, ◌++◌, ℤ, pos, Some, inl, inr, refl, ap, sym, ◌∙◌, subst, arith, Bool, true, false, length, get_or, map}
use Rattle.std.specs.Prelude.{fold, if◌then◌else◌, slice_get, slice_index_or}
use Rattle.std.specs.List.{All, AllPairs, Contains, list_any, range_with_len}
use Rattle.std.specs.Bool.{IsTrue}
use Rattle.std.proofs.lemmas.List.{get_or_append_left, length-append}
use Rattle.std.proofs.lemmas.List.Elements.{All-cons, All-contains, All-head, All-nil, All-push, All-tail}
use Rattle.std.proofs.lemmas.List.FromFn.{fill_by_all, get_or-map-range_with_len, get_or-range_with_len, length-map-range_with_len, length-range_with_len}
use Rattle.std.proofs.lemmas.Map.Made.{IsDistinct-from_AllPairs}
use Rattle.std.proofs.lemmas.Option.{get_or_from_slice_get, slice_get-get_or, slice_get_within}
use Rattle.order_cells.specs.sym_exec.path_walk.tc_code.Expr as expr
use Rattle.order_cells.specs.sym_exec.path_walk.tc_code.Expr.{Expr, HasInts, names_slots}
use Rattle.circuit_sizes.specs.sym_terms.Terms.{AreTerms, NamesBelow, same_node, with_node}
use Rattle.circuit_sizes.specs.sym_terms.Values.{node_value, value_of, values_of}
use Rattle.circuit_sizes.specs.sym_terms.declared.node.Node.{Node}
use Rattle.circuit_sizes.specs.sym_terms.declared.node.Node.TheVariants.{Constant, Symbol, Unary, Binary}
use Rattle.circuit_sizes.proofs.sym_terms.Folds.{of_node}
use Rattle.circuit_sizes.proofs.sym_terms.Growth.{is_given, is_there}
use Rattle.circuit_sizes.proofs.sym_terms.Same.{same_decides}
use Rattle.order_cells.specs.sym_exec.Making.{AllMade, Grows, Made, expr_term, expr_terms, term_of_node, with_expr}
use Rattle.order_cells.specs.sym_exec.Thread.{AreOf}
use Rattle.order_cells.proofs.sym_exec.Grown.{expr_grows, grows_both, grows_made, grows_none, stay_of}
use Rattle.order_cells.proofs.sym_exec.Values.{expr_value, value_stays}
use Rattle.circuit_sizes.specs.bit_terms.Laws.{IsIntNode}
use Rattle.bit_blast.proofs.Lists.{contains_cases, contains_none}

-- nodes that are there stay at their places
pub node_stays : (a b : List Node) (k : ℕ) (node : Node) → Grows a b → slice_get a k ≡ Some node → slice_get b k ≡ Some node
node_stays a b k node g at =
    let inside : k < length a = slice_get_within a k node at in
    let long : length b ≡ length a + length g.0 = ap length g.1 ∙ length-append a g.0 in
    let here : get_or b k node ≡ node = ap (λ ns. get_or ns k node) g.1 ∙ get_or_append_left a g.0 node k inside ∙ get_or_from_slice_get a k node node at in
    slice_get-get_or b k node (omega (arith, inside, long)) ∙ ap Some here

module _ (slots : List ℕ) where
  -- a term of the nodes is that of an expression
  Holds : List Node → Expr → ℕ → Type 0
  Holds nodes (expr.Number n) t = slice_get nodes t ≡ Some (Constant n)
  Holds nodes (expr.Slot k) t = t ≡ slice_index_or slots k 0
  Holds nodes (expr.Unary op a) t = (i : ℕ) × Holds nodes a i × (slice_get nodes t ≡ Some (Unary op i))
  Holds nodes (expr.Binary op a b) t = (i : ℕ) × (j : ℕ) × Holds nodes a i × Holds nodes b j × (slice_get nodes t ≡ Some (Binary op i j))

  holds_more : (a b : List Node) (e : Expr) (t : ℕ) → Grows a b → Holds a e t → Holds b e t
  unfolding Holds
  holds_more a b (expr.Number n) t g h = node_stays a b t (Constant n) g h
  holds_more a b (expr.Slot k) t g h = h
  holds_more a b (expr.Unary op x) t g h = (h.0, holds_more a b x h.0 g h.1, node_stays a b t (Unary op h.0) g h.2)
  holds_more a b (expr.Binary op x y) t g h =
      (h.0, h.1, holds_more a b x h.0 g h.2, holds_more a b y h.1 g h.3, node_stays a b t (Binary op h.0 h.1) g h.4)

  holds_made : (nodes : List Node) (e : Expr) → Holds (expr_term nodes slots e).nodes e (expr_term nodes slots e).term
  unfolding Holds
  holds_made nodes (expr.Number n) = is_given nodes (Constant n)
  holds_made nodes (expr.Slot k) = refl
  holds_made nodes (expr.Unary op a) =
      let x : Made = expr_term nodes slots a in
      let node : Node = Unary op x.term in
      (x.term, holds_more x.nodes (with_node x.nodes node) a x.term (grows_made x.nodes node) (holds_made nodes a), is_given x.nodes node)
  holds_made nodes (expr.Binary op a b) =
      let x : Made = expr_term nodes slots a in
      let y : Made = expr_term x.nodes slots b in
      let node : Node = Binary op x.term y.term in
      let last : Grows y.nodes (with_node y.nodes node) = grows_made y.nodes node in (
        x.term,
        y.term,
        holds_more x.nodes (with_node y.nodes node) a x.term (grows_both x.nodes y.nodes (with_node y.nodes node) (expr_grows x.nodes slots b) last) (holds_made nodes a),
        holds_more y.nodes (with_node y.nodes node) b y.term last (holds_made x.nodes b),
        is_given y.nodes node,
      )

  -- such an expression has this term, and needs no more nodes
  node_found : (nodes : List Node) (node : Node) (t : ℕ) → AreTerms nodes → slice_get nodes t ≡ Some node → term_of_node nodes node ≡ record { term = t; nodes = nodes }
  node_found nodes node t are at =
      let there = is_there nodes node t are at in
      ap (λ k. let m : Made = record { term = k; nodes = with_node nodes node } in m) there.1
      ∙ ap (λ ns. let m : Made = record { term = t; nodes = ns } in m) there.0

  found : (nodes : List Node) (e : Expr) (t : ℕ) → AreTerms nodes → Holds nodes e t → expr_term nodes slots e ≡ record { term = t; nodes = nodes }
  unfolding Holds
  found nodes (expr.Number n) t are h = node_found nodes (Constant n) t are h
  found nodes (expr.Slot k) t are h = ap (λ i. let m : Made = record { term = i; nodes = nodes } in m) (sym h)
  found nodes (expr.Unary op a) t are h =
      ap (λ (x : Made). term_of_node x.nodes (Unary op x.term)) (found nodes a h.0 are h.1) ∙ node_found nodes (Unary op h.0) t are h.2
  found nodes (expr.Binary op a b) t are h =
      ap (λ (x : Made). let y : Made = expr_term x.nodes slots b in term_of_node y.nodes (Binary op x.term y.term)) (found nodes a h.0 are h.2)
      ∙ ap (λ (y : Made). term_of_node y.nodes (Binary op h.0 y.term)) (found nodes b h.1 are h.3) ∙ node_found nodes (Binary op h.0 h.1) t are h.4

  all_grow : (xs : AllMade) (es : List Expr) → Grows xs.nodes (fold (with_expr slots) xs es).nodes
  all_grow xs [] = grows_none xs.nodes
  all_grow xs (e ∷ es) =
      let next : AllMade = with_expr slots xs e in
      grows_both xs.nodes next.nodes (fold (with_expr slots) next es).nodes (expr_grows xs.nodes slots e) (all_grow next es)

  all_hold : (xs : AllMade) (es : List Expr) (e : Expr) → Contains es e → (t : ℕ) × Holds (fold (with_expr slots) xs es).nodes e t
  all_hold xs [] e there = absurd (contains_none e there)
  all_hold xs (d ∷ es) e there =
      let next : AllMade = with_expr slots xs d in
      elim (contains_cases d e es there) [
        | inl is ↦ (
          (expr_term xs.nodes slots d).term,
          holds_more next.nodes (fold (with_expr slots) next es).nodes e (expr_term xs.nodes slots d).term (all_grow next es)
              (subst (λ z. Holds next.nodes z (expr_term xs.nodes slots d).term) is (holds_made xs.nodes d)),
        )
        | inr later ↦ all_hold next es e later
      ]

  all_terms : (xs : AllMade) (es : List Expr) (loads : List ℤ) → AreTerms xs.nodes → AreOf xs.nodes slots
      → All (λ e. IsTrue (names_slots (length slots) e)) es → AreTerms (fold (with_expr slots) xs es).nodes
  all_terms xs [] loads are of named = are
  all_terms xs (e ∷ es) loads are of named =
      let next : AllMade = with_expr slots xs e in
      let P : Expr → Type 0 = λ d. IsTrue (names_slots (length slots) d) in
      all_terms next es loads (expr_value xs.nodes slots e loads are of (All-head P e es named)).terms
      (stay_of xs.nodes next.nodes slots (expr_grows xs.nodes slots e) of) (All-tail P e es named)

  -- the numbers of the terms are ints
  with_int : (nodes : List Node) (node : Node) → All IsIntNode nodes → IsIntNode node → All IsIntNode (with_node nodes node)
  with_int nodes node are is = by (list_any (same_node node) nodes)
    where
      by : (b : Bool) → All IsIntNode (if b then nodes else nodes ++ node ∷ [])
      by true = are
      by false = All-push IsIntNode nodes node are is

  expr_ints : (nodes : List Node) (e : Expr) → All IsIntNode nodes → HasInts e → All IsIntNode (expr_term nodes slots e).nodes
  expr_ints nodes (expr.Number n) are is = with_int nodes (Constant n) are is
  expr_ints nodes (expr.Slot k) are is = are
  expr_ints nodes (expr.Unary op a) are is =
      let x : Made = expr_term nodes slots a in with_int x.nodes (Unary op x.term) (expr_ints nodes a are is) tt
  expr_ints nodes (expr.Binary op a b) are is =
      let x : Made = expr_term nodes slots a in
      let y : Made = expr_term x.nodes slots b in
      with_int y.nodes (Binary op x.term y.term) (expr_ints x.nodes b (expr_ints nodes a are is.0) is.1) tt

  all_ints : (xs : AllMade) (es : List Expr) → All IsIntNode xs.nodes → All HasInts es → All IsIntNode (fold (with_expr slots) xs es).nodes
  all_ints xs [] are is = are
  all_ints xs (e ∷ es) are is =
      all_ints (with_expr slots xs e) es (expr_ints xs.nodes e are (All-head HasInts e es is)) (All-tail HasInts e es is)

-- slot k is the place of the k-th symbol
pub slots_of : (cells : ℕ) → AreOf (map Symbol (range_with_len 0 cells)) (range_with_len 0 cells)
slots_of cells k d there =
    let long : length (range_with_len 0 cells) ≡ cells = length-range_with_len 0 cells in
    let low : k < cells = omega (arith, there, long) in
    let is : get_or (range_with_len 0 cells) k d ≡ 0 + k = get_or-range_with_len 0 cells k d low in
    let many : length (map Symbol (range_with_len 0 cells)) ≡ cells = length-map-range_with_len Symbol 0 cells in
    omega (arith, is, low, many)

-- the terms over a symbol for each cell
module _ (cells : ℕ) (es : List Expr) (named : All (λ e. IsTrue (names_slots cells e)) es) where
  abbrev slots : List ℕ
  slots = range_with_len 0 cells

  abbrev symbols : List Node
  symbols = map Symbol slots

  abbrev pool : List Node
  pool = (expr_terms symbols slots es).nodes

  abbrev first : AllMade
  first = record { terms = []; nodes = symbols }

  many : length symbols ≡ cells
  many = length-map-range_with_len Symbol 0 cells

  symbol_at : (k : ℕ) (d : Node) → k < cells → get_or symbols k d ≡ Symbol k
  symbol_at k d below = get_or-map-range_with_len Symbol 0 cells k k d below (omega arith)

  different : AllPairs (λ a b. a ≡ b → ⊥) symbols
  different i j d less there same =
      let high : j < cells = omega (arith, there, many) in
      let one : Symbol i ≡ Symbol j = sym (symbol_at i d (omega (arith, less, high))) ∙ same ∙ symbol_at j d high in
      let is : i ≡ j = cc in
      omega (arith, is, less)

  are_symbols : AreTerms symbols
  are_symbols = record {
    distinct = IsDistinct-from_AllPairs same_decides symbols different;
    earlier = λ k node at.
        let below : k < cells = let inside = slice_get_within symbols k node at in omega (arith, inside, many) in
        subst (NamesBelow k) (sym (symbol_at k node below) ∙ get_or_from_slice_get symbols k node node at) tt;
  }

  are_of : AreOf symbols slots
  are_of = slots_of cells

  named_slots : All (λ e. IsTrue (names_slots (length slots) e)) es
  named_slots = let long : length slots ≡ cells = length-range_with_len 0 cells in subst (λ n. All (λ e. IsTrue (names_slots n e)) es) (sym long) named

  pub are_pool : AreTerms pool
  are_pool = all_terms slots first es [] are_symbols are_of named_slots

  pub pool_ints : All HasInts es → All IsIntNode pool
  pool_ints ints = all_ints slots first es (All-from_symbols slots) ints
    where
      All-from_symbols : (ks : List ℕ) → All IsIntNode (map Symbol ks)
      All-from_symbols [] = All-nil IsIntNode
      All-from_symbols (k ∷ ks) = All-cons IsIntNode (Symbol k) (map Symbol ks) tt (All-from_symbols ks)

  grown : Grows symbols pool
  grown = all_grow slots first es

  -- each slot has its value, and each expression too
  module _ (state : List ℤ) (long : length state ≡ cells) where
    slot_value : (k : ℕ) → k < cells → value_of pool state k ≡ get_or state k (pos 0)
    slot_value k below =
        let d : Node = Symbol k in
        value_stays symbols pool state k grown (omega (arith, below, many))
        ∙ of_node symbols state k d (omega (arith, below, many)) (subst (NamesBelow k) (sym (symbol_at k d below)) tt)
        ∙ ap (λ node. node_value (values_of symbols state) state node) (symbol_at k d below)

    slot_values : map (value_of pool state) slots ≡ state
    slot_values = sym (fill_by_all (value_of pool state) state cells (pos 0) long (λ k below. sym (slot_value k below)))

    pub pool_value : (e : Expr) → Contains es e → value_of pool state (expr_term pool slots e).term ≡ expr.value_of e state
    pool_value e there =
        let h = all_hold slots first es e there in
        let same : expr_term pool slots e ≡ record { term = h.0; nodes = pool } = found slots pool e h.0 are_pool h.1 in
        let of : AreOf pool slots = stay_of symbols pool slots grown are_of in
        let has = expr_value pool slots e state are_pool of (All-contains (λ d. IsTrue (names_slots (length slots) d)) es e named_slots there) in
        ap (λ ns. value_of ns state (expr_term pool slots e).term) (sym (ap (λ (m : Made). m.nodes) same)) ∙ has.value ∙ ap (expr.value_of e) slot_values
