-- An expression's term among more terms is the same, and nothing is added.
use Rattle.std.proofs.Common.{◌≡◌, ℕ, ◌+◌, ◌<◌, List, [], ◌∷◌, ◌++◌, Some, refl, ap, ap₂, sym, ◌∙◌, subst, arith, false, length, get_or}
use Rattle.std.proofs.Common.{map}
use Rattle.std.specs.Prelude.{◌==◌, fold, slice_get, IsTrue}
use Rattle.std.specs.List.{All, list_any, range_with_len}
use Rattle.std.proofs.lemmas.Bool.{ne_eqb}
use Rattle.std.proofs.lemmas.List.{get_or_append_left, length-append, map-id}
use Rattle.std.proofs.lemmas.List.Elements.{All-cons, All-from_get_or, All-map, All-nil, All-weaker}
use Rattle.std.proofs.lemmas.List.Folds.{list_any_none}
use Rattle.std.proofs.lemmas.List.FromFn.{get_or-range_with_len, length-map-range_with_len, length-range_with_len, map-range_with_len_more}
use Rattle.std.proofs.lemmas.Option.{get_or_from_slice_get, slice_get-get_or, slice_get_within}
use Rattle.tc_code.specs.Expr as expr
use Rattle.tc_code.specs.Expr.{Expr, names_slots}
use Rattle.sym_terms.specs.Terms.{AreTerms, id_of, same_node, with_node}
use Rattle.sym_terms.specs.declared.node.Node.{Node}
use Rattle.sym_terms.specs.declared.node.Node.TheVariants.{Constant, Symbol, Unary, Binary}
use Rattle.sym_terms.proofs.Growth.{is_given, is_there, none_past}
use Rattle.sym_exec.specs.Making.{AllMade, Grows, Made, expr_term, expr_terms, term_of_node, with_expr}
use Rattle.sym_exec.proofs.Grown.{expr_grows, expr_within, grows_both, grows_made, grows_none, stay_of}
use Rattle.sym_exec.specs.Thread.{AreOf}
use Rattle.mutex_states.proofs.Pool.{are_pool, node_stays, slots_of}
use Rattle.mutex_clauses.specs.shapes.helpers.Pooled.{IsIn, Pooled, term_in, with_term, with_terms}

-- the first k symbols, and the next
new_symbol : (k : ℕ) → list_any (same_node (Symbol k)) (map Symbol (range_with_len 0 k)) ≡ false
new_symbol k =
    list_any_none (same_node (Symbol k)) (map Symbol (range_with_len 0 k))
    (All-map (λ node. same_node (Symbol k) node ≡ false) Symbol (range_with_len 0 k)
    (All-from_get_or (λ j. (k == j) ≡ false) (range_with_len 0 k) 0
    (λ i inside. let low : i < k = let long : length (range_with_len 0 k) ≡ k = length-range_with_len 0 k in omega (arith, inside, long) in
    let is : get_or (range_with_len 0 k) i 0 ≡ 0 + i = get_or-range_with_len 0 k i 0 low in
    ne_eqb k (get_or (range_with_len 0 k) i 0) (λ same. omega (arith, same, is, low)))))

pub symbol_more : (k : ℕ) (before after : List Node) → before ≡ map Symbol (range_with_len 0 k) → after ≡ with_node before (Symbol k)
    → after ≡ map Symbol (range_with_len 0 (k + 1))
symbol_more k before after is added =
    let symbols : List Node = map Symbol (range_with_len 0 k) in
    let node : with_node symbols (Symbol k) ≡ symbols ++ Symbol k ∷ [] = rw (new_symbol k) refl in
    added ∙ ap (λ ns. with_node ns (Symbol k)) is ∙ node ∙ sym (map-range_with_len_more Symbol 0 k k (omega arith))

pub symbol_place : (k id : ℕ) (before : List Node) → before ≡ map Symbol (range_with_len 0 k) → id ≡ id_of before (Symbol k) → id ≡ k
symbol_place k id before is at =
    at ∙ ap (λ ns. id_of ns (Symbol k)) is ∙ none_past (same_node (Symbol k)) (map Symbol (range_with_len 0 k)) (new_symbol k)
    ∙ length-map-range_with_len Symbol 0 k

pub slot_more : (k slot : ℕ) (before after : List ℕ) → before ≡ range_with_len 0 k → slot ≡ k → after ≡ before ++ slot ∷ []
    → after ≡ range_with_len 0 (k + 1)
slot_more k slot before after is same added =
    added ∙ ap₂ (λ js j. js ++ j ∷ []) (is ∙ sym (map-id (range_with_len 0 k))) same
    ∙ sym (map-range_with_len_more (λ (j : ℕ). j) 0 k k (omega arith)) ∙ map-id (range_with_len 0 (k + 1))

node_again : (a b : List Node) (node : Node) → AreTerms b → Grows (with_node a node) b
    → term_of_node b node ≡ record { term = id_of a node; nodes = b }
node_again a b node are g =
    let there = is_there b node (id_of a node) are (node_stays (with_node a node) b (id_of a node) node g (is_given a node)) in
    ap (λ k. let m : Made = record { term = k; nodes = with_node b node } in m) there.1
    ∙ ap (λ ns. let m : Made = record { term = id_of a node; nodes = ns } in m) there.0

module _ (slots : List ℕ) where
  pub again : (a b : List Node) (e : Expr) → AreTerms b → Grows (expr_term a slots e).nodes b
      → expr_term b slots e ≡ record { term = (expr_term a slots e).term; nodes = b }
  again a b (expr.Number n) are g = node_again a b (Constant n) are g
  again a b (expr.Slot k) are g = refl
  again a b (expr.Unary op x) are g =
      let m : Made = expr_term a slots x in
      let node : Node = Unary op m.term in
      let up : Grows m.nodes b = grows_both m.nodes (with_node m.nodes node) b (grows_made m.nodes node) g in
      ap (λ (y : Made). term_of_node y.nodes (Unary op y.term)) (again a b x are up) ∙ node_again m.nodes b node are g
  again a b (expr.Binary op x y) are g =
      let m : Made = expr_term a slots x in
      let n : Made = expr_term m.nodes slots y in
      let node : Node = Binary op m.term n.term in
      let last : Grows n.nodes b = grows_both n.nodes (with_node n.nodes node) b (grows_made n.nodes node) g in
      ap (λ (z : Made). let w : Made = expr_term z.nodes slots y in term_of_node w.nodes (Binary op z.term w.term))
      (again a b x are (grows_both m.nodes n.nodes b (expr_grows m.nodes slots y) last))
      ∙ ap (λ (w : Made). term_of_node w.nodes (Binary op m.term w.term)) (again m.nodes b y are last) ∙ node_again n.nodes b node are g

  all_grow : (a : List Node) (es : List Expr) → Grows a (with_terms slots a es)
  all_grow a [] = grows_none a
  all_grow a (e ∷ es) =
      let next : List Node = with_term slots a e in grows_both a next (with_terms slots next es) (expr_grows a slots e) (all_grow next es)

  all_again : (a b : List Node) (es : List Expr) → AreTerms b → Grows (with_terms slots a es) b → All (λ e. with_term slots b e ≡ b) es
  all_again a b [] are g = All-nil (λ e. with_term slots b e ≡ b)
  all_again a b (e ∷ es) are g =
      let next : List Node = with_term slots a e in
      let up : Grows next b = grows_both next (with_terms slots next es) b (all_grow next es) g in
      All-cons (λ d. with_term slots b d ≡ b) e es (ap (λ (m : Made). m.nodes) (again a b e are up)) (all_again next b es are g)

  all_made : (xs : AllMade) (es : List Expr) → (fold (with_expr slots) xs es).nodes ≡ with_terms slots xs.nodes es
  all_made xs [] = refl
  all_made xs (e ∷ es) = all_made (with_expr slots xs e) es

-- all terms of some expressions over a symbol for each cell
module _ (cells : ℕ) (es : List Expr) where
  abbrev pub slots : List ℕ
  slots = range_with_len 0 cells

  abbrev pub symbols : List Node
  symbols = map Symbol slots

  pub pool_made : (expr_terms symbols slots es).nodes ≡ with_terms slots symbols es
  pool_made = all_made slots (record { terms = []; nodes = symbols }) es

  abbrev pub whole : Pooled
  whole = record { nodes = (expr_terms symbols slots es).nodes; slots = slots }

  -- the terms after all have been added
  pub is_whole : (before after : Pooled) → before.nodes ≡ symbols → before.slots ≡ slots
      → after.nodes ≡ with_terms before.slots before.nodes es → after.slots ≡ before.slots → after ≡ whole
  is_whole before after nodes same added kept = λ i. record {
    nodes = (added ∙ ap₂ (λ ss ns. with_terms ss ns es) same nodes ∙ sym pool_made) i;
    slots = (kept ∙ same) i;
  }

  module _ (named : All (λ e. IsTrue (names_slots cells e)) es) where
    pub all_named : All (λ e. IsTrue (names_slots (length slots) e)) es
    all_named =
        let long : length slots ≡ cells = length-range_with_len 0 cells in
        subst (λ n. All (λ e. IsTrue (names_slots n e)) es) (sym long) named

    all_there : All (λ e. with_term slots whole.nodes e ≡ whole.nodes) es
    all_there =
        all_again slots symbols whole.nodes es (are_pool cells es named)
        (subst (λ ns. Grows ns whole.nodes) pool_made (grows_none whole.nodes))

    -- all expressions are there
    pub all_in : All (IsIn whole) es
    all_in k e inside = record { named = all_named k e inside; there = all_there k e inside }

    -- their terms are among the nodes
    whole_of : AreOf whole.nodes slots
    whole_of = stay_of symbols whole.nodes slots (subst (Grows symbols) (sym pool_made) (all_grow slots symbols es)) (slots_of cells)

    below : (e : Expr) → IsIn whole e → term_in whole e < length whole.nodes
    below e h = subst (λ ns. term_in whole e < length ns) h.there (expr_within whole.nodes slots e whole_of h.named)

    pub all_below : All (λ e. term_in whole e < length whole.nodes) es
    all_below = All-weaker (IsIn whole) (λ e. term_in whole e < length whole.nodes) below es all_in
