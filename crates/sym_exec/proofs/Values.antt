-- The values of terms that are made.
use Rattle.std.proofs.Common.{◌≡◌, ◌∙◌, ℕ, ◌<◌, ℤ, pos, List, [], ◌∷◌, map, length, get_or, Bool, true, false, ◌&&◌, refl, ap, ap₂}
use Rattle.std.proofs.Common.{sym, rules}
use Rattle.std.specs.Bool.{IsTrue}
use Rattle.std.specs.Prelude.{int_le}
use Rattle.std.proofs.lemmas.Bool.{and_parts, ltb-true}
use Rattle.std.proofs.lemmas.List.{get_or-map}
use Rattle.std.proofs.lemmas.List.Elements.{All-head, All-tail}
use Rattle.int_ops.specs.Arith.{unary, binary, truth, bits_and, less_or_equal}
use Rattle.int_ops.proofs.Bits.{int_bit_and-is}
use Rattle.int_ops.specs.declared.arith.UnOp.{UnOp}
use Rattle.int_ops.specs.declared.arith.BinOp.{BinOp}
use Rattle.int_ops.specs.declared.arith.BinOp.TheVariants.{And, Le}
use Rattle.tc_code.specs.Expr as expr
use Rattle.tc_code.specs.Expr.{Expr, names_slots}
use Rattle.tc_code.specs.Step.{is_nonzero}
use Rattle.sym_terms.specs.Terms.{AreTerms, NamesBelow}
use Rattle.sym_terms.specs.Values.{value_of, values_of, node_value}
use Rattle.sym_terms.specs.declared.node.Node.{Node}
use Rattle.sym_terms.specs.declared.node.Node.TheVariants.{Constant, Symbol, Unary, Binary}
use Rattle.sym_terms.proofs.Growth as terms
use Rattle.sym_terms.proofs.Folds as folds
use Rattle.sym_exec.specs.Making.{Made, Grows, term_of_node, expr_term, range_test}
use Rattle.sym_exec.specs.Thread.{AreOf}
use Rattle.sym_exec.proofs.Grown.{grows_both, grows_made, made_within, stays_within, stay_of, expr_grows}

-- a term's value stays while nodes are added
pub value_stays : (a b : List Node) (loads : List ℤ) (term : ℕ) → Grows a b → term < length a → value_of b loads term ≡ value_of a loads term
value_stays a b loads term g within = ap (λ ns. value_of ns loads term) g.1 ∙ folds.keep a g.0 loads term within

-- the values of several terms stay too
pub values_stay : (a b : List Node) (loads : List ℤ) (ts : List ℕ) → Grows a b → AreOf a ts → map (value_of b loads) ts ≡ map (value_of a loads) ts
values_stay a b loads [] g are = refl
values_stay a b loads (t ∷ ts) g are =
    ap₂ (λ x xs. x ∷ xs) (value_stays a b loads t g (All-head (λ n. n < length a) t ts are))
    (values_stay a b loads ts g (All-tail (λ n. n < length a) t ts are))

-- a made node has its value, given the values of its parts
pub made_value : (nodes : List Node) (node : Node) (loads : List ℤ) → AreTerms nodes → NamesBelow (length nodes) node
    → value_of (term_of_node nodes node).nodes loads (term_of_node nodes node).term ≡ node_value (values_of nodes loads) loads node
made_value nodes node loads are names = terms.named nodes node loads are names

pub made_terms : (nodes : List Node) (node : Node) → AreTerms nodes → NamesBelow (length nodes) node → AreTerms (term_of_node nodes node).nodes
made_terms nodes node are names = terms.are_with nodes node are names

-- the term of an expression, made over terms
pub record HasValue (loads : List ℤ) (x : Made) (v : ℤ) : Type 0 where
  pub terms : AreTerms x.nodes
  pub within : x.term < length x.nodes
  pub value : value_of x.nodes loads x.term ≡ v

pub constant_value : (nodes : List Node) (n : ℤ) (loads : List ℤ) → AreTerms nodes → HasValue loads (term_of_node nodes (Constant n)) n
constant_value nodes n loads are =
    record { terms = made_terms nodes (Constant n) are tt; within = made_within nodes (Constant n); value = made_value nodes (Constant n) loads are tt }

pub symbol_value : (nodes : List Node) (k : ℕ) (loads : List ℤ) → AreTerms nodes → HasValue loads (term_of_node nodes (Symbol k)) (get_or loads k (pos 0))
symbol_value nodes k loads are =
    record { terms = made_terms nodes (Symbol k) are tt; within = made_within nodes (Symbol k); value = made_value nodes (Symbol k) loads are tt }

pub unary_value : (op : UnOp) (x : Made) (v : ℤ) (loads : List ℤ) → HasValue loads x v → HasValue loads (term_of_node x.nodes (Unary op x.term)) (unary op v)
unary_value op x v loads h =
    let node : Node = Unary op x.term in
    record {
      terms = made_terms x.nodes node h.terms h.within;
      within = made_within x.nodes node;
      value = made_value x.nodes node loads h.terms h.within ∙ ap (unary op) h.value;
    }

-- an operator over two terms, the second made after the first
pub binary_value : (op : BinOp) (nodes : List Node) (a b : ℕ) (v w : ℤ) (loads : List ℤ) → AreTerms nodes → a < length nodes → b < length nodes
    → value_of nodes loads a ≡ v → value_of nodes loads b ≡ w → HasValue loads (term_of_node nodes (Binary op a b)) (binary op v w)
binary_value op nodes a b v w loads are wa wb ea eb =
    let node : Node = Binary op a b in
    record {
      terms = made_terms nodes node are (wa, wb);
      within = made_within nodes node;
      value = made_value nodes node loads are (wa, wb) ∙ ap₂ (binary op) ea eb;
    }

-- the term of an expression has its value, given the values of the slots
pub expr_value : (nodes : List Node) (slots : List ℕ) (e : Expr) (loads : List ℤ) → AreTerms nodes → AreOf nodes slots
    → IsTrue (names_slots (length slots) e) → HasValue loads (expr_term nodes slots e) (expr.value_of e (map (value_of nodes loads) slots))
expr_value nodes slots (expr.Number n) loads are of named = constant_value nodes n loads are
expr_value nodes slots (expr.Slot k) loads are of named =
    let inside : k < length slots = ltb-true k (length slots) named in
    record { terms = are; within = of k 0 inside; value = sym (get_or-map (value_of nodes loads) slots k 0 (pos 0) inside) }
expr_value nodes slots (expr.Unary op a) loads are of named =
    unary_value op (expr_term nodes slots a) (expr.value_of a (map (value_of nodes loads) slots)) loads (expr_value nodes slots a loads are of named)
expr_value nodes slots (expr.Binary op a b) loads are of named =
    let named = and_parts (names_slots (length slots) a) (names_slots (length slots) b) named in
    let x = expr_term nodes slots a in
    let y = expr_term x.nodes slots b in
    let up : Grows nodes x.nodes = expr_grows nodes slots a in
    let more : Grows x.nodes y.nodes = expr_grows x.nodes slots b in
    let h = expr_value nodes slots a loads are of named.0 in
    let k = expr_value x.nodes slots b loads h.terms (stay_of nodes x.nodes slots up of) named.1 in
    binary_value op y.nodes x.term y.term (expr.value_of a (map (value_of nodes loads) slots)) (expr.value_of b (map (value_of nodes loads) slots)) loads
    k.terms (stays_within x.nodes y.nodes x.term more h.within) k.within (value_stays x.nodes y.nodes loads x.term more h.within ∙ h.value)
    (k.value ∙ ap (expr.value_of b) (values_stay nodes x.nodes loads slots up of))

-- a test gives 1 or 0
truth_and : (p q : Bool) → bits_and (truth p) (truth q) ≡ truth (p && q)
truth_and true true = sym (int_bit_and-is (pos 1) (pos 1) (search rules) (search rules))
truth_and true false = sym (int_bit_and-is (pos 1) (pos 0) (search rules) (search rules))
truth_and false true = sym (int_bit_and-is (pos 0) (pos 1) (search rules) (search rules))
truth_and false false = sym (int_bit_and-is (pos 0) (pos 0) (search rules) (search rules))

pub truth_nonzero : (p : Bool) → is_nonzero (truth p) ≡ p
truth_nonzero true = refl
truth_nonzero false = refl

-- the range test is 1 if the value is in the range, and otherwise 0
pub range_value : (x : Made) (v last : ℤ) (loads : List ℤ) → HasValue loads x v
    → HasValue loads (range_test x last) (truth (int_le (pos 0) v && int_le v last))
range_value x v last loads h =
    let zero = term_of_node x.nodes (Constant (pos 0)) in
    let hz = constant_value x.nodes (pos 0) loads h.terms in
    let gz : Grows x.nodes zero.nodes = grows_made x.nodes (Constant (pos 0)) in
    let low = term_of_node zero.nodes (Binary Le zero.term x.term) in
    let hl = binary_value Le zero.nodes zero.term x.term (pos 0) v loads hz.terms hz.within (stays_within x.nodes zero.nodes x.term gz h.within) hz.value
    (value_stays x.nodes zero.nodes loads x.term gz h.within ∙ h.value) in
    let gl : Grows zero.nodes low.nodes = grows_made zero.nodes (Binary Le zero.term x.term) in
    let top = term_of_node low.nodes (Constant last) in
    let ht = constant_value low.nodes last loads hl.terms in
    let gt : Grows low.nodes top.nodes = grows_made low.nodes (Constant last) in
    let gx : Grows x.nodes top.nodes = grows_both x.nodes zero.nodes top.nodes gz (grows_both zero.nodes low.nodes top.nodes gl gt) in
    let high = term_of_node top.nodes (Binary Le x.term top.term) in
    let hh = binary_value Le top.nodes x.term top.term v last loads ht.terms (stays_within x.nodes top.nodes x.term gx h.within) ht.within
    (value_stays x.nodes top.nodes loads x.term gx h.within ∙ h.value) ht.value in
    let gh : Grows top.nodes high.nodes = grows_made top.nodes (Binary Le x.term top.term) in
    let gf : Grows low.nodes high.nodes = grows_both low.nodes top.nodes high.nodes gt gh in
    let r = binary_value And high.nodes low.term high.term (less_or_equal (pos 0) v) (less_or_equal v last) loads hh.terms
    (stays_within low.nodes high.nodes low.term gf hl.within) hh.within (value_stays low.nodes high.nodes loads low.term gf hl.within ∙ hl.value) hh.value in
    record { terms = r.terms; within = r.within; value = r.value ∙ truth_and (int_le (pos 0) v) (int_le v last) }
