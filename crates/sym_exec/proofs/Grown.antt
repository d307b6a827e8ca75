-- Making a term only adds nodes at the end, and the term is one of them.
use Rattle.std.proofs.Common.{◌≡◌, ℕ, ◌<◌, ◌≤◌, ◌+◌, List, [], ◌∷◌, ◌++◌, length, get_or, true, refl, ap, sym, ◌∙◌, arith}
use Rattle.std.proofs.Common.{append_assoc, length-append}
use Rattle.std.specs.List.{list_all}
use Rattle.std.specs.Prelude.{nat_lt}
use Rattle.std.specs.Bool.{IsTrue}
use Rattle.std.proofs.lemmas.Bool.{and_parts, and_from, lt-ltb, ltb-true}
use Rattle.std.proofs.lemmas.List.{append-nil}
use Rattle.std.proofs.lemmas.Option.{slice_get_within}
use Rattle.tc_code.specs.Expr as expr
use Rattle.tc_code.specs.Expr.{Expr, names_slots}
use Rattle.sym_terms.specs.Terms.{with_node, id_of}
use Rattle.sym_terms.specs.declared.node.Node.{Node}
use Rattle.sym_terms.specs.declared.node.Node.TheVariants.{Constant, Unary, Binary}
use Rattle.sym_terms.proofs.Growth as terms
use Rattle.sym_exec.specs.Making.{Grows, term_of_node, expr_term}
use Rattle.sym_exec.specs.Thread.{AreOf}

pub grows_none : (a : List Node) → Grows a a
grows_none a = ([], sym (append-nil a))

pub grows_both : (a b c : List Node) → Grows a b → Grows b c → Grows a c
grows_both a b c g h = (g.0 ++ h.0, h.1 ∙ ap (λ x. x ++ h.0) g.1 ∙ append_assoc a g.0 h.0)

pub grows_made : (nodes : List Node) (node : Node) → Grows nodes (term_of_node nodes node).nodes
grows_made nodes node = terms.grows nodes node

-- a made term is one of the nodes
pub made_within : (nodes : List Node) (node : Node) → (term_of_node nodes node).term < length (term_of_node nodes node).nodes
made_within nodes node = slice_get_within (with_node nodes node) (id_of nodes node) node (terms.is_given nodes node)

-- a term stays one of the nodes
pub stays_within : (a b : List Node) (term : ℕ) → Grows a b → term < length a → term < length b
stays_within a b term g within = let e : length b ≡ length a + length g.0 = ap length g.1 ∙ length-append a g.0 in omega (arith, within, e)

pub stay_of : (a b : List Node) (terms : List ℕ) → Grows a b → AreOf a terms → AreOf b terms
stay_of a b terms g are = λ k d within. stays_within a b (get_or terms k d) g (are k d within)

-- making the term of an expression only adds nodes
pub expr_grows : (nodes : List Node) (slots : List ℕ) (e : Expr) → Grows nodes (expr_term nodes slots e).nodes
expr_grows nodes slots (expr.Number n) = grows_made nodes (Constant n)
expr_grows nodes slots (expr.Slot k) = grows_none nodes
expr_grows nodes slots (expr.Unary op a) =
    let x = expr_term nodes slots a in
    grows_both nodes x.nodes (term_of_node x.nodes (Unary op x.term)).nodes (expr_grows nodes slots a) (grows_made x.nodes (Unary op x.term))
expr_grows nodes slots (expr.Binary op a b) =
    let x = expr_term nodes slots a in
    let y = expr_term x.nodes slots b in
    let all = (term_of_node y.nodes (Binary op x.term y.term)).nodes in
    grows_both nodes x.nodes all (expr_grows nodes slots a)
    (grows_both x.nodes y.nodes all (expr_grows x.nodes slots b) (grows_made y.nodes (Binary op x.term y.term)))

pub expr_within : (nodes : List Node) (slots : List ℕ) (e : Expr) → AreOf nodes slots → IsTrue (names_slots (length slots) e)
    → (expr_term nodes slots e).term < length (expr_term nodes slots e).nodes
expr_within nodes slots (expr.Number n) are named = made_within nodes (Constant n)
expr_within nodes slots (expr.Slot k) are named = are k 0 (ltb-true k (length slots) named)
expr_within nodes slots (expr.Unary op a) are named = let x = expr_term nodes slots a in made_within x.nodes (Unary op x.term)
expr_within nodes slots (expr.Binary op a b) are named =
    let x = expr_term nodes slots a in
    let y = expr_term x.nodes slots b in
    made_within y.nodes (Binary op x.term y.term)

pub below_more : (k m n : ℕ) → m ≤ n → nat_lt k m ≡ true → nat_lt k n ≡ true
below_more k m n up h = lt-ltb k n (omega (arith, up, ltb-true k m h))

-- an expression that names slots below `m` names slots below any greater number
pub names_more : (m n : ℕ) (e : Expr) → m ≤ n → IsTrue (names_slots m e) → IsTrue (names_slots n e)
names_more m n (expr.Number k) up h = refl
names_more m n (expr.Slot k) up h = lt-ltb k n (omega (arith, up, ltb-true k m h))
names_more m n (expr.Unary op a) up h = names_more m n a up h
names_more m n (expr.Binary op a b) up h =
    let h = and_parts (names_slots m a) (names_slots m b) h in
    and_from (names_slots n a) (names_slots n b) (names_more m n a up h.0) (names_more m n b up h.1)

pub all_names_more : (m n : ℕ) (es : List Expr) → m ≤ n → IsTrue (list_all (names_slots m) es) → IsTrue (list_all (names_slots n) es)
all_names_more m n [] up h = refl
all_names_more m n (e ∷ es) up h =
    let h = and_parts (names_slots m e) (list_all (names_slots m) es) h in
    and_from (names_slots n e) (list_all (names_slots n) es) (names_more m n e up h.0) (all_names_more m n es up h.1)
