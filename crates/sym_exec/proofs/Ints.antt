-- Terms over numbers in the range of `int`.
use Rattle.std.proofs.Common.{◌≡◌, ◌∙◌, ℕ, ◌<◌, ℤ, pos, List, [], ◌∷◌, ◌++◌, length, get_or, fold, refl}
use Rattle.std.specs.Ordering.{int_eq}
use Rattle.std.specs.List.{All}
use Rattle.std.proofs.lemmas.List.Elements.{All-head, All-tail, All-cons, All-nil, All-append}
use Rattle.int_ops.specs.Arith.{IsInt}
use Rattle.int_ops.proofs.Ints.{by_sameness, unary_int, binary_int, there_int}
use Rattle.int_ops.specs.Updates.{replaced}
use Rattle.sym_terms.specs.Terms.{AreTerms}
use Rattle.sym_terms.specs.Values.{node_value, values_of, value_of}
use Rattle.sym_terms.specs.declared.node.Node.{Node}
use Rattle.sym_terms.specs.declared.node.Node.TheVariants.{Constant, Symbol, Unary, Binary}
use Rattle.sym_exec.specs.Making.{replaced_term}
use Rattle.sym_exec.proofs.Tells.{replaced_value}
use Rattle.sym_exec.specs.Ints.{HasInt, AreInts, exchanged}

-- the value that a compare-and-exchange brings is the cell's value after it
pub brings : (v e f : ℤ) → IsInt v → IsInt f → exchanged v e f ≡ replaced v e f
brings v e f p q = by_sameness (int_eq v e) v f p q

-- a node over ints, and nodes one after another
node_int : (known loads : List ℤ) (node : Node) → All IsInt known → All IsInt loads → HasInt node → IsInt (node_value known loads node)
node_int known loads (Constant n) ks ls i = i
node_int known loads (Symbol load) ks ls i = there_int loads load ls
node_int known loads (Unary op a) ks ls i = unary_int op (get_or known a (pos 0)) (there_int known a ks)
node_int known loads (Binary op a b) ks ls i =
    binary_int op (get_or known a (pos 0)) (get_or known b (pos 0)) (there_int known a ks) (there_int known b ks)

fold_int : (nodes : List Node) (known loads : List ℤ) → All HasInt nodes → All IsInt known → All IsInt loads
    → All IsInt (fold (λ known node. known ++ node_value known loads node ∷ []) known nodes)
fold_int [] known loads are ks ls = ks
fold_int (node ∷ nodes) known loads are ks ls =
    let v = node_value known loads node in
    fold_int nodes (known ++ v ∷ []) loads (All-tail HasInt node nodes are)
    (All-append IsInt known (v ∷ []) ks
    (All-cons IsInt v [] (node_int known loads node ks ls (All-head HasInt node nodes are)) (All-nil IsInt))) ls

-- the value of each term is an int if those of constants and loads are
pub value_int : (nodes : List Node) (loads : List ℤ) → AreInts nodes loads → (id : ℕ) → IsInt (value_of nodes loads id)
value_int nodes loads are id = there_int (values_of nodes loads) id (fold_int nodes [] loads are.constants (All-nil IsInt) are.taken)

-- the term of a compare-and-exchange has the cell's value after it
pub written : (nodes : List Node) (loads : List ℤ) (v e f : ℕ) → AreTerms nodes → AreInts nodes loads → v < length nodes → e < length nodes
    → f < length nodes → let x = replaced_term nodes v e f in
    value_of x.nodes loads x.term ≡ replaced (value_of nodes loads v) (value_of nodes loads e) (value_of nodes loads f)
written nodes loads v e f are ints wv we wf =
    let a = value_of nodes loads v in
    let b = value_of nodes loads e in
    let c = value_of nodes loads f in
    (replaced_value nodes v e f loads a b c are wv we wf refl refl refl).value
    ∙ brings a b c (value_int nodes loads ints v) (value_int nodes loads ints f)
