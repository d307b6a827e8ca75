-- The program's test of two nodes is that of the definitions, and passes only for equal nodes.
use Rattle.std.proofs.Common.{◌≡◌, true, ◌&&◌, ◌==◌, refl, ap, sym, subst, ◌∙◌, rules}
use Rattle.std.proofs.lemmas.Bool.{false≢true}
use Rattle.std.proofs.lemmas.Bool.Decides.{Decides-int_eq, Decides-eqb}
use Rattle.std.specs.Bool.{Decides, one_answer}
use Rattle.std.specs.Cmp.{IsEquivalence}
use Rattle.std.proofs.lemmas.Bool.{and_parts, and_from, eq-eqb}
use denote.Enum.Bare.{sameb, same_true, true_same}
use Rattle.int_ops.specs.Arith.{same_unary, same_binary}
use Rattle.int_ops.specs.declared.arith.UnOp.{UnOp}
use Rattle.int_ops.specs.declared.arith.UnOp.TheVariants.{Neg, Not, Inv}
use Rattle.int_ops.specs.declared.arith.BinOp.{BinOp}
use Rattle.int_ops.specs.declared.arith.BinOp.TheVariants.{Add, Sub, Mul, And, Or, Xor, Eq, Ne, Lt, Le, Gt, Ge, Div, Rem, Shl, Shr}
use Rattle.int_ops.specs.contracts.arith.UnOp.{the_type as unary_type}
use Rattle.int_ops.specs.contracts.arith.BinOp.{the_type as binary_type}
use Rattle.sym_terms.specs.contracts.node.NodePartialEq.TheImpl.{eq-value}
use Rattle.sym_terms.specs.declared.node.Node.{Node}
use Rattle.sym_terms.specs.declared.node.Node.TheVariants.{Constant, Symbol, Unary, Binary}
use Rattle.sym_terms.specs.Terms.{same_node}

unary_eq : (a b : UnOp) → sameb unary_type a b ≡ same_unary a b
unary_eq Neg Neg = refl
unary_eq Not Not = refl
unary_eq Inv Inv = refl
unary_eq _ _ = refl

binary_eq : (a b : BinOp) → sameb binary_type a b ≡ same_binary a b
binary_eq Add Add = refl
binary_eq Sub Sub = refl
binary_eq Mul Mul = refl
binary_eq And And = refl
binary_eq Or Or = refl
binary_eq Xor Xor = refl
binary_eq Eq Eq = refl
binary_eq Ne Ne = refl
binary_eq Lt Lt = refl
binary_eq Le Le = refl
binary_eq Gt Gt = refl
binary_eq Ge Ge = refl
binary_eq Div Div = refl
binary_eq Rem Rem = refl
binary_eq Shl Shl = refl
binary_eq Shr Shr = refl
binary_eq _ _ = refl

node_eq : (a b : Node) → (eq-value).it a b ≡ same_node a b
node_eq (Constant m) (Constant n) = refl
node_eq (Symbol j) (Symbol k) = refl
node_eq (Unary op a) (Unary oq c) = ap (λ t. t && a == c) (unary_eq op oq)
node_eq (Binary op a b) (Binary oq c d) = ap (λ t. t && (a == c && b == d)) (binary_eq op oq)
node_eq (Constant m) (Symbol k) = refl
node_eq (Constant m) (Unary _ _) = refl
node_eq (Constant m) (Binary _ _ _) = refl
node_eq (Symbol m) (Constant k) = refl
node_eq (Symbol m) (Unary _ _) = refl
node_eq (Symbol m) (Binary _ _ _) = refl
node_eq (Unary _ _) (Constant _) = refl
node_eq (Unary _ _) (Symbol _) = refl
node_eq (Unary _ _) (Binary _ _ _) = refl
node_eq (Binary _ _ _) (Constant _) = refl
node_eq (Binary _ _ _) (Symbol _) = refl
node_eq (Binary _ _ _) (Unary _ _) = refl

-- the two tests are the same function
pub eq_is_same : (eq-value).it ≡ same_node
eq_is_same = λ i a b. node_eq a b i

unary_one : (a b : UnOp) → same_unary a b ≡ true → a ≡ b
unary_one a b h = same_true unary_type (search rules) a b (unary_eq a b ∙ h)

binary_one : (a b : BinOp) → same_binary a b ≡ true → a ≡ b
binary_one a b h = same_true binary_type (search rules) a b (binary_eq a b ∙ h)

-- nodes that pass the test are equal
pub same_one : (a b : Node) → same_node a b ≡ true → a ≡ b
same_one (Constant m) (Constant n) h = ap Constant ((Decides-int_eq m n).0 h)
same_one (Symbol j) (Symbol k) h = ap Symbol ((Decides-eqb j k).0 h)
same_one (Unary op a) (Unary oq c) h =
    let parts = and_parts (same_unary op oq) (a == c) h in
    ap (λ o. Unary o a) (unary_one op oq parts.0) ∙ ap (Unary oq) ((Decides-eqb a c).0 parts.1)
same_one (Binary op a b) (Binary oq c d) h =
    let parts = and_parts (same_binary op oq) (a == c && b == d) h in
    let names = and_parts (a == c) (b == d) parts.1 in
    ap (λ o. Binary o a b) (binary_one op oq parts.0) ∙ ap (λ x. Binary oq x b) ((Decides-eqb a c).0 names.0) ∙ ap (Binary oq c) ((Decides-eqb b d).0 names.1)
same_one _ _ h = absurd (false≢true h)

same_self : (a : Node) → same_node a a ≡ true
same_self (Constant m) = (Decides-int_eq m m).1 refl
same_self (Symbol k) = eq-eqb k k refl
same_self (Unary op a) = and_from (same_unary op op) (a == a) (sym (unary_eq op op) ∙ true_same unary_type op op refl) (eq-eqb a a refl)
same_self (Binary op a b) =
    and_from (same_binary op op) (a == a && b == b) (sym (binary_eq op op) ∙ true_same binary_type op op refl)
    (and_from (a == a) (b == b) (eq-eqb a a refl) (eq-eqb b b refl))

-- the test decides whether two nodes are equal
pub same_decides : (a b : Node) → Decides (same_node a b) (a ≡ b)
same_decides a b = (same_one a b, λ e. subst (λ n. same_node a n ≡ true) e (same_self a))

pub same_equivalence : IsEquivalence same_node
same_equivalence = record {
  refl = same_self;
  symm = λ a b. one_answer (same_node a b) (same_node b a) (same_decides a b) ((λ h. sym (same_one b a h), λ e. (same_decides b a).1 (sym e)));
  congr = λ a b n h. ap (λ k. same_node k n) (same_one a b h);
}
