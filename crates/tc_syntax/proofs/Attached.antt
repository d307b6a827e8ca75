-- An expression with one more operand at its right.
use Rattle.std.proofs.Common.{◌≡◌, ℕ, suc, ◌<◌, ◌≤◌, List, ◌∷◌, refl, ap, arith, ◌⊎◌, inl, inr}
use Rattle.std.proofs.lemmas.Bool.{cases_lt}
use Rattle.tc_tree.specs.declared.expression.Operator.{Operator}
use Rattle.tc_tree.specs.declared.expression.Operator.TheVariants as operator
use Rattle.tc_tree.specs.Grammar.{Expression, Number, Variable, Element, Paren, Unary, Binary, binary_sign, expression_then, level, tightness, IsGrouped}
use Rattle.tc_tree.specs.declared.word.Word.TheVariants.{Sign as ASign}
use Rattle.tc_tree.specs.declared.word.Word.{Word}

pub record Attached (f : Expression) (op : Operator) (e : Expression) : Type 0 where
  pub tree : Expression
  pub words : (rest : List Word) → expression_then tree rest ≡ expression_then f (ASign (binary_sign op) ∷ expression_then e rest)
  pub grouped : IsGrouped tree
  pub tight : (m : ℕ) → m ≤ tightness f → m ≤ level op → m ≤ tightness tree

pub level_small : (op : Operator) → level op ≤ 10
level_small operator.Multiply = omega arith
level_small operator.Divide = omega arith
level_small operator.Remainder = omega arith
level_small operator.Add = omega arith
level_small operator.Subtract = omega arith
level_small operator.ShiftLeft = omega arith
level_small operator.ShiftRight = omega arith
level_small operator.Less = omega arith
level_small operator.LessOrEqual = omega arith
level_small operator.Greater = omega arith
level_small operator.GreaterOrEqual = omega arith
level_small operator.Equal = omega arith
level_small operator.Unequal = omega arith
level_small operator.BitAnd = omega arith
level_small operator.BitXor = omega arith
level_small operator.BitOr = omega arith
level_small operator.And = omega arith
level_small operator.Or = omega arith

at_top : (f : Expression) (op : Operator) (e : Expression) → level op ≤ tightness f → IsGrouped f → IsGrouped e → 11 ≤ tightness e → Attached f op e
at_top f op e h gf ge t = record {
  tree = Binary op f e;
  words = λ rest. refl;
  grouped = (h, omega (arith, level_small op, t), gf, ge);
  tight = λ m a b. b;
}

under : (o : Operator) (a b : Expression) (op : Operator) (e : Expression) → level o < level op → IsGrouped (Binary o a b) → Attached b op e
    → Attached (Binary o a b) op e
under o a b op e h g got = record {
  tree = Binary o a got.tree;
  words = λ rest. ap (λ (ws : List Word). expression_then a (ASign (binary_sign o) ∷ ws)) (got.words rest);
  grouped = (g.0, got.tight (suc (level o)) (omega (arith, g.1)) (omega (arith, h)), g.2, got.grouped);
  tight = λ m x y. x;
}

tighter : (m n : ℕ) → (m ≤ n) ⊎ (n < m)
tighter m n = elim (cases_lt n m) [ inl h ↦ inr h | inr h ↦ inl h ]

pub attach : (f : Expression) (op : Operator) (e : Expression) → IsGrouped f → IsGrouped e → 11 ≤ tightness e → Attached f op e
attach (Number n) op e gf ge t = at_top (Number n) op e (omega (arith, level_small op)) gf ge t
attach (Variable x) op e gf ge t = at_top (Variable x) op e (omega (arith, level_small op)) gf ge t
attach (Element a i) op e gf ge t = at_top (Element a i) op e (omega (arith, level_small op)) gf ge t
attach (Paren f) op e gf ge t = at_top (Paren f) op e (omega (arith, level_small op)) gf ge t
attach (Unary u f) op e gf ge t = at_top (Unary u f) op e (omega (arith, level_small op)) gf ge t
attach (Binary o a b) op e gf ge t = elim (tighter (level op) (level o)) [
  | inl h ↦ at_top (Binary o a b) op e h gf ge t
  | inr h ↦ under o a b op e h gf (attach b op e gf.3 ge t)
]
