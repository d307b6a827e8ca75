-- Signs and their operators.
use Rattle.std.proofs.Common.{
  ◌≡◌,
  ℕ,
  nat_eq,
  get_or,
  List,
  [],
  ◌∷◌,
  ◌++◌,
  Option,
  Some,
  None,
  true,
  refl,
  sym,
  ap,
  ◌∙◌,
  ◌<◌,
  ◌≤◌,
  arith,
}
use Rattle.std.proofs.lemmas.Bool.{eqb-true}
use Rattle.tc_lexer.specs.declared.token.Sign.{Sign}
use Rattle.tc_lexer.specs.declared.token.Sign.TheVariants.{
  OpenParen,
  CloseParen,
  OpenBracket,
  CloseBracket,
  OpenBrace,
  CloseBrace,
  Comma,
  Semicolon,
  Assign,
  Plus,
  Minus,
  Star,
  Slash,
  Percent,
  Bang,
  Tilde,
  Less,
  LessEqual,
  Greater,
  GreaterEqual,
  EqualEqual,
  BangEqual,
  ShiftLeft,
  ShiftRight,
  And,
  Caret,
  Or,
  AndAnd,
  OrOr,
}
use Rattle.tc_tree.specs.declared.expression.Operator.{Operator}
use Rattle.tc_tree.specs.declared.expression.Operator.TheVariants as operator
use Rattle.tc_tree.specs.Grammar.{binary_sign, level}
use Rattle.tc_tree.specs.declared.word.Word.{Word}
use Rattle.tc_tree.specs.declared.word.Word.TheVariants.{Sign as ASign}
use Rattle.tc_syntax.specs.helpers.Reading.{
  Expected,
  Operand,
  Operators,
  sign_code,
  operator_of,
  infix_of,
  more_operators,
  step,
  fault,
  level_of,
  next_level,
}

-- the signs in the order of their codes
signs : List Sign
signs = OpenParen ∷ CloseParen ∷ OpenBracket ∷ CloseBracket ∷ OpenBrace ∷ CloseBrace ∷ Comma ∷ Semicolon ∷ Assign ∷ Plus ∷ Minus ∷ Star ∷ Slash ∷
    Percent ∷ Bang ∷ Tilde ∷ Less ∷ LessEqual ∷ Greater ∷ GreaterEqual ∷ EqualEqual ∷ BangEqual ∷ ShiftLeft ∷ ShiftRight ∷ And ∷ Caret ∷ Or ∷ AndAnd ∷ OrOr ∷ []

sign_at : ℕ → Sign
sign_at n = get_or signs n OpenParen

at_code : (s : Sign) → sign_at (sign_code s) ≡ s
unfolding signs sign_at
at_code OpenParen = refl
at_code CloseParen = refl
at_code OpenBracket = refl
at_code CloseBracket = refl
at_code OpenBrace = refl
at_code CloseBrace = refl
at_code Comma = refl
at_code Semicolon = refl
at_code Assign = refl
at_code Plus = refl
at_code Minus = refl
at_code Star = refl
at_code Slash = refl
at_code Percent = refl
at_code Bang = refl
at_code Tilde = refl
at_code Less = refl
at_code LessEqual = refl
at_code Greater = refl
at_code GreaterEqual = refl
at_code EqualEqual = refl
at_code BangEqual = refl
at_code ShiftLeft = refl
at_code ShiftRight = refl
at_code And = refl
at_code Caret = refl
at_code Or = refl
at_code AndAnd = refl
at_code OrOr = refl

pub same_code : (k s : Sign) → nat_eq (sign_code k) (sign_code s) ≡ true → k ≡ s
same_code k s e = sym (at_code k) ∙ ap sign_at (eqb-true (sign_code k) (sign_code s) e) ∙ at_code s

pub operator_is : (op : Operator) → operator_of (binary_sign op) ≡ Some op
operator_is operator.Multiply = refl
operator_is operator.Divide = refl
operator_is operator.Remainder = refl
operator_is operator.Add = refl
operator_is operator.Subtract = refl
operator_is operator.ShiftLeft = refl
operator_is operator.ShiftRight = refl
operator_is operator.Less = refl
operator_is operator.LessOrEqual = refl
operator_is operator.Greater = refl
operator_is operator.GreaterOrEqual = refl
operator_is operator.Equal = refl
operator_is operator.Unequal = refl
operator_is operator.BitAnd = refl
operator_is operator.BitXor = refl
operator_is operator.BitOr = refl
operator_is operator.And = refl
operator_is operator.Or = refl

or_sign : Option Operator → Sign
or_sign (Some op) = binary_sign op
or_sign None = OpenParen

sign_is : (s : Sign) (op : Operator) → operator_of s ≡ Some op → s ≡ binary_sign op
unfolding or_sign
sign_is Star op e = ap or_sign e
sign_is Slash op e = ap or_sign e
sign_is Percent op e = ap or_sign e
sign_is Plus op e = ap or_sign e
sign_is Minus op e = ap or_sign e
sign_is ShiftLeft op e = ap or_sign e
sign_is ShiftRight op e = ap or_sign e
sign_is Less op e = ap or_sign e
sign_is LessEqual op e = ap or_sign e
sign_is Greater op e = ap or_sign e
sign_is GreaterEqual op e = ap or_sign e
sign_is EqualEqual op e = ap or_sign e
sign_is BangEqual op e = ap or_sign e
sign_is And op e = ap or_sign e
sign_is Caret op e = ap or_sign e
sign_is Or op e = ap or_sign e
sign_is AndAnd op e = ap or_sign e
sign_is OrOr op e = ap or_sign e
sign_is _ op e = absurd cc

-- the word is this operator
pub infix_is : (w : Word) (op : Operator) → infix_of w ≡ Some op → w ≡ ASign (binary_sign op)
infix_is (ASign s) op e = ap ASign (sign_is s op e)
infix_is _ op e = absurd cc

some_level : (op : Operator) → 1 ≤ level op
some_level operator.Multiply = omega arith
some_level operator.Divide = omega arith
some_level operator.Remainder = omega arith
some_level operator.Add = omega arith
some_level operator.Subtract = omega arith
some_level operator.ShiftLeft = omega arith
some_level operator.ShiftRight = omega arith
some_level operator.Less = omega arith
some_level operator.LessOrEqual = omega arith
some_level operator.Greater = omega arith
some_level operator.GreaterOrEqual = omega arith
some_level operator.Equal = omega arith
some_level operator.Unequal = omega arith
some_level operator.BitAnd = omega arith
some_level operator.BitXor = omega arith
some_level operator.BitOr = omega arith
some_level operator.And = omega arith
some_level operator.Or = omega arith

-- no operator follows
pub no_operator : (ws : List Word) → next_level ws < 1 → (s : List Expected) → fault (Some (Operators ∷ s)) ws ≡ fault (Some s) ws
no_operator [] h s = refl
no_operator (w ∷ ws) h s = none_next w ws (infix_of w) refl h s
  where
    none_next : (w : Word) (ws : List Word) (o : Option Operator) → infix_of w ≡ o → level_of (infix_of w) < 1 → (s : List Expected)
        → fault (Some (Operators ∷ s)) (w ∷ ws) ≡ fault (Some s) (w ∷ ws)
    none_next w ws None e h s = ap (λ (o : Option Operator). fault (elim (more_operators o) [ Some es ↦ Some (es ++ s) | None ↦ step s w ]) ws) e
    none_next w ws (Some op) e h s = absurd (omega (arith, some_level op, rw e at h))

-- an operand follows an operator's sign
pub sign_read : (op : Operator) (s : List Expected) (rest : List Word)
    → fault (Some (Operators ∷ s)) (ASign (binary_sign op) ∷ rest) ≡ fault (Some (Operand ∷ Operators ∷ s)) rest
sign_read op s rest = ap (λ (o : Option Operator). fault
    (elim (more_operators o) [ Some es ↦ Some (es ++ s) | None ↦ step s (ASign (binary_sign op)) ]) rest) (operator_is op)
