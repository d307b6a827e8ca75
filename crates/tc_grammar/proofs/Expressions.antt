-- Words begin with at most one expression.
use Rattle.std.proofs.Common.{◌≡◌, Bool, true, false, List, [], ◌∷◌, Option, Some, None, refl, sym, ap, ◌∙◌}
use Rattle.tc_syntax.specs.int_ops.declared.arith.UnOp.{UnOp}
use Rattle.tc_syntax.specs.int_ops.declared.arith.UnOp.TheVariants.{Neg, Not, Inv}
use Rattle.tc_syntax.specs.tc_lexer.declared.token.Sign.{Sign}
use Rattle.tc_syntax.specs.tc_lexer.declared.token.Sign.TheVariants as sign
use Rattle.tc_syntax.specs.tc_tree.declared.expression.Operator.{Operator}
use Rattle.tc_syntax.specs.tc_tree.declared.word.Word.{Word}
use Rattle.tc_syntax.specs.tc_tree.declared.word.Word.TheVariants.{Sign as ASign}
use Rattle.tc_syntax.specs.tc_tree.Grammar.{
  Expression,
  Number,
  Variable,
  Element,
  Paren,
  Unary,
  Binary,
  unary_sign,
  binary_sign,
  expression_then,
  others_then,
  list_then,
  IsGrouped,
  AreGrouped,
}
use Rattle.tc_syntax.specs.helpers.Reading.{operator_of, infix_of, operand}
use Rattle.tc_syntax.specs.helpers.Read.{is_some}
use Rattle.tc_syntax.proofs.Signs.{operator_is}
use Rattle.tc_syntax.proofs.Trees.{opens, sign_opens}
use Rattle.tc_grammar.proofs.Flat.{
  Factor,
  FactorNumber,
  FactorVariable,
  FactorElement,
  FactorParen,
  FactorUnary,
  Chain,
  One,
  More,
  flat,
  factor_then,
  chain_then,
  flat_then,
  chain_tree,
  flat_tree,
}

-- the operator that is next
abbrev pub next_operator : List Word → Option Operator
next_operator [] = None
next_operator (w ∷ ws) = infix_of w

pub same_operator : (op o : Operator) → binary_sign op ≡ binary_sign o → op ≡ o
same_operator op o e =
    let both : Some op ≡ Some o = sym (operator_is op) ∙ ap operator_of e ∙ operator_is o in
    cc

unary_of : Sign → UnOp
unary_of sign.Minus = Neg
unary_of sign.Bang = Not
unary_of _ = Inv

unary_is : (op : UnOp) → unary_of (unary_sign op) ≡ op
unfolding unary_of
unary_is Neg = refl
unary_is Not = refl
unary_is Inv = refl

same_unary : (op o : UnOp) → unary_sign op ≡ unary_sign o → op ≡ o
same_unary op o e = sym (unary_is op) ∙ ap unary_of e ∙ unary_is o

no_paren : (op : UnOp) → unary_sign op ≡ sign.OpenParen → ⊥
no_paren Neg e = cc
no_paren Not e = cc
no_paren Inv e = cc

bracket_opens : (r ws : List Word) → r ≡ ASign sign.OpenBracket ∷ ws → opens r ≡ false → ⊥
bracket_opens r ws e h = let yes : opens r ≡ true = ap opens e in cc

-- words that begin with an operator's sign have a next operator
none_next : (r ws : List Word) (op : Operator) → r ≡ ASign (binary_sign op) ∷ ws → next_operator r ≡ None → ⊥
none_next r ws op e h = let some : next_operator r ≡ Some op = ap next_operator e ∙ operator_is op in cc

mutual
  factor_same : (f g : Factor) (r s : List Word) → opens r ≡ false → opens s ≡ false → factor_then f r ≡ factor_then g s → (f ≡ g) × (r ≡ s)
  factor_same (FactorNumber m) (FactorNumber n) r s o p e = (cc, cc)
  factor_same (FactorVariable x) (FactorVariable y) r s o p e = (cc, cc)
  factor_same (FactorVariable x) (FactorElement a i) r s o p e = absurd (bracket_opens r (chain_then i (ASign sign.CloseBracket ∷ s)) (cc) o)
  factor_same (FactorElement a i) (FactorVariable x) r s o p e = absurd (bracket_opens s (chain_then i (ASign sign.CloseBracket ∷ r)) (cc) p)
  factor_same (FactorElement a i) (FactorElement b j) r s o p e =
      let inside = chain_same i j (ASign sign.CloseBracket ∷ r) (ASign sign.CloseBracket ∷ s) refl refl refl refl cc in
      (cc, cc)
  factor_same (FactorParen c) (FactorParen d) r s o p e =
      let inside = chain_same c d (ASign sign.CloseParen ∷ r) (ASign sign.CloseParen ∷ s) refl refl refl refl cc in
      (cc, cc)
  factor_same (FactorParen c) (FactorUnary op f) r s o p e = absurd (no_paren op (cc))
  factor_same (FactorUnary op f) (FactorParen c) r s o p e = absurd (no_paren op (cc))
  factor_same (FactorUnary op f) (FactorUnary op' g) r s o p e =
      let sign_same = same_unary op op' cc in
      let under = factor_same f g r s o p cc in
      (cc, under.1)
  factor_same _ _ r s o p e = absurd cc

  chain_same : (c d : Chain) (r s : List Word) → opens r ≡ false → opens s ≡ false → next_operator r ≡ None → next_operator s ≡ None
      → chain_then c r ≡ chain_then d s → (c ≡ d) × (r ≡ s)
  chain_same (One f) (One g) r s o p m n e = let x = factor_same f g r s o p e in (cc, x.1)
  chain_same (One f) (More g op d) r s o p m n e =
      let x = factor_same f g r (ASign (binary_sign op) ∷ chain_then d s) o (sign_opens op (chain_then d s)) e in
      absurd (none_next r (chain_then d s) op x.1 m)
  chain_same (More f op c) (One g) r s o p m n e =
      let x = factor_same f g (ASign (binary_sign op) ∷ chain_then c r) s (sign_opens op (chain_then c r)) p e in
      absurd (none_next s (chain_then c r) op (sym x.1) n)
  chain_same (More f op c) (More g op' d) r s o p m n e =
      let x = factor_same f g (ASign (binary_sign op) ∷ chain_then c r) (ASign (binary_sign op') ∷ chain_then d s)
      (sign_opens op (chain_then c r)) (sign_opens op' (chain_then d s)) e in
      let operator_same = same_operator op op' cc in
      let y = chain_same c d r s o p m n cc in
      (cc, y.1)

-- no expression continues with these words
pub record IsPast (rest : List Word) : Type 0 where
  pub no_bracket : opens rest ≡ false
  pub no_operator : next_operator rest ≡ None

pub expression_same : (e f : Expression) (r s : List Word) → IsGrouped e → IsGrouped f → IsPast r → IsPast s → expression_then e r ≡ expression_then f s
    → (e ≡ f) × (r ≡ s)
expression_same e f r s g h x y is =
    let chains = sym (flat_then e r g) ∙ is ∙ flat_then f s h in
    let same = chain_same (flat e) (flat f) r s x.no_bracket y.no_bracket x.no_operator y.no_operator chains in
    (sym (flat_tree e g) ∙ ap chain_tree same.0 ∙ flat_tree f h, same.1)

-- ---- what an expression begins with

abbrev pub begins_operand : List Word → Bool
begins_operand [] = false
begins_operand (w ∷ ws) = is_some (operand w)

expression_begins : (e : Expression) (rest : List Word) → begins_operand (expression_then e rest) ≡ true
expression_begins (Number n) rest = refl
expression_begins (Variable x) rest = refl
expression_begins (Element a i) rest = refl
expression_begins (Paren e) rest = refl
expression_begins (Unary Neg e) rest = refl
expression_begins (Unary Not e) rest = refl
expression_begins (Unary Inv e) rest = refl
expression_begins (Binary op a b) rest = expression_begins a (ASign (binary_sign op) ∷ expression_then b rest)

pub no_expression : (e : Expression) (rest ws : List Word) → expression_then e rest ≡ ws → begins_operand ws ≡ false → ⊥
no_expression e rest ws is h = let yes : begins_operand ws ≡ true = sym (ap begins_operand is) ∙ expression_begins e rest in cc

-- ---- arguments

others_past : (es : List Expression) (rest : List Word) → IsPast (others_then es (ASign sign.CloseParen ∷ rest))
others_past [] rest = record { no_bracket = refl; no_operator = refl }
others_past (e ∷ es) rest = record { no_bracket = refl; no_operator = refl }

others_same : (es fs : List Expression) (r s : List Word) → AreGrouped es → AreGrouped fs
    → others_then es (ASign sign.CloseParen ∷ r) ≡ others_then fs (ASign sign.CloseParen ∷ s) → (es ≡ fs) × (r ≡ s)
others_same [] [] r s g h is = (refl, cc)
others_same [] (f ∷ fs) r s g h is = absurd cc
others_same (e ∷ es) [] r s g h is = absurd cc
others_same (e ∷ es) (f ∷ fs) r s g h is =
    let first = expression_same e f (others_then es (ASign sign.CloseParen ∷ r)) (others_then fs (ASign sign.CloseParen ∷ s)) g.0 h.0
    (others_past es r) (others_past fs s) cc in
    let others = others_same es fs r s g.1 h.1 first.1 in
    (cc, others.1)

pub list_same : (es fs : List Expression) (r s : List Word) → AreGrouped es → AreGrouped fs
    → list_then es (ASign sign.CloseParen ∷ r) ≡ list_then fs (ASign sign.CloseParen ∷ s) → (es ≡ fs) × (r ≡ s)
list_same [] [] r s g h is = (refl, cc)
list_same [] (f ∷ fs) r s g h is = absurd (no_expression f (others_then fs (ASign sign.CloseParen ∷ s)) _ (sym is) refl)
list_same (e ∷ es) [] r s g h is = absurd (no_expression e (others_then es (ASign sign.CloseParen ∷ r)) _ is refl)
list_same (e ∷ es) (f ∷ fs) r s g h is =
    let first = expression_same e f (others_then es (ASign sign.CloseParen ∷ r)) (others_then fs (ASign sign.CloseParen ∷ s)) g.0 h.0
    (others_past es r) (others_past fs s) is in
    let others = others_same es fs r s g.1 h.1 first.1 in
    (cc, others.1)
