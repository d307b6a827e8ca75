-- An expression as a row of operators and their operands.
use Rattle.std.proofs.Common.{◌≡◌, ℕ, ◌<◌, ◌≤◌, nat_le, if◌then◌else◌, List, ◌∷◌, refl, sym, ap, ◌∙◌, arith}
use Rattle.std.proofs.lemmas.Bool.{cond-true, cond-false, le-leb, lt-leb}
use Rattle.tc_syntax.specs.int_ops.declared.arith.UnOp.{UnOp}
use Rattle.tc_syntax.specs.tc_lexer.declared.token.Sign.TheVariants as sign
use Rattle.tc_syntax.specs.tc_tree.declared.expression.Name.{Name}
use Rattle.tc_syntax.specs.tc_tree.declared.expression.Number.{Number as TreeNumber}
use Rattle.tc_syntax.specs.tc_tree.declared.expression.Operator.{Operator}
use Rattle.tc_syntax.specs.tc_tree.declared.word.Word.{Word}
use Rattle.tc_syntax.specs.tc_tree.declared.word.Word.TheVariants.{Name as AName, Number as ANumber, Sign as ASign}
use Rattle.tc_syntax.specs.tc_tree.Grammar.{
  Expression,
  Number,
  Variable,
  Element,
  Paren,
  Unary,
  Binary,
  unary_sign,
  binary_sign,
  expression_then,
  level,
  tightness,
  IsGrouped,
}
use Rattle.tc_syntax.proofs.Attached.{level_small}

mutual
  -- an operand of an operator
  pub data Factor : Type 0 where
    FactorNumber : (number : TreeNumber) → Factor
    FactorVariable : (name : Name) → Factor
    FactorElement : (array : Name) (index : Chain) → Factor
    FactorParen : (inside : Chain) → Factor
    FactorUnary : (op : UnOp) (operand : Factor) → Factor

  pub data Chain : Type 0 where
    One : (last : Factor) → Chain
    More : (first : Factor) (op : Operator) (others : Chain) → Chain

abbrev pub joined : Chain → Operator → Chain → Chain
joined (One f) op d = More f op d
joined (More f o c) op d = More f o (joined c op d)

abbrev pub head : Chain → Factor
head (One f) = f
head (More f op c) = f

abbrev pub flat : Expression → Chain
flat (Number n) = One (FactorNumber n)
flat (Variable x) = One (FactorVariable x)
flat (Element a i) = One (FactorElement a (flat i))
flat (Paren e) = One (FactorParen (flat e))
flat (Unary op e) = One (FactorUnary op (head (flat e)))
flat (Binary op a b) = joined (flat a) op (flat b)

-- the words of a chain

abbrev mutual
  pub factor_then : Factor → List Word → List Word
  factor_then (FactorNumber n) rest = ANumber n ∷ rest
  factor_then (FactorVariable x) rest = AName x ∷ rest
  factor_then (FactorElement a i) rest = AName a ∷ ASign sign.OpenBracket ∷ chain_then i (ASign sign.CloseBracket ∷ rest)
  factor_then (FactorParen c) rest = ASign sign.OpenParen ∷ chain_then c (ASign sign.CloseParen ∷ rest)
  factor_then (FactorUnary op f) rest = ASign (unary_sign op) ∷ factor_then f rest

  pub chain_then : Chain → List Word → List Word
  chain_then (One f) rest = factor_then f rest
  chain_then (More f op c) rest = factor_then f (ASign (binary_sign op) ∷ chain_then c rest)

-- an operand of a unary operator is one factor
single : (e : Expression) → 11 ≤ tightness e → flat e ≡ One (head (flat e))
single (Number n) h = refl
single (Variable x) h = refl
single (Element a i) h = refl
single (Paren e) h = refl
single (Unary op e) h = refl
single (Binary op a b) h = absurd (omega (arith, level_small op))

joined_then : (c : Chain) (op : Operator) (d : Chain) (rest : List Word)
    → chain_then (joined c op d) rest ≡ chain_then c (ASign (binary_sign op) ∷ chain_then d rest)
joined_then (One f) op d rest = refl
joined_then (More f o c) op d rest = ap (λ (ws : List Word). factor_then f (ASign (binary_sign o) ∷ ws)) (joined_then c op d rest)

-- the words of an expression are those of its chain
pub flat_then : (e : Expression) (rest : List Word) → IsGrouped e → expression_then e rest ≡ chain_then (flat e) rest
flat_then (Number n) rest g = refl
flat_then (Variable x) rest g = refl
flat_then (Element a i) rest g =
    ap (λ (ws : List Word). AName a ∷ ASign sign.OpenBracket ∷ ws) (flat_then i (ASign sign.CloseBracket ∷ rest) g)
flat_then (Paren e) rest g = ap (λ (ws : List Word). ASign sign.OpenParen ∷ ws) (flat_then e (ASign sign.CloseParen ∷ rest) g)
flat_then (Unary op e) rest g =
    ap (λ (ws : List Word). ASign (unary_sign op) ∷ ws) (flat_then e rest g.1 ∙ ap (λ (c : Chain). chain_then c rest) (single e g.0))
flat_then (Binary op a b) rest g =
    flat_then a (ASign (binary_sign op) ∷ expression_then b rest) g.2
    ∙ ap (λ (ws : List Word). chain_then (flat a) (ASign (binary_sign op) ∷ ws)) (flat_then b rest g.3)
    ∙ sym (joined_then (flat a) op (flat b) rest)

-- ---- back from a chain to its expression

-- an expression with one more operand at its right
abbrev pub with_operand : Expression → Operator → Expression → Expression
with_operand (Binary o a b) op e = if nat_le (level op) (level o) then Binary op (Binary o a b) e else Binary o a (with_operand b op e)
with_operand a op e = Binary op a e

abbrev mutual
  pub factor_tree : Factor → Expression
  factor_tree (FactorNumber n) = Number n
  factor_tree (FactorVariable x) = Variable x
  factor_tree (FactorElement a i) = Element a (chain_tree i)
  factor_tree (FactorParen c) = Paren (chain_tree c)
  factor_tree (FactorUnary op f) = Unary op (factor_tree f)

  pub chain_tree : Chain → Expression
  chain_tree (One f) = factor_tree f
  chain_tree (More f op c) = grown (factor_tree f) op c

  -- an expression, with the chain after it
  pub grown : Expression → Operator → Chain → Expression
  grown e op (One f) = with_operand e op (factor_tree f)
  grown e op (More f o c) = grown (with_operand e op (factor_tree f)) o c

grown_joined : (e : Expression) (o : Operator) (c : Chain) (op : Operator) (d : Chain) → grown e o (joined c op d) ≡ grown (grown e o c) op d
grown_joined e o (One f) op d = refl
grown_joined e o (More f o' c) op d = grown_joined (with_operand e o (factor_tree f)) o' c op d

joined_tree : (c : Chain) (op : Operator) (d : Chain) → chain_tree (joined c op d) ≡ grown (chain_tree c) op d
joined_tree (One f) op d = refl
joined_tree (More f o c) op d = grown_joined (factor_tree f) o c op d

-- an operator that binds no tighter than an expression takes all of it as its left side
takes_whole : (a : Expression) (op : Operator) (e : Expression) → level op ≤ tightness a → with_operand a op e ≡ Binary op a e
takes_whole (Number n) op e h = refl
takes_whole (Variable x) op e h = refl
takes_whole (Element a i) op e h = refl
takes_whole (Paren a) op e h = refl
takes_whole (Unary u a) op e h = refl
takes_whole (Binary o a b) op e h = cond-true _ _ _ (le-leb (level op) (level o) h)

-- an operator that binds tighter goes to the right side
goes_right : (o : Operator) (a x : Expression) (op : Operator) (e : Expression) → level o < level op
    → with_operand (Binary o a x) op e ≡ Binary o a (with_operand x op e)
goes_right o a x op e h = cond-false _ _ _ (lt-leb (level op) (level o) h)

-- every operator of the chain binds tighter
abbrev AreTighter : ℕ → Chain → Type 0
AreTighter n (One f) = Unit {0}
AreTighter n (More f op c) = (n < level op) × AreTighter n c

joined_tighter : (n : ℕ) (c : Chain) (op : Operator) (d : Chain) → AreTighter n c → n < level op → AreTighter n d → AreTighter n (joined c op d)
joined_tighter n (One f) op d x h y = (h, y)
joined_tighter n (More f o c) op d x h y = (x.0, joined_tighter n c op d x.1 h y)

flat_tighter : (n : ℕ) (e : Expression) → IsGrouped e → n < tightness e → AreTighter n (flat e)
flat_tighter n (Number k) g h = tt
flat_tighter n (Variable x) g h = tt
flat_tighter n (Element a i) g h = tt
flat_tighter n (Paren e) g h = tt
flat_tighter n (Unary op e) g h = tt
flat_tighter n (Binary op a b) g h =
    joined_tighter n (flat a) op (flat b) (flat_tighter n a g.2 (omega (arith, g.0, h))) h (flat_tighter n b g.3 (omega (arith, g.1, h)))

grown_right : (op : Operator) (a x : Expression) (o : Operator) (c : Chain) → level op < level o → AreTighter (level op) c
    → grown (Binary op a x) o c ≡ Binary op a (grown x o c)
grown_right op a x o (One f) h t = goes_right op a x o (factor_tree f) h
grown_right op a x o (More f o' c) h t =
    ap (λ (e : Expression). grown e o' c) (goes_right op a x o (factor_tree f) h) ∙ grown_right op a (with_operand x o (factor_tree f)) o' c t.0 t.1

grown_whole : (a : Expression) (op : Operator) (c : Chain) → level op ≤ tightness a → AreTighter (level op) c → grown a op c ≡ Binary op a (chain_tree c)
grown_whole a op (One f) h t = takes_whole a op (factor_tree f) h
grown_whole a op (More f o c) h t =
    ap (λ (e : Expression). grown e o c) (takes_whole a op (factor_tree f) h) ∙ grown_right op a (factor_tree f) o c t.0 t.1

-- a grouped expression is the expression of its chain
pub flat_tree : (e : Expression) → IsGrouped e → chain_tree (flat e) ≡ e
flat_tree (Number n) g = refl
flat_tree (Variable x) g = refl
flat_tree (Element a i) g = ap (λ (e : Expression). Element a e) (flat_tree i g)
flat_tree (Paren e) g = ap (λ (f : Expression). Paren f) (flat_tree e g)
flat_tree (Unary op e) g = ap (λ (f : Expression). Unary op f) (sym (ap chain_tree (single e g.0)) ∙ flat_tree e g.1)
flat_tree (Binary op a b) g =
    joined_tree (flat a) op (flat b) ∙ ap (λ (e : Expression). grown e op (flat b)) (flat_tree a g.2)
    ∙ grown_whole a op (flat b) g.0 (flat_tighter (level op) b g.3 g.1) ∙ ap (λ (e : Expression). Binary op a e) (flat_tree b g.3)
