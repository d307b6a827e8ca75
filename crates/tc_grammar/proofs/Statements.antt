-- Words begin with at most one statement.
use Rattle.std.proofs.Common.{◌≡◌, true, false, List, [], ◌∷◌, Option, Some, None, drop, refl, sym, ap, ap₂}
use Rattle.tc_syntax.specs.int_ops.Updates.{operands_of}
use Rattle.tc_syntax.specs.int_ops.declared.update.Update.{Update}
use Rattle.tc_syntax.specs.int_ops.declared.update.Update.TheVariants as update
use Rattle.tc_syntax.specs.tc_tree.declared.statement.Target.{Target}
use Rattle.tc_syntax.specs.tc_tree.declared.statement.UpdateKind.{UpdateKind}
use Rattle.tc_syntax.specs.tc_lexer.declared.place.Place.{Place}
use Rattle.tc_syntax.specs.tc_lexer.declared.token.Keyword.{Keyword as AnyKeyword}
use Rattle.tc_syntax.specs.tc_lexer.declared.token.Keyword.TheVariants as keyword
use Rattle.tc_syntax.specs.tc_lexer.declared.token.Sign.{Sign}
use Rattle.tc_syntax.specs.tc_lexer.declared.token.Sign.TheVariants as sign
use Rattle.tc_syntax.specs.tc_tree.declared.expression.Name.{Name}
use Rattle.tc_syntax.specs.tc_tree.declared.word.Word.{Word}
use Rattle.tc_syntax.specs.tc_tree.declared.word.Word.TheVariants.{Name as AName, Update as AnUpdate, Keyword as AKeyword, Sign as ASign, End as AnEnd}
use Rattle.tc_syntax.specs.tc_tree.Grammar.{
  Expression,
  Statement,
  Assign,
  Store,
  Create,
  Modify,
  Act,
  Wait,
  Order,
  Assert,
  While,
  If,
  Statements,
  Nil,
  Cons,
  Otherwise,
  Nothing,
  Else,
  ElseIf,
  target_by,
  kind_of,
  expression_then,
  index_then,
  others_then,
  statement_then,
  statements_then,
  otherwise_then,
  IsGrouped,
  IsGroupedIndex,
  AreGrouped,
  IsWell,
  AreWell,
  IsWellOtherwise,
}
use Rattle.tc_syntax.proofs.Trees.{opens, is_else, statements_begin}
use Rattle.tc_grammar.proofs.Expressions.{next_operator, expression_same, no_expression, list_same}

-- an expression ends before a sign with which it doesn't continue
before_sign : (k : Sign) → ((rest : List Word) → opens (ASign k ∷ rest) ≡ false) → ((rest : List Word) → next_operator (ASign k ∷ rest) ≡ None)
    → (e f : Expression) (r s : List Word) → IsGrouped e → IsGrouped f → expression_then e (ASign k ∷ r) ≡ expression_then f (ASign k ∷ s) → (e ≡ f) × (r ≡ s)
before_sign k no_bracket no_operator e f r s g h is =
    let same = expression_same e f (ASign k ∷ r) (ASign k ∷ s) g h (record { no_bracket = no_bracket r; no_operator = no_operator r })
    (record { no_bracket = no_bracket s; no_operator = no_operator s }) is in
    (same.0, cc)

before_paren : (e f : Expression) (r s : List Word) → IsGrouped e → IsGrouped f
    → expression_then e (ASign sign.CloseParen ∷ r) ≡ expression_then f (ASign sign.CloseParen ∷ s) → (e ≡ f) × (r ≡ s)
before_paren e f r s g h is = before_sign sign.CloseParen (λ rest. refl) (λ rest. refl) e f r s g h is

before_bracket : (e f : Expression) (r s : List Word) → IsGrouped e → IsGrouped f
    → expression_then e (ASign sign.CloseBracket ∷ r) ≡ expression_then f (ASign sign.CloseBracket ∷ s) → (e ≡ f) × (r ≡ s)
before_bracket e f r s g h is = before_sign sign.CloseBracket (λ rest. refl) (λ rest. refl) e f r s g h is

before_comma : (e f : Expression) (r s : List Word) → IsGrouped e → IsGrouped f
    → expression_then e (ASign sign.Comma ∷ r) ≡ expression_then f (ASign sign.Comma ∷ s) → (e ≡ f) × (r ≡ s)
before_comma e f r s g h is = before_sign sign.Comma (λ rest. refl) (λ rest. refl) e f r s g h is

before_semicolon : (e f : Expression) (r s : List Word) → IsGrouped e → IsGrouped f
    → expression_then e (ASign sign.Semicolon ∷ r) ≡ expression_then f (ASign sign.Semicolon ∷ s) → (e ≡ f) × (r ≡ s)
before_semicolon e f r s g h is = before_sign sign.Semicolon (λ rest. refl) (λ rest. refl) e f r s g h is

-- no expression begins with a keyword
no_keyword : (e : Expression) (rest ws : List Word) (k : AnyKeyword) → expression_then e rest ≡ AKeyword k ∷ ws → ⊥
no_keyword e rest ws k is = no_expression e rest (AKeyword k ∷ ws) is refl

-- two statements of one kind

abbrev Same : Statement → Statement → List Word → List Word → Type 0
Same a b r s = statement_then a r ≡ statement_then b s → (a ≡ b) × (r ≡ s)

assign_same : (x y : Name) (e f : Expression) (r s : List Word) → IsGrouped e → IsGrouped f → Same (Assign x e) (Assign y f) r s
assign_same x y e f r s g h is = let value = before_semicolon e f r s g h (ap (drop 2) is) in (cc, value.1)

store_same : (a b : Name) (i j e f : Expression) (r s : List Word) → IsGrouped i → IsGrouped j → IsGrouped e → IsGrouped f
    → Same (Store a i e) (Store b j f) r s
store_same a b i j e f r s gi gj ge gf is =
    let index = before_bracket i j (ASign sign.Assign ∷ expression_then e (ASign sign.Semicolon ∷ r))
    (ASign sign.Assign ∷ expression_then f (ASign sign.Semicolon ∷ s)) gi gj (ap (drop 2) is) in
    let value = before_semicolon e f r s ge gf (ap (drop 1) index.1) in
    (cc, value.1)

index_same : (i j : Option Expression) (r s : List Word) → IsGroupedIndex i → IsGroupedIndex j → target_by i ≡ target_by j
    → index_then i r ≡ index_then j s → (i ≡ j) × (r ≡ s)
index_same None None r s g h t is = (refl, is)
index_same None (Some j) r s g h t is = absurd cc
index_same (Some i) None r s g h t is = absurd cc
index_same (Some i) (Some j) r s g h t is = let index = before_bracket i j r s g h (ap (drop 1) is) in (ap Some index.0, index.1)

one_operand : (e f : Expression) (r s : List Word) → IsGrouped e → IsGrouped f
    → others_then (e ∷ []) (ASign sign.CloseParen ∷ r) ≡ others_then (f ∷ []) (ASign sign.CloseParen ∷ s) → (e ≡ f) × (r ≡ s)
one_operand e f r s g h is = before_paren e f r s g h (ap (drop 1) is)

operands_same : (u v : Update Expression) (r s : List Word) → AreGrouped (operands_of u) → AreGrouped (operands_of v) → kind_of u ≡ kind_of v
    → others_then (operands_of u) (ASign sign.CloseParen ∷ r) ≡ others_then (operands_of v) (ASign sign.CloseParen ∷ s) → (u ≡ v) × (r ≡ s)
operands_same (update.Swap e) (update.Swap f) r s g h k is = let o = one_operand e f r s g.0 h.0 is in (ap update.Swap o.0, o.1)
operands_same (update.Add e) (update.Add f) r s g h k is = let o = one_operand e f r s g.0 h.0 is in (ap update.Add o.0, o.1)
operands_same (update.Cas d e) (update.Cas f g') r s g h k is =
    let old = before_comma d f (expression_then e (ASign sign.CloseParen ∷ r)) (expression_then g' (ASign sign.CloseParen ∷ s)) g.0 h.0 (ap (drop 1) is) in
    let new = before_paren e g' r s g.1.0 h.1.0 old.1 in
    (ap₂ update.Cas old.0 new.0, new.1)
operands_same _ _ r s g h k is = absurd cc

modify_same : (a b x y : Name) (i j : Option Expression) (u v : Update Expression) (r s : List Word) → IsWell (Modify a x i u) → IsWell (Modify b y j v)
    → Same (Modify a x i u) (Modify b y j v) r s
modify_same a b x y i j u v r s g h is =
    let kinds : kind_of u ≡ kind_of v = cc in
    let targets : target_by i ≡ target_by j = cc in
    let index = index_same i j (others_then (operands_of u) (ASign sign.CloseParen ∷ ASign sign.Semicolon ∷ r))
    (others_then (operands_of v) (ASign sign.CloseParen ∷ ASign sign.Semicolon ∷ s)) g.0 h.0 targets (ap (drop 5) is) in
    let operands = operands_same u v (ASign sign.Semicolon ∷ r) (ASign sign.Semicolon ∷ s) g.1 h.1 kinds index.1 in
    (cc, cc)

create_same : (h k f g : Name) (es fs : List Expression) (r s : List Word) → IsWell (Create h f es) → IsWell (Create k g fs)
    → Same (Create h f es) (Create k g fs) r s
create_same h k f g es fs r s ges gfs is =
    let arguments = list_same es fs (ASign sign.Semicolon ∷ r) (ASign sign.Semicolon ∷ s) ges gfs (ap (drop 5) is) in
    (cc, cc)

assert_same : (p q : Place) (e f : Expression) (r s : List Word) → IsGrouped e → IsGrouped f → Same (Assert p e) (Assert q f) r s
assert_same p q e f r s g h is =
    let condition = before_paren e f (ASign sign.Semicolon ∷ r) (ASign sign.Semicolon ∷ s) g h (ap (drop 2) is) in
    (cc, cc)

-- a condition, and the words of a block
pub guard_same : (e f : Expression) (r s : List Word) → IsGrouped e → IsGrouped f
    → ASign sign.OpenParen ∷ expression_then e (ASign sign.CloseParen ∷ ASign sign.OpenBrace ∷ r)
    ≡ ASign sign.OpenParen ∷ expression_then f (ASign sign.CloseParen ∷ ASign sign.OpenBrace ∷ s) → (e ≡ f) × (r ≡ s)
guard_same e f r s g h is =
    let condition = before_paren e f (ASign sign.OpenBrace ∷ r) (ASign sign.OpenBrace ∷ s) g h (ap (drop 1) is) in
    (condition.0, cc)

-- no value begins with `create` or with an update
no_value : (x y : Name) (e : Expression) (r ws : List Word) (k : AnyKeyword)
    → statement_then (Assign x e) r ≡ AName y ∷ ASign sign.Assign ∷ AKeyword k ∷ ws → ⊥
no_value x y e r ws k is = no_keyword e (ASign sign.Semicolon ∷ r) ws k (ap (drop 2) is)

no_update : (x y : Name) (e : Expression) (r ws : List Word) (k : UpdateKind) (t : Target)
    → statement_then (Assign x e) r ≡ AName y ∷ ASign sign.Assign ∷ AnUpdate k t ∷ ws → ⊥
no_update x y e r ws k t is = no_expression e (ASign sign.Semicolon ∷ r) (AnUpdate k t ∷ ws) (ap (drop 2) is) refl

-- no statement begins with a closing brace or with `else`
no_end : (a : Statement) (p : Place) (r rest : List Word) → statement_then a rest ≡ AnEnd p ∷ r → ⊥
no_end (Assign x e) p r rest is = cc
no_end (Store a i e) p r rest is = cc
no_end (Create h f es) p r rest is = cc
no_end (Modify a x i u) p r rest is = cc
no_end (Act q a x) p r rest is = cc
no_end (Wait q c m) p r rest is = cc
no_end (Order q b) p r rest is = cc
no_end (Assert q e) p r rest is = cc
no_end (While q c b z) p r rest is = cc
no_end (If q c b z o) p r rest is = cc

else_next : (rest ws : List Word) → rest ≡ AKeyword keyword.Else ∷ ws → is_else rest ≡ false → ⊥
else_next rest ws is h = let yes : is_else rest ≡ true = ap is_else is in cc

mutual
  pub statement_same : (a b : Statement) (r s : List Word) → IsWell a → IsWell b → is_else r ≡ false → is_else s ≡ false
      → statement_then a r ≡ statement_then b s → (a ≡ b) × (r ≡ s)
  statement_same (Assign x e) (Assign y f) r s g h m n is = assign_same x y e f r s g h is
  statement_same (Store a i e) (Store b j f) r s g h m n is = store_same a b i j e f r s g.0 h.0 g.1 h.1 is
  statement_same (Create a f es) (Create b k fs) r s g h m n is = create_same a b f k es fs r s g h is
  statement_same (Modify a x i u) (Modify b y j v) r s g h m n is = modify_same a b x y i j u v r s g h is
  statement_same (Act p a x) (Act q b y) r s g h m n is = (cc, cc)
  statement_same (Wait p c x) (Wait q d y) r s g h m n is = (cc, cc)
  statement_same (Order p b) (Order q c) r s g h m n is = (cc, cc)
  statement_same (Assert p e) (Assert q f) r s g h m n is = assert_same p q e f r s g h is
  statement_same (While p c b q) (While p' c' b' q') r s g h m n is =
      let condition = guard_same c c' (statements_then b (AnEnd q ∷ r)) (statements_then b' (AnEnd q' ∷ s)) g.0 h.0 (ap (drop 1) is) in
      let body = statements_same b b' q q' r s g.1 h.1 condition.1 in
      (cc, body.2)
  statement_same (If p c b q o) (If p' c' b' q' o') r s g h m n is =
      let condition = guard_same c c' (statements_then b (AnEnd q ∷ otherwise_then o r)) (statements_then b' (AnEnd q' ∷ otherwise_then o' s)) g.0 h.0
      (ap (drop 1) is) in
      let body = statements_same b b' q q' (otherwise_then o r) (otherwise_then o' s) g.1 h.1 condition.1 in
      let others = otherwise_same o o' r s g.2 h.2 m n body.2 in
      (cc, others.1)
  statement_same (Assign x e) (Create y f es) r s g h m n is = absurd (no_value x y e r _ keyword.Create is)
  statement_same (Assign x e) (Modify y z i u) r s g h m n is = absurd (no_update x y e r _ (kind_of u) (target_by i) is)
  statement_same (Create x f es) (Assign y e) r s g h m n is = absurd (no_value y x e s _ keyword.Create (sym is))
  statement_same (Modify x z i u) (Assign y e) r s g h m n is = absurd (no_update y x e s _ (kind_of u) (target_by i) (sym is))
  statement_same _ _ r s g h m n is = absurd cc

  -- the statements of a block, up to its closing brace
  pub statements_same : (a b : Statements) (p q : Place) (r s : List Word) → AreWell a → AreWell b
      → statements_then a (AnEnd p ∷ r) ≡ statements_then b (AnEnd q ∷ s) → (a ≡ b) × (p ≡ q) × (r ≡ s)
  statements_same Nil Nil p q r s g h is = (refl, cc, cc)
  statements_same Nil (Cons b ys) p q r s g h is = absurd (no_end b p r (statements_then ys (AnEnd q ∷ s)) (sym is))
  statements_same (Cons a xs) Nil p q r s g h is = absurd (no_end a q s (statements_then xs (AnEnd p ∷ r)) is)
  statements_same (Cons a xs) (Cons b ys) p q r s g h is =
      let more = statements_then xs (AnEnd p ∷ r) in
      let other = statements_then ys (AnEnd q ∷ s) in
      let first = statement_same a b more other g.0 h.0 (statements_begin xs (AnEnd p ∷ r) refl) (statements_begin ys (AnEnd q ∷ s) refl) is in
      let others = statements_same xs ys p q r s g.1 h.1 first.1 in
      (cc, others.1, others.2)

  pub otherwise_same : (o o' : Otherwise) (r s : List Word) → IsWellOtherwise o → IsWellOtherwise o' → is_else r ≡ false → is_else s ≡ false
      → otherwise_then o r ≡ otherwise_then o' s → (o ≡ o') × (r ≡ s)
  otherwise_same Nothing Nothing r s g h m n is = (refl, is)
  otherwise_same (Else b q) (Else b' q') r s g h m n is =
      let body = statements_same b b' q q' r s g h (ap (drop 2) is) in
      (cc, body.2)
  otherwise_same (ElseIf p c b q o) (ElseIf p' c' b' q' o') r s g h m n is =
      let condition = guard_same c c' (statements_then b (AnEnd q ∷ otherwise_then o r)) (statements_then b' (AnEnd q' ∷ otherwise_then o' s)) g.0 h.0
      (ap (drop 2) is) in
      let body = statements_same b b' q q' (otherwise_then o r) (otherwise_then o' s) g.1 h.1 condition.1 in
      let others = otherwise_same o o' r s g.2 h.2 m n body.2 in
      (cc, others.1)
  otherwise_same Nothing (Else b q) r s g h m n is = absurd (else_next r _ is m)
  otherwise_same Nothing (ElseIf p c b q o) r s g h m n is = absurd (else_next r _ is m)
  otherwise_same (Else b q) Nothing r s g h m n is = absurd (else_next s _ (sym is) n)
  otherwise_same (ElseIf p c b q o) Nothing r s g h m n is = absurd (else_next s _ (sym is) n)
  otherwise_same _ _ r s g h m n is = absurd cc
