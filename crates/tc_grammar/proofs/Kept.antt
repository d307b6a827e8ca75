-- The words of a program are words of language 4 already: no name is between `=` and `(` in it, and each update has its target.
use Rattle.std.proofs.Common.{◌≡◌, ℕ, Bool, true, false, List, [], ◌∷◌, Option, Some, None, refl, ap, ◌∙◌}
use Rattle.std.specs.Prelude.{◌&&◌, if◌then◌else◌}
use Rattle.tc_syntax.specs.int_ops.Updates.{operands_of}
use Rattle.tc_syntax.specs.int_ops.declared.arith.UnOp.{UnOp}
use Rattle.tc_syntax.specs.int_ops.declared.arith.UnOp.TheVariants.{Neg, Not, Inv}
use Rattle.tc_syntax.specs.int_ops.declared.update.Update.{Update}
use Rattle.tc_syntax.specs.int_ops.declared.update.Update.TheVariants as update
use Rattle.tc_syntax.specs.tc_lexer.declared.token.Keyword.TheVariants as keyword
use Rattle.tc_syntax.specs.tc_lexer.declared.token.Sign.{Sign}
use Rattle.tc_syntax.specs.tc_lexer.declared.token.Sign.TheVariants as sign
use Rattle.tc_syntax.specs.tc_tree.declared.expression.Name.{Name}
use Rattle.tc_syntax.specs.tc_tree.declared.expression.Operator.{Operator}
use Rattle.tc_syntax.specs.tc_tree.declared.program.Initial.TheVariants.{Zero, Plain, Negated}
use Rattle.tc_syntax.specs.tc_tree.declared.program.Global.{Global}
use Rattle.tc_syntax.specs.tc_tree.declared.program.Global.TheVariants.{Int, Array, Mutex, Condition}
use Rattle.tc_syntax.specs.tc_tree.declared.program.Local.{Local}
use Rattle.tc_syntax.specs.tc_tree.declared.program.Local.TheVariants.{Int as LocalInt, Handle}
use Rattle.tc_syntax.specs.tc_tree.declared.statement.Target.{Target}
use Rattle.tc_syntax.specs.tc_tree.declared.word.Word.{Word}
use Rattle.tc_syntax.specs.tc_tree.declared.word.Word.TheVariants.{Name as AName, Number as ANumber, Update as AnUpdate, Keyword as AKeyword, Sign as ASign, End as AnEnd}
use Rattle.tc_syntax.specs.tc_tree.Words.{is_name, is_assign, begin_call, target_of, called_word, words_after}
use Rattle.tc_syntax.specs.tc_tree.Grammar.{
  Expression,
  Number,
  Variable,
  Element,
  Paren,
  Unary,
  Binary,
  unary_sign,
  binary_sign,
  expression_then,
  others_then,
  list_then,
  Statement,
  Assign,
  Store,
  Create,
  Modify,
  Act,
  Wait,
  Order,
  Assert,
  While,
  If,
  Statements,
  Nil,
  Cons,
  Otherwise,
  Nothing,
  Else,
  ElseIf,
  target_by,
  kind_of,
  index_then,
  statement_then,
  statements_then,
  otherwise_then,
  Body,
  Thread,
  Program,
  global_then,
  globals_then,
  local_then,
  locals_then,
  body_then,
  other_parameters_then,
  parameters_then,
  threads_then,
  program_words,
}
use Rattle.tc_syntax.specs.helpers.Reading.{operator_of}
use Rattle.tc_syntax.proofs.Signs.{operator_is}

-- an operator is neither `(` nor `=`
operator_calls : (k : Sign) (op : Operator) (ws : List Word) → operator_of k ≡ Some op → begin_call (ASign k ∷ ws) ≡ false
operator_calls sign.OpenParen op ws e = absurd cc
operator_calls _ op ws e = refl

operator_assigns : (k : Sign) (op : Operator) → operator_of k ≡ Some op → is_assign (ASign k) ≡ false
operator_assigns sign.Assign op e = absurd cc
operator_assigns _ op e = refl

unary_assigns : (op : UnOp) → is_assign (ASign (unary_sign op)) ≡ false
unary_assigns Neg = refl
unary_assigns Not = refl
unary_assigns Inv = refl

same_both : {A : Type 0} (b : Bool) (x : A) → (if b then x else x) ≡ x
same_both true x = refl
same_both false x = refl

module _ (text : List ℕ) where
  -- the words stay where nothing is assigned, and right after a name and `=`
  abbrev AreKept : List Word → Type 0
  AreKept ws = (named : Bool) → words_after text named false ws ≡ ws

  abbrev StayAssigned : List Word → Type 0
  StayAssigned ws = words_after text false true ws ≡ ws

  none_kept : AreKept []
  none_kept = λ named. refl

  kept : (w : Word) (ws : List Word) → is_assign w ≡ false → AreKept ws → AreKept (w ∷ ws)
  kept w ws unassigned are = λ named.
      ap (λ (b : Bool). w ∷ words_after text (is_name w) (b && named) ws) unassigned ∙ ap (λ (us : List Word). w ∷ us) (are (is_name w))

  assigned_by : (ws : List Word) (named : Bool) → StayAssigned ws → AreKept ws
      → words_after text named false (ASign sign.Assign ∷ ws) ≡ ASign sign.Assign ∷ ws
  assigned_by ws true stay are = ap (λ (us : List Word). ASign sign.Assign ∷ us) stay
  assigned_by ws false stay are = ap (λ (us : List Word). ASign sign.Assign ∷ us) (are false)

  kept_assigned : (ws : List Word) → StayAssigned ws → AreKept ws → AreKept (ASign sign.Assign ∷ ws)
  kept_assigned ws stay are = λ named. assigned_by ws named stay are

  -- ---- expressions

  expression_kept : (e : Expression) (rest : List Word) → AreKept rest → AreKept (expression_then e rest)
  expression_kept (Number n) rest h = kept (ANumber n) rest refl h
  expression_kept (Variable x) rest h = kept (AName x) rest refl h
  expression_kept (Element a i) rest h =
      kept (AName a) _ refl (kept (ASign sign.OpenBracket) _ refl (expression_kept i (ASign sign.CloseBracket ∷ rest) (kept (ASign sign.CloseBracket) rest refl h)))
  expression_kept (Paren e) rest h =
      kept (ASign sign.OpenParen) _ refl (expression_kept e (ASign sign.CloseParen ∷ rest) (kept (ASign sign.CloseParen) rest refl h))
  expression_kept (Unary op e) rest h = kept (ASign (unary_sign op)) (expression_then e rest) (unary_assigns op) (expression_kept e rest h)
  expression_kept (Binary op a b) rest h =
      expression_kept a (ASign (binary_sign op) ∷ expression_then b rest)
      (kept (ASign (binary_sign op)) (expression_then b rest) (operator_assigns (binary_sign op) op (operator_is op)) (expression_kept b rest h))

  -- a sign after `=` stays
  sign_stays : (k : Sign) (ws : List Word) → is_assign (ASign k) ≡ false → AreKept ws → StayAssigned (ASign k ∷ ws)
  sign_stays k ws unassigned are =
      ap (λ (w : Word). w ∷ words_after text false (is_assign (ASign k) && false) ws) (same_both (begin_call ws) (ASign k))
      ∙ ap (λ (b : Bool). ASign k ∷ words_after text false (b && false) ws) unassigned ∙ ap (λ (us : List Word). ASign k ∷ us) (are false)

  expression_stays : (e : Expression) (rest : List Word) → begin_call rest ≡ false → AreKept rest → StayAssigned (expression_then e rest)
  expression_stays (Number n) rest uncalled h =
      ap (λ (b : Bool). (if b then ANumber n else ANumber n) ∷ words_after text false false rest) uncalled ∙ ap (λ (us : List Word). ANumber n ∷ us) (h false)
  expression_stays (Variable x) rest uncalled h =
      ap (λ (b : Bool). (if b then called_word text (AName x) rest else AName x) ∷ words_after text true false rest) uncalled
      ∙ ap (λ (us : List Word). AName x ∷ us) (h true)
  expression_stays (Element a i) rest uncalled h =
      ap (λ (us : List Word). AName a ∷ us)
      (kept (ASign sign.OpenBracket) _ refl (expression_kept i (ASign sign.CloseBracket ∷ rest) (kept (ASign sign.CloseBracket) rest refl h)) true)
  expression_stays (Paren e) rest uncalled h =
      sign_stays sign.OpenParen (expression_then e (ASign sign.CloseParen ∷ rest)) refl
      (expression_kept e (ASign sign.CloseParen ∷ rest) (kept (ASign sign.CloseParen) rest refl h))
  expression_stays (Unary op e) rest uncalled h = sign_stays (unary_sign op) (expression_then e rest) (unary_assigns op) (expression_kept e rest h)
  expression_stays (Binary op a b) rest uncalled h =
      expression_stays a (ASign (binary_sign op) ∷ expression_then b rest) (operator_calls (binary_sign op) op (expression_then b rest) (operator_is op))
      (kept (ASign (binary_sign op)) (expression_then b rest) (operator_assigns (binary_sign op) op (operator_is op)) (expression_kept b rest h))

  others_kept : (es : List Expression) (rest : List Word) → AreKept rest → AreKept (others_then es rest)
  others_kept [] rest h = h
  others_kept (e ∷ es) rest h = kept (ASign sign.Comma) _ refl (expression_kept e (others_then es rest) (others_kept es rest h))

  list_kept : (es : List Expression) (rest : List Word) → AreKept rest → AreKept (list_then es rest)
  list_kept [] rest h = h
  list_kept (e ∷ es) rest h = expression_kept e (others_then es rest) (others_kept es rest h)

  index_kept : (i : Option Expression) (rest : List Word) → AreKept rest → AreKept (index_then i rest)
  index_kept None rest h = h
  index_kept (Some i) rest h = kept (ASign sign.OpenBracket) _ refl (expression_kept i (ASign sign.CloseBracket ∷ rest) (kept (ASign sign.CloseBracket) rest refl h))

  -- ---- statements

  closed : (rest : List Word) → AreKept rest → AreKept (ASign sign.CloseParen ∷ ASign sign.Semicolon ∷ rest)
  closed rest h = kept (ASign sign.CloseParen) _ refl (kept (ASign sign.Semicolon) rest refl h)

  value_kept : (e : Expression) (rest : List Word) → AreKept rest → AreKept (ASign sign.Assign ∷ expression_then e (ASign sign.Semicolon ∷ rest))
  value_kept e rest h =
      let after = kept (ASign sign.Semicolon) rest refl h in
      kept_assigned _ (expression_stays e (ASign sign.Semicolon ∷ rest) refl after) (expression_kept e (ASign sign.Semicolon ∷ rest) after)

  guarded : (e : Expression) (rest : List Word) → AreKept rest
      → AreKept (ASign sign.OpenParen ∷ expression_then e (ASign sign.CloseParen ∷ ASign sign.OpenBrace ∷ rest))
  guarded e rest h =
      kept (ASign sign.OpenParen) _ refl (expression_kept e (ASign sign.CloseParen ∷ ASign sign.OpenBrace ∷ rest)
      (kept (ASign sign.CloseParen) _ refl (kept (ASign sign.OpenBrace) rest refl h)))

  -- an update changes what comes after it
  its_target : (x : Name) (i : Option Expression) (u : Update Expression) (rest : List Word)
      → target_of (ASign sign.OpenParen ∷ AName x ∷ index_then i (others_then (operands_of u) rest)) ≡ target_by i
  its_target x (Some i) u rest = refl
  its_target x None (update.Swap e) rest = refl
  its_target x None (update.Cas e f) rest = refl
  its_target x None (update.Add e) rest = refl

  modify_kept : (x : Name) (i : Option Expression) (u : Update Expression) (rest : List Word) → AreKept rest
      → AreKept (ASign sign.Assign ∷ AnUpdate (kind_of u) (target_by i) ∷ ASign sign.OpenParen ∷ AName x ∷ index_then i
      (others_then (operands_of u) (ASign sign.CloseParen ∷ ASign sign.Semicolon ∷ rest)))
  modify_kept x i u rest h =
      let end = ASign sign.CloseParen ∷ ASign sign.Semicolon ∷ rest in
      let more = ASign sign.OpenParen ∷ AName x ∷ index_then i (others_then (operands_of u) end) in
      let after : AreKept more = kept (ASign sign.OpenParen) _ refl (kept (AName x) _ refl
      (index_kept i (others_then (operands_of u) end) (others_kept (operands_of u) end (closed rest h)))) in
      kept_assigned (AnUpdate (kind_of u) (target_by i) ∷ more)
      (ap (λ (t : Target). AnUpdate (kind_of u) t ∷ words_after text false false more) (its_target x i u end)
      ∙ ap (λ (us : List Word). AnUpdate (kind_of u) (target_by i) ∷ us) (after false))
      (kept (AnUpdate (kind_of u) (target_by i)) more refl after)

  create_kept : (f : Name) (es : List Expression) (rest : List Word) → AreKept rest
      → AreKept (ASign sign.Assign ∷ AKeyword keyword.Create ∷ AName f ∷ ASign sign.OpenParen ∷ list_then es (ASign sign.CloseParen ∷ ASign sign.Semicolon ∷ rest))
  create_kept f es rest h =
      let more : AreKept (AName f ∷ ASign sign.OpenParen ∷ list_then es (ASign sign.CloseParen ∷ ASign sign.Semicolon ∷ rest)) =
      kept (AName f) _ refl (kept (ASign sign.OpenParen) _ refl (list_kept es (ASign sign.CloseParen ∷ ASign sign.Semicolon ∷ rest) (closed rest h))) in
      kept_assigned _ (ap (λ (us : List Word). AKeyword keyword.Create ∷ us) (more false)) (kept (AKeyword keyword.Create) _ refl more)

  mutual
    statement_kept : (a : Statement) (rest : List Word) → AreKept rest → AreKept (statement_then a rest)
    statement_kept (Assign x e) rest h = kept (AName x) _ refl (value_kept e rest h)
    statement_kept (Store a i e) rest h =
        kept (AName a) _ refl (kept (ASign sign.OpenBracket) _ refl
        (expression_kept i (ASign sign.CloseBracket ∷ ASign sign.Assign ∷ expression_then e (ASign sign.Semicolon ∷ rest))
        (kept (ASign sign.CloseBracket) _ refl (value_kept e rest h))))
    statement_kept (Create x f es) rest h = kept (AName x) _ refl (create_kept f es rest h)
    statement_kept (Modify r x i u) rest h = kept (AName r) _ refl (modify_kept x i u rest h)
    statement_kept (Act p a x) rest h = kept _ _ refl (kept (ASign sign.OpenParen) _ refl (kept (AName x) _ refl (closed rest h)))
    statement_kept (Wait p c m) rest h =
        kept _ _ refl (kept (ASign sign.OpenParen) _ refl (kept (AName c) _ refl (kept (ASign sign.Comma) _ refl (kept (AName m) _ refl (closed rest h)))))
    statement_kept (Order p b) rest h = kept _ _ refl (kept (ASign sign.OpenParen) _ refl (closed rest h))
    statement_kept (Assert p e) rest h =
        kept _ _ refl (kept (ASign sign.OpenParen) _ refl (expression_kept e (ASign sign.CloseParen ∷ ASign sign.Semicolon ∷ rest) (closed rest h)))
    statement_kept (While p c b q) rest h =
        kept _ _ refl (guarded c (statements_then b (AnEnd q ∷ rest)) (statements_kept b (AnEnd q ∷ rest) (kept (AnEnd q) rest refl h)))
    statement_kept (If p c b q o) rest h =
        kept _ _ refl (guarded c (statements_then b (AnEnd q ∷ otherwise_then o rest))
        (statements_kept b (AnEnd q ∷ otherwise_then o rest) (kept (AnEnd q) _ refl (otherwise_kept o rest h))))

    statements_kept : (b : Statements) (rest : List Word) → AreKept rest → AreKept (statements_then b rest)
    statements_kept Nil rest h = h
    statements_kept (Cons a b) rest h = statement_kept a (statements_then b rest) (statements_kept b rest h)

    otherwise_kept : (o : Otherwise) (rest : List Word) → AreKept rest → AreKept (otherwise_then o rest)
    otherwise_kept Nothing rest h = h
    otherwise_kept (Else b q) rest h =
        kept (AKeyword keyword.Else) _ refl (kept (ASign sign.OpenBrace) _ refl (statements_kept b (AnEnd q ∷ rest) (kept (AnEnd q) rest refl h)))
    otherwise_kept (ElseIf p c b q o) rest h =
        kept (AKeyword keyword.Else) _ refl (kept _ _ refl (guarded c (statements_then b (AnEnd q ∷ otherwise_then o rest))
        (statements_kept b (AnEnd q ∷ otherwise_then o rest) (kept (AnEnd q) _ refl (otherwise_kept o rest h)))))

  -- ---- programs

  locals_kept : (ls : List Local) (rest : List Word) → AreKept rest → AreKept (locals_then ls rest)
  locals_kept [] rest h = h
  locals_kept (LocalInt x ∷ ls) rest h =
      kept (AKeyword keyword.Int) _ refl (kept (AName x) _ refl (kept (ASign sign.Semicolon) _ refl (locals_kept ls rest h)))
  locals_kept (Handle x ∷ ls) rest h =
      kept (AKeyword keyword.Tid) _ refl (kept (AName x) _ refl (kept (ASign sign.Semicolon) _ refl (locals_kept ls rest h)))

  body_kept : (b : Body) (rest : List Word) → AreKept rest → AreKept (body_then b rest)
  body_kept b rest h =
      kept (ASign sign.OpenBrace) _ refl (locals_kept b.locals (statements_then b.statements (AnEnd b.end ∷ rest))
      (statements_kept b.statements (AnEnd b.end ∷ rest) (kept (AnEnd b.end) rest refl h)))

  other_parameters_kept : (xs : List Name) (rest : List Word) → AreKept rest → AreKept (other_parameters_then xs rest)
  other_parameters_kept [] rest h = h
  other_parameters_kept (x ∷ xs) rest h =
      kept (ASign sign.Comma) _ refl (kept (AKeyword keyword.Int) _ refl (kept (AName x) _ refl (other_parameters_kept xs rest h)))

  parameters_kept : (xs : List Name) (rest : List Word) → AreKept rest → AreKept (parameters_then xs rest)
  parameters_kept [] rest h = h
  parameters_kept (x ∷ xs) rest h = kept (AKeyword keyword.Int) _ refl (kept (AName x) _ refl (other_parameters_kept xs rest h))

  threads_kept : (ts : List Thread) (rest : List Word) → AreKept rest → AreKept (threads_then ts rest)
  threads_kept [] rest h = h
  threads_kept (t ∷ ts) rest h =
      kept (AKeyword keyword.Thread) _ refl (kept (AName t.name) _ refl (kept (ASign sign.OpenParen) _ refl
      (parameters_kept t.parameters (ASign sign.CloseParen ∷ body_then t.body (threads_then ts rest))
      (kept (ASign sign.CloseParen) _ refl (body_kept t.body (threads_then ts rest) (threads_kept ts rest h))))))

  global_kept : (g : Global) (rest : List Word) → AreKept rest → AreKept (global_then g rest)
  global_kept (Int x Zero) rest h = kept (AKeyword keyword.Int) _ refl (kept (AName x) _ refl (kept (ASign sign.Semicolon) rest refl h))
  global_kept (Int x (Plain n)) rest h =
      let after = kept (ASign sign.Semicolon) rest refl h in
      kept (AKeyword keyword.Int) _ refl (kept (AName x) _ refl
      (kept_assigned _ (ap (λ (us : List Word). ANumber n ∷ us) (after false)) (kept (ANumber n) _ refl after)))
  global_kept (Int x (Negated n)) rest h =
      let after = kept (ANumber n) _ refl (kept (ASign sign.Semicolon) rest refl h) in
      kept (AKeyword keyword.Int) _ refl (kept (AName x) _ refl
      (kept_assigned _ (ap (λ (us : List Word). ASign sign.Minus ∷ us) (after false)) (kept (ASign sign.Minus) _ refl after)))
  global_kept (Array a n) rest h =
      kept (AKeyword keyword.Int) _ refl (kept (AName a) _ refl (kept (ASign sign.OpenBracket) _ refl (kept (ANumber n) _ refl
      (kept (ASign sign.CloseBracket) _ refl (kept (ASign sign.Semicolon) rest refl h)))))
  global_kept (Mutex m) rest h = kept (AKeyword keyword.Mutex) _ refl (kept (AName m) _ refl (kept (ASign sign.Semicolon) rest refl h))
  global_kept (Condition c) rest h = kept (AKeyword keyword.Cond) _ refl (kept (AName c) _ refl (kept (ASign sign.Semicolon) rest refl h))

  globals_kept : (gs : List Global) (rest : List Word) → AreKept rest → AreKept (globals_then gs rest)
  globals_kept [] rest h = h
  globals_kept (g ∷ gs) rest h = global_kept g (globals_then gs rest) (globals_kept gs rest h)

  pub program_kept : (p : Program) → words_after text false false (program_words p) ≡ program_words p
  program_kept p =
      globals_kept p.globals (threads_then p.threads (AKeyword keyword.Main ∷ body_then p.main []))
      (threads_kept p.threads (AKeyword keyword.Main ∷ body_then p.main []) (kept (AKeyword keyword.Main) _ refl (body_kept p.main [] none_kept))) false
