-- The words that fit what is expected.
use Rattle.std.proofs.Common.{◌≡◌, ◌≤◌, nat_eq, List, [], ◌∷◌, ◌++◌, Option, Some, None, Bool, true, false, refl, sym, ap, ap₂, subst, ◌∙◌, append_assoc, arith}
use Rattle.tc_lexer.specs.declared.place.Place.{Place}
use Rattle.int_ops.specs.Updates.{operands_of}
use Rattle.int_ops.specs.declared.update.Update.{Update}
use Rattle.int_ops.specs.declared.update.Update.TheVariants as update
use Rattle.int_ops.specs.declared.arith.UnOp.{UnOp}
use Rattle.int_ops.specs.declared.arith.UnOp.TheVariants.{Neg, Not, Inv}
use Rattle.tc_lexer.specs.declared.token.Keyword.TheVariants as keyword
use Rattle.tc_lexer.specs.declared.token.Sign.{Sign as AnySign}
use Rattle.tc_lexer.specs.declared.token.Sign.TheVariants as sign
use Rattle.tc_tree.specs.declared.expression.Number.{Number as TreeNumber}
use Rattle.tc_tree.specs.declared.expression.Operator.{Operator}
use Rattle.tc_tree.specs.declared.statement.Action.{Action}
use Rattle.tc_tree.specs.declared.statement.Barrier.{Barrier}
use Rattle.tc_tree.specs.declared.program.Initial.{Initial}
use Rattle.tc_tree.specs.declared.program.Initial.TheVariants.{Zero, Plain, Negated}
use Rattle.tc_tree.specs.Grammar.{Expression, Number, Variable, Element, Paren, Unary, Statement, Assign, Store, Create, Modify, Act, Wait, Order, Assert, While, If, Nil, Cons, Otherwise, Nothing, Else, ElseIf, Body, Thread, binary_sign, unary_sign, expression_then, index_then, target_by, kind_of, IsGroupedIndex, others_then, list_then, tightness, IsGrouped, AreGrouped, in_parens_then, statement_then, statements_then, otherwise_then, IsWell, AreWell, IsWellOtherwise, initial_then, global_then, globals_then, locals_then, body_then, parameters_then, other_parameters_then, thread_then, threads_then, AreWellThreads}
use Rattle.tc_tree.specs.declared.statement.Target.{Target}
use Rattle.tc_tree.specs.declared.statement.Target.TheVariants as target
use Rattle.tc_tree.specs.declared.statement.UpdateKind.{UpdateKind}
use Rattle.tc_tree.specs.declared.statement.UpdateKind.TheVariants as kind
use Rattle.tc_tree.specs.declared.word.Word.TheVariants.{
  Name as AName,
  Number as ANumber,
  If as AnIf,
  While as AWhile,
  Action as AnAction,
  Wait as AWait,
  Barrier as ABarrier,
  Assert as AnAssert,
  Update as AnUpdate,
  Keyword as AKeyword,
  Sign as ASign,
  End as AnEnd,
}
use Rattle.tc_tree.specs.declared.word.Word.{Word}
use Rattle.tc_tree.specs.declared.expression.Name.{Name}
use Rattle.tc_tree.specs.declared.program.Global.{Global}
use Rattle.tc_tree.specs.declared.program.Global.TheVariants.{Int, Array, Mutex, Condition}
use Rattle.tc_tree.specs.declared.program.Local.{Local}
use Rattle.tc_tree.specs.declared.program.Local.TheVariants.{Int as LocalInt, Handle}
use Rattle.tc_tree.specs.Grammar as grammar
use Rattle.tc_syntax.specs.helpers.Reading.{
  Expected,
  Just,
  End,
  AnyName,
  AnyNumber,
  AnInt,
  Operand,
  Subscript,
  Operators,
  Arguments,
  Others,
  Statements,
  AfterName,
  AfterAssign,
  Alternative,
  AfterElse,
  Locals,
  Parameters,
  OtherParameters,
  Globals,
  Threads,
  AfterGlobal,
  Initial as AnInitial,
  an_index,
  operands,
  operand,
  statement,
  followed,
  more_operators,
  same,
  first,
  skips,
  sign_code,
  infix_of,
}
use Rattle.tc_syntax.proofs.Attached.{attach}
use Rattle.tc_syntax.proofs.Signs.{same_code, infix_is}

abbrev pub Stands : List Expected → List Word → Type 0
Stands [] ws = ws ≡ []
Stands (Just k ∷ s) ws = (rest : List Word) × (ws ≡ ASign k ∷ rest) × Stands s rest
Stands (End ∷ s) ws = (p : Place) × (rest : List Word) × (ws ≡ AnEnd p ∷ rest) × Stands s rest
Stands (AnyName ∷ s) ws = (x : Name) × (rest : List Word) × (ws ≡ AName x ∷ rest) × Stands s rest
Stands (AnyNumber ∷ s) ws = (n : TreeNumber) × (rest : List Word) × (ws ≡ ANumber n ∷ rest) × Stands s rest
Stands (AnInt ∷ s) ws = (rest : List Word) × (ws ≡ AKeyword keyword.Int ∷ rest) × Stands s rest
Stands (Operand ∷ s) ws = (e : Expression) × (rest : List Word) × IsGrouped e × (11 ≤ tightness e) × (ws ≡ expression_then e rest) × Stands s rest
Stands (Subscript ∷ s) ws = (rest : List Word) × ((x : Name) → (e : Expression) × IsGrouped e × (11 ≤ tightness e)
    × (AName x ∷ ws ≡ expression_then e rest)) × Stands s rest
Stands (Operators ∷ s) ws = (rest : List Word) × ((f : Expression) → IsGrouped f
    → (g : Expression) × IsGrouped g × (expression_then f ws ≡ expression_then g rest)) × Stands s rest
Stands (Arguments ∷ s) ws = (es : List Expression) × (rest : List Word) × AreGrouped es × (ws ≡ list_then es rest) × Stands s rest
Stands (Others ∷ s) ws = (es : List Expression) × (rest : List Word) × AreGrouped es × (ws ≡ others_then es rest) × Stands s rest
Stands (Statements ∷ s) ws = (b : grammar.Statements) × (rest : List Word) × AreWell b × (ws ≡ statements_then b rest) × Stands s rest
Stands (AfterName ∷ s) ws = (rest : List Word) × ((x : Name) → (a : Statement) × IsWell a × (AName x ∷ ws ≡ statement_then a rest)) × Stands s rest
Stands (AfterAssign ∷ s) ws = (rest : List Word) × ((x : Name)
    → (a : Statement) × IsWell a × (AName x ∷ ASign sign.Assign ∷ ws ≡ statement_then a rest)) × Stands s rest
Stands (Alternative ∷ s) ws = (o : Otherwise) × (rest : List Word) × IsWellOtherwise o × (ws ≡ otherwise_then o rest) × Stands s rest
Stands (AfterElse ∷ s) ws = (o : Otherwise) × (rest : List Word) × IsWellOtherwise o × (AKeyword keyword.Else ∷ ws ≡ otherwise_then o rest) × Stands s rest
Stands (Locals ∷ s) ws = (ls : List Local) × (rest : List Word) × (ws ≡ locals_then ls rest) × Stands s rest
Stands (Parameters ∷ s) ws = (xs : List Name) × (rest : List Word) × (ws ≡ parameters_then xs rest) × Stands s rest
Stands (OtherParameters ∷ s) ws = (xs : List Name) × (rest : List Word) × (ws ≡ other_parameters_then xs rest) × Stands s rest
Stands (Globals ∷ s) ws = (gs : List Global) × (ts : List Thread) × (main : Body) × (rest : List Word) × AreWellThreads ts × AreWell main.statements
    × (ws ≡ globals_then gs (threads_then ts (AKeyword keyword.Main ∷ body_then main rest))) × Stands s rest
Stands (Threads ∷ s) ws = (ts : List Thread) × (main : Body) × (rest : List Word) × AreWellThreads ts × AreWell main.statements
    × (ws ≡ threads_then ts (AKeyword keyword.Main ∷ body_then main rest)) × Stands s rest
Stands (AfterGlobal ∷ s) ws = (rest : List Word) × ((x : Name) → (g : Global) × (AKeyword keyword.Int ∷ AName x ∷ ws ≡ global_then g rest)) × Stands s rest
Stands (AnInitial ∷ s) ws = (rest : List Word) × (i : Initial) × (ASign sign.Assign ∷ ws ≡ initial_then i (ASign sign.Semicolon ∷ rest)) × Stands s rest

abbrev pub StandsAfter : Option (List Expected) → List Word → Type 0
StandsAfter None ws = ⊥
StandsAfter (Some s) ws = Stands s ws

-- words that fit what is expected after a word
abbrev pub StandsThen : Option (List Expected) → List Expected → List Word → Type 0
StandsThen None s ws = ⊥
StandsThen (Some es) s ws = Stands (es ++ s) ws

-- words that begin with an expression, and the rest, which fits what is expected then
pub record AnExpression (s : List Expected) (ws : List Word) : Type 0 where
  pub tree : Expression
  pub rest : List Word
  pub grouped : IsGrouped tree
  pub spelled : ws ≡ expression_then tree rest
  pub then : Stands s rest

pub expression : (s : List Expected) (ws : List Word) → Stands (Operand ∷ Operators ∷ s) ws → AnExpression s ws
expression s ws (e, r, ge, t, is, (rest, more, d)) =
    let g = more e ge in record { tree = g.0; rest = rest; grouped = g.1; spelled = is ∙ g.2; then = d }

-- an expression and the sign that ends it
pub record Ended (k : AnySign) (s : List Expected) (ws : List Word) : Type 0 where
  pub tree : Expression
  pub rest : List Word
  pub grouped : IsGrouped tree
  pub spelled : ws ≡ expression_then tree (ASign k ∷ rest)
  pub then : Stands s rest

pub ended : (k : AnySign) (s : List Expected) (ws : List Word) → Stands (Operand ∷ Operators ∷ Just k ∷ s) ws → Ended k s ws
ended k s ws d =
    let e = expression (Just k ∷ s) ws d in
    record {
      tree = e.tree;
      rest = e.then.0;
      grouped = e.grouped;
      spelled = e.spelled ∙ ap (λ (us : List Word). expression_then e.tree us) e.then.1;
      then = e.then.2;
    }

operator_more : (op : Operator) (s : List Expected) (ws : List Word) → Stands (Operand ∷ Operators ∷ s) ws
    → Stands (Operators ∷ s) (ASign (binary_sign op) ∷ ws)
operator_more op s ws (e, r, ge, t, is, (rest, more, d)) = (
  rest,
  (λ f gf. let a = attach f op e gf ge t in let b = more a.tree a.grouped in
      (b.0, b.1, ap (λ (us : List Word). expression_then f (ASign (binary_sign op) ∷ us)) is ∙ sym (a.words r) ∙ b.2)),
  d,
)

paren_more : (s : List Expected) (ws : List Word) → Stands (Operand ∷ Operators ∷ Just sign.CloseParen ∷ s) ws
    → Stands (Operand ∷ s) (ASign sign.OpenParen ∷ ws)
paren_more s ws d =
    let e = ended sign.CloseParen s ws d in
    (Paren e.tree, e.rest, e.grouped, omega arith, ap (λ (us : List Word). ASign sign.OpenParen ∷ us) e.spelled, e.then)

unary_more : (op : UnOp) (s : List Expected) (ws : List Word) → Stands (Operand ∷ s) ws → Stands (Operand ∷ s) (ASign (unary_sign op) ∷ ws)
unary_more op s ws (e, r, ge, t, is, d) = (Unary op e, r, (t, ge), omega arith, ap (λ (us : List Word). ASign (unary_sign op) ∷ us) is, d)

variable_more : (x : Name) (s : List Expected) (ws : List Word) → Stands (Subscript ∷ s) ws → Stands (Operand ∷ s) (AName x ∷ ws)
variable_more x s ws (r, make, d) = let e = make x in (e.0, r, e.1, e.2, e.3, d)

subscript_more : (s : List Expected) (ws : List Word) → Stands (Operand ∷ Operators ∷ Just sign.CloseBracket ∷ s) ws
    → Stands (Subscript ∷ s) (ASign sign.OpenBracket ∷ ws)
subscript_more s ws d =
    let e = ended sign.CloseBracket s ws d in
    (e.rest, (λ x. (Element x e.tree, e.grouped, omega arith, ap (λ (us : List Word). AName x ∷ ASign sign.OpenBracket ∷ us) e.spelled)), e.then)

-- words that fit an argument and more fit where arguments are expected
argument_more : (s : List Expected) (ws : List Word) → Stands (Operand ∷ Operators ∷ Others ∷ s) ws → Stands (Arguments ∷ s) ws
argument_more s ws d =
    let e = expression (Others ∷ s) ws d in
    (e.tree ∷ e.then.0, e.then.1, (e.grouped, e.then.2), e.spelled ∙ ap (λ (us : List Word). expression_then e.tree us) e.then.3, e.then.4)

comma_more : (s : List Expected) (ws : List Word) → Stands (Operand ∷ Operators ∷ Others ∷ s) ws → Stands (Others ∷ s) (ASign sign.Comma ∷ ws)
comma_more s ws d =
    let e = expression (Others ∷ s) ws d in (
      e.tree ∷ e.then.0,
      e.then.1,
      (e.grouped, e.then.2),
      ap (λ (us : List Word). ASign sign.Comma ∷ us) (e.spelled
          ∙ ap (λ (us : List Word). expression_then e.tree us) e.then.3),
      e.then.4,
    )

-- ---- statements

value_more : (s : List Expected) (ws : List Word) → Stands (Operand ∷ Operators ∷ Just sign.Semicolon ∷ s) ws → Stands (AfterAssign ∷ s) ws
value_more s ws d =
    let e = ended sign.Semicolon s ws d in
    (e.rest, (λ x. (Assign x e.tree, e.grouped, ap (λ (us : List Word). AName x ∷ ASign sign.Assign ∷ us) e.spelled)), e.then)

store_more : (s : List Expected) (ws : List Word) → Stands
    (Operand ∷ Operators ∷ Just sign.CloseBracket ∷ Just sign.Assign ∷ Operand ∷ Operators ∷ Just sign.Semicolon ∷ s) ws
    → Stands (AfterName ∷ s) (ASign sign.OpenBracket ∷ ws)
store_more s ws d =
    let i = ended sign.CloseBracket (Just sign.Assign ∷ Operand ∷ Operators ∷ Just sign.Semicolon ∷ s) ws d in
    let e = ended sign.Semicolon s i.then.0 i.then.2 in (
      e.rest,
      (λ x. (
        Store x i.tree e.tree,
        (i.grouped, e.grouped),
        ap (λ (us : List Word). AName x ∷ ASign sign.OpenBracket ∷ us) (i.spelled
            ∙ ap (λ (us : List Word). expression_then i.tree (ASign sign.CloseBracket ∷ us)) (i.then.1
            ∙ ap (λ (us : List Word). ASign sign.Assign ∷ us) e.spelled)),
      )),
      e.then,
    )

assign_more : (s : List Expected) (ws : List Word) → Stands (AfterAssign ∷ s) ws → Stands (AfterName ∷ s) (ASign sign.Assign ∷ ws)
assign_more s ws d = d

create_more : (s : List Expected) (ws : List Word)
    → Stands (AnyName ∷ Just sign.OpenParen ∷ Arguments ∷ Just sign.CloseParen ∷ Just sign.Semicolon ∷ s) ws
    → Stands (AfterAssign ∷ s) (AKeyword keyword.Create ∷ ws)
create_more s ws (f, r, is, (r0, is0, (es, r1, ge, is1, (r2, is2, (rest, is3, d))))) = (
  rest,
  (λ x. (
    Create x f es,
    ge,
    ap (λ (us : List Word). AName x ∷ ASign sign.Assign ∷ AKeyword keyword.Create ∷ us) (is
        ∙ ap (λ (us : List Word). AName f ∷ us) (is0 ∙ ap (λ (us : List Word). ASign sign.OpenParen ∷ us) (is1
        ∙ ap (λ (us : List Word). list_then es us) (is2 ∙ ap (λ (us : List Word). ASign sign.CloseParen ∷ us) is3)))),
  )),
  d,
)

-- words that fit the index of an update, if it has one
record Indexed (t : Target) (s : List Expected) (ws : List Word) : Type 0 where
  index : Option Expression
  rest : List Word
  grouped : IsGroupedIndex index
  target_is : target_by index ≡ t
  spelled : ws ≡ index_then index rest
  then : Stands s rest

indexed : (t : Target) (s : List Expected) (ws : List Word) → Stands (an_index t s) ws → Indexed t s ws
indexed target.Cell s ws d = record { index = None; rest = ws; grouped = tt; target_is = refl; spelled = refl; then = d }
indexed target.Element s ws (r, is, d) =
    let e = ended sign.CloseBracket s r d in record {
      index = Some e.tree;
      rest = e.rest;
      grouped = e.grouped;
      target_is = refl;
      spelled = is ∙ ap (λ (us : List Word). ASign sign.OpenBracket ∷ us) e.spelled;
      then = e.then;
    }

-- words that fit the operands of an update and a closing parenthesis
record Operated (k : UpdateKind) (s : List Expected) (ws : List Word) : Type 0 where
  update : Update Expression
  rest : List Word
  grouped : AreGrouped (operands_of update)
  kind_is : kind_of update ≡ k
  spelled : ws ≡ others_then (operands_of update) (ASign sign.CloseParen ∷ rest)
  then : Stands s rest

operated : (k : UpdateKind) (s : List Expected) (ws : List Word) → Stands (operands k (Just sign.CloseParen ∷ s)) ws → Operated k s ws
operated kind.Swap s ws (r, is, d) =
    let e = ended sign.CloseParen s r d in record {
      update = update.Swap e.tree;
      rest = e.rest;
      grouped = (e.grouped, tt);
      kind_is = refl;
      spelled = is ∙ ap (λ (us : List Word). ASign sign.Comma ∷ us) e.spelled;
      then = e.then;
    }
operated kind.Cas s ws (r, is, d) =
    let e = ended sign.Comma (Operand ∷ Operators ∷ Just sign.CloseParen ∷ s) r d in
    let f = ended sign.CloseParen s e.rest e.then in record {
      update = update.Cas e.tree f.tree;
      rest = f.rest;
      grouped = (e.grouped, (f.grouped, tt));
      kind_is = refl;
      spelled = is ∙ ap (λ (us : List Word). ASign sign.Comma ∷ us) (e.spelled
          ∙ ap (λ (us : List Word). expression_then e.tree (ASign sign.Comma ∷ us)) f.spelled);
      then = f.then;
    }
operated kind.Add s ws (r, is, d) =
    let e = ended sign.CloseParen s r d in record {
      update = update.Add e.tree;
      rest = e.rest;
      grouped = (e.grouped, tt);
      kind_is = refl;
      spelled = is ∙ ap (λ (us : List Word). ASign sign.Comma ∷ us) e.spelled;
      then = e.then;
    }

update_more : (k : UpdateKind) (t : Target) (s : List Expected) (ws : List Word) → Stands
    (Just sign.OpenParen ∷ AnyName ∷ an_index t (operands k (Just sign.CloseParen ∷ Just sign.Semicolon ∷ s))) ws
    → Stands (AfterAssign ∷ s) (AnUpdate k t ∷ ws)
update_more k t s ws (r0, is0, (x, r1, is1, d)) =
    let i = indexed t (operands k (Just sign.CloseParen ∷ Just sign.Semicolon ∷ s)) r1 d in
    let o = operated k (Just sign.Semicolon ∷ s) i.rest i.then in (
      o.then.0,
      (λ r. (
        Modify r x i.index o.update,
        (i.grouped, o.grouped),
        ap (λ (us : List Word). AName r ∷ ASign sign.Assign ∷ AnUpdate k t ∷ us) (is0
            ∙ ap (λ (us : List Word). ASign sign.OpenParen ∷ us) (is1
            ∙ ap (λ (us : List Word). AName x ∷ us) (i.spelled ∙ ap (λ (us : List Word). index_then i.index us) (o.spelled
            ∙ ap (λ (us : List Word). others_then (operands_of o.update) (ASign sign.CloseParen ∷ us)) o.then.1))))
            ∙ ap₂ (λ (k' : UpdateKind) (t' : Target). AName r ∷ ASign sign.Assign ∷ AnUpdate k' t' ∷ ASign sign.OpenParen ∷ AName x ∷ index_then i.index
            (others_then (operands_of o.update) (ASign sign.CloseParen ∷ ASign sign.Semicolon ∷ o.then.0))) (sym o.kind_is) (sym i.target_is),
      )),
      o.then.2,
    )

-- one more statement before the others
one_statement : (a : Statement) (s : List Expected) (ws rest : List Word) → IsWell a → ws ≡ statement_then a rest → Stands (Statements ∷ s) rest
    → Stands (Statements ∷ s) ws
one_statement a s ws rest ga is (b, r, gb, is', d) = (Cons a b, r, (ga, gb), is ∙ ap (λ (us : List Word). statement_then a us) is', d)

name_more : (x : Name) (s : List Expected) (ws : List Word) → Stands (AfterName ∷ Statements ∷ s) ws → Stands (Statements ∷ s) (AName x ∷ ws)
name_more x s ws (r, make, d) = let a = make x in one_statement a.0 s (AName x ∷ ws) r a.1 a.2 d

-- a condition and a block
pub record Guarded (s : List Expected) (ws : List Word) : Type 0 where
  pub condition : Expression
  pub body : grammar.Statements
  pub end : Place
  pub rest : List Word
  pub grouped : IsGrouped condition
  pub well : AreWell body
  pub spelled : ws ≡ in_parens_then condition (ASign sign.OpenBrace ∷ statements_then body (AnEnd end ∷ rest))
  pub then : Stands s rest

pub guard : (s : List Expected) (ws : List Word) → Stands
    (Just sign.OpenParen ∷ Operand ∷ Operators ∷ Just sign.CloseParen ∷ Just sign.OpenBrace ∷ Statements ∷ End ∷ s) ws → Guarded s ws
guard s ws (r0, is0, d) = guarded_by s ws r0 is0 (ended sign.CloseParen (Just sign.OpenBrace ∷ Statements ∷ End ∷ s) r0 d)
  where
    guarded_then : (s : List Expected) (ws r0 : List Word) (c : Expression) (rest : List Word) → IsGrouped c → ws ≡ ASign sign.OpenParen ∷ r0
        → r0 ≡ expression_then c (ASign sign.CloseParen ∷ rest) → Stands (Just sign.OpenBrace ∷ Statements ∷ End ∷ s) rest → Guarded s ws
    guarded_then s ws r0 c rest gc is0 isc (r1, is1, (b, r2, gb, is2, (q, r3, is3, d))) = record {
      condition = c;
      body = b;
      end = q;
      rest = r3;
      grouped = gc;
      well = gb;
      spelled = is0 ∙ ap (λ (us : List Word). ASign sign.OpenParen ∷ us) (isc
          ∙ ap (λ (us : List Word). expression_then c (ASign sign.CloseParen ∷ us)) (is1
          ∙ ap (λ (us : List Word). ASign sign.OpenBrace ∷ us) (is2 ∙ ap (λ (us : List Word). statements_then b us) is3)));
      then = d;
    }

    guarded_by : (s : List Expected) (ws r0 : List Word) → ws ≡ ASign sign.OpenParen ∷ r0
        → Ended sign.CloseParen (Just sign.OpenBrace ∷ Statements ∷ End ∷ s) r0 → Guarded s ws
    guarded_by s ws r0 is0 e = guarded_then s ws r0 e.tree e.rest e.grouped is0 e.spelled e.then

while_more : (p : Place) (s : List Expected) (ws : List Word)
    → Stands (Just sign.OpenParen ∷ Operand ∷ Operators ∷ Just sign.CloseParen ∷ Just sign.OpenBrace ∷ Statements ∷ End ∷ Statements ∷ s) ws
    → Stands (Statements ∷ s) (AWhile p ∷ ws)
while_more p s ws d =
    let g = guard (Statements ∷ s) ws d in
    one_statement (While p g.condition g.body g.end) s (AWhile p ∷ ws) g.rest (g.grouped, g.well) (ap (λ (us : List Word). AWhile p ∷ us) g.spelled) g.then

if_more : (p : Place) (s : List Expected) (ws : List Word)
    → Stands (Just sign.OpenParen ∷ Operand ∷ Operators ∷ Just sign.CloseParen ∷ Just sign.OpenBrace ∷ Statements ∷ End ∷ Alternative ∷ Statements ∷
    s) ws → Stands (Statements ∷ s) (AnIf p ∷ ws)
if_more p s ws d = if_then p s ws (guard (Alternative ∷ Statements ∷ s) ws d)
  where
    if_else : (p : Place) (s : List Expected) (ws : List Word) (c : Expression) (b : grammar.Statements) (q : Place) (rest : List Word) → IsGrouped c
        → AreWell b → ws ≡ in_parens_then c (ASign sign.OpenBrace ∷ statements_then b (AnEnd q ∷ rest)) → Stands (Alternative ∷ Statements ∷ s) rest
        → Stands (Statements ∷ s) (AnIf p ∷ ws)
    if_else p s ws c b q rest gc gb is (o, r, go, is', d) =
        one_statement (If p c b q o) s (AnIf p ∷ ws) r (gc, gb, go)
        (ap (λ (us : List Word). AnIf p ∷ us) (is ∙ ap (λ (us : List Word). in_parens_then c
        (ASign sign.OpenBrace ∷ statements_then b (AnEnd q ∷ us))) is')) d

    if_then : (p : Place) (s : List Expected) (ws : List Word) → Guarded (Alternative ∷ Statements ∷ s) ws → Stands (Statements ∷ s) (AnIf p ∷ ws)
    if_then p s ws g = if_else p s ws g.condition g.body g.end g.rest g.grouped g.well g.spelled g.then

else_more : (s : List Expected) (ws : List Word) → Stands (Statements ∷ End ∷ s) ws → Stands (AfterElse ∷ s) (ASign sign.OpenBrace ∷ ws)
else_more s ws (b, r, gb, is, (q, rest, is', d)) =
    (Else b q, rest, gb, ap (λ (us : List Word). AKeyword keyword.Else ∷ ASign sign.OpenBrace ∷ us) (is ∙ ap (λ (us : List Word). statements_then b us) is'), d)

else_if_more : (p : Place) (s : List Expected) (ws : List Word)
    → Stands (Just sign.OpenParen ∷ Operand ∷ Operators ∷ Just sign.CloseParen ∷ Just sign.OpenBrace ∷ Statements ∷ End ∷ Alternative ∷ s) ws
    → Stands (AfterElse ∷ s) (AnIf p ∷ ws)
else_if_more p s ws d = if_then p s ws (guard (Alternative ∷ s) ws d)
  where
    if_else : (p : Place) (s : List Expected) (ws : List Word) (c : Expression) (b : grammar.Statements) (q : Place) (rest : List Word) → IsGrouped c
        → AreWell b → ws ≡ in_parens_then c (ASign sign.OpenBrace ∷ statements_then b (AnEnd q ∷ rest)) → Stands (Alternative ∷ s) rest
        → Stands (AfterElse ∷ s) (AnIf p ∷ ws)
    if_else p s ws c b q rest gc gb is (o, r, go, is', d) = (
      ElseIf p c b q o,
      r,
      (gc, gb, go),
      ap (λ (us : List Word). AKeyword keyword.Else ∷ AnIf p ∷ us) (is
          ∙ ap (λ (us : List Word). in_parens_then c (ASign sign.OpenBrace ∷ statements_then b (AnEnd q ∷ us))) is'),
      d,
    )

    if_then : (p : Place) (s : List Expected) (ws : List Word) → Guarded (Alternative ∷ s) ws → Stands (AfterElse ∷ s) (AnIf p ∷ ws)
    if_then p s ws g = if_else p s ws g.condition g.body g.end g.rest g.grouped g.well g.spelled g.then

verb_more : (a : Action) (p : Place) (s : List Expected) (ws : List Word)
    → Stands (Just sign.OpenParen ∷ AnyName ∷ Just sign.CloseParen ∷ Just sign.Semicolon ∷ Statements ∷ s) ws → Stands (Statements ∷ s) (AnAction a p ∷ ws)
verb_more a p s ws (r0, is0, (x, r1, is1, (r2, is2, (r3, is3, d)))) =
    one_statement (Act p a x) s (AnAction a p ∷ ws) r3 tt
    (ap (λ (us : List Word). AnAction a p ∷ us) (is0 ∙ ap (λ (us : List Word). ASign sign.OpenParen ∷ us) (is1
    ∙ ap (λ (us : List Word). AName x ∷ us) (is2 ∙ ap (λ (us : List Word). ASign sign.CloseParen ∷ us) is3)))) d

wait_more : (p : Place) (s : List Expected) (ws : List Word)
    → Stands (Just sign.OpenParen ∷ AnyName ∷ Just sign.Comma ∷ AnyName ∷ Just sign.CloseParen ∷ Just sign.Semicolon ∷ Statements ∷ s) ws
    → Stands (Statements ∷ s) (AWait p ∷ ws)
wait_more p s ws (r0, is0, (c, r1, is1, (r2, is2, (m, r3, is3, (r4, is4, (r5, is5, d)))))) =
    one_statement (Wait p c m) s (AWait p ∷ ws) r5 tt (ap (λ (us : List Word). AWait p ∷ us) (is0
    ∙ ap (λ (us : List Word). ASign sign.OpenParen ∷ us) (is1
    ∙ ap (λ (us : List Word). AName c ∷ us) (is2 ∙ ap (λ (us : List Word). ASign sign.Comma ∷ us) (is3
    ∙ ap (λ (us : List Word). AName m ∷ us) (is4 ∙ ap (λ (us : List Word). ASign sign.CloseParen ∷ us) is5)))))) d

barrier_more : (b : Barrier) (p : Place) (s : List Expected) (ws : List Word)
    → Stands (Just sign.OpenParen ∷ Just sign.CloseParen ∷ Just sign.Semicolon ∷ Statements ∷ s) ws → Stands (Statements ∷ s) (ABarrier b p ∷ ws)
barrier_more b p s ws (r0, is0, (r1, is1, (r2, is2, d))) =
    one_statement (Order p b) s (ABarrier b p ∷ ws) r2 tt
    (ap (λ (us : List Word). ABarrier b p ∷ us) (is0 ∙ ap (λ (us : List Word). ASign sign.OpenParen ∷ us) (is1
    ∙ ap (λ (us : List Word). ASign sign.CloseParen ∷ us) is2))) d

assert_more : (p : Place) (s : List Expected) (ws : List Word)
    → Stands (Just sign.OpenParen ∷ Operand ∷ Operators ∷ Just sign.CloseParen ∷ Just sign.Semicolon ∷ Statements ∷ s) ws
    → Stands (Statements ∷ s) (AnAssert p ∷ ws)
assert_more p s ws (r0, is0, d) = assert_then p s ws r0 is0 (ended sign.CloseParen (Just sign.Semicolon ∷ Statements ∷ s) r0 d)
  where
    assert_at : (p : Place) (s : List Expected) (ws r0 : List Word) (e : Expression) (rest : List Word) → IsGrouped e → ws ≡ ASign sign.OpenParen ∷ r0
        → r0 ≡ expression_then e (ASign sign.CloseParen ∷ rest) → Stands (Just sign.Semicolon ∷ Statements ∷ s) rest → Stands (Statements ∷ s) (AnAssert p ∷ ws)
    assert_at p s ws r0 e rest ge is0 is1 (r2, is2, d) =
        one_statement (Assert p e) s (AnAssert p ∷ ws) r2 ge
        (ap (λ (us : List Word). AnAssert p ∷ us) (is0 ∙ ap (λ (us : List Word). ASign sign.OpenParen ∷ us) (is1
        ∙ ap (λ (us : List Word). expression_then e (ASign sign.CloseParen ∷ us)) is2))) d

    assert_then : (p : Place) (s : List Expected) (ws r0 : List Word) → ws ≡ ASign sign.OpenParen ∷ r0
        → Ended sign.CloseParen (Just sign.Semicolon ∷ Statements ∷ s) r0 → Stands (Statements ∷ s) (AnAssert p ∷ ws)
    assert_then p s ws r0 is0 e = assert_at p s ws r0 e.tree e.rest e.grouped is0 e.spelled e.then

-- ---- programs

int_more : (s : List Expected) (ws : List Word) → Stands (AnyName ∷ Just sign.Semicolon ∷ Locals ∷ s) ws → Stands (Locals ∷ s) (AKeyword keyword.Int ∷ ws)
int_more s ws (x, r0, is0, (r1, is1, (ls, r2, is2, d))) = (
  LocalInt x ∷ ls,
  r2,
  ap (λ (us : List Word). AKeyword keyword.Int ∷ us) (is0
      ∙ ap (λ (us : List Word). AName x ∷ us) (is1 ∙ ap (λ (us : List Word). ASign sign.Semicolon ∷ us) is2)),
  d,
)

handle_more : (s : List Expected) (ws : List Word) → Stands (AnyName ∷ Just sign.Semicolon ∷ Locals ∷ s) ws → Stands (Locals ∷ s) (AKeyword keyword.Tid ∷ ws)
handle_more s ws (x, r0, is0, (r1, is1, (ls, r2, is2, d))) = (
  Handle x ∷ ls,
  r2,
  ap (λ (us : List Word). AKeyword keyword.Tid ∷ us) (is0
      ∙ ap (λ (us : List Word). AName x ∷ us) (is1 ∙ ap (λ (us : List Word). ASign sign.Semicolon ∷ us) is2)),
  d,
)

parameter_more : (s : List Expected) (ws : List Word) → Stands (AnyName ∷ OtherParameters ∷ s) ws → Stands (Parameters ∷ s) (AKeyword keyword.Int ∷ ws)
parameter_more s ws (x, r0, is0, (xs, r1, is1, d)) =
    (x ∷ xs, r1, ap (λ (us : List Word). AKeyword keyword.Int ∷ us) (is0 ∙ ap (λ (us : List Word). AName x ∷ us) is1), d)

other_parameter_more : (s : List Expected) (ws : List Word) → Stands (AnInt ∷ AnyName ∷ OtherParameters ∷ s) ws
    → Stands (OtherParameters ∷ s) (ASign sign.Comma ∷ ws)
other_parameter_more s ws (r, is, (x, r0, is0, (xs, r1, is1, d))) = (
  x ∷ xs,
  r1,
  ap (λ (us : List Word). ASign sign.Comma ∷ us) (is
      ∙ ap (λ (us : List Word). AKeyword keyword.Int ∷ us) (is0 ∙ ap (λ (us : List Word). AName x ∷ us) is1)),
  d,
)

-- a body
pub record ABody (s : List Expected) (ws : List Word) : Type 0 where
  pub body : Body
  pub rest : List Word
  pub well : AreWell body.statements
  pub spelled : ws ≡ body_then body rest
  pub then : Stands s rest

a_body_of : (s : List Expected) (ws : List Word) → Stands (Just sign.OpenBrace ∷ Locals ∷ Statements ∷ End ∷ s) ws → ABody s ws
a_body_of s ws (r0, is0, (ls, r1, is1, (b, r2, gb, is2, (q, r3, is3, d)))) = record {
  body = record { locals = ls; statements = b; end = q };
  rest = r3;
  well = gb;
  spelled = is0 ∙ ap (λ (us : List Word). ASign sign.OpenBrace ∷ us) (is1
      ∙ ap (λ (us : List Word). locals_then ls us) (is2 ∙ ap (λ (us : List Word). statements_then b us) is3));
  then = d;
}

main_more : (s : List Expected) (ws : List Word) → Stands (Just sign.OpenBrace ∷ Locals ∷ Statements ∷ End ∷ s) ws
    → Stands (Threads ∷ s) (AKeyword keyword.Main ∷ ws)
main_more s ws d =
    let b = a_body_of s ws d in
    ([], b.body, b.rest, tt, b.well, ap (λ (us : List Word). AKeyword keyword.Main ∷ us) b.spelled, b.then)

-- a thread
pub record AThread (s : List Expected) (ws : List Word) : Type 0 where
  pub thread : Thread
  pub rest : List Word
  pub well : AreWell thread.body.statements
  pub spelled : AKeyword keyword.Thread ∷ ws ≡ thread_then thread rest
  pub then : Stands s rest

a_thread_of : (s : List Expected) (ws : List Word)
    → Stands (AnyName ∷ Just sign.OpenParen ∷ Parameters ∷ Just sign.CloseParen ∷ Just sign.OpenBrace ∷ Locals ∷ Statements ∷ End ∷ s) ws → AThread s ws
a_thread_of s ws (x, r0, is0, (r1, is1, (ps, r2, is2, (r3, is3, d)))) =
    let b = a_body_of s r3 d in
    record {
      thread = record { name = x; parameters = ps; body = b.body };
      rest = b.rest;
      well = b.well;
      spelled = ap (λ (us : List Word). AKeyword keyword.Thread ∷ us) (is0
          ∙ ap (λ (us : List Word). AName x ∷ us) (is1 ∙ ap (λ (us : List Word). ASign sign.OpenParen ∷ us) (is2
          ∙ ap (λ (us : List Word). parameters_then ps us) (is3 ∙ ap (λ (us : List Word). ASign sign.CloseParen ∷ us) b.spelled))));
      then = b.then;
    }

one_thread : (t : Thread) (s : List Expected) (ws rest : List Word) → AreWell t.body.statements → ws ≡ thread_then t rest → Stands (Threads ∷ s) rest
    → Stands (Threads ∷ s) ws
one_thread t s ws rest gt is (ts, main, r, gts, gm, is', d) = (t ∷ ts, main, r, (gt, gts), gm, is ∙ ap (λ (us : List Word). thread_then t us) is', d)

thread_more : (s : List Expected) (ws : List Word)
    → Stands (AnyName ∷ Just sign.OpenParen ∷ Parameters ∷ Just sign.CloseParen ∷ Just sign.OpenBrace ∷ Locals ∷ Statements ∷ End ∷ Threads ∷ s) ws
    → Stands (Threads ∷ s) (AKeyword keyword.Thread ∷ ws)
thread_more s ws d =
    let t = a_thread_of (Threads ∷ s) ws d in
    one_thread t.thread s (AKeyword keyword.Thread ∷ ws) t.rest t.well t.spelled t.then

-- threads fit where declarations fit
no_globals : (s : List Expected) (ws : List Word) → Stands (Threads ∷ s) ws → Stands (Globals ∷ s) ws
no_globals s ws (ts, main, r, gts, gm, is, d) = ([], ts, main, r, gts, gm, is, d)

one_global : (g : Global) (s : List Expected) (ws rest : List Word) → ws ≡ global_then g rest → Stands (Globals ∷ s) rest → Stands (Globals ∷ s) ws
one_global g s ws rest is (gs, ts, main, r, gts, gm, is', d) = (g ∷ gs, ts, main, r, gts, gm, is ∙ ap (λ (us : List Word). global_then g us) is', d)

global_more : (s : List Expected) (ws : List Word) → Stands (AnyName ∷ AfterGlobal ∷ Globals ∷ s) ws → Stands (Globals ∷ s) (AKeyword keyword.Int ∷ ws)
global_more s ws (x, r0, is0, (r1, make, d)) =
    let g = make x in
    one_global g.0 s (AKeyword keyword.Int ∷ ws) r1 (ap (λ (us : List Word). AKeyword keyword.Int ∷ us) is0 ∙ g.1) d

mutex_more : (s : List Expected) (ws : List Word) → Stands (AnyName ∷ Just sign.Semicolon ∷ Globals ∷ s) ws → Stands (Globals ∷ s) (AKeyword keyword.Mutex ∷ ws)
mutex_more s ws (x, r0, is0, (r1, is1, d)) =
    one_global (Mutex x) s (AKeyword keyword.Mutex ∷ ws) r1
    (ap (λ (us : List Word). AKeyword keyword.Mutex ∷ us) (is0 ∙ ap (λ (us : List Word). AName x ∷ us) is1)) d

condition_more : (s : List Expected) (ws : List Word) → Stands (AnyName ∷ Just sign.Semicolon ∷ Globals ∷ s) ws
    → Stands (Globals ∷ s) (AKeyword keyword.Cond ∷ ws)
condition_more s ws (x, r0, is0, (r1, is1, d)) =
    one_global (Condition x) s (AKeyword keyword.Cond ∷ ws) r1
    (ap (λ (us : List Word). AKeyword keyword.Cond ∷ us) (is0 ∙ ap (λ (us : List Word). AName x ∷ us) is1)) d

initial_more : (s : List Expected) (ws : List Word) → Stands (AnInitial ∷ s) ws → Stands (AfterGlobal ∷ s) (ASign sign.Assign ∷ ws)
initial_more s ws (r, i, is, d) = (r, (λ x. (Int x i, ap (λ (us : List Word). AKeyword keyword.Int ∷ AName x ∷ us) is)), d)

array_more : (s : List Expected) (ws : List Word) → Stands (AnyNumber ∷ Just sign.CloseBracket ∷ Just sign.Semicolon ∷ s) ws
    → Stands (AfterGlobal ∷ s) (ASign sign.OpenBracket ∷ ws)
array_more s ws (n, r0, is0, (r1, is1, (r2, is2, d))) = (
  r2,
  (λ x. (
    Array x n,
    ap (λ (us : List Word). AKeyword keyword.Int ∷ AName x ∷ ASign sign.OpenBracket ∷ us) (is0
        ∙ ap (λ (us : List Word). ANumber n ∷ us) (is1 ∙ ap (λ (us : List Word). ASign sign.CloseBracket ∷ us) is2)),
  )),
  d,
)

plain_more : (n : TreeNumber) (s : List Expected) (ws : List Word) → Stands (Just sign.Semicolon ∷ s) ws → Stands (AnInitial ∷ s) (ANumber n ∷ ws)
plain_more n s ws (r, is, d) = (r, Plain n, ap (λ (us : List Word). ASign sign.Assign ∷ ANumber n ∷ us) is, d)

negated_more : (s : List Expected) (ws : List Word) → Stands (AnyNumber ∷ Just sign.Semicolon ∷ s) ws → Stands (AnInitial ∷ s) (ASign sign.Minus ∷ ws)
negated_more s ws (n, r0, is0, (r1, is1, d)) = (
  r1,
  Negated n,
  ap (λ (us : List Word). ASign sign.Assign ∷ ASign sign.Minus ∷ us) (is0
      ∙ ap (λ (us : List Word). ANumber n ∷ us) is1),
  d,
)

-- ---- any word

just_more : (k t : AnySign) (b : Bool) → nat_eq (sign_code k) (sign_code t) ≡ b → (s : List Expected) (ws : List Word) → StandsThen (same b) s ws
    → Stands (Just k ∷ s) (ASign t ∷ ws)
just_more k t true e s ws d = (ws, ap (λ (u : AnySign). ASign u ∷ ws) (sym (same_code k t e)), d)
just_more k t false e s ws d = absurd d

operand_more : (w : Word) (s : List Expected) (ws : List Word) → StandsThen (operand w) s ws → Stands (Operand ∷ s) (w ∷ ws)
operand_more (AName x) s ws d = variable_more x s ws d
operand_more (ANumber n) s ws d = (Number n, ws, tt, omega arith, refl, d)
operand_more (ASign sign.OpenParen) s ws d = paren_more s ws d
operand_more (ASign sign.Minus) s ws d = unary_more Neg s ws d
operand_more (ASign sign.Bang) s ws d = unary_more Not s ws d
operand_more (ASign sign.Tilde) s ws d = unary_more Inv s ws d
operand_more _ s ws d = absurd d

-- what follows an operand's first word
followed_operand : (o : Option (List Expected)) (more s : List Expected) (ws : List Word) → StandsThen (followed o more) s ws → StandsThen o (more ++ s) ws
followed_operand None more s ws d = d
followed_operand (Some es) more s ws d = subst (λ (z : List Expected). Stands z ws) (append_assoc es more s) d

infix_more : (w : Word) (o : Option Operator) → infix_of w ≡ o → (s : List Expected) (ws : List Word) → StandsThen (more_operators o) s ws
    → Stands (Operators ∷ s) (w ∷ ws)
infix_more w None e s ws d = absurd d
infix_more w (Some op) e s ws d = subst (λ (v : Word). Stands (Operators ∷ s) (v ∷ ws)) (sym (infix_is w op e)) (operator_more op s ws d)

statement_more : (w : Word) (s : List Expected) (ws : List Word) → StandsThen (statement w) (Statements ∷ s) ws → Stands (Statements ∷ s) (w ∷ ws)
statement_more (AName x) s ws d = name_more x s ws d
statement_more (AnIf p) s ws d = if_more p s ws d
statement_more (AWhile p) s ws d = while_more p s ws d
statement_more (AnAction a p) s ws d = verb_more a p s ws d
statement_more (AWait p) s ws d = wait_more p s ws d
statement_more (ABarrier b p) s ws d = barrier_more b p s ws d
statement_more (AnAssert p) s ws d = assert_more p s ws d
statement_more _ s ws d = absurd d

-- a value other than `create`, `swap` or `cas`
assigned_more : (w : Word) (s : List Expected) (ws : List Word) → StandsThen (followed (operand w) (Operators ∷ Just sign.Semicolon ∷ [])) s ws
    → Stands (AfterAssign ∷ s) (w ∷ ws)
assigned_more w s ws d = value_more s (w ∷ ws) (operand_more w (Operators ∷ Just sign.Semicolon ∷ s) ws
    (followed_operand (operand w) (Operators ∷ Just sign.Semicolon ∷ []) s ws d))

-- if a word begins what is expected, it fits there together with words that fit after it
pub first_more : (x : Expected) (w : Word) (s : List Expected) (ws : List Word) → StandsThen (first x w) s ws → Stands (x ∷ s) (w ∷ ws)
first_more (Just k) (ASign t) s ws d = just_more k t (nat_eq (sign_code k) (sign_code t)) refl s ws d
first_more (Just k) _ s ws d = absurd d
first_more End (AnEnd p) s ws d = (p, ws, refl, d)
first_more End _ s ws d = absurd d
first_more AnyName (AName x) s ws d = (x, ws, refl, d)
first_more AnyName _ s ws d = absurd d
first_more AnyNumber (ANumber n) s ws d = (n, ws, refl, d)
first_more AnyNumber _ s ws d = absurd d
first_more AnInt (AKeyword keyword.Int) s ws d = (ws, refl, d)
first_more AnInt _ s ws d = absurd d
first_more Operand w s ws d = operand_more w s ws d
first_more Subscript (ASign sign.OpenBracket) s ws d = subscript_more s ws d
first_more Subscript _ s ws d = absurd d
first_more Operators w s ws d = infix_more w (infix_of w) refl s ws d
first_more Arguments w s ws d = argument_more s (w ∷ ws)
    (operand_more w (Operators ∷ Others ∷ s) ws (followed_operand (operand w) (Operators ∷ Others ∷ []) s ws d))
first_more Others (ASign sign.Comma) s ws d = comma_more s ws d
first_more Others _ s ws d = absurd d
first_more Statements w s ws d = statement_more w s ws (followed_operand (statement w) (Statements ∷ []) s ws d)
first_more AfterName (ASign sign.Assign) s ws d = assign_more s ws d
first_more AfterName (ASign sign.OpenBracket) s ws d = store_more s ws d
first_more AfterName _ s ws d = absurd d
first_more AfterAssign (AKeyword keyword.Create) s ws d = create_more s ws d
first_more AfterAssign (AnUpdate kind.Swap target.Cell) s ws d = update_more kind.Swap target.Cell s ws d
first_more AfterAssign (AnUpdate kind.Swap target.Element) s ws d = update_more kind.Swap target.Element s ws d
first_more AfterAssign (AnUpdate kind.Cas target.Cell) s ws d = update_more kind.Cas target.Cell s ws d
first_more AfterAssign (AnUpdate kind.Cas target.Element) s ws d = update_more kind.Cas target.Element s ws d
first_more AfterAssign (AnUpdate kind.Add target.Cell) s ws d = update_more kind.Add target.Cell s ws d
first_more AfterAssign (AnUpdate kind.Add target.Element) s ws d = update_more kind.Add target.Element s ws d
first_more AfterAssign w s ws d = assigned_more w s ws d
first_more Alternative (AKeyword keyword.Else) s ws d = d
first_more Alternative _ s ws d = absurd d
first_more AfterElse (ASign sign.OpenBrace) s ws d = else_more s ws d
first_more AfterElse (AnIf p) s ws d = else_if_more p s ws d
first_more AfterElse _ s ws d = absurd d
first_more Locals (AKeyword keyword.Int) s ws d = int_more s ws d
first_more Locals (AKeyword keyword.Tid) s ws d = handle_more s ws d
first_more Locals _ s ws d = absurd d
first_more Parameters (AKeyword keyword.Int) s ws d = parameter_more s ws d
first_more Parameters _ s ws d = absurd d
first_more OtherParameters (ASign sign.Comma) s ws d = other_parameter_more s ws d
first_more OtherParameters _ s ws d = absurd d
first_more Globals (AKeyword keyword.Int) s ws d = global_more s ws d
first_more Globals (AKeyword keyword.Mutex) s ws d = mutex_more s ws d
first_more Globals (AKeyword keyword.Cond) s ws d = condition_more s ws d
first_more Globals (AKeyword keyword.Thread) s ws d = no_globals s (AKeyword keyword.Thread ∷ ws) (thread_more s ws d)
first_more Globals (AKeyword keyword.Main) s ws d = no_globals s (AKeyword keyword.Main ∷ ws) (main_more s ws d)
first_more Globals _ s ws d = absurd d
first_more Threads (AKeyword keyword.Thread) s ws d = thread_more s ws d
first_more Threads (AKeyword keyword.Main) s ws d = main_more s ws d
first_more Threads _ s ws d = absurd d
first_more AfterGlobal (ASign sign.Semicolon) s ws d = (ws, (λ x. (Int x Zero, refl)), d)
first_more AfterGlobal (ASign sign.Assign) s ws d = initial_more s ws d
first_more AfterGlobal (ASign sign.OpenBracket) s ws d = array_more s ws d
first_more AfterGlobal _ s ws d = absurd d
first_more AnInitial (ASign sign.Minus) s ws d = negated_more s ws d
first_more AnInitial (ANumber n) s ws d = plain_more n s ws d
first_more AnInitial _ s ws d = absurd d

-- words fit with something more expected before them if it may be skipped
pub skip_more : (x : Expected) (s : List Expected) (ws : List Word) → skips x ≡ true → Stands s ws → Stands (x ∷ s) ws
skip_more Subscript s ws h d = (ws, (λ x. (Variable x, tt, omega arith, refl)), d)
skip_more Operators s ws h d = (ws, (λ f g. (f, g, refl)), d)
skip_more Arguments s ws h d = ([], ws, tt, refl, d)
skip_more Others s ws h d = ([], ws, tt, refl, d)
skip_more Statements s ws h d = (Nil, ws, tt, refl, d)
skip_more Alternative s ws h d = (Nothing, ws, tt, refl, d)
skip_more Locals s ws h d = ([], ws, refl, d)
skip_more Parameters s ws h d = ([], ws, refl, d)
skip_more OtherParameters s ws h d = ([], ws, refl, d)
skip_more (Just k) s ws h d = absurd cc
skip_more _ s ws h d = absurd cc
