-- What is expected can always be completed with words of language 1.
use Rattle.std.proofs.Common.{◌≡◌, ◌≤◌, Bool, true, false, List, [], ◌∷◌, ◌++◌, Option, Some, None, refl, ◌∙◌}
use Rattle.std.specs.Prelude.{nat_le, nat_eq}
use Rattle.std.specs.List.{list_all}
use Rattle.std.specs.Option.{option_map_or}
use Rattle.std.proofs.lemmas.Bool.{and_parts, and_from, leb-true}
use Rattle.std.proofs.lemmas.List.Folds.{list_all-append}
use Rattle.tc_lexer.specs.Tokens.{sign_since}
use Rattle.tc_lexer.specs.declared.token.Keyword.TheVariants as keyword
use Rattle.tc_lexer.specs.declared.token.Sign.{Sign}
use Rattle.tc_lexer.specs.declared.token.Sign.TheVariants as sign
use Rattle.tc_tree.specs.declared.expression.Operator.{Operator}
use Rattle.tc_tree.specs.declared.statement.Target.TheVariants as target
use Rattle.tc_tree.specs.declared.statement.UpdateKind.TheVariants as kind
use Rattle.tc_tree.specs.declared.word.Word.{Word}
use Rattle.tc_tree.specs.declared.word.Word.TheVariants.{
  Name as AName,
  Number as ANumber,
  If as AnIf,
  While as AWhile,
  Action as AnAction,
  Wait as AWait,
  Barrier as ABarrier,
  Assert as AnAssert,
  Update as AnUpdate,
  Keyword as AKeyword,
  Sign as ASign,
  End as AnEnd,
}
use Rattle.tc_syntax.specs.helpers.Reading.{
  Expected,
  Just,
  End,
  AnyName,
  AnyNumber,
  AnInt,
  Operand,
  Subscript,
  Operators,
  Arguments,
  Others,
  Statements,
  AfterName,
  AfterAssign,
  Alternative,
  AfterElse,
  Locals,
  Parameters,
  OtherParameters,
  Globals,
  Threads,
  AfterGlobal,
  Initial,
  infix_of,
  operand,
  statement,
  followed,
  more_operators,
  same,
  first,
  skips,
  sign_code,
  step,
}

abbrev pub is_early : Expected → Bool
is_early (Just k) = nat_le (sign_since k) 1
is_early _ = true

abbrev pub are_early : List Expected → Bool
are_early s = list_all is_early s

abbrev pub early_after : Option (List Expected) → Bool
early_after o = option_map_or are_early o true

early_append : (es s : List Expected) → are_early es ≡ true → are_early s ≡ true → are_early (es ++ s) ≡ true
early_append es s f g = list_all-append is_early es s ∙ and_from (are_early es) (are_early s) f g

pub early_rest : (x : Expected) (s : List Expected) → are_early (x ∷ s) ≡ true → are_early s ≡ true
early_rest x s h = (and_parts (is_early x) (are_early s) h).1

pub early_sign : (k : Sign) (s : List Expected) → are_early (Just k ∷ s) ≡ true → sign_since k ≤ 1
early_sign k s h = leb-true _ _ (and_parts (is_early (Just k)) (are_early s) h).0

-- ---- what follows a word

same_early : (b : Bool) → early_after (same b) ≡ true
same_early true = refl
same_early false = refl

sign_early : (s : Sign) → early_after (operand (ASign s)) ≡ true
sign_early sign.OpenParen = refl
sign_early sign.Minus = refl
sign_early sign.Bang = refl
sign_early sign.Tilde = refl
sign_early _ = refl

operand_early : (w : Word) → early_after (operand w) ≡ true
operand_early (ASign s) = sign_early s
operand_early _ = refl

statement_early : (w : Word) → early_after (statement w) ≡ true
statement_early (AName x) = refl
statement_early (AnIf p) = refl
statement_early (AWhile p) = refl
statement_early (AnAction a p) = refl
statement_early (AWait p) = refl
statement_early (ABarrier b p) = refl
statement_early (AnAssert p) = refl
statement_early _ = refl

followed_early : (o : Option (List Expected)) (more : List Expected) → early_after o ≡ true → are_early more ≡ true → early_after (followed o more) ≡ true
followed_early None more f g = refl
followed_early (Some es) more f g = early_append es more f g

operators_early : (o : Option Operator) → early_after (more_operators o) ≡ true
operators_early None = refl
operators_early (Some op) = refl

first_early : (x : Expected) (w : Word) → early_after (first x w) ≡ true
first_early (Just k) (ASign s) = same_early (nat_eq (sign_code k) (sign_code s))
first_early (Just k) _ = refl
first_early End (AnEnd p) = refl
first_early End _ = refl
first_early AnyName (AName x) = refl
first_early AnyName _ = refl
first_early AnyNumber (ANumber n) = refl
first_early AnyNumber _ = refl
first_early AnInt (AKeyword keyword.Int) = refl
first_early AnInt _ = refl
first_early Operand w = operand_early w
first_early Subscript (ASign sign.OpenBracket) = refl
first_early Subscript _ = refl
first_early Operators w = operators_early (infix_of w)
first_early Arguments w = followed_early (operand w) (Operators ∷ Others ∷ []) (operand_early w) refl
first_early Others (ASign sign.Comma) = refl
first_early Others _ = refl
first_early Statements w = followed_early (statement w) (Statements ∷ []) (statement_early w) refl
first_early AfterName (ASign sign.Assign) = refl
first_early AfterName (ASign sign.OpenBracket) = refl
first_early AfterName _ = refl
first_early AfterAssign (AKeyword keyword.Create) = refl
first_early AfterAssign (AnUpdate kind.Swap target.Cell) = refl
first_early AfterAssign (AnUpdate kind.Swap target.Element) = refl
first_early AfterAssign (AnUpdate kind.Cas target.Cell) = refl
first_early AfterAssign (AnUpdate kind.Cas target.Element) = refl
first_early AfterAssign (AnUpdate kind.Add target.Cell) = refl
first_early AfterAssign (AnUpdate kind.Add target.Element) = refl
first_early AfterAssign (AKeyword _) = refl
first_early AfterAssign (ASign s) = followed_early (operand (ASign s)) (Operators ∷ Just sign.Semicolon ∷ []) (sign_early s) refl
first_early AfterAssign _ = refl
first_early Alternative (AKeyword keyword.Else) = refl
first_early Alternative _ = refl
first_early AfterElse (ASign sign.OpenBrace) = refl
first_early AfterElse (AnIf p) = refl
first_early AfterElse _ = refl
first_early Locals (AKeyword keyword.Int) = refl
first_early Locals (AKeyword keyword.Tid) = refl
first_early Locals _ = refl
first_early Parameters (AKeyword keyword.Int) = refl
first_early Parameters _ = refl
first_early OtherParameters (ASign sign.Comma) = refl
first_early OtherParameters _ = refl
first_early Globals (AKeyword keyword.Int) = refl
first_early Globals (AKeyword keyword.Mutex) = refl
first_early Globals (AKeyword keyword.Cond) = refl
first_early Globals (AKeyword keyword.Thread) = refl
first_early Globals (AKeyword keyword.Main) = refl
first_early Globals _ = refl
first_early Threads (AKeyword keyword.Thread) = refl
first_early Threads (AKeyword keyword.Main) = refl
first_early Threads _ = refl
first_early AfterGlobal (ASign sign.Semicolon) = refl
first_early AfterGlobal (ASign sign.Assign) = refl
first_early AfterGlobal (ASign sign.OpenBracket) = refl
first_early AfterGlobal _ = refl
first_early Initial (ASign sign.Minus) = refl
first_early Initial (ANumber n) = refl
first_early Initial _ = refl

step_by : (s : List Expected) (w : Word) (o : Option (List Expected)) (b : Bool) → early_after o ≡ true → are_early s ≡ true → early_after (step s w) ≡ true
    → early_after (elim o [ Some es ↦ Some (es ++ s) | None ↦ elim b [ true ↦ step s w | false ↦ None ] ]) ≡ true
step_by s w (Some es) b f g h = early_append es s f g
step_by s w None true f g h = h
step_by s w None false f g h = refl

pub step_early : (s : List Expected) (w : Word) → are_early s ≡ true → early_after (step s w) ≡ true
step_early [] w h = refl
step_early (x ∷ s) w h =
    let later = early_rest x s h in
    step_by s w (first x w) (skips x) (first_early x w) later (step_early s w later)
