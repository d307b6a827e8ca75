-- The grammar doesn't look at names, numbers and places: words of the same shape may be in the same places.
use Rattle.std.proofs.Common.{◌≡◌, ◌∙◌, ℕ, pos, Bool, true, List, [], ◌∷◌, Option, Some, None, is_some, refl, sym, ap}
use Rattle.tc_lexer.specs.declared.place.Place.{Place}
use Rattle.tc_lexer.specs.declared.token.Keyword.{Keyword}
use Rattle.tc_lexer.specs.declared.token.Keyword.TheVariants as keyword
use Rattle.tc_lexer.specs.declared.token.Sign.{Sign}
use Rattle.tc_lexer.specs.declared.token.Sign.TheVariants as sign
use Rattle.tc_lexer.specs.declared.token.TokenKind.{TokenKind}
use Rattle.tc_lexer.specs.declared.token.TokenKind.TheVariants as kind
use Rattle.tc_tree.specs.declared.word.Word.{Word}
use Rattle.tc_tree.specs.declared.word.Word.TheVariants.{
  Name as AName,
  Number as ANumber,
  If as AnIf,
  While as AWhile,
  Action as AnAction,
  Wait as AWait,
  Barrier as ABarrier,
  Assert as AnAssert,
  Update as AnUpdate,
  Keyword as AKeyword,
  Sign as ASign,
  End as AnEnd,
}
use Rattle.tc_tree.specs.Words.{keyword_word, sign_word, kind_word, word_of, is_name, begin_call, target_of, called_word}
use Rattle.tc_syntax.specs.helpers.Reading.{
  Expected,
  Just,
  End,
  AnyName,
  AnyNumber,
  AnInt,
  Operand,
  Subscript,
  Operators,
  Arguments,
  Others,
  Statements,
  AfterName,
  AfterAssign,
  Alternative,
  AfterElse,
  Locals,
  Parameters,
  OtherParameters,
  Globals,
  Threads,
  AfterGlobal,
  Initial,
  operand,
  statement,
  followed,
  first,
}
use Rattle.tc_parser.proofs.tc_grammar.Steps.{Fits, called_fits}
use Rattle.next_tokens.specs.Next.{sample}

abbrev a_place : Place
a_place = record { line = 1; col = 1 }

-- a word with the same shape
abbrev pub shape : Word → Word
shape (AName x) = AName (record { start = 0; end = 0; place = a_place })
shape (ANumber n) = ANumber (record { value = pos 0; place = a_place })
shape (AnIf p) = AnIf a_place
shape (AWhile p) = AWhile a_place
shape (AnAction a p) = AnAction a a_place
shape (AWait p) = AWait a_place
shape (ABarrier b p) = ABarrier b a_place
shape (AnAssert p) = AnAssert a_place
shape (AnEnd p) = AnEnd a_place
shape (AnUpdate k t) = AnUpdate k t
shape (AKeyword k) = AKeyword k
shape (ASign s) = ASign s

-- ---- words of the same shape

operand_shaped : (w : Word) → is_some (operand (shape w)) ≡ is_some (operand w)
operand_shaped (AName x) = refl
operand_shaped (ANumber n) = refl
operand_shaped (ASign s) = refl
operand_shaped _ = refl

statement_shaped : (w : Word) → is_some (statement (shape w)) ≡ is_some (statement w)
statement_shaped (AName x) = refl
statement_shaped (AnIf p) = refl
statement_shaped (AWhile p) = refl
statement_shaped (AnAction a p) = refl
statement_shaped (AWait p) = refl
statement_shaped (ABarrier b p) = refl
statement_shaped (AnAssert p) = refl
statement_shaped _ = refl

some_followed : (o : Option (List Expected)) (more : List Expected) → is_some (followed o more) ≡ is_some o
some_followed None more = refl
some_followed (Some es) more = refl

first_shaped : (x : Expected) (w : Word) → is_some (first x (shape w)) ≡ is_some (first x w)
first_shaped (Just k) (ASign s) = refl
first_shaped (Just k) _ = refl
first_shaped End (AnEnd p) = refl
first_shaped End _ = refl
first_shaped AnyName (AName x) = refl
first_shaped AnyName _ = refl
first_shaped AnyNumber (ANumber n) = refl
first_shaped AnyNumber _ = refl
first_shaped AnInt (AKeyword k) = refl
first_shaped AnInt _ = refl
first_shaped Operand w = operand_shaped w
first_shaped Subscript (ASign s) = refl
first_shaped Subscript _ = refl
first_shaped Operators (ASign s) = refl
first_shaped Operators _ = refl
first_shaped Arguments w =
    some_followed (operand (shape w)) (Operators ∷ Others ∷ []) ∙ operand_shaped w ∙ sym (some_followed (operand w) (Operators ∷ Others ∷ []))
first_shaped Others (ASign s) = refl
first_shaped Others _ = refl
first_shaped Statements w =
    some_followed (statement (shape w)) (Statements ∷ []) ∙ statement_shaped w ∙ sym (some_followed (statement w) (Statements ∷ []))
first_shaped AfterName (ASign s) = refl
first_shaped AfterName _ = refl
first_shaped AfterAssign (AName x) = refl
first_shaped AfterAssign (ANumber n) = refl
first_shaped AfterAssign (AKeyword k) = refl
first_shaped AfterAssign (AnUpdate k t) = refl
first_shaped AfterAssign (ASign s) = refl
first_shaped AfterAssign _ = refl
first_shaped Alternative (AKeyword k) = refl
first_shaped Alternative _ = refl
first_shaped AfterElse (ASign s) = refl
first_shaped AfterElse (AnIf p) = refl
first_shaped AfterElse _ = refl
first_shaped Locals (AKeyword k) = refl
first_shaped Locals _ = refl
first_shaped Parameters (AKeyword k) = refl
first_shaped Parameters _ = refl
first_shaped OtherParameters (ASign s) = refl
first_shaped OtherParameters _ = refl
first_shaped Globals (AKeyword k) = refl
first_shaped Globals _ = refl
first_shaped Threads (AKeyword k) = refl
first_shaped Threads _ = refl
first_shaped AfterGlobal (ASign s) = refl
first_shaped AfterGlobal _ = refl
first_shaped Initial (ASign s) = refl
first_shaped Initial (ANumber n) = refl
first_shaped Initial _ = refl

pub fits_shape : (v w : Word) → shape v ≡ shape w → Fits v w
fits_shape v w same x h = sym (first_shaped x w) ∙ ap (λ (u : Word). is_some (first x u)) (sym same) ∙ first_shaped x v ∙ h

keyword_shape : (k : Keyword) (p : Place) → shape (keyword_word k p) ≡ shape (keyword_word k a_place)
keyword_shape keyword.If p = refl
keyword_shape keyword.While p = refl
keyword_shape keyword.Join p = refl
keyword_shape keyword.Lock p = refl
keyword_shape keyword.Unlock p = refl
keyword_shape keyword.Signal p = refl
keyword_shape keyword.Broadcast p = refl
keyword_shape keyword.Wait p = refl
keyword_shape keyword.Fence p = refl
keyword_shape keyword.Stbar p = refl
keyword_shape keyword.Assert p = refl
keyword_shape keyword.Swap p = refl
keyword_shape keyword.Cas p = refl
keyword_shape _ p = refl

sign_shape : (s : Sign) (p : Place) → shape (sign_word s p) ≡ shape (sign_word s a_place)
sign_shape sign.CloseBrace p = refl
sign_shape _ p = refl

-- tokens of one kind have words of one shape
pub kind_shape : (k : TokenKind) (start end : ℕ) (p : Place) → shape (kind_word k start end p) ≡ shape (word_of (sample k))
kind_shape kind.Name start end p = refl
kind_shape (kind.Number n) start end p = refl
kind_shape (kind.Keyword k) start end p = keyword_shape k p
kind_shape (kind.Sign s) start end p = sign_shape s p

call_shape : (w : Word) (xs ys : List Word) → begin_call (w ∷ xs) ≡ begin_call (shape w ∷ ys)
call_shape (ASign sign.OpenParen) xs ys = refl
call_shape (ASign _) xs ys = refl
call_shape _ xs ys = refl

pub call_same : (v w : Word) (xs ys : List Word) → shape v ≡ shape w → begin_call (v ∷ xs) ≡ begin_call (w ∷ ys)
call_same v w xs ys same = call_shape v xs [] ∙ ap (λ (u : Word). begin_call (u ∷ [])) same ∙ sym (call_shape w ys [])

third_shape : (a b w : Word) (xs ys : List Word) → target_of (a ∷ b ∷ w ∷ xs) ≡ target_of (a ∷ b ∷ shape w ∷ ys)
third_shape a (AName x) (ASign sign.OpenBracket) xs ys = refl
third_shape a (AName x) (ASign _) xs ys = refl
third_shape a (AName x) _ xs ys = refl
third_shape a _ w xs ys = refl

pub third_same : (a b v w : Word) (xs ys : List Word) → shape v ≡ shape w → target_of (a ∷ b ∷ v ∷ xs) ≡ target_of (a ∷ b ∷ w ∷ ys)
third_same a b v w xs ys same = third_shape a b v xs [] ∙ ap (λ (u : Word). target_of (a ∷ b ∷ u ∷ [])) same ∙ sym (third_shape a b w ys [])

name_shape : (w : Word) → is_name (shape w) ≡ is_name w
name_shape (AName x) = refl
name_shape _ = refl

pub name_same : (v w : Word) → shape v ≡ shape w → is_name v ≡ is_name w
name_same v w same = sym (name_shape v) ∙ ap is_name same ∙ name_shape w

-- a sample of a token's kind may be wherever the token's word may
pub sample_fits : (text : List ℕ) (k : TokenKind) (start end : ℕ) (p : Place) (more : List Word)
    → Fits (called_word text (kind_word k start end p) more) (word_of (sample k))
sample_fits text k start end p more = λ x h.
    fits_shape (kind_word k start end p) (word_of (sample k)) (kind_shape k start end p) x (called_fits text (kind_word k start end p) more x h)
