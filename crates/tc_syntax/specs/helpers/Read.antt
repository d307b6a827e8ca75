-- Helpers: the results of the readers.
use Rattle.std.specs.Prelude.{◌≡◌, ℕ, ◌<◌, ◌≤◌, List, [], ◌∷◌, ◌++◌, length, Option, Some, None, Bool, true, false}
use Rattle.tc_lexer.specs.declared.place.Place.{Place}
use Rattle.tc_lexer.specs.declared.token.Keyword.TheVariants.{Int, Mutex, Cond, Tid}
use Rattle.tc_lexer.specs.declared.token.Sign.TheVariants.{OpenParen, CloseParen, OpenBrace, Semicolon}
use Rattle.tc_tree.specs.declared.program.Initial.{Initial}
use Rattle.tc_tree.specs.Grammar.{Expression, expression_then, tightness, IsGrouped, Statement, statement_then, statements_then, IsWell, AreWell, Body, Thread, initial_then}
use Rattle.tc_tree.specs.declared.word.Word.TheVariants.{Sign as ASign, Keyword as AKeyword, End as AnEnd}
use Rattle.tc_tree.specs.declared.word.Word.{Word}
use Rattle.tc_tree.specs.Seen.{SeenBlock, SeenBranch}
use Rattle.tc_syntax.specs.declared.reader.Stop.{Stop}
use Rattle.tc_syntax.specs.declared.reader.Stop.TheVariants.{Memory, Left}
use Rattle.tc_syntax.specs.helpers.Reading.{Expected, Operand, Operators, Statements as MoreStatements, Globals, fault, next_level, statement}

-- if `es` and then anything is expected, the reader stopped at the first unexpected word
abbrev pub Stops : List Expected → List Word → Stop → Type 0
Stops es ws Memory = Unit {0}
Stops es ws (Left n) = (s : List Expected) → fault (Some (es ++ s)) ws ≡ Some n

-- if `es` and then anything is expected at `ws`, that anything is expected at `rest`
abbrev pub Moves : List Expected → List Word → List Word → Type 0
Moves es ws rest = (s : List Expected) → fault (Some (es ++ s)) ws ≡ fault (Some s) rest

-- the reader stopped at the first unexpected word of a program
abbrev pub Ends : List Word → Stop → Type 0
Ends ws Memory = Unit {0}
Ends ws (Left n) = fault (Some (Globals ∷ [])) ws ≡ Some n

-- a reader of `es` found a: `front` and the words up to `rest` spell it
pub record IsRead {A : Type 0} (spell : A → List Word → List Word) (IsGood : A → Type 0)
    (front : List Word) (es : List Expected) (ws : List Word)
    (a : A) (rest : List Word) : Type 0 where
  pub spelled : front ++ ws ≡ spell a rest
  pub good : IsGood a
  pub moves : Moves es ws rest
  pub shorter : length rest ≤ length ws

-- the longest expression whose operators bind at least this tightly
pub record IsTight (least : ℕ) (ws : List Word) (e : Expression) (rest : List Word) : Type 0 where
  pub spelled : ws ≡ expression_then e rest
  pub grouped : IsGrouped e
  pub tight : least ≤ tightness e
  pub longest : next_level rest < least
  pub moves : (s : List Expected)
      → fault (Some (Operand ∷ Operators ∷ s)) ws ≡ fault (Some (Operators ∷ s)) rest
  pub shorter : length rest < length ws

-- an operand: `front` and the words up to `rest` spell it
pub record IsOperand (front : List Word) (es : List Expected) (ws : List Word) (e : Expression)
    (rest : List Word) : Type 0 where
  pub spelled : front ++ ws ≡ expression_then e rest
  pub grouped : IsGrouped e
  pub tight : 11 ≤ tightness e
  pub moves : Moves es ws rest
  pub shorter : length rest < length (front ++ ws)

-- whether an option has a value
abbrev pub is_some : {A : Type 0} → Option A → Bool
is_some (Some a) = true
is_some None = false

abbrev pub begins_statement : List Word → Bool
begins_statement [] = false
begins_statement (w ∷ ws) = is_some (statement w)

-- ---- statements

-- a statement that the words begin with
pub record IsStatement (ws : List Word) (a : Statement) (rest : List Word) : Type 0 where
  pub spelled : ws ≡ statement_then a rest
  pub good : IsWell a
  pub moves : (s : List Expected)
      → fault (Some (MoreStatements ∷ s)) ws ≡ fault (Some (MoreStatements ∷ s)) rest
  pub shorter : length rest < length ws

abbrev pub block_then : SeenBlock → List Word → List Word
block_then b rest = ASign OpenBrace ∷ statements_then b.statements (AnEnd b.end ∷ rest)

abbrev pub IsWellBlock : SeenBlock → Type 0
IsWellBlock b = AreWell b.statements

abbrev pub branch_then : SeenBranch → List Word → List Word
branch_then b rest =
    ASign OpenParen ∷ expression_then b.condition (ASign CloseParen ∷ block_then b.body rest)

abbrev pub IsWellBranch : Place → SeenBranch → Type 0
IsWellBranch place b = (b.place ≡ place) × IsGrouped b.condition × AreWell b.body.statements

-- ---- programs

abbrev pub IsAny : {A : Type 0} → A → Type 0
IsAny a = Unit {0}

-- what a reader found while `before` was expected; afterwards, `after` is
pub record IsPassed {A : Type 0} (spell : A → List Word → List Word) (IsGood : A → Type 0)
    (before after : Expected) (ws : List Word) (a : A)
    (rest : List Word) : Type 0 where
  pub spelled : ws ≡ spell a rest
  pub good : IsGood a
  pub moves : (s : List Expected) → fault (Some (before ∷ s)) ws ≡ fault (Some (after ∷ s)) rest
  pub shorter : length rest ≤ length ws

abbrev pub begins_global : List Word → Bool
begins_global (AKeyword Int ∷ ws) = true
begins_global (AKeyword Mutex ∷ ws) = true
begins_global (AKeyword Cond ∷ ws) = true
begins_global _ = false

abbrev pub begins_local : List Word → Bool
begins_local (AKeyword Int ∷ ws) = true
begins_local (AKeyword Tid ∷ ws) = true
begins_local _ = false

abbrev pub IsWellBody : Body → Type 0
IsWellBody b = AreWell b.statements

abbrev pub IsWellThread : Thread → Type 0
IsWellThread t = AreWell t.body.statements

-- an initial value and its semicolon
abbrev pub initial_ends : Initial → List Word → List Word
initial_ends i rest = initial_then i (ASign Semicolon ∷ rest)
