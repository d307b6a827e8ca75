-- Tokens as the grammar sees them.
use Rattle.std.specs.Prelude.{ℕ, List, [], ◌∷◌, map, Bool, true, false, ◌&&◌, if◌then◌else◌, nat_le, bytes_eq, slice_range, codes}
use Rattle.tc_lexer.specs.declared.place.Place.{Place}
use Rattle.tc_lexer.specs.declared.token.Keyword.{Keyword as AnyKeyword}
use Rattle.tc_lexer.specs.declared.token.Keyword.TheVariants as keyword
use Rattle.tc_lexer.specs.declared.token.Sign.{Sign as AnySign}
use Rattle.tc_lexer.specs.declared.token.Sign.TheVariants as sign
use Rattle.tc_lexer.specs.declared.token.Token.{Token}
use Rattle.tc_lexer.specs.declared.token.TokenKind.{TokenKind}
use Rattle.tc_lexer.specs.declared.token.TokenKind.TheVariants as kind
use Rattle.tc_lexer.specs.Tokens.{keyword_since, sign_since}
use Rattle.tc_tree.specs.declared.statement.Action.TheVariants.{Join, Lock, Unlock, Signal, Broadcast}
use Rattle.tc_tree.specs.declared.statement.Barrier.TheVariants.{Fence, Stores}
use Rattle.tc_tree.specs.declared.statement.UpdateKind.TheVariants.{Swap, Cas, Add}
use Rattle.tc_tree.specs.declared.statement.UpdateKind.{UpdateKind}
use Rattle.tc_tree.specs.declared.statement.Target.TheVariants.{Cell, Element}
use Rattle.tc_tree.specs.declared.statement.Target.{Target}
use Rattle.tc_tree.specs.declared.expression.Name.{Name}
use Rattle.tc_tree.specs.declared.word.Word.{Word}
use Rattle.tc_tree.specs.declared.word.Word.TheVariants.{
  Name as AName,
  Number as ANumber,
  If as AnIf,
  While as AWhile,
  Action as AnAction,
  Wait as AWait,
  Barrier as ABarrier,
  Assert as AnAssert,
  Update as AnUpdate,
  Keyword as AKeyword,
  Sign as ASign,
  End as AnEnd,
}

-- a keyword as a word; it keeps its place if it begins a statement
abbrev pub keyword_word : AnyKeyword → Place → Word
keyword_word keyword.If p = AnIf p
keyword_word keyword.While p = AWhile p
keyword_word keyword.Join p = AnAction Join p
keyword_word keyword.Lock p = AnAction Lock p
keyword_word keyword.Unlock p = AnAction Unlock p
keyword_word keyword.Signal p = AnAction Signal p
keyword_word keyword.Broadcast p = AnAction Broadcast p
keyword_word keyword.Wait p = AWait p
keyword_word keyword.Fence p = ABarrier Fence p
keyword_word keyword.Stbar p = ABarrier Stores p
keyword_word keyword.Assert p = AnAssert p
keyword_word keyword.Swap p = AnUpdate Swap Cell
keyword_word keyword.Cas p = AnUpdate Cas Cell
keyword_word k p = AKeyword k

abbrev pub sign_word : AnySign → Place → Word
sign_word sign.CloseBrace p = AnEnd p
sign_word s p = ASign s

-- the word of a token with this kind, span and place
abbrev pub kind_word : TokenKind → ℕ → ℕ → Place → Word
kind_word kind.Name start end p = AName (record { start = start; end = end; place = p })
kind_word (kind.Number n) start end p = ANumber (record { value = n; place = p })
kind_word (kind.Keyword k) start end p = keyword_word k p
kind_word (kind.Sign s) start end p = sign_word s p

abbrev pub word_of : Token → Word
word_of t = kind_word t.kind t.start t.end t.place

-- ---- the words of language 4

abbrev pub is_name : Word → Bool
is_name (AName x) = true
is_name _ = false

abbrev pub is_assign : Word → Bool
is_assign (ASign sign.Assign) = true
is_assign _ = false

-- whether a name of the text is `add`
abbrev pub is_add : List ℕ → Name → Bool
is_add text x = bytes_eq (slice_range text x.start x.end) (codes "add")

-- whether the words begin with `(`
abbrev pub begin_call : List Word → Bool
begin_call (ASign sign.OpenParen ∷ ws) = true
begin_call _ = false

-- what an update before these words changes: an element if they begin with `( a [`
abbrev pub target_of : List Word → Target
target_of (w ∷ AName x ∷ ASign sign.OpenBracket ∷ ws) = Element
target_of _ = Cell

-- a word before `(` that is assigned to a name: an update has its target, and `add` is no name
abbrev pub called_word : List ℕ → Word → List Word → Word
called_word text (AName x) after =
    if is_add text x then AnUpdate Add (target_of after) else AName x
called_word text (AnUpdate k t) after = AnUpdate k (target_of after)
called_word text w after = w

-- a word before others; the two words before it are perhaps a name and `=`
abbrev pub word_after : List ℕ → Bool → Word → List Word → Word
word_after text assigned w after =
    if assigned && begin_call after then called_word text w after else w

-- the words of language 4; before them is perhaps a name, or a name and `=`
abbrev pub words_after : List ℕ → (named assigned : Bool) → List Word → List Word
words_after text named assigned [] = []
words_after text named assigned (w ∷ ws) =
    word_after text assigned w ws ∷ words_after text (is_name w) (is_assign w && named) ws

-- the tokens of a text, as the words of a language
abbrev pub words_of : ℕ → List ℕ → List Token → List Word
words_of language text ts =
    if nat_le 4 language then words_after text false false (map word_of ts) else map word_of ts

-- the first language that has the update
abbrev pub update_since : UpdateKind → Target → ℕ
update_since Add t = 4
update_since k Element = 4
update_since k Cell = 3

-- the first language that has the word
abbrev pub word_since : Word → ℕ
word_since (AKeyword k) = keyword_since k
word_since (ASign s) = sign_since s
word_since (ABarrier Stores p) = 3
word_since (AnUpdate k t) = update_since k t
word_since _ = 1
