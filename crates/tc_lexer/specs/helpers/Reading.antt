-- Helpers, in no public contract: how the lexer finds the piece at the front of a text.
use Rattle.std.specs.Prelude.{ℕ, ℤ, pos, ◌+◌, ◌&&◌, not, nat_le, nat_eq, if◌then◌else◌, List, [], ◌∷◌, length, Option, None}
use Rattle.std.specs.Prelude.{Some, option_map, bytes_eq, codes, drop}
use Rattle.std.specs.List.{find, starts_with, take_while}
use Rattle.tc_decimal.specs.Decimals.{number_of}
use Rattle.tc_lexer.specs.declared.place.Place.{Place}
use Rattle.tc_lexer.specs.declared.token.Keyword.{Keyword}
use Rattle.tc_lexer.specs.declared.token.Keyword.TheVariants.{Int, Mutex, Cond, Thread, Main, Tid, If, Else, While, Create, Join, Lock, Unlock, Wait, Signal}
use Rattle.tc_lexer.specs.declared.token.Keyword.TheVariants.{Broadcast, Fence, Assert, Swap, Cas, Stbar}
use Rattle.tc_lexer.specs.declared.token.Sign.{Sign}
use Rattle.tc_lexer.specs.declared.token.Sign.TheVariants.{OpenParen, CloseParen, OpenBracket, CloseBracket, OpenBrace, CloseBrace, Comma, Semicolon, Assign}
use Rattle.tc_lexer.specs.declared.token.Sign.TheVariants.{Plus, Minus, Star, Slash, Percent, Bang, Tilde, Less, LessEqual, Greater, GreaterEqual, EqualEqual}
use Rattle.tc_lexer.specs.declared.token.Sign.TheVariants.{BangEqual, ShiftLeft, ShiftRight, And, Caret, Or, AndAnd, OrOr}
use Rattle.tc_lexer.specs.declared.token.TokenKind.{TokenKind}
use Rattle.tc_lexer.specs.declared.piece.Piece.{Piece as Shape}
use Rattle.tc_lexer.specs.Tokens.{keyword_text, keyword_since, sign_text, sign_since, is_word, begins_with_letter, PlainToken}
use Rattle.tc_lexer.specs.Tokens as plain
use Rattle.tc_lexer.specs.Pieces.{Piece, Space, LineComment, BlockComment, Token, written, is_space, is_line_feed}
use Rattle.tc_lexer.specs.Text.{kind_of}

abbrev pub keywords : List Keyword
keywords =
    Int ∷ Mutex ∷ Cond ∷ Thread ∷ Main ∷ Tid ∷ If ∷ Else ∷ While ∷ Create ∷ Join ∷ Lock ∷ Unlock
    ∷ Wait ∷ Signal ∷ Broadcast ∷ Fence ∷ Assert ∷ Swap
    ∷ Cas ∷ Stbar ∷ []

-- all signs, those of two bytes first
abbrev pub signs : List Sign
signs = LessEqual ∷ GreaterEqual ∷ EqualEqual ∷ BangEqual ∷ ShiftLeft ∷ ShiftRight ∷ AndAnd ∷ OrOr
    ∷ OpenParen ∷ CloseParen ∷ OpenBracket ∷ CloseBracket
    ∷ OpenBrace ∷ CloseBrace ∷ Comma ∷ Semicolon ∷ Assign ∷ Plus ∷ Minus ∷ Star ∷ Slash ∷ Percent
    ∷ Bang ∷ Tilde ∷ Less ∷ Greater ∷ And ∷ Caret ∷ Or ∷ []

-- the keyword of the language with this spelling
abbrev pub keyword_of : ℕ → List ℕ → Option Keyword
keyword_of language word =
    find (λ k. bytes_eq (keyword_text k) word && nat_le (keyword_since k) language) keywords

-- the longest sign of the language at the front
abbrev pub sign_at : ℕ → List ℕ → Option Sign
sign_at language bytes =
    find (λ s. starts_with nat_eq bytes (sign_text s) && nat_le (sign_since s) language) signs

-- the number that a word writes, if it is an `int`
abbrev pub int_of : List ℕ → Option ℤ
int_of word = option_map pos (number_of 2147483647 word)

-- the keyword that a word is, or otherwise the name
abbrev pub keyword_or_name : Option Keyword → List ℕ → PlainToken
keyword_or_name (Some k) word = plain.Keyword k
keyword_or_name None word = plain.Name word

-- the token that a word spells, if any
abbrev pub word_token : ℕ → List ℕ → Option PlainToken
word_token language word =
    if begins_with_letter word
    then Some (keyword_or_name (keyword_of language word) word)
    else option_map plain.Number (int_of word)

-- the bytes before the first `*/`, if there is one
abbrev pub before_close : List ℕ → Option (List ℕ)
before_close [] = None
before_close (b ∷ bs) =
    if starts_with nat_eq (b ∷ bs) (codes "*/") then Some []
    else option_map (λ body. b ∷ body) (before_close bs)

-- the word at the front, if it is a token
abbrev pub word_piece : ℕ → List ℕ → Option Piece
word_piece language bytes = option_map Token (word_token language (take_while is_word bytes))

-- the piece at the front, if it is a comment or a sign
abbrev pub mark_piece : ℕ → List ℕ → Option Piece
mark_piece language bytes =
    if starts_with nat_eq bytes (codes "//")
    then Some (LineComment (take_while (λ b. not (is_line_feed b)) (drop 2 bytes)))
    else (if starts_with nat_eq bytes (codes "/*")
    then option_map BlockComment (before_close (drop 2 bytes))
    else option_map (λ s. Token (plain.Sign s)) (sign_at language bytes))

-- the piece at the front, if there is one
abbrev pub front : ℕ → List ℕ → Option Piece
front language [] = None
front language (b ∷ bs) =
    if is_space b
    then Some (Space b)
    else (if is_word b
    then word_piece language (b ∷ bs)
    else mark_piece language (b ∷ bs))

-- the kind of a piece that is a token
abbrev pub piece_kind : Piece → Option TokenKind
piece_kind (Token t) = Some (kind_of t)
piece_kind _ = None

abbrev pub shape_of : Piece → Shape
shape_of p = record { kind = piece_kind p; len = length (written p) }

-- the place after a byte, given the byte's own place
abbrev pub next_place : Place → ℕ → Place
next_place place b =
    if is_line_feed b then record { line = place.line + 1; col = 1 }
    else record { line = place.line; col = place.col + 1 }

-- the place after these bytes, given the place before them
abbrev pub place_from : Place → List ℕ → Place
place_from place [] = place
place_from place (b ∷ bs) = place_from (next_place place b) bs
