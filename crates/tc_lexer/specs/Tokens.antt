-- Tokens as the grammar sees them, without their places, and how they are spelled.
-- Languages are numbered: 2 adds the signs `/ % << >>`, and 3 the keywords `swap cas stbar`.
-- Language 4 has the tokens of 3.
use Rattle.std.specs.Prelude.{◌≡◌, ℕ, ℤ, pos, negsuc, ◌^◌, ◌<◌, ◌≤◌, Bool, false, ◌&&◌, ◌||◌, ◌==◌, nat_le, IsTrue, List, [], ◌∷◌, map, slice_range, codes}
use Rattle.std.specs.List.{list_all}
use Rattle.std.specs.Fmt.{decimal}
use Rattle.tc_decimal.specs.Decimals.{is_digit}
use Rattle.tc_lexer.specs.declared.token.Keyword.{Keyword as AnyKeyword}
use Rattle.tc_lexer.specs.declared.token.Keyword.TheVariants.{Int, Mutex, Cond, Thread, Main, Tid, If, Else, While, Create, Join, Lock, Unlock, Wait, Signal}
use Rattle.tc_lexer.specs.declared.token.Keyword.TheVariants.{Broadcast, Fence, Assert, Swap, Cas, Stbar}
use Rattle.tc_lexer.specs.declared.token.Sign.{Sign as AnySign}
use Rattle.tc_lexer.specs.declared.token.Sign.TheVariants.{OpenParen, CloseParen, OpenBracket, CloseBracket, OpenBrace, CloseBrace, Comma, Semicolon, Assign}
use Rattle.tc_lexer.specs.declared.token.Sign.TheVariants.{Plus, Minus, Star, Slash, Percent, Bang, Tilde, Less, LessEqual, Greater, GreaterEqual, EqualEqual}
use Rattle.tc_lexer.specs.declared.token.Sign.TheVariants.{BangEqual, ShiftLeft, ShiftRight, And, Caret, Or, AndAnd, OrOr}
use Rattle.tc_lexer.specs.declared.token.TokenKind.{TokenKind}
use Rattle.tc_lexer.specs.declared.token.TokenKind.TheVariants as kind
use Rattle.tc_lexer.specs.declared.token.Token.{Token}

pub data PlainToken : Type 0 where
  Name : (text : List ℕ) → PlainToken
  Number : (value : ℤ) → PlainToken
  Keyword : (keyword : AnyKeyword) → PlainToken
  Sign : (sign : AnySign) → PlainToken

-- the token of this kind that these bytes spell
abbrev pub plain_kind : List ℕ → TokenKind → PlainToken
plain_kind text kind.Name = Name text
plain_kind text (kind.Number n) = Number n
plain_kind text (kind.Keyword k) = Keyword k
plain_kind text (kind.Sign s) = Sign s

-- a token of a text without its place
abbrev pub plain_token : List ℕ → Token → PlainToken
plain_token source t = plain_kind (slice_range source t.start t.end) t.kind

abbrev pub plain_tokens : List ℕ → List Token → List PlainToken
plain_tokens source ts = map (plain_token source) ts

-- A to Z, a to z, or `_`
abbrev pub is_letter : ℕ → Bool
is_letter b = (nat_le 65 b && nat_le b 90) || (nat_le 97 b && nat_le b 122) || b == 95

-- a byte of a name, a keyword or a number
abbrev pub is_word : ℕ → Bool
is_word b = is_letter b || is_digit b

abbrev pub begins_with_letter : List ℕ → Bool
begins_with_letter [] = false
begins_with_letter (b ∷ _) = is_letter b

abbrev pub keyword_text : AnyKeyword → List ℕ
keyword_text Int = codes "int"
keyword_text Mutex = codes "mutex"
keyword_text Cond = codes "cond"
keyword_text Thread = codes "thread"
keyword_text Main = codes "main"
keyword_text Tid = codes "tid"
keyword_text If = codes "if"
keyword_text Else = codes "else"
keyword_text While = codes "while"
keyword_text Create = codes "create"
keyword_text Join = codes "join"
keyword_text Lock = codes "lock"
keyword_text Unlock = codes "unlock"
keyword_text Wait = codes "wait"
keyword_text Signal = codes "signal"
keyword_text Broadcast = codes "broadcast"
keyword_text Fence = codes "fence"
keyword_text Assert = codes "assert"
keyword_text Swap = codes "swap"
keyword_text Cas = codes "cas"
keyword_text Stbar = codes "stbar"

-- the first language that has the keyword
abbrev pub keyword_since : AnyKeyword → ℕ
keyword_since Swap = 3
keyword_since Cas = 3
keyword_since Stbar = 3
keyword_since _ = 1

abbrev pub sign_text : AnySign → List ℕ
sign_text OpenParen = codes "("
sign_text CloseParen = codes ")"
sign_text OpenBracket = codes "["
sign_text CloseBracket = codes "]"
sign_text OpenBrace = codes "{"
sign_text CloseBrace = codes "}"
sign_text Comma = codes ","
sign_text Semicolon = codes ";"
sign_text Assign = codes "="
sign_text Plus = codes "+"
sign_text Minus = codes "-"
sign_text Star = codes "*"
sign_text Slash = codes "/"
sign_text Percent = codes "%"
sign_text Bang = codes "!"
sign_text Tilde = codes "~"
sign_text Less = codes "<"
sign_text LessEqual = codes "<="
sign_text Greater = codes ">"
sign_text GreaterEqual = codes ">="
sign_text EqualEqual = codes "=="
sign_text BangEqual = codes "!="
sign_text ShiftLeft = codes "<<"
sign_text ShiftRight = codes ">>"
sign_text And = codes "&"
sign_text Caret = codes "^"
sign_text Or = codes "|"
sign_text AndAnd = codes "&&"
sign_text OrOr = codes "||"

-- the first language that has the sign
abbrev pub sign_since : AnySign → ℕ
sign_since Slash = 2
sign_since Percent = 2
sign_since ShiftLeft = 2
sign_since ShiftRight = 2
sign_since _ = 1

-- how a token is spelled; a number has no leading zero
abbrev pub spelling : PlainToken → List ℕ
spelling (Name word) = word
spelling (Number (pos n)) = decimal n
spelling (Number (negsuc _)) = []
spelling (Keyword k) = keyword_text k
spelling (Sign s) = sign_text s

-- a name: a letter, then letters and digits, and not a keyword of the language
pub record IsName (language : ℕ) (word : List ℕ) : Type 0 where
  pub letter : IsTrue (begins_with_letter word)
  pub all : IsTrue (list_all is_word word)
  pub no_keyword : (k : AnyKeyword) → keyword_since k ≤ language → keyword_text k ≡ word → ⊥

-- the tokens of a language: its names, keywords and signs, and the numbers that fit `int`
abbrev pub IsToken : ℕ → PlainToken → Type 0
IsToken language (Name word) = IsName language word
IsToken language (Number (pos n)) = n < 2 ^ 31
IsToken language (Number (negsuc _)) = ⊥
IsToken language (Keyword k) = keyword_since k ≤ language
IsToken language (Sign s) = sign_since s ≤ language

-- whether this byte, directly after a sign, turns it into another sign or a comment
abbrev pub sign_continues : ℕ → AnySign → ℕ → Bool
sign_continues language Assign b = b == 61
sign_continues language Bang b = b == 61
sign_continues language Less b = b == 61 || (b == 60 && nat_le 2 language)
sign_continues language Greater b = b == 61 || (b == 62 && nat_le 2 language)
sign_continues language And b = b == 38
sign_continues language Or b = b == 124
sign_continues language Slash b = b == 47 || b == 42
sign_continues language _ b = false

-- whether this byte, directly after a token, would extend or change the token
abbrev pub token_continues : ℕ → PlainToken → ℕ → Bool
token_continues language (Sign s) b = sign_continues language s b
token_continues language _ b = is_word b
