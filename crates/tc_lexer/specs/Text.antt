-- The tokens of a text, and the fault of a text that has none.
use Rattle.std.specs.Prelude.{◌≡◌, ℕ, ◌+◌, ◌<◌, ◌≤◌, Bool, false, if◌then◌else◌, nat_eq, List, [], ◌∷◌, ◌++◌, length, take, slice_range, codes}
use Rattle.std.specs.List.{starts_with}
use Rattle.tc_lexer.specs.declared.place.Place.{Place}
use Rattle.tc_lexer.specs.declared.token.TokenKind.{TokenKind}
use Rattle.tc_lexer.specs.declared.token.TokenKind.TheVariants as kind
use Rattle.tc_lexer.specs.declared.token.Token.{Token as SpannedToken}
use Rattle.tc_lexer.specs.declared.fault.LexFault.{LexFault}
use Rattle.tc_lexer.specs.declared.fault.LexFault.TheVariants.{BadByte, Number, OpenComment}
use Rattle.tc_decimal.specs.Decimals.{is_digit}
use Rattle.tc_lexer.specs.Tokens.{PlainToken, spelling, IsToken, plain_token}
use Rattle.tc_lexer.specs.Tokens as plain
use Rattle.tc_lexer.specs.Pieces.{Piece, Token, written, Begins, ArePieces}
use Rattle.tc_lexer.specs.Places.{place_after}

abbrev pub kind_of : PlainToken → TokenKind
kind_of (plain.Name _) = kind.Name
kind_of (plain.Number n) = kind.Number n
kind_of (plain.Keyword k) = kind.Keyword k
kind_of (plain.Sign s) = kind.Sign s

-- a token, placed after the bytes `before`
abbrev pub token_after : List ℕ → PlainToken → SpannedToken
token_after before t =
    record {
      kind = kind_of t;
      start = length before;
      end = length before + length
          (spelling t);
      place = place_after before;
    }

-- the tokens among some pieces, placed after the bytes `before`
abbrev pub tokens_after : List ℕ → List Piece → List SpannedToken
tokens_after before [] = []
tokens_after before (Token t ∷ ps) = token_after before t ∷ tokens_after (before ++ spelling t) ps
tokens_after before (p ∷ ps) = tokens_after (before ++ written p) ps

-- the text is a sequence of pieces, and these are its tokens
pub record AreTokens (language : ℕ) (text : List ℕ) (tokens : List SpannedToken) : Type 0 where
  pub pieces : List Piece
  pub whole : ArePieces language text pieces []
  pub tokens_are : tokens ≡ tokens_after [] pieces

abbrev pub begins_with_digit : List ℕ → Bool
begins_with_digit [] = false
begins_with_digit (b ∷ _) = is_digit b

-- the fault of bytes that begin with no piece
abbrev pub fault_at : Place → List ℕ → LexFault
fault_at place bytes =
    if starts_with nat_eq bytes (codes "/*") then OpenComment place
    else (if begins_with_digit bytes then Number place else BadByte place)

-- the fault of a text: the first byte where no piece begins, and what is wrong there
pub record IsFault (language : ℕ) (text : List ℕ) (fault : LexFault) : Type 0 where
  pub before : List ℕ
  pub rest : List ℕ
  pub split : text ≡ before ++ rest
  pub pieces : List Piece
  pub read : ArePieces language text pieces rest
  pub more : 0 < length rest
  pub none : (p : Piece) (after : List ℕ) → Begins language rest p after → ⊥
  pub fault_is : fault ≡ fault_at (place_after before) rest

-- the token has its spelling at its span of the text, and the place of that span
pub record IsSpan (language : ℕ) (text : List ℕ) (t : SpannedToken) : Type 0 where
  pub some : t.start < t.end
  pub within : t.end ≤ length text
  pub token : IsToken language (plain_token text t)
  pub spelled : slice_range text t.start t.end ≡ spelling (plain_token text t)
  pub place_is : t.place ≡ place_after (take t.start text)
