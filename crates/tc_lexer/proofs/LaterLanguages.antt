-- From language 3 on, all languages have the same tokens and the same faults of texts.
use Rattle.std.proofs.Common.{◌≡◌, ◌≤◌, ℕ, pos, negsuc, Bool, List, [], ◌∷◌, refl, sym, ap, arith}
use Rattle.std.specs.Prelude.{◌==◌, ◌&&◌, ◌||◌, nat_le}
use Rattle.tc_lexer.specs.declared.fault.LexFault.{LexFault}
use Rattle.tc_lexer.specs.declared.token.Keyword.{Keyword as AnyKeyword}
use Rattle.tc_lexer.specs.declared.token.Keyword.TheVariants.{Swap, Cas, Stbar}
use Rattle.tc_lexer.specs.declared.token.Sign.{Sign as AnySign}
use Rattle.tc_lexer.specs.declared.token.Sign.TheVariants.{Slash, Percent, Less, Greater, ShiftLeft, ShiftRight}
use Rattle.tc_lexer.specs.declared.token.Token.{Token as SpannedToken}
use Rattle.tc_lexer.specs.Tokens.{Name, Number, Keyword, Sign, keyword_since, sign_since, sign_continues}
use Rattle.tc_lexer.specs.Pieces.{Piece, Space, LineComment, BlockComment, Token, IsPiece, continues, Begins, ArePieces}
use Rattle.tc_lexer.specs.Text.{AreTokens, IsFault}
use Rattle.tc_lexer.proofs.NextLanguage.{ends_same}

-- ---- language 3 has all keywords and signs

pub keyword_small : (k : AnyKeyword) → keyword_since k ≤ 3
keyword_small Swap = omega arith
keyword_small Cas = omega arith
keyword_small Stbar = omega arith
keyword_small _ = omega arith

pub sign_small : (s : AnySign) → sign_since s ≤ 3
sign_small Slash = omega arith
sign_small Percent = omega arith
sign_small ShiftLeft = omega arith
sign_small ShiftRight = omega arith
sign_small _ = omega arith

-- ---- from one language to another

module _ (m n : ℕ) (old : 3 ≤ m) (new : 3 ≤ n) (shifts : nat_le 2 n ≡ nat_le 2 m) where
  piece_in : (p : Piece) → IsPiece m p → IsPiece n p
  piece_in (Space b) h = h
  piece_in (LineComment body) h = h
  piece_in (BlockComment body) h = h
  piece_in (Token (Name word)) h =
      record { letter = h.letter; all = h.all; no_keyword = λ k since. h.no_keyword k (omega (arith, old, keyword_small k)) }
  piece_in (Token (Number (pos i))) h = h
  piece_in (Token (Number (negsuc i))) h = h
  piece_in (Token (Keyword k)) h = omega (arith, new, keyword_small k)
  piece_in (Token (Sign s)) h = omega (arith, new, sign_small s)

  sign_in : (s : AnySign) (b : ℕ) → sign_continues n s b ≡ sign_continues m s b
  sign_in Less b = ap (λ (shift : Bool). b == 61 || (b == 60 && shift)) shifts
  sign_in Greater b = ap (λ (shift : Bool). b == 61 || (b == 62 && shift)) shifts
  sign_in _ b = refl

  continues_in : (p : Piece) (b : ℕ) → continues n p b ≡ continues m p b
  continues_in (Space c) b = refl
  continues_in (LineComment body) b = refl
  continues_in (BlockComment body) b = refl
  continues_in (Token (Name word)) b = refl
  continues_in (Token (Number i)) b = refl
  continues_in (Token (Keyword k)) b = refl
  continues_in (Token (Sign s)) b = sign_in s b

  begins_in : (bytes : List ℕ) (p : Piece) (rest : List ℕ) → Begins m bytes p rest → Begins n bytes p rest
  begins_in bytes p rest x =
      record { split = x.split; piece = piece_in p x.piece; ends = ends_same m n p (continues_in p) rest x.ends }

  pieces_in : (bytes : List ℕ) (ps : List Piece) (rest : List ℕ) → ArePieces m bytes ps rest → ArePieces n bytes ps rest
  pieces_in bytes [] rest x = x
  pieces_in bytes (p ∷ ps) rest x = (x.0, begins_in bytes p x.0 x.1, pieces_in x.0 ps rest x.2)

  pub tokens_in : (text : List ℕ) (ts : List SpannedToken) → AreTokens m text ts → AreTokens n text ts
  tokens_in text ts x = record { pieces = x.pieces; whole = pieces_in text x.pieces [] x.whole; tokens_are = x.tokens_are }

module _ (m n : ℕ) (old : 3 ≤ m) (new : 3 ≤ n) (shifts : nat_le 2 n ≡ nat_le 2 m) where
  pub fault_in : (text : List ℕ) (fault : LexFault) → IsFault m text fault → IsFault n text fault
  fault_in text fault x = record {
    before = x.before;
    rest = x.rest;
    split = x.split;
    pieces = x.pieces;
    read = pieces_in m n old new shifts text x.pieces x.rest x.read;
    more = x.more;
    none = λ p after b. x.none p after (begins_in n m new old (sym shifts) x.rest p after b);
    fault_is = x.fault_is;
  }
