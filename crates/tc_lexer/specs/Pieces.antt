-- A text as a sequence of pieces: tokens, and the blanks around them.
use Rattle.std.specs.Prelude.{◌≡◌, ℕ, Bool, false, ◌||◌, not, ◌==◌, IsTrue, List, [], ◌∷◌, ◌++◌, codes}
use Rattle.std.specs.List.{list_all}
use Rattle.tc_lexer.specs.Tokens.{PlainToken, spelling, IsToken, token_continues}

pub data Piece : Type 0 where
  Space : (byte : ℕ) → Piece
  LineComment : (body : List ℕ) → Piece
  BlockComment : (body : List ℕ) → Piece
  Token : (token : PlainToken) → Piece

-- a space, a tab, a line feed or a carriage return
abbrev pub is_space : ℕ → Bool
is_space b = b == 32 || b == 9 || b == 10 || b == 13

abbrev pub is_line_feed : ℕ → Bool
is_line_feed b = b == 10

abbrev pub written : Piece → List ℕ
written (Space b) = b ∷ []
written (LineComment body) = codes "//" ++ body
written (BlockComment body) = codes "/*" ++ (body ++ codes "*/")
written (Token t) = spelling t

-- a well-formed piece; a line comment has no line feed, and a block comment no `*/` inside
abbrev pub IsPiece : ℕ → Piece → Type 0
IsPiece language (Space b) = IsTrue (is_space b)
IsPiece language (LineComment body) = IsTrue (list_all (λ b. not (is_line_feed b)) body)
IsPiece language (BlockComment body) =
    (front back : List ℕ) → body ≡ front ++ (codes "*/" ++ back) → ⊥
IsPiece language (Token t) = IsToken language t

-- whether this byte, directly after a piece, would extend or change the piece
abbrev pub continues : ℕ → Piece → ℕ → Bool
continues language (LineComment _) b = not (is_line_feed b)
continues language (Token t) b = token_continues language t b
continues language _ b = false

-- the piece is as long as possible if these bytes follow it
abbrev pub EndsBefore : ℕ → Piece → List ℕ → Type 0
EndsBefore language p [] = Unit {0}
EndsBefore language p (b ∷ _) = IsTrue (not (continues language p b))

-- the bytes are this piece, as long as possible, and then the rest
pub record Begins (language : ℕ) (bytes : List ℕ) (p : Piece) (rest : List ℕ) : Type 0 where
  pub split : bytes ≡ written p ++ rest
  pub piece : IsPiece language p
  pub ends : EndsBefore language p rest

-- the bytes are these pieces, each as long as possible, and then the rest
abbrev pub ArePieces : ℕ → List ℕ → List Piece → List ℕ → Type 0
ArePieces language bytes [] rest = bytes ≡ rest
ArePieces language bytes (p ∷ ps) rest =
    (after : List ℕ) × Begins language bytes p after × ArePieces language after ps rest
