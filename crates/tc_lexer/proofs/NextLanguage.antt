-- The tokens of a text in one language are its tokens in the next.
use Rattle.std.proofs.Common.{◌≡◌, ◌≢◌, ◌≤◌, ℕ, pos, negsuc, Bool, true, false, cond, List, [], ◌∷◌, take, refl, sym, ap, inl, inr, ◌∙◌, subst, arith, Some}
use Rattle.std.specs.Prelude.{◌⊎◌, ◌==◌, ◌&&◌, ◌||◌, not, option_map, IsTrue, nat_eq}
use Rattle.std.specs.Cmp.Lexicographic.{pointwise}
use Rattle.std.proofs.lemmas.Bool.{and_parts, and_left, both_ways, or_parts, or_from, not-true, not_from_false, false_from_ne_true, eqb-true}
use Rattle.std.proofs.lemmas.List.Elements.{All-head, All-tail}
use Rattle.tc_lexer.specs.declared.token.Keyword.{Keyword as AnyKeyword}
use Rattle.tc_lexer.specs.declared.token.Keyword.TheVariants.{Int, Mutex, Cond, Thread, Main, Tid, If, Else, While, Create, Join, Lock, Unlock, Wait, Signal}
use Rattle.tc_lexer.specs.declared.token.Keyword.TheVariants.{Broadcast, Fence, Assert, Swap, Cas, Stbar}
use Rattle.tc_lexer.specs.declared.token.Sign.{Sign as AnySign}
use Rattle.tc_lexer.specs.declared.token.Sign.TheVariants.{OpenParen, CloseParen, OpenBracket, CloseBracket, OpenBrace, CloseBrace, Comma, Semicolon, Assign}
use Rattle.tc_lexer.specs.declared.token.Sign.TheVariants.{Plus, Minus, Star, Slash, Percent, Bang, Tilde, Less, LessEqual, Greater, GreaterEqual, EqualEqual}
use Rattle.tc_lexer.specs.declared.token.Sign.TheVariants.{BangEqual, ShiftLeft, ShiftRight, And, Caret, Or, AndAnd, OrOr}
use Rattle.tc_lexer.specs.declared.token.Token.{Token as SpannedToken}
use Rattle.tc_lexer.specs.Tokens.{PlainToken, Name, Number, Keyword, Sign, keyword_text, keyword_since, sign_continues, IsName, plain_tokens}
use Rattle.tc_lexer.specs.Pieces.{Piece, Space, LineComment, BlockComment, Token, IsPiece, continues, EndsBefore, ArePieces}
use Rattle.tc_lexer.specs.Text.{AreTokens}
use Rattle.tc_lexer.specs.Languages.{makes_shift, have_no_shift, HaveNoKeywordOf}
use Rattle.tc_lexer.specs.helpers.Reading.{sign_at, front}
use Rattle.tc_lexer.proofs.Comments.{mapped}
use Rattle.tc_lexer.proofs.Front.{found}
use Rattle.tc_lexer.proofs.OneReading.{plain_among, plain_are}

-- language 2 has the keywords of 1, and 3 has three more
keywords_of_1 : (k : AnyKeyword) → keyword_since k ≤ 2 → keyword_since k ≤ 1
keywords_of_1 Int h = omega arith
keywords_of_1 Mutex h = omega arith
keywords_of_1 Cond h = omega arith
keywords_of_1 Thread h = omega arith
keywords_of_1 Main h = omega arith
keywords_of_1 Tid h = omega arith
keywords_of_1 If h = omega arith
keywords_of_1 Else h = omega arith
keywords_of_1 While h = omega arith
keywords_of_1 Create h = omega arith
keywords_of_1 Join h = omega arith
keywords_of_1 Lock h = omega arith
keywords_of_1 Unlock h = omega arith
keywords_of_1 Wait h = omega arith
keywords_of_1 Signal h = omega arith
keywords_of_1 Broadcast h = omega arith
keywords_of_1 Fence h = omega arith
keywords_of_1 Assert h = omega arith
keywords_of_1 Swap h = omega arith
keywords_of_1 Cas h = omega arith
keywords_of_1 Stbar h = omega arith

keywords_of_3 : (k : AnyKeyword) → (keyword_since k ≤ 2) ⊎ (keyword_since k ≡ 3)
keywords_of_3 Int = inl (omega arith)
keywords_of_3 Mutex = inl (omega arith)
keywords_of_3 Cond = inl (omega arith)
keywords_of_3 Thread = inl (omega arith)
keywords_of_3 Main = inl (omega arith)
keywords_of_3 Tid = inl (omega arith)
keywords_of_3 If = inl (omega arith)
keywords_of_3 Else = inl (omega arith)
keywords_of_3 While = inl (omega arith)
keywords_of_3 Create = inl (omega arith)
keywords_of_3 Join = inl (omega arith)
keywords_of_3 Lock = inl (omega arith)
keywords_of_3 Unlock = inl (omega arith)
keywords_of_3 Wait = inl (omega arith)
keywords_of_3 Signal = inl (omega arith)
keywords_of_3 Broadcast = inl (omega arith)
keywords_of_3 Fence = inl (omega arith)
keywords_of_3 Assert = inl (omega arith)
keywords_of_3 Swap = inr refl
keywords_of_3 Cas = inr refl
keywords_of_3 Stbar = inr refl

-- the byte after a piece continues it in both languages or in neither
pub ends_same : (m n : ℕ) (p : Piece) → ((b : ℕ) → continues n p b ≡ continues m p b) → (after : List ℕ) → EndsBefore m p after → EndsBefore n p after
ends_same m n p h [] e = tt
ends_same m n p h (b ∷ bs) e = ap not (h b) ∙ e

-- From 1 to 2.

piece_1_2 : (p : Piece) → IsPiece 1 p → IsPiece 2 p
piece_1_2 (Space b) h = h
piece_1_2 (LineComment body) h = h
piece_1_2 (BlockComment body) h = h
piece_1_2 (Token (Name word)) h = record { letter = h.letter; all = h.all; no_keyword = λ k since. h.no_keyword k (keywords_of_1 k since) }
piece_1_2 (Token (Number (pos n))) h = h
piece_1_2 (Token (Number (negsuc n))) h = h
piece_1_2 (Token (Keyword k)) h = omega arith
piece_1_2 (Token (Sign s)) h = omega arith

-- a sign of language 1 that begins with this byte makes a shift with the sign before it
shift_after : (more : ℕ) (b : Bool) (c : Bool) (long longer short s : AnySign) → makes_shift (Sign short) (Sign long) ≡ true
    → makes_shift (Sign short) (Sign short) ≡ true → cond (b && true) (Some long) (cond (c && false) (Some longer) (Some short)) ≡ Some s
    → makes_shift (Sign short) (Sign s) ≡ true
shift_after more true c long longer short s h k e = let same : long ≡ s = cc in ap (λ (t : AnySign). makes_shift (Sign short) (Sign t)) (sym same) ∙ h
shift_after more false true long longer short s h k e = let same : short ≡ s = cc in ap (λ (t : AnySign). makes_shift (Sign short) (Sign t)) (sym same) ∙ k
shift_after more false false long longer short s h k e = let same : short ≡ s = cc in ap (λ (t : AnySign). makes_shift (Sign short) (Sign t)) (sym same) ∙ k

less_after : (bs : List ℕ) (s : AnySign) → sign_at 1 (60 ∷ bs) ≡ Some s → makes_shift (Sign Less) (Sign s) ≡ true
less_after bs s e = shift_after 0 (pointwise nat_eq (61 ∷ []) (take 1 bs)) (pointwise nat_eq (60 ∷ []) (take 1 bs)) LessEqual ShiftLeft Less s refl refl e

greater_after : (bs : List ℕ) (s : AnySign) → sign_at 1 (62 ∷ bs) ≡ Some s → makes_shift (Sign Greater) (Sign s) ≡ true
greater_after bs s e =
    shift_after 0 (pointwise nat_eq (61 ∷ []) (take 1 bs)) (pointwise nat_eq (62 ∷ []) (take 1 bs)) GreaterEqual ShiftRight Greater s refl refl e

-- thus no such sign follows `<` or `>` directly if no two neighbours make a shift
apart : (b : ℕ) (short : AnySign) (bs : List ℕ) → front 1 (b ∷ bs) ≡ option_map (λ (s : AnySign). Token (Sign s)) (sign_at 1 (b ∷ bs))
    → ((s : AnySign) → sign_at 1 (b ∷ bs) ≡ Some s → makes_shift (Sign short) (Sign s) ≡ true) → (ps : List Piece) → ArePieces 1 (b ∷ bs) ps []
    → have_no_shift (Sign short ∷ plain_among ps) ≡ true → ⊥
apart b short bs f shift [] x h = cc
apart b short bs f shift (q ∷ qs) x h =
    let m = mapped (λ (s : AnySign). Token (Sign s)) (sign_at 1 (b ∷ bs)) q (sym f ∙ found 1 (b ∷ bs) q x.0 x.1) in
    let two : have_no_shift (Sign short ∷ Sign m.0 ∷ plain_among qs) ≡ true = ap (λ (r : Piece). have_no_shift (Sign short ∷ plain_among (r ∷ qs))) m.2 ∙ h in
    let none = (and_parts (not (makes_shift (Sign short) (Sign m.0))) (have_no_shift (Sign m.0 ∷ plain_among qs)) two).0 in
    both_ways _ (not-true _ none) (shift m.0 m.1)

still_ends : (b c : ℕ) → not (b == 61 || (b == c && false)) ≡ true → (b ≡ c → ⊥) → not (b == 61 || (b == c && true)) ≡ true
still_ends b c e n =
    let p = or_parts (b == 61) (b == c && false) (not-true _ e) in
    let other = false_from_ne_true (b == c) (λ h. n (eqb-true b c h)) in
    not_from_false _ (or_from _ _ p.0 (and_left _ _ other))

ends_1_2 : (p : Piece) (after : List ℕ) (ps : List Piece) → EndsBefore 1 p after → ArePieces 1 after ps [] → have_no_shift (plain_among (p ∷ ps)) ≡ true
    → EndsBefore 2 p after
ends_1_2 (Space b) after ps e x h = ends_same 1 2 (Space b) (λ c. refl) after e
ends_1_2 (LineComment body) after ps e x h = ends_same 1 2 (LineComment body) (λ c. refl) after e
ends_1_2 (BlockComment body) after ps e x h = ends_same 1 2 (BlockComment body) (λ c. refl) after e
ends_1_2 (Token (Name word)) after ps e x h = ends_same 1 2 (Token (Name word)) (λ c. refl) after e
ends_1_2 (Token (Number n)) after ps e x h = ends_same 1 2 (Token (Number n)) (λ c. refl) after e
ends_1_2 (Token (Keyword k)) after ps e x h = ends_same 1 2 (Token (Keyword k)) (λ c. refl) after e
ends_1_2 (Token (Sign OpenParen)) after ps e x h = ends_same 1 2 (Token (Sign OpenParen)) (λ c. refl) after e
ends_1_2 (Token (Sign CloseParen)) after ps e x h = ends_same 1 2 (Token (Sign CloseParen)) (λ c. refl) after e
ends_1_2 (Token (Sign OpenBracket)) after ps e x h = ends_same 1 2 (Token (Sign OpenBracket)) (λ c. refl) after e
ends_1_2 (Token (Sign CloseBracket)) after ps e x h = ends_same 1 2 (Token (Sign CloseBracket)) (λ c. refl) after e
ends_1_2 (Token (Sign OpenBrace)) after ps e x h = ends_same 1 2 (Token (Sign OpenBrace)) (λ c. refl) after e
ends_1_2 (Token (Sign CloseBrace)) after ps e x h = ends_same 1 2 (Token (Sign CloseBrace)) (λ c. refl) after e
ends_1_2 (Token (Sign Comma)) after ps e x h = ends_same 1 2 (Token (Sign Comma)) (λ c. refl) after e
ends_1_2 (Token (Sign Semicolon)) after ps e x h = ends_same 1 2 (Token (Sign Semicolon)) (λ c. refl) after e
ends_1_2 (Token (Sign Assign)) after ps e x h = ends_same 1 2 (Token (Sign Assign)) (λ c. refl) after e
ends_1_2 (Token (Sign Plus)) after ps e x h = ends_same 1 2 (Token (Sign Plus)) (λ c. refl) after e
ends_1_2 (Token (Sign Minus)) after ps e x h = ends_same 1 2 (Token (Sign Minus)) (λ c. refl) after e
ends_1_2 (Token (Sign Star)) after ps e x h = ends_same 1 2 (Token (Sign Star)) (λ c. refl) after e
ends_1_2 (Token (Sign Slash)) after ps e x h = ends_same 1 2 (Token (Sign Slash)) (λ c. refl) after e
ends_1_2 (Token (Sign Percent)) after ps e x h = ends_same 1 2 (Token (Sign Percent)) (λ c. refl) after e
ends_1_2 (Token (Sign Bang)) after ps e x h = ends_same 1 2 (Token (Sign Bang)) (λ c. refl) after e
ends_1_2 (Token (Sign Tilde)) after ps e x h = ends_same 1 2 (Token (Sign Tilde)) (λ c. refl) after e
ends_1_2 (Token (Sign Less)) [] ps e x h = tt
ends_1_2 (Token (Sign Less)) (b ∷ bs) ps e x h =
    still_ends b 60 e (λ same. apart 60 Less bs refl (less_after bs) ps (subst (λ (c : ℕ). ArePieces 1 (c ∷ bs) ps []) same x) h)
ends_1_2 (Token (Sign LessEqual)) after ps e x h = ends_same 1 2 (Token (Sign LessEqual)) (λ c. refl) after e
ends_1_2 (Token (Sign Greater)) [] ps e x h = tt
ends_1_2 (Token (Sign Greater)) (b ∷ bs) ps e x h =
    still_ends b 62 e (λ same. apart 62 Greater bs refl (greater_after bs) ps (subst (λ (c : ℕ). ArePieces 1 (c ∷ bs) ps []) same x) h)
ends_1_2 (Token (Sign GreaterEqual)) after ps e x h = ends_same 1 2 (Token (Sign GreaterEqual)) (λ c. refl) after e
ends_1_2 (Token (Sign EqualEqual)) after ps e x h = ends_same 1 2 (Token (Sign EqualEqual)) (λ c. refl) after e
ends_1_2 (Token (Sign BangEqual)) after ps e x h = ends_same 1 2 (Token (Sign BangEqual)) (λ c. refl) after e
ends_1_2 (Token (Sign ShiftLeft)) after ps e x h = ends_same 1 2 (Token (Sign ShiftLeft)) (λ c. refl) after e
ends_1_2 (Token (Sign ShiftRight)) after ps e x h = ends_same 1 2 (Token (Sign ShiftRight)) (λ c. refl) after e
ends_1_2 (Token (Sign And)) after ps e x h = ends_same 1 2 (Token (Sign And)) (λ c. refl) after e
ends_1_2 (Token (Sign Caret)) after ps e x h = ends_same 1 2 (Token (Sign Caret)) (λ c. refl) after e
ends_1_2 (Token (Sign Or)) after ps e x h = ends_same 1 2 (Token (Sign Or)) (λ c. refl) after e
ends_1_2 (Token (Sign AndAnd)) after ps e x h = ends_same 1 2 (Token (Sign AndAnd)) (λ c. refl) after e
ends_1_2 (Token (Sign OrOr)) after ps e x h = ends_same 1 2 (Token (Sign OrOr)) (λ c. refl) after e

no_shift_later : (t : PlainToken) (us : List PlainToken) → have_no_shift (t ∷ us) ≡ true → have_no_shift us ≡ true
no_shift_later t [] h = refl
no_shift_later t (u ∷ us) h = (and_parts (not (makes_shift t u)) (have_no_shift (u ∷ us)) h).1

no_shift_after : (p : Piece) (ps : List Piece) → have_no_shift (plain_among (p ∷ ps)) ≡ true → have_no_shift (plain_among ps) ≡ true
no_shift_after (Space b) ps h = h
no_shift_after (LineComment body) ps h = h
no_shift_after (BlockComment body) ps h = h
no_shift_after (Token t) ps h = no_shift_later t (plain_among ps) h

pieces_1_2 : (bytes : List ℕ) (ps : List Piece) → ArePieces 1 bytes ps [] → have_no_shift (plain_among ps) ≡ true → ArePieces 2 bytes ps []
pieces_1_2 bytes [] x h = x
pieces_1_2 bytes (p ∷ ps) x h =
    (x.0, record { split = x.1.split; piece = piece_1_2 p x.1.piece; ends = ends_1_2 p x.0 ps x.1.ends x.2 h }, pieces_1_2 x.0 ps x.2 (no_shift_after p ps h))

-- the plain tokens are those among the pieces
among : (language : ℕ) (text : List ℕ) (ts : List SpannedToken) → (x : AreTokens language text ts) → plain_tokens text ts ≡ plain_among x.pieces
among language text ts x = ap (plain_tokens text) x.tokens_are ∙ plain_are language text x.pieces x.whole

pub from_1_to_2 : (text : List ℕ) (ts : List SpannedToken) → AreTokens 1 text ts → IsTrue (have_no_shift (plain_tokens text ts)) → AreTokens 2 text ts
from_1_to_2 text ts x h = record {
  pieces = x.pieces;
  whole = pieces_1_2 text x.pieces x.whole (ap have_no_shift (sym (among 1 text ts x))
      ∙ h);
  tokens_are = x.tokens_are;
}

-- From 2 to 3.

name_2_3 : (word : List ℕ) → IsName 2 word → ((k : AnyKeyword) → keyword_since k ≡ 3 → Name word ≢ Name (keyword_text k)) → IsName 3 word
name_2_3 word h n = record {
  letter = h.letter;
  all = h.all;
  no_keyword = λ k since w. elim (keywords_of_3 k) [
    | inl old ↦ h.no_keyword k old w
    | inr new ↦ n k new (ap Name (sym w))
  ];
}

piece_2_3 : (p : Piece) (ps : List Piece) → IsPiece 2 p → HaveNoKeywordOf 3 (plain_among (p ∷ ps)) → IsPiece 3 p
piece_2_3 (Space b) ps h n = h
piece_2_3 (LineComment body) ps h n = h
piece_2_3 (BlockComment body) ps h n = h
piece_2_3 (Token (Name word)) ps h n =
    name_2_3 word h (λ k since. All-head (λ (t : PlainToken). t ≢ Name (keyword_text k)) (Name word) (plain_among ps) (n k since))
piece_2_3 (Token (Number (pos m))) ps h n = h
piece_2_3 (Token (Number (negsuc m))) ps h n = h
piece_2_3 (Token (Keyword k)) ps h n = omega arith
piece_2_3 (Token (Sign s)) ps h n = omega arith

sign_2_3 : (s : AnySign) (b : ℕ) → sign_continues 3 s b ≡ sign_continues 2 s b
sign_2_3 OpenParen b = refl
sign_2_3 CloseParen b = refl
sign_2_3 OpenBracket b = refl
sign_2_3 CloseBracket b = refl
sign_2_3 OpenBrace b = refl
sign_2_3 CloseBrace b = refl
sign_2_3 Comma b = refl
sign_2_3 Semicolon b = refl
sign_2_3 Assign b = refl
sign_2_3 Plus b = refl
sign_2_3 Minus b = refl
sign_2_3 Star b = refl
sign_2_3 Slash b = refl
sign_2_3 Percent b = refl
sign_2_3 Bang b = refl
sign_2_3 Tilde b = refl
sign_2_3 Less b = refl
sign_2_3 LessEqual b = refl
sign_2_3 Greater b = refl
sign_2_3 GreaterEqual b = refl
sign_2_3 EqualEqual b = refl
sign_2_3 BangEqual b = refl
sign_2_3 ShiftLeft b = refl
sign_2_3 ShiftRight b = refl
sign_2_3 And b = refl
sign_2_3 Caret b = refl
sign_2_3 Or b = refl
sign_2_3 AndAnd b = refl
sign_2_3 OrOr b = refl

continues_2_3 : (p : Piece) (b : ℕ) → continues 3 p b ≡ continues 2 p b
continues_2_3 (Space c) b = refl
continues_2_3 (LineComment body) b = refl
continues_2_3 (BlockComment body) b = refl
continues_2_3 (Token (Name word)) b = refl
continues_2_3 (Token (Number n)) b = refl
continues_2_3 (Token (Keyword k)) b = refl
continues_2_3 (Token (Sign s)) b = sign_2_3 s b

no_keyword_after : (p : Piece) (ps : List Piece) → HaveNoKeywordOf 3 (plain_among (p ∷ ps)) → HaveNoKeywordOf 3 (plain_among ps)
no_keyword_after (Space b) ps h = h
no_keyword_after (LineComment body) ps h = h
no_keyword_after (BlockComment body) ps h = h
no_keyword_after (Token t) ps h = λ k since. All-tail (λ (u : PlainToken). u ≢ Name (keyword_text k)) t (plain_among ps) (h k since)

pieces_2_3 : (bytes : List ℕ) (ps : List Piece) → ArePieces 2 bytes ps [] → HaveNoKeywordOf 3 (plain_among ps) → ArePieces 3 bytes ps []
pieces_2_3 bytes [] x h = x
pieces_2_3 bytes (p ∷ ps) x h = (
  x.0,
  record {
    split = x.1.split;
    piece = piece_2_3 p ps x.1.piece h;
    ends =
        ends_same 2 3 p (continues_2_3 p) x.0 x.1.ends;
  },
  pieces_2_3 x.0 ps x.2 (no_keyword_after p ps h),
)

pub from_2_to_3 : (text : List ℕ) (ts : List SpannedToken) → AreTokens 2 text ts → HaveNoKeywordOf 3 (plain_tokens text ts) → AreTokens 3 text ts
from_2_to_3 text ts x h =
    record { pieces = x.pieces; whole = pieces_2_3 text x.pieces x.whole (subst (HaveNoKeywordOf 3) (among 2 text ts x) h); tokens_are = x.tokens_are }
