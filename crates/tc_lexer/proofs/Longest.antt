-- A piece of a text is the longest one possible at its place.
use Rattle.std.proofs.Common.{◌≡◌, ◌+◌, ◌<◌, ◌≤◌, ℕ, pos, negsuc, Bool, true, List, [], ◌∷◌, ◌++◌, length, take, refl, sym, ap, ◌∙◌, arith, Option, Some}
use Rattle.std.proofs.Common.{length-take}
use Rattle.std.specs.Prelude.{option_map, not}
use Rattle.std.specs.List.{list_all, prefix_len}
use Rattle.std.specs.Fmt.{decimal}
use Rattle.std.proofs.lemmas.Bool.{and_parts, cond-true, cond-false}
use Rattle.tc_lexer.specs.declared.token.Sign.{Sign as AnySign}
use Rattle.tc_lexer.specs.declared.token.Sign.TheVariants.{OpenParen, CloseParen, OpenBracket, CloseBracket, OpenBrace, CloseBrace, Comma, Semicolon, Assign}
use Rattle.tc_lexer.specs.declared.token.Sign.TheVariants.{Plus, Minus, Star, Slash, Percent, Bang, Tilde, Less, LessEqual, Greater, GreaterEqual, EqualEqual}
use Rattle.tc_lexer.specs.declared.token.Sign.TheVariants.{BangEqual, ShiftLeft, ShiftRight, And, Caret, Or, AndAnd, OrOr}
use Rattle.tc_lexer.specs.Tokens.{PlainToken, Name, Number, Keyword, Sign, is_word, begins_with_letter, keyword_text, sign_text, sign_since, spelling, IsToken}
use Rattle.tc_lexer.specs.Pieces.{Piece, Space, LineComment, BlockComment, Token, is_space, is_line_feed, written, IsPiece, Begins}
use Rattle.tc_lexer.specs.helpers.Reading.{word_token, sign_at, front}
use Rattle.std.proofs.lemmas.List.Sums.{prefix_len-le-length}
use Rattle.tc_decimal.proofs.Decimals.{decimal_some, decimal_digits}
use Rattle.tc_decimal.proofs.Runs.{run_passes}
use Rattle.tc_lexer.proofs.Keywords.{keyword_letters}
use Rattle.tc_lexer.proofs.Comments.{mapped}
use Rattle.tc_lexer.proofs.Signs.{ends_alone, sign_found}
use Rattle.tc_lexer.proofs.Front.{word_no_space, digits_are_words, letter_some, block_front, word_writes, found}
use Rattle.tc_lexer.proofs.Readings.{begins_shorter}

-- bytes that pass are within the run at the front
run_holds : (belongs : ℕ → Bool) (bytes rest : List ℕ) → list_all belongs bytes ≡ true → length bytes ≤ prefix_len belongs (bytes ++ rest)
run_holds belongs [] rest h = omega arith
run_holds belongs (b ∷ bs) rest h =
    let p = and_parts (belongs b) (list_all belongs bs) h in
    let one = cond-true (belongs b) (1 + prefix_len belongs (bs ++ rest)) 0 p.0 in
    let more = run_holds belongs bs rest p.1 in
    omega arith

-- a piece that is found at the front has at least this length
abbrev LongEnough : ℕ → List ℕ → ℕ → Type 0
LongEnough language bytes n = (p : Piece) → front language bytes ≡ Some p → n ≤ length (written p)

same_length : (language : ℕ) (bytes : List ℕ) (q : Piece) → front language bytes ≡ Some q → LongEnough language bytes (length (written q))
same_length language bytes q e p f =
    let found_both : ◌≡◌ {A = Option Piece} (Some q) (Some p) = sym e ∙ f in
    let same : q ≡ p = cc in
    omega (arith, ap (λ (r : Piece). length (written r)) same)

line_long : (language : ℕ) (body after : List ℕ) → list_all (λ b. not (is_line_feed b)) body ≡ true
    → LongEnough language (written (LineComment body) ++ after) (length (written (LineComment body)))
line_long language body after h p f =
    let other = λ (b : ℕ). not (is_line_feed b) in
    let n = prefix_len other (body ++ after) in
    let found_line : ◌≡◌ {A = Option Piece} (Some (LineComment (take n (body ++ after)))) (Some p) = f in
    let same : LineComment (take n (body ++ after)) ≡ p = cc in
    let run = run_holds other body after h in
    omega (arith, ap (λ (r : Piece). length (written r)) same, length-take n (body ++ after), prefix_len-le-length other (body ++ after))

word_long : (language : ℕ) (word after : List ℕ) → 0 < length word → list_all is_word word ≡ true → LongEnough language (word ++ after) (length word)
word_long language [] after some all p f = absurd (omega arith)
word_long language (b ∷ bs) after some all p f =
    let first = (and_parts (is_word b) (list_all is_word bs) all).0 in
    let bytes = b ∷ (bs ++ after) in
    let n = prefix_len is_word bytes in
    let run = run_holds is_word (b ∷ bs) after all in
    let m = mapped Token (word_token language (take n bytes)) p (sym (cond-false (is_space b) _ _ (word_no_space b first) ∙ cond-true (is_word b) _ _ first)
    ∙ f) in
    let len : length (take n bytes) ≡ n = omega (arith, length-take n bytes, prefix_len-le-length is_word bytes) in
    let w = word_writes language (take n bytes) m.0 (omega arith) (run_passes is_word bytes) m.1 in
    omega (arith, ap length w.spelled, ap (λ (r : Piece). length (written r)) m.2)

pair_long : (language : ℕ) (s : AnySign) (after : List ℕ) → sign_since s ≤ language
    → (e : (rest : List ℕ) → front language (sign_text s ++ rest) ≡ option_map (λ (t : AnySign). Token (Sign t)) (sign_at language (sign_text s ++ rest)))
    → sign_at language (sign_text s ++ after) ≡ Some s → LongEnough language (sign_text s ++ after) (length (sign_text s))
pair_long language s after h e f = same_length language (sign_text s ++ after) (Token (Sign s)) (e after ∙ ap (option_map (λ (t : AnySign). Token (Sign t))) f)

sign_long : (language : ℕ) (s : AnySign) (after : List ℕ) → sign_since s ≤ language → (p : Piece) → front language (sign_text s ++ after) ≡ Some p
    → 0 < length (written p) → length (sign_text s) ≤ length (written p)
sign_long language OpenParen after h p f some = omega arith
sign_long language CloseParen after h p f some = omega arith
sign_long language OpenBracket after h p f some = omega arith
sign_long language CloseBracket after h p f some = omega arith
sign_long language OpenBrace after h p f some = omega arith
sign_long language CloseBrace after h p f some = omega arith
sign_long language Comma after h p f some = omega arith
sign_long language Semicolon after h p f some = omega arith
sign_long language Assign after h p f some = omega arith
sign_long language Plus after h p f some = omega arith
sign_long language Minus after h p f some = omega arith
sign_long language Star after h p f some = omega arith
sign_long language Slash after h p f some = omega arith
sign_long language Percent after h p f some = omega arith
sign_long language Bang after h p f some = omega arith
sign_long language Tilde after h p f some = omega arith
sign_long language Less after h p f some = omega arith
sign_long language LessEqual after h p f some =
    pair_long language LessEqual after h (λ rest. refl) (sign_found language LessEqual after h (ends_alone language LessEqual (λ b. refl) after)) p f
sign_long language Greater after h p f some = omega arith
sign_long language GreaterEqual after h p f some =
    pair_long language GreaterEqual after h (λ rest. refl) (sign_found language GreaterEqual after h (ends_alone language GreaterEqual (λ b. refl) after)) p f
sign_long language EqualEqual after h p f some =
    pair_long language EqualEqual after h (λ rest. refl) (sign_found language EqualEqual after h (ends_alone language EqualEqual (λ b. refl) after)) p f
sign_long language BangEqual after h p f some =
    pair_long language BangEqual after h (λ rest. refl) (sign_found language BangEqual after h (ends_alone language BangEqual (λ b. refl) after)) p f
sign_long language ShiftLeft after h p f some =
    pair_long language ShiftLeft after h (λ rest. refl) (sign_found language ShiftLeft after h (ends_alone language ShiftLeft (λ b. refl) after)) p f
sign_long language ShiftRight after h p f some =
    pair_long language ShiftRight after h (λ rest. refl) (sign_found language ShiftRight after h (ends_alone language ShiftRight (λ b. refl) after)) p f
sign_long language And after h p f some = omega arith
sign_long language Caret after h p f some = omega arith
sign_long language Or after h p f some = omega arith
sign_long language AndAnd after h p f some =
    pair_long language AndAnd after h (λ rest. refl) (sign_found language AndAnd after h (ends_alone language AndAnd (λ b. refl) after)) p f
sign_long language OrOr after h p f some =
    pair_long language OrOr after h (λ rest. refl) (sign_found language OrOr after h (ends_alone language OrOr (λ b. refl) after)) p f

token_long : (language : ℕ) (t : PlainToken) (after : List ℕ) → IsToken language t → (p : Piece) → front language (spelling t ++ after) ≡ Some p
    → 0 < length (written p) → length (spelling t) ≤ length (written p)
token_long language (Name word) after h p f some = word_long language word after (letter_some word h.letter) h.all p f
token_long language (Number (pos n)) after h p f some =
    word_long language (decimal n) after (decimal_some n (omega arith)) (digits_are_words (decimal n) (decimal_digits n (omega arith))) p f
token_long language (Number (negsuc n)) after h p f some = absurd h
token_long language (Keyword k) after h p f some =
    let letters = and_parts (begins_with_letter (keyword_text k)) (list_all is_word (keyword_text k)) (keyword_letters k) in
    word_long language (keyword_text k) after (letter_some (keyword_text k) letters.0) letters.1 p f
token_long language (Sign s) after h p f some = sign_long language s after h p f some

piece_long : (language : ℕ) (q : Piece) (after : List ℕ) → IsPiece language q → (p : Piece) → front language (written q ++ after) ≡ Some p
    → 0 < length (written p) → length (written q) ≤ length (written p)
piece_long language (Space b) after h p f some = omega arith
piece_long language (LineComment body) after h p f some = line_long language body after h p f
piece_long language (BlockComment body) after h p f some =
    same_length language (written (BlockComment body) ++ after) (BlockComment body) (block_front language body after h) p f
piece_long language (Token t) after h p f some = token_long language t after h p f some

pub is_longest : (language : ℕ) (bytes : List ℕ) (p : Piece) (rest : List ℕ) (q : Piece) (after : List ℕ) → Begins language bytes p rest → IsPiece language q
    → bytes ≡ written q ++ after → length (written q) ≤ length (written p)
is_longest language bytes p rest q after x h e = piece_long language q after h p (ap (front language) (sym e)
    ∙ found language bytes p rest x) (begins_shorter language bytes p rest x).0
