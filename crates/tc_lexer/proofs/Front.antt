-- The piece at the front of some bytes is the piece that the reader finds there.
use Rattle.std.proofs.Common.{◌≡◌, ◌+◌, ◌<◌, ◌≤◌, ◌^◌, ℕ, ℤ, pos, negsuc, Bool, true, false, List, [], ◌∷◌, ◌++◌, length, take, drop, refl, sym, ap, inl, inr}
use Rattle.std.proofs.Common.{◌∙◌, subst, arith, Option, Some, None, append_assoc, length-take}
use Rattle.std.specs.Prelude.{codes, nat_eq, option_map, slice_get, ◌==◌, ◌&&◌, ◌||◌, not}
use Rattle.std.specs.List.{list_all, prefix_len, starts_with}
use Rattle.std.specs.Fmt.{decimal}
use Rattle.std.proofs.lemmas.List.Sums.{prefix_len-le-length}
use Rattle.std.proofs.lemmas.Bool.{cases_Bool, and_parts, and_from, and_left, or_parts, or_from, not-true, not_from_false, cond-true, cond-false}
use Rattle.std.proofs.lemmas.Bool.Decides.{nat_tests, Decides-eqb}
use Rattle.std.proofs.lemmas.List.{take_at, take-append-drop}
use Rattle.std.proofs.lemmas.Slice.Eq.{starts_is}
use Rattle.tc_lexer.specs.declared.token.Keyword.{Keyword as AnyKeyword}
use Rattle.tc_lexer.specs.declared.token.Sign.{Sign as AnySign}
use Rattle.tc_lexer.specs.declared.token.Sign.TheVariants.{OpenParen, CloseParen, OpenBracket, CloseBracket, OpenBrace, CloseBrace, Comma, Semicolon, Assign}
use Rattle.tc_lexer.specs.declared.token.Sign.TheVariants.{Plus, Minus, Star, Slash, Percent, Bang, Tilde, Less, LessEqual, Greater, GreaterEqual, EqualEqual}
use Rattle.tc_lexer.specs.declared.token.Sign.TheVariants.{BangEqual, ShiftLeft, ShiftRight, And, Caret, Or, AndAnd, OrOr}
use Rattle.tc_lexer.specs.declared.token.TokenKind.{TokenKind}
use Rattle.tc_lexer.specs.declared.piece.Piece.{Piece as Shape}
use Rattle.tc_lexer.specs.Tokens.{PlainToken, Name, Number, Keyword, Sign, is_letter, is_word, begins_with_letter, keyword_text, sign_text}
use Rattle.tc_lexer.specs.Tokens.{keyword_since, spelling, IsName, IsToken, token_continues}
use Rattle.tc_lexer.specs.Pieces.{Piece, Space, LineComment, BlockComment, Token, is_space, is_line_feed, written, IsPiece, continues, EndsBefore, Begins}
use Rattle.tc_lexer.specs.Text.{kind_of}
use Rattle.tc_lexer.specs.helpers.Reading.{shape_of, keyword_of, sign_at, int_of, keyword_or_name, word_token, before_close, word_piece}
use Rattle.tc_lexer.specs.helpers.Reading.{mark_piece, front}
use Rattle.tc_decimal.specs.Decimals.{is_digit, number_of}
use Rattle.tc_decimal.proofs.Decimals.{decimal_digits, decimal_some, decimal_cells, number_again, number_is}
use Rattle.tc_decimal.proofs.Runs.{prefix_len_run, run_ends, run_passes}
use Rattle.tc_lexer.proofs.Keywords.{keyword_found, keyword_is, keyword_letters, name_no_keyword, no_keyword_is}
use Rattle.tc_lexer.proofs.Signs.{eq_swapped, SignEnds, sign_found, sign_ends, sign_is}
use Rattle.tc_lexer.proofs.Comments.{HasNoClose, mapped, close_is, close_found}

-- Bytes.

pub word_no_space : (b : ℕ) → is_word b ≡ true → is_space b ≡ false
word_no_space b h = grind (arith, nat_tests)

digit_no_letter : (b : ℕ) → is_digit b ≡ true → is_letter b ≡ false
digit_no_letter b h = grind (arith, nat_tests)

digit_is_word : (b : ℕ) → is_digit b ≡ true → is_word b ≡ true
digit_is_word b h = grind (arith, nat_tests)

pub digits_are_words : (bs : List ℕ) → list_all is_digit bs ≡ true → list_all is_word bs ≡ true
digits_are_words [] h = refl
digits_are_words (b ∷ bs) h =
    let p = and_parts (is_digit b) (list_all is_digit bs) h in
    and_from _ _ (digit_is_word b p.0) (digits_are_words bs p.1)

-- no byte after the piece belongs to it
ends_run : (language : ℕ) (p : Piece) (belongs : ℕ → Bool) → ((b : ℕ) → continues language p b ≡ belongs b) → (rest : List ℕ) → EndsBefore language p rest
    → prefix_len belongs rest ≡ 0
ends_run language p belongs h [] e = refl
ends_run language p belongs h (b ∷ bs) e = cond-false (belongs b) _ _ (sym (h b) ∙ not-true _ e)

run_stops : (belongs : ℕ → Bool) (b : ℕ) (bs : List ℕ) → prefix_len belongs (b ∷ bs) ≡ 0 → belongs b ≡ false
run_stops belongs b bs z = elim (cases_Bool (belongs b)) [
  | inl h ↦ let one : prefix_len belongs (b ∷ bs) ≡ 1 + prefix_len belongs bs = cond-true (belongs b) _ _ h in absurd (omega arith)
  | inr h ↦ h
]

run_to_ends : (language : ℕ) (p : Piece) (belongs : ℕ → Bool) → ((b : ℕ) → continues language p b ≡ belongs b) → (rest : List ℕ)
    → prefix_len belongs rest ≡ 0 → EndsBefore language p rest
run_to_ends language p belongs h [] z = tt
run_to_ends language p belongs h (b ∷ bs) z = ap not (h b ∙ run_stops belongs b bs z)

ends_at_once : (language : ℕ) (p : Piece) → ((b : ℕ) → continues language p b ≡ false) → (rest : List ℕ) → EndsBefore language p rest
ends_at_once language p h [] = tt
ends_at_once language p h (b ∷ bs) = ap not (h b)

-- The reader finds the piece at the front.

line_front : (language : ℕ) (body rest : List ℕ) → list_all (λ b. not (is_line_feed b)) body ≡ true → EndsBefore language (LineComment body) rest
    → front language (written (LineComment body) ++ rest) ≡ Some (LineComment body)
line_front language body rest h e =
    let other = λ (b : ℕ). not (is_line_feed b) in
    let run = prefix_len_run other body rest h (ends_run language (LineComment body) other (λ b. refl) rest e) in
    ap (λ (s : List ℕ). Some (LineComment s)) (take_at body rest (prefix_len other (body ++ rest)) (sym run))

pub block_front : (language : ℕ) (body rest : List ℕ) → HasNoClose body → front language (written (BlockComment body) ++ rest) ≡ Some (BlockComment body)
block_front language body rest h =
    ap (λ (s : List ℕ). option_map BlockComment (before_close s)) (append_assoc body (codes "*/") rest) ∙ ap (option_map BlockComment) (close_found body rest h)

word_front : (language : ℕ) (word rest : List ℕ) (t : PlainToken) → 0 < length word → list_all is_word word ≡ true → prefix_len is_word rest ≡ 0
    → word_token language word ≡ Some t → front language (word ++ rest) ≡ Some (Token t)
word_front language [] rest t some all z h = absurd (omega arith)
word_front language (b ∷ bs) rest t some all z h =
    let first = (and_parts (is_word b) (list_all is_word bs) all).0 in
    let word : take (prefix_len is_word (b ∷ (bs ++ rest))) (b ∷ (bs ++ rest)) ≡ b ∷ bs =
    take_at (b ∷ bs) rest _ (sym (prefix_len_run is_word (b ∷ bs) rest all z)) in
    cond-false (is_space b) _ _ (word_no_space b first)
    ∙ (cond-true (is_word b) _ _ first ∙ ap (λ (w : List ℕ). option_map Token (word_token language w)) word ∙ ap (option_map Token) h)

pub letter_some : (word : List ℕ) → begins_with_letter word ≡ true → 0 < length word
letter_some [] h = absurd cc
letter_some (b ∷ bs) h = omega arith

name_token : (language : ℕ) (word : List ℕ) → IsName language word → word_token language word ≡ Some (Name word)
name_token language word n = cond-true (begins_with_letter word) _ _ n.letter
    ∙ ap (λ (o : Option AnyKeyword). Some (keyword_or_name o word)) (name_no_keyword language word n.no_keyword)

keyword_token : (language : ℕ) (k : AnyKeyword) → keyword_since k ≤ language → word_token language (keyword_text k) ≡ Some (Keyword k)
keyword_token language k h =
    let letters = and_parts (begins_with_letter (keyword_text k)) (list_all is_word (keyword_text k)) (keyword_letters k) in
    cond-true (begins_with_letter (keyword_text k)) _ _ letters.0
    ∙ ap (λ (o : Option AnyKeyword). Some (keyword_or_name o (keyword_text k))) (keyword_found language k h)

number_found : (n : ℕ) → n < 2 ^ 31 → int_of (decimal n) ≡ Some (pos n)
number_found n h = ap (option_map pos) (number_again 2147483647 n (omega arith) (omega arith))

no_letter_first : (bs : List ℕ) (b : ℕ) (rest : List ℕ) → bs ≡ b ∷ rest → is_digit b ≡ true → begins_with_letter bs ≡ false
no_letter_first bs b rest e h = ap begins_with_letter e ∙ digit_no_letter b h

number_token : (language n : ℕ) → n < 2 ^ 31 → word_token language (decimal n) ≡ Some (Number (pos n))
number_token language n h =
    let d = decimal_cells n (omega arith) in
    cond-false (begins_with_letter (decimal n)) _ _ (no_letter_first (decimal n) d.0 d.1 d.2 d.3) ∙ ap (option_map Number) (number_found n h)

and_with_true : (x : Bool) → (x && true) ≡ false → x ≡ false
and_with_true true h = h
and_with_true false h = refl

slash_alone : (b : ℕ) (bs : List ℕ) → not (b == 47 || b == 42) ≡ true
    → (starts_with nat_eq (47 ∷ b ∷ bs) (codes "//") ≡ false) × (starts_with nat_eq (47 ∷ b ∷ bs) (codes "/*") ≡ false)
slash_alone b bs e =
    let p = or_parts (b == 47) (b == 42) (not-true _ e) in
    (and_left _ _ (eq_swapped 47 b ∙ p.0), and_left _ _ (eq_swapped 42 b ∙ p.1))

-- no blank and no word begins with a sign
pub sign_front : (language : ℕ) (s : AnySign) (rest : List ℕ) → SignEnds language s rest
    → front language (sign_text s ++ rest) ≡ option_map (λ (t : AnySign). Token (Sign t)) (sign_at language (sign_text s ++ rest))
sign_front language OpenParen rest e = refl
sign_front language CloseParen rest e = refl
sign_front language OpenBracket rest e = refl
sign_front language CloseBracket rest e = refl
sign_front language OpenBrace rest e = refl
sign_front language CloseBrace rest e = refl
sign_front language Comma rest e = refl
sign_front language Semicolon rest e = refl
sign_front language Assign rest e = refl
sign_front language Plus rest e = refl
sign_front language Minus rest e = refl
sign_front language Star rest e = refl
sign_front language Slash [] e = refl
sign_front language Slash (b ∷ bs) e = let p = slash_alone b bs e in cond-false _ _ _ p.0 ∙ cond-false _ _ _ p.1
sign_front language Percent rest e = refl
sign_front language Bang rest e = refl
sign_front language Tilde rest e = refl
sign_front language Less rest e = refl
sign_front language LessEqual rest e = refl
sign_front language Greater rest e = refl
sign_front language GreaterEqual rest e = refl
sign_front language EqualEqual rest e = refl
sign_front language BangEqual rest e = refl
sign_front language ShiftLeft rest e = refl
sign_front language ShiftRight rest e = refl
sign_front language And rest e = refl
sign_front language Caret rest e = refl
sign_front language Or rest e = refl
sign_front language AndAnd rest e = refl
sign_front language OrOr rest e = refl

to_sign_ends : (language : ℕ) (s : AnySign) (rest : List ℕ) → EndsBefore language (Token (Sign s)) rest → SignEnds language s rest
to_sign_ends language s [] e = tt
to_sign_ends language s (b ∷ bs) e = e

from_sign_ends : (language : ℕ) (s : AnySign) (rest : List ℕ) → SignEnds language s rest → EndsBefore language (Token (Sign s)) rest
from_sign_ends language s [] e = tt
from_sign_ends language s (b ∷ bs) e = e

token_front : (language : ℕ) (t : PlainToken) (rest : List ℕ) → IsToken language t → EndsBefore language (Token t) rest
    → front language (spelling t ++ rest) ≡ Some (Token t)
token_front language (Name word) rest h e =
    word_front language word rest (Name word) (letter_some word h.letter) h.all (ends_run language (Token (Name word)) is_word (λ b. refl) rest e)
    (name_token language word h)
token_front language (Number (pos n)) rest h e =
    word_front language (decimal n) rest (Number (pos n)) (decimal_some n (omega arith)) (digits_are_words (decimal n) (decimal_digits n (omega arith)))
    (ends_run language (Token (Number (pos n))) is_word (λ b. refl) rest e) (number_token language n h)
token_front language (Number (negsuc n)) rest h e = absurd h
token_front language (Keyword k) rest h e =
    let letters = and_parts (begins_with_letter (keyword_text k)) (list_all is_word (keyword_text k)) (keyword_letters k) in
    word_front language (keyword_text k) rest (Keyword k) (letter_some (keyword_text k) letters.0) letters.1
    (ends_run language (Token (Keyword k)) is_word (λ b. refl) rest e) (keyword_token language k h)
token_front language (Sign s) rest h e =
    let ends = to_sign_ends language s rest e in
    sign_front language s rest ends ∙ ap (option_map (λ (t : AnySign). Token (Sign t))) (sign_found language s rest h ends)

piece_front : (language : ℕ) (p : Piece) (rest : List ℕ) → IsPiece language p → EndsBefore language p rest → front language (written p ++ rest) ≡ Some p
piece_front language (Space b) rest h e = cond-true (is_space b) _ _ h
piece_front language (LineComment body) rest h e = line_front language body rest h e
piece_front language (BlockComment body) rest h e = block_front language body rest h
piece_front language (Token t) rest h e = token_front language t rest h e

-- the reader finds the piece at the front
pub found : (language : ℕ) (bytes : List ℕ) (p : Piece) (rest : List ℕ) → Begins language bytes p rest → front language bytes ≡ Some p
found language bytes p rest x = ap (front language) x.split ∙ piece_front language p rest x.piece x.ends

-- The piece that the reader finds is at the front.

-- this word is the text of the token
pub record Writes (language : ℕ) (t : PlainToken) (word : List ℕ) : Type 0 where
  pub token : IsToken language t
  pub spelled : spelling t ≡ word
  pub ends : (b : ℕ) → token_continues language t b ≡ is_word b

number_writes : (language : ℕ) (word : List ℕ) (n : ℤ) → int_of word ≡ Some n → Writes language (Number n) word
number_writes language word n e =
    let m = mapped pos (number_of 2147483647 word) n e in
    let w = number_is 2147483647 word m.0 (omega arith) m.1 in
    let small : m.0 < 2 ^ 31 = omega (arith, w.within) in
    subst (λ (k : ℤ). Writes language (Number k) word) m.2 (record { token = small; spelled = w.spelled; ends = λ b. refl })

letters_write : (language : ℕ) (word : List ℕ) (o : Option AnyKeyword) → begins_with_letter word ≡ true → list_all is_word word ≡ true
    → keyword_of language word ≡ o → Writes language (keyword_or_name o word) word
letters_write language word None letter all e =
    record { token = record { letter = letter; all = all; no_keyword = no_keyword_is language word e }; spelled = refl; ends = λ b. refl }
letters_write language word (Some k) letter all e = let x = keyword_is language word k e in record { token = x.1; spelled = x.0; ends = λ b. refl }

pub word_writes : (language : ℕ) (word : List ℕ) (t : PlainToken) → 0 < length word → list_all is_word word ≡ true → word_token language word ≡ Some t
    → Writes language t word
word_writes language word t some all e = elim (cases_Bool (begins_with_letter word)) [
  | inl h ↦
      let same : ◌≡◌ {A = Option PlainToken} (Some (keyword_or_name (keyword_of language word) word)) (Some t) = sym (cond-true _ _ _ h) ∙ e in
      let token : keyword_or_name (keyword_of language word) word ≡ t = cc in
      subst (λ (u : PlainToken). Writes language u word) token (letters_write language word (keyword_of language word) h all refl)
  | inr h ↦
      let m = mapped Number (int_of word) t (sym (cond-false (begins_with_letter word) _ _ h) ∙ e) in
      subst (λ (u : PlainToken). Writes language u word) m.2 (number_writes language word m.0 m.1)
]

-- these bytes begin with the piece
abbrev pub BeginsSo : ℕ → List ℕ → Piece → Type 0
BeginsSo language bytes p = (rest : List ℕ) × Begins language bytes p rest

word_is : (language : ℕ) (bytes : List ℕ) (p : Piece) → 0 < prefix_len is_word bytes → word_piece language bytes ≡ Some p → BeginsSo language bytes p
word_is language bytes p some e =
    let n = prefix_len is_word bytes in
    let m = mapped Token (word_token language (take n bytes)) p e in
    let long : 0 < length (take n bytes) = omega (arith, length-take n bytes, prefix_len-le-length is_word bytes) in
    let w = word_writes language (take n bytes) m.0 long (run_passes is_word bytes) m.1 in
    let split : bytes ≡ spelling m.0 ++ drop n bytes = sym (take-append-drop n bytes) ∙ ap (λ (s : List ℕ). s ++ drop n bytes) (sym w.spelled) in
    let begins : Begins language bytes (Token m.0) (drop n bytes) =
    record { split = split; piece = w.token; ends = run_to_ends language (Token m.0) is_word w.ends (drop n bytes) (run_ends is_word bytes) } in
    subst (λ (q : Piece). BeginsSo language bytes q) m.2 (drop n bytes, begins)

line_is : (language : ℕ) (body : List ℕ)
    → Begins language (written (LineComment (take (prefix_len (λ b. not (is_line_feed b)) body) body))
    ++ drop (prefix_len (λ b. not (is_line_feed b)) body) body) (LineComment (take (prefix_len (λ b. not (is_line_feed b)) body) body))
    (drop (prefix_len (λ b. not (is_line_feed b)) body) body)
line_is language body =
    let other = λ (b : ℕ). not (is_line_feed b) in
    let n = prefix_len other body in
    record {
      split = refl;
      piece = run_passes other body;
      ends =
          run_to_ends language (LineComment (take n body)) other (λ b. refl) (drop n body) (run_ends other body);
    }

begun : (bytes two : List ℕ) → starts_with nat_eq bytes two ≡ true → bytes ≡ two ++ drop (length two) bytes
begun bytes two h = (starts_is Decides-eqb bytes two (starts_with nat_eq bytes two) refl).0 h

no_comment_after : (language : ℕ) (bytes rest : List ℕ) → bytes ≡ codes "/" ++ rest → starts_with nat_eq bytes (codes "//") ≡ false
    → starts_with nat_eq bytes (codes "/*") ≡ false → SignEnds language Slash rest
no_comment_after language bytes [] e h k = tt
no_comment_after language bytes (b ∷ bs) e h k =
    let first : starts_with nat_eq (47 ∷ b ∷ bs) (codes "//") ≡ false = ap (λ (s : List ℕ). starts_with nat_eq s (codes "//")) (sym e) ∙ h in
    let second : starts_with nat_eq (47 ∷ b ∷ bs) (codes "/*") ≡ false = ap (λ (s : List ℕ). starts_with nat_eq s (codes "/*")) (sym e) ∙ k in
    not_from_false _ (or_from _ _ (eq_swapped b 47 ∙ and_with_true _ first) (eq_swapped b 42 ∙ and_with_true _ second))

sign_piece_is : (language : ℕ) (bytes : List ℕ) (s : AnySign) → starts_with nat_eq bytes (codes "//") ≡ false → starts_with nat_eq bytes (codes "/*") ≡ false
    → sign_at language bytes ≡ Some s → BeginsSo language bytes (Token (Sign s))
sign_piece_is language bytes s h k e =
    let x = sign_is language bytes s e in
    let rest = drop (length (sign_text s)) bytes in
    let at_front : sign_at language (sign_text s ++ rest) ≡ Some s = ap (sign_at language) (sym x.0) ∙ e in
    let comment : s ≡ Slash
    → SignEnds language s rest = λ same. subst (λ (t : AnySign). SignEnds language t rest) (sym same) (no_comment_after language bytes rest (x.0
    ∙ ap (λ (t : AnySign). sign_text t ++ rest) same) h k) in
    (rest, record { split = x.0; piece = x.1; ends = from_sign_ends language s rest (sign_ends language s rest x.1 at_front comment) })

mark_is : (language : ℕ) (bytes : List ℕ) (p : Piece) → mark_piece language bytes ≡ Some p → BeginsSo language bytes p
mark_is language bytes p e = elim (cases_Bool (starts_with nat_eq bytes (codes "//"))) [
  | inl h ↦ line_case h
  | inr h ↦ elim (cases_Bool (starts_with nat_eq bytes (codes "/*"))) [
    | inl k ↦ block_case h k
    | inr k ↦
        let m = mapped (λ (s : AnySign). Token (Sign s)) (sign_at language bytes) p (sym (cond-false _ _ _ k) ∙ (sym (cond-false _ _ _ h) ∙ e)) in
        subst (λ (q : Piece). BeginsSo language bytes q) m.2 (sign_piece_is language bytes m.0 h k m.1)
  ]
]
  where
    line_case : starts_with nat_eq bytes (codes "//") ≡ true → BeginsSo language bytes p
    line_case h =
        let body = drop 2 bytes in
        let n = prefix_len (λ b. not (is_line_feed b)) body in
        let same : ◌≡◌ {A = Option Piece} (Some (LineComment (take n body))) (Some p) = sym (cond-true _ _ _ h) ∙ e in
        let piece : LineComment (take n body) ≡ p = cc in
        let split : bytes ≡ written (LineComment (take n body)) ++ drop n body = begun bytes (codes "//") h
        ∙ ap (λ (s : List ℕ). codes "//" ++ s) (sym (take-append-drop n body)) in
        subst (λ (q : Piece). BeginsSo language bytes q) piece
        (drop n body, subst (λ (s : List ℕ). Begins language s (LineComment (take n body)) (drop n body)) (sym split) (line_is language body))

    block_case : starts_with nat_eq bytes (codes "//") ≡ false → starts_with nat_eq bytes (codes "/*") ≡ true → BeginsSo language bytes p
    block_case h k =
        let m = mapped BlockComment (before_close (drop 2 bytes)) p (sym (cond-true _ _ _ k) ∙ (sym (cond-false _ _ _ h) ∙ e)) in
        let r = close_is (drop 2 bytes) m.0 m.1 in
        let split : bytes ≡ written (BlockComment m.0) ++ r.0 = begun bytes (codes "/*") k
        ∙ ap (λ (s : List ℕ). codes "/*" ++ s) (r.1 ∙ sym (append_assoc m.0 (codes "*/") r.0)) in
        subst (λ (q : Piece). BeginsSo language bytes q) m.2 (
          r.0,
          record {
            split = split;
            piece = r.2;
            ends =
                ends_at_once language (BlockComment m.0) (λ b. refl) r.0;
          },
        )

-- the piece that the reader finds is at the front
pub is_found : (language : ℕ) (bytes : List ℕ) (p : Piece) → front language bytes ≡ Some p → BeginsSo language bytes p
is_found language [] p e = absurd cc
is_found language (b ∷ bs) p e = elim (cases_Bool (is_space b)) [
  | inl h ↦
      let same : ◌≡◌ {A = Option Piece} (Some (Space b)) (Some p) = sym (cond-true _ _ _ h) ∙ e in
      let piece : Space b ≡ p = cc in
      subst (λ (q : Piece). BeginsSo language (b ∷ bs) q) piece (bs, record { split = refl; piece = h; ends = ends_at_once language (Space b) (λ c. refl) bs })
  | inr h ↦ elim (cases_Bool (is_word b)) [
    | inl w ↦
        let one : prefix_len is_word (b ∷ bs) ≡ 1 + prefix_len is_word bs = cond-true (is_word b) _ _ w in
        word_is language (b ∷ bs) p (omega arith) (sym (cond-true _ _ _ w) ∙ (sym (cond-false _ _ _ h) ∙ e))
    | inr w ↦ mark_is language (b ∷ bs) p (sym (cond-false _ _ _ w) ∙ (sym (cond-false _ _ _ h) ∙ e))
  ]
]

-- Results of the reader's calls.

pub front_word : (bytes : List ℕ) (b : ℕ) → Some b ≡ slice_get bytes 0 → is_space b ≡ false → is_word b ≡ true → front 4 bytes ≡ word_piece 4 bytes
front_word [] b e h k = absurd cc
front_word (c ∷ cs) b e h k =
    let same : b ≡ c = cc in
    cond-false (is_space c) _ _ (ap is_space (sym same) ∙ h) ∙ cond-true (is_word c) _ _ (ap is_word (sym same) ∙ k)

shape_token : (t : PlainToken) (kind : TokenKind) (len : ℕ) → kind_of t ≡ kind → length (spelling t) ≡ len
    → ◌≡◌ {A = Option Shape} (Some (record { kind = Some kind; len = len })) (Some (shape_of (Token t)))
shape_token t kind len e f = cc

pub word_shape : (bytes : List ℕ) (n : ℕ) (kind : TokenKind) → n ≡ prefix_len is_word bytes → 0 < n
    → option_map kind_of (word_token 4 (take n bytes)) ≡ Some kind
    → ◌≡◌ {A = Option Shape} (Some (record { kind = Some kind; len = n })) (option_map shape_of (word_piece 4 bytes))
word_shape bytes n kind e some h =
    let m = mapped kind_of (word_token 4 (take n bytes)) kind h in
    let long : length (take n bytes) ≡ n = omega (arith, length-take n bytes, prefix_len-le-length is_word bytes) in
    let passes : list_all is_word (take n bytes) ≡ true = ap (λ (k : ℕ). list_all is_word (take k bytes)) e ∙ run_passes is_word bytes in
    let w = word_writes 4 (take n bytes) m.0 (omega arith) passes m.1 in
    shape_token m.0 kind n m.2 (ap length w.spelled ∙ long)
    ∙ (ap (λ (o : Option PlainToken). option_map shape_of (option_map Token o)) (sym m.1)
    ∙ ap (λ (k : ℕ). option_map shape_of (option_map Token (word_token 4 (take k bytes)))) e)
