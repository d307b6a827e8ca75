-- The words of a text's tokens: as many as tokens, each number an int, each word of the language.
use Rattle.std.proofs.Common.{◌≡◌, ◌≤◌, ℕ, suc, Bool, true, false, List, [], ◌∷◌, length, map, pos, negsuc, refl, ap, ◌∙◌, subst, arith}
use Rattle.std.specs.Prelude.{◌&&◌, if◌then◌else◌, nat_le}
use Rattle.std.proofs.lemmas.Bool.{leb-true}
use Rattle.std.proofs.lemmas.List.{length-map}
use Rattle.std.specs.List.{All}
use Rattle.std.proofs.lemmas.List.Elements.{All-head, All-tail}
use Rattle.tc_lexer.specs.declared.place.Place.{Place}
use Rattle.tc_lexer.specs.declared.token.Keyword.{Keyword}
use Rattle.tc_lexer.specs.declared.token.Keyword.TheVariants as keyword
use Rattle.tc_lexer.specs.declared.token.Sign.{Sign}
use Rattle.tc_lexer.specs.declared.token.Sign.TheVariants as sign
use Rattle.tc_lexer.specs.declared.token.Token.{Token}
use Rattle.tc_lexer.specs.declared.token.TokenKind.{TokenKind}
use Rattle.tc_lexer.specs.declared.token.TokenKind.TheVariants as kind
use Rattle.tc_lexer.specs.Tokens.{IsToken, plain_kind, keyword_since, sign_since}
use Rattle.tc_lexer.specs.Text.{AreTokens, IsSpan}
use Rattle.tc_lexer.proofs.OneReading.{are_spans}
use Rattle.tc_tree.specs.Grammar.{Program, AreOf}
use Rattle.tc_tree.specs.Numbers.{IsIntWord, AreInts, HasInts}
use Rattle.tc_syntax.proofs.Places.{update_small}
use Rattle.tc_tree.specs.declared.statement.UpdateKind.TheVariants as kinds
use Rattle.tc_tree.specs.declared.word.Word.{Word}
use Rattle.tc_tree.specs.declared.word.Word.TheVariants.{Name as AName, Number as ANumber, Update as AnUpdate}
use Rattle.tc_tree.specs.Words.{keyword_word, sign_word, kind_word, word_of, words_of, word_since, is_name, is_assign, is_add, begin_call, target_of, called_word, words_after}
use Rattle.tc_parser.specs.Programs.{IsProgram}

no_number : (k : Keyword) (p : Place) → IsIntWord (keyword_word k p)
no_number keyword.If p = tt
no_number keyword.While p = tt
no_number keyword.Join p = tt
no_number keyword.Lock p = tt
no_number keyword.Unlock p = tt
no_number keyword.Signal p = tt
no_number keyword.Broadcast p = tt
no_number keyword.Wait p = tt
no_number keyword.Fence p = tt
no_number keyword.Stbar p = tt
no_number keyword.Assert p = tt
no_number keyword.Swap p = tt
no_number keyword.Cas p = tt
no_number _ p = tt

no_number_sign : (s : Sign) (p : Place) → IsIntWord (sign_word s p)
no_number_sign sign.CloseBrace p = tt
no_number_sign _ p = tt

word_int : (language : ℕ) (bytes : List ℕ) (k : TokenKind) (start end : ℕ) (p : Place) → IsToken language (plain_kind bytes k)
    → IsIntWord (kind_word k start end p)
word_int language bytes kind.Name start end p h = tt
word_int language bytes (kind.Number (pos n)) start end p h = omega (arith, h)
word_int language bytes (kind.Number (negsuc n)) start end p h = absurd h
word_int language bytes (kind.Keyword k) start end p h = no_number k p
word_int language bytes (kind.Sign s) start end p h = no_number_sign s p

plain_ints : (language : ℕ) (text : List ℕ) (ts : List Token) → All (IsSpan language text) ts → AreInts (map word_of ts)
plain_ints language text [] h = tt
plain_ints language text (t ∷ ts) h = (
  word_int language _ t.kind t.start t.end t.place (All-head (IsSpan language text) t ts h).token,
  plain_ints language text ts (All-tail (IsSpan language text) t ts h),
)

-- ---- the words of language 4

either : {A : Type 0} (P : A → Type 0) (b : Bool) (x y : A) → P x → P y → P (if b then x else y)
either P true x y h k = h
either P false x y h k = k

called_int : (text : List ℕ) (w : Word) (ws : List Word) → IsIntWord w → IsIntWord (called_word text w ws)
called_int text (AName x) ws h = either IsIntWord (is_add text x) (AnUpdate kinds.Add (target_of ws)) (AName x) tt tt
called_int text (AnUpdate k t) ws h = tt
called_int text (ANumber n) ws h = h
called_int text _ ws h = h

after_ints : (text : List ℕ) (named assigned : Bool) (ws : List Word) → AreInts ws → AreInts (words_after text named assigned ws)
after_ints text named assigned [] h = tt
after_ints text named assigned (w ∷ ws) h = (
  either IsIntWord (assigned && begin_call ws) (called_word text w ws) w (called_int text w ws h.0) h.0,
  after_ints text (is_name w) (is_assign w && named) ws h.1,
)

words_ints : (language : ℕ) (text : List ℕ) (ts : List Token) → All (IsSpan language text) ts → AreInts (words_of language text ts)
words_ints language text ts h =
    let plain = plain_ints language text ts h in
    either AreInts (nat_le 4 language) (words_after text false false (map word_of ts)) (map word_of ts) (after_ints text false false (map word_of ts) plain) plain

length-after : (text : List ℕ) (named assigned : Bool) (ws : List Word) → length (words_after text named assigned ws) ≡ length ws
length-after text named assigned [] = refl
length-after text named assigned (w ∷ ws) = ap suc (length-after text (is_name w) (is_assign w && named) ws)

-- there are as many words as tokens
pub length-words : (language : ℕ) (text : List ℕ) (ts : List Token) → length (words_of language text ts) ≡ length ts
length-words language text ts =
    either (λ (ws : List Word). length ws ≡ length ts) (nat_le 4 language) (words_after text false false (map word_of ts)) (map word_of ts)
    (length-after text false false (map word_of ts) ∙ length-map ts word_of) (length-map ts word_of)

-- ---- words of the language

keyword_of : (language : ℕ) (k : Keyword) (p : Place) → 1 ≤ language → keyword_since k ≤ language → word_since (keyword_word k p) ≤ language
keyword_of language keyword.If p least h = least
keyword_of language keyword.While p least h = least
keyword_of language keyword.Join p least h = least
keyword_of language keyword.Lock p least h = least
keyword_of language keyword.Unlock p least h = least
keyword_of language keyword.Signal p least h = least
keyword_of language keyword.Broadcast p least h = least
keyword_of language keyword.Wait p least h = least
keyword_of language keyword.Fence p least h = least
keyword_of language keyword.Stbar p least h = h
keyword_of language keyword.Assert p least h = least
keyword_of language keyword.Swap p least h = h
keyword_of language keyword.Cas p least h = h
keyword_of language _ p least h = h

sign_of : (language : ℕ) (s : Sign) (p : Place) → 1 ≤ language → sign_since s ≤ language → word_since (sign_word s p) ≤ language
sign_of language sign.CloseBrace p least h = least
sign_of language _ p least h = h

word_of_language : (language : ℕ) (bytes : List ℕ) (k : TokenKind) (start end : ℕ) (p : Place) → 1 ≤ language → IsToken language (plain_kind bytes k)
    → word_since (kind_word k start end p) ≤ language
word_of_language language bytes kind.Name start end p least h = least
word_of_language language bytes (kind.Number n) start end p least h = least
word_of_language language bytes (kind.Keyword k) start end p least h = keyword_of language k p least h
word_of_language language bytes (kind.Sign s) start end p least h = sign_of language s p least h

plain_of_language : (language : ℕ) (text : List ℕ) (ts : List Token) → 1 ≤ language → All (IsSpan language text) ts → AreOf language (map word_of ts)
plain_of_language language text [] least h = tt
plain_of_language language text (t ∷ ts) least h = (
  word_of_language language _ t.kind t.start t.end t.place least (All-head (IsSpan language text) t ts h).token,
  plain_of_language language text ts least (All-tail (IsSpan language text) t ts h),
)

called_of : (language : ℕ) (text : List ℕ) (w : Word) (ws : List Word) → 4 ≤ language → word_since w ≤ language
    → word_since (called_word text w ws) ≤ language
called_of language text (AName x) ws late h =
    either (λ (w : Word). word_since w ≤ language) (is_add text x) (AnUpdate kinds.Add (target_of ws)) (AName x) late h
called_of language text (AnUpdate k t) ws late h = omega (arith, late, update_small k (target_of ws))
called_of language text _ ws late h = h

after_of : (language : ℕ) (text : List ℕ) (named assigned : Bool) (ws : List Word) → 4 ≤ language → AreOf language ws
    → AreOf language (words_after text named assigned ws)
after_of language text named assigned [] late h = tt
after_of language text named assigned (w ∷ ws) late h = (
  either (λ (v : Word). word_since v ≤ language) (assigned && begin_call ws) (called_word text w ws) w (called_of language text w ws late h.0) h.0,
  after_of language text (is_name w) (is_assign w && named) ws late h.1,
)

by_language : (language : ℕ) (text : List ℕ) (ws : List Word) (b : Bool) → nat_le 4 language ≡ b → AreOf language ws
    → AreOf language (if b then words_after text false false ws else ws)
by_language language text ws true late h = after_of language text false false ws (leb-true 4 language late) h
by_language language text ws false late h = h

pub are_of_language : (language : ℕ) (text : List ℕ) (ts : List Token) → 1 ≤ language → AreTokens language text ts
    → AreOf language (words_of language text ts)
are_of_language language text ts least read =
    by_language language text (map word_of ts) (nat_le 4 language) refl
    (plain_of_language language text ts least (are_spans language text ts read))

pub has_ints : (language : ℕ) (text : List ℕ) (p : Program) → IsProgram language text p → HasInts p
has_ints language text p x = subst AreInts x.are_of.spelled.spelled (words_ints language text x.tokens (are_spans language text x.tokens x.read))
