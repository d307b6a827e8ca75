-- The format of a solver's answer, and the literals in it.
use Rattle.std.specs.Prelude.{◌≡◌, ℕ, ◌-◌, ◌==◌, nat_lt, nat_le, Bool, true, not, ◌||◌, ◌&&◌}
use Rattle.std.specs.Prelude.{IsTrue, if◌then◌else◌, List, [], ◌∷◌, ◌++◌, length, take, map}
use Rattle.std.specs.Prelude.{codes, ℤ, neg_ℤ}
use Rattle.std.specs.List.{filter, flat_map, list_all, list_any, onto_first, suffix_len}
use Rattle.std.specs.Fmt.{signed_decimal}
use Rattle.std.specs.Ordering.{int_eq}
use Rattle.std.specs.Str.Lines.{strip_carriage_return}
use Rattle.cnf_core.specs.Clauses.{var_of}

-- Lines, and the words of a line.

-- the pieces of some bytes, each ended by a byte that passes the test, which the last may lack
abbrev pub pieces : (ℕ → Bool) → List ℕ → List (List ℕ)
pieces ends [] = []
pieces ends (b ∷ bytes) =
    if ends b then [] ∷ pieces ends bytes else onto_first b (pieces ends bytes)

abbrev pub is_line_feed : ℕ → Bool
is_line_feed b = b == 10

-- a space or a tab
abbrev pub is_blank : ℕ → Bool
is_blank b = b == 32 || b == 9

-- the lines of a text
abbrev pub lines_of : List ℕ → List (List ℕ)
lines_of text = pieces is_line_feed text

abbrev pub without_blanks : List ℕ → List ℕ
without_blanks line = take (length line - suffix_len is_blank line) line

-- a line without a trailing carriage return, and then without trailing blanks
abbrev pub trimmed : List ℕ → List ℕ
trimmed line = without_blanks (strip_carriage_return line)

-- whether a line is skipped: it is empty, or it is a comment, which begins with `c`
abbrev pub is_skipped : List ℕ → Bool
is_skipped [] = true
is_skipped (b ∷ bytes) = b == 99

-- the trimmed lines that aren't skipped
abbrev pub unskipped : List (List ℕ) → List (List ℕ)
unskipped lines = filter (λ line. not (is_skipped line)) (map trimmed lines)

abbrev pub is_word : List ℕ → Bool
is_word piece = nat_lt 0 (length piece)

-- the first piece, and the words among the others
abbrev pub words_in : List (List ℕ) → List (List ℕ)
words_in [] = []
words_in (first ∷ others) = first ∷ filter is_word others

-- the words of a line: the bytes before its first blank, then those between blanks
abbrev pub words_of : List ℕ → List (List ℕ)
words_of line = words_in (pieces is_blank line)

-- Literals.

-- whether a literal's variable is from 1 to 2147483647
abbrev pub is_literal : ℤ → Bool
is_literal l = nat_lt 0 (var_of l) && nat_le (var_of l) 2147483647

-- whether a literal is in a list
abbrev pub is_among : List ℤ → ℤ → Bool
is_among literals l = list_any (int_eq l) literals

-- no literal is in the list together with its opposite
abbrev pub HaveNoOpposites : List ℤ → Type 0
HaveNoOpposites literals =
    (l : ℤ) → IsTrue (is_among literals l) → IsTrue (is_among literals (neg_ℤ l)) → ⊥

-- each literal once, in the order of the first occurrences
abbrev pub each_once : List ℤ → List ℤ
each_once [] = []
each_once (l ∷ ls) = l ∷ filter (λ k. not (int_eq l k)) (each_once ls)

-- Answers.

-- the words of a line of values: `v`, and its literals
abbrev pub value_words : List ℤ → List (List ℕ)
value_words literals = codes "v" ∷ map signed_decimal literals

-- Lines are an answer with these literals: the first that isn't skipped is `s SATISFIABLE`, and
-- all others are lines of values. A 0 follows the literals of the last one.
pub record AreAnswerWith (lines : List (List ℕ)) (literals : List ℤ) : Type 0 where
  -- the lines of values
  pub values : List (List ℕ)
  -- the literals of each line of values except the last, and those of the last
  pub before : List (List ℤ)
  pub last : List ℤ
  -- all literals, in their order
  pub all : List ℤ
  pub lines_are : unskipped lines ≡ codes "s SATISFIABLE" ∷ values
  pub values_are :
      map words_of values ≡ map value_words before ++ (value_words last ++ codes "0" ∷ []) ∷ []
  pub all_are : all ≡ flat_map (λ ls. ls) before ++ last
  pub are_literals : IsTrue (list_all is_literal all)
  pub no_opposites : HaveNoOpposites all
  pub literals_are : literals ≡ each_once all

-- the text is an answer that has these literals
abbrev pub IsAnswerWith : (text : List ℕ) (literals : List ℤ) → Type 0
IsAnswerWith text literals = AreAnswerWith (lines_of text) literals

-- lines begin an answer: followed by the lines of some text, they are one
abbrev pub BeginAnswer : List (List ℕ) → Type 0
BeginAnswer lines =
    (more : List ℕ) × (literals : List ℤ) × AreAnswerWith (lines ++ lines_of more) literals
