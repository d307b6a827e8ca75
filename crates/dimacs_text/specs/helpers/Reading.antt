-- How a reader takes the lines of an answer, and the words of a line, one after another.
use Rattle.std.specs.Prelude.{ℕ, ◌+◌, ◌==◌, if◌then◌else◌, List, [], ◌∷◌, codes, ℤ, pos, neg_ℤ, Option, Some, None, Result, Ok, Err}
use Rattle.std.specs.Option.{option_and_then, option_map, option_map_or}
use Rattle.std.specs.Ordering.{int_eq}
use Rattle.std.specs.Str.{bytes_eq}
use Rattle.indexmap.specs.IndexSet.{insert_key}
use Rattle.tc_decimal.specs.Decimals.{number_of}
use Rattle.dimacs_text.specs.Answers.{is_among, is_blank, is_skipped, lines_of, pieces, trimmed}
use Rattle.dimacs_text.specs.declared.said.Said.{Said}
use Rattle.dimacs_text.specs.declared.said.Said.TheVariants.{Nothing, Begun, Whole}
use Rattle.dimacs_text.specs.declared.words.Word.{Word}
use Rattle.dimacs_text.specs.declared.words.Word.TheVariants.{Literal, End}

-- the greatest variable
abbrev pub last_var : ℕ
last_var = 2147483647

-- the negated literal of a number; `-0` isn't a literal
abbrev pub negated : ℕ → Option Word
negated n = if n == 0 then None else Some (Literal (neg_ℤ (pos n)))

-- a literal, or the 0 after the last
abbrev pub plain : ℕ → Word
plain n = if n == 0 then End else Literal (pos n)

-- the meaning of a word in a line of values
abbrev pub word_in : List ℕ → Option Word
word_in [] = None
word_in (b ∷ bytes) =
    if b == 45 then option_and_then negated (number_of last_var bytes)
    else option_map plain (number_of last_var (b ∷ bytes))

-- the state after a word: no literal is the opposite of an earlier one, and nothing follows the 0
abbrev pub after_word : Said → Word → Option Said
after_word (Begun literals) (Literal l) =
    if is_among literals (neg_ℤ l) then None else Some (Begun (insert_key int_eq literals l))
after_word (Begun literals) End = Some (Whole literals)
after_word said word = None

-- the state after a part between blanks: nothing, or a word
abbrev pub after_part : Said → List ℕ → Option Said
after_part said [] = Some said
after_part said (b ∷ bytes) = option_and_then (after_word said) (word_in (b ∷ bytes))

abbrev pub after_parts : Said → List (List ℕ) → Option Said
after_parts said [] = Some said
after_parts said (part ∷ parts) =
    option_and_then (λ next. after_parts next parts) (after_part said part)

-- the state after a line of values: `v`, then words, each after blanks
abbrev pub after_values : Said → List (List ℕ) → Option Said
after_values said [] = None
after_values said (part ∷ parts) =
    if bytes_eq part (codes "v") then after_parts said parts else None

-- the state after a line that isn't skipped: first the status, then values up to the 0, then none
abbrev pub after_line : Said → List ℕ → Option Said
after_line Nothing line = if bytes_eq line (codes "s SATISFIABLE") then Some (Begun []) else None
after_line (Begun literals) line = after_values (Begun literals) (pieces is_blank line)
after_line (Whole literals) line = None

abbrev pub after_any : Said → List ℕ → Option Said
after_any said line = if is_skipped line then Some said else after_line said line

-- the result if the text ends before the line `number`
abbrev pub at_end : ℕ → Said → Result (List ℤ) ℕ
at_end number (Whole literals) = Ok literals
at_end number said = Err number

-- the result of the lines from `number` on: literals, or the number of the first broken line
abbrev pub reading : ℕ → Said → List (List ℕ) → Result (List ℤ) ℕ
reading number said [] = at_end number said
reading number said (line ∷ lines) =
    option_map_or (λ next. reading (number + 1) next lines) (after_any said (trimmed line))
    (Err number)

-- the result of reading a text
abbrev pub answer : List ℕ → Result (List ℤ) ℕ
answer text = reading 1 Nothing (lines_of text)
