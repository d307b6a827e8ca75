-- The place after some bytes, one byte at a time.
use Rattle.std.proofs.Common.{◌≡◌, ◌+◌, ◌≤◌, ℕ, Bool, List, [], ◌∷◌, ◌++◌, length, reverse, sym, ap, inl, inr, ◌∙◌, arith, append_assoc}
use Rattle.std.specs.Prelude.{not}
use Rattle.std.specs.List.{count_by, prefix_len, suffix_len}
use Rattle.std.proofs.lemmas.Bool.{cases_Bool, cond-true, cond-false, not_from_true, not_from_false}
use Rattle.std.proofs.lemmas.List.{append-nil, reverse-append}
use Rattle.std.proofs.lemmas.List.Sums.{sum_by-append, suffix_len-le-length}
use Rattle.tc_lexer.specs.declared.place.Place.{Place}
use Rattle.tc_lexer.specs.Pieces.{is_line_feed}
use Rattle.tc_lexer.specs.Places.{place_after}
use Rattle.tc_lexer.specs.helpers.Reading.{next_place, place_from}

abbrev is_other : ℕ → Bool
is_other b = not (is_line_feed b)

-- one byte more at the end
lines_more : (before : List ℕ) (b : ℕ) → count_by is_line_feed (before ++ b ∷ []) ≡ count_by is_line_feed before + count_by is_line_feed (b ∷ [])
lines_more before b = sum_by-append _ before (b ∷ [])

back : (before : List ℕ) (b : ℕ) → suffix_len is_other (before ++ b ∷ []) ≡ prefix_len is_other (b ∷ reverse before)
back before b = ap (prefix_len is_other) (reverse-append before (b ∷ []))

same_place : (line line' col col' : ℕ) → line ≡ line' → col ≡ col' → ◌≡◌ {A = Place} (record { line = line; col = col }) (record { line = line'; col = col' })
same_place line line' col col' e f = cc

place_more : (before : List ℕ) (b : ℕ) → place_after (before ++ b ∷ []) ≡ next_place (place_after before) b
place_more before b = elim (cases_Bool (is_line_feed b)) [
  | inl h ↦
      let one : count_by is_line_feed (b ∷ []) ≡ 1 = ap (λ (n : ℕ). 0 + n) (cond-true (is_line_feed b) 1 0 h) in
      let none : prefix_len is_other (b ∷ reverse before) ≡ 0 = cond-false (is_other b) _ _ (not_from_true (is_line_feed b) h) in
      let line : 1 + count_by is_line_feed (before ++ b ∷ []) ≡ (1 + count_by is_line_feed before) + 1 = omega (arith, lines_more before b) in
      let col : 1 + suffix_len is_other (before ++ b ∷ []) ≡ 1 = omega (arith, back before b) in
      same_place _ _ _ _ line col ∙ sym (cond-true (is_line_feed b) _ _ h)
  | inr h ↦
      let none : count_by is_line_feed (b ∷ []) ≡ 0 = ap (λ (n : ℕ). 0 + n) (cond-false (is_line_feed b) 1 0 h) in
      let one : prefix_len is_other (b ∷ reverse before) ≡ 1 + prefix_len is_other (reverse before) =
      cond-true (is_other b) _ _ (not_from_false (is_line_feed b) h) in
      let line : 1 + count_by is_line_feed (before ++ b ∷ []) ≡ 1 + count_by is_line_feed before = omega (arith, lines_more before b) in
      let col : 1 + suffix_len is_other (before ++ b ∷ []) ≡ (1 + suffix_len is_other before) + 1 = omega (arith, back before b) in
      same_place _ _ _ _ line col ∙ sym (cond-false (is_line_feed b) _ _ h)
]

pub place_after-append : (bytes before : List ℕ) → place_after (before ++ bytes) ≡ place_from (place_after before) bytes
place_after-append [] before = ap place_after (append-nil before)
place_after-append (b ∷ bs) before =
    ap place_after (sym (append_assoc before (b ∷ []) bs))
    ∙ (place_after-append bs (before ++ b ∷ []) ∙ ap (λ (p : Place). place_from p bs) (place_more before b))

pub place_after-col : (before : List ℕ) → (place_after before).col ≤ 1 + length before
place_after-col before = omega (arith, suffix_len-le-length is_other before)
