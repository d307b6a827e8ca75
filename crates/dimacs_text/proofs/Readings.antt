-- Lines and words, read one after another.
use Rattle.std.proofs.Common.{◌≡◌, ◌∙◌, ◌<◌, ◌+◌, ℕ, ℤ, List, [], ◌∷◌, length, Option, Some, None, Result, Ok, Err, refl, sym, ap, arith}
use Rattle.std.proofs.lemmas.List.{length-map}
use Rattle.std.proofs.lemmas.List.FromFn.{length-range_with_len}
use Rattle.std.specs.List.{range_with_len}
use Rattle.std.specs.Option.{option_and_then, option_map_or}
use Rattle.dimacs_text.specs.Answers.{is_blank, is_line_feed, pieces, trimmed}
use Rattle.dimacs_text.specs.helpers.Reading.{after_any, after_part, after_parts, at_end, reading}
use Rattle.dimacs_text.specs.Values.{assigned, is_made_true}
use Rattle.dimacs_text.specs.declared.said.Said.{Said}
use Rattle.dimacs_text.specs.declared.said.Said.TheVariants.{Nothing, Begun, Whole}
use Rattle.dimacs_text.specs.helpers.Pieces.{behind_first, first_piece}
use Rattle.dimacs_text.proofs.Firsts.{begins_with_first}

module _ (number : ℕ) (said : Said) (rest line behind : List ℕ) (some : 0 < length rest) (as_line : line ≡ first_piece is_line_feed rest)
    (as_behind : behind ≡ behind_first is_line_feed rest) where
  -- the reading from here on, by the state after the first line
  first_line : reading number said (pieces is_line_feed rest)
      ≡ option_map_or (λ next. reading (number + 1) next (pieces is_line_feed behind)) (after_any said (trimmed line)) (Err number)
  first_line =
      ap (reading number said) (begins_with_first is_line_feed rest some)
      ∙ ap (λ l.
      option_map_or (λ next. reading (number + 1) next (pieces is_line_feed (behind_first is_line_feed rest))) (after_any said (trimmed l)) (Err number))
      (sym as_line)
      ∙ ap (λ bs. option_map_or (λ next. reading (number + 1) next (pieces is_line_feed bs)) (after_any said (trimmed line)) (Err number)) (sym as_behind)

  -- a line goes on or breaks the form
  pub reads_on : (next : Said) → Some next ≡ after_any said (trimmed line)
      → reading number said (pieces is_line_feed rest) ≡ reading (number + 1) next (pieces is_line_feed behind)
  reads_on next is =
      first_line ∙ ap (λ o. option_map_or (λ n. reading (number + 1) n (pieces is_line_feed behind)) o (Err number)) (sym is)

  pub breaks : None ≡ after_any said (trimmed line) → reading number said (pieces is_line_feed rest) ≡ Err number
  breaks is = first_line ∙ ap (λ o. option_map_or (λ n. reading (number + 1) n (pieces is_line_feed behind)) o (Err number)) (sym is)

-- no line is left
pub whole_at_end : (number : ℕ) (said : Said) (rest : List ℕ) (literals : List ℤ) → length rest ≡ 0 → said ≡ Whole literals
    → reading number said (pieces is_line_feed rest) ≡ Ok literals
whole_at_end number said [] literals empty is = ap (at_end number) is
whole_at_end number said (b ∷ rest) literals empty is = absurd (omega (arith, empty))

pub not_whole_at_end : (number : ℕ) (said : Said) (rest : List ℕ) → length rest ≡ 0 → ((literals : List ℤ) → said ≡ Whole literals → ⊥)
    → reading number said (pieces is_line_feed rest) ≡ Err number
not_whole_at_end number Nothing [] empty not_whole = refl
not_whole_at_end number (Begun kept) [] empty not_whole = refl
not_whole_at_end number (Whole kept) [] empty not_whole = absurd (not_whole kept refl)
not_whole_at_end number said (b ∷ rest) empty not_whole = absurd (omega (arith, empty))

module _ (said : Said) (rest part behind : List ℕ) (some : 0 < length rest) (as_part : part ≡ first_piece is_blank rest)
    (as_behind : behind ≡ behind_first is_blank rest) where
  first_part : after_parts said (pieces is_blank rest) ≡ option_and_then (λ next. after_parts next (pieces is_blank behind)) (after_part said part)
  first_part =
      ap (after_parts said) (begins_with_first is_blank rest some)
      ∙ ap (λ p. option_and_then (λ next. after_parts next (pieces is_blank (behind_first is_blank rest))) (after_part said p)) (sym as_part)
      ∙ ap (λ bs. option_and_then (λ next. after_parts next (pieces is_blank bs)) (after_part said part)) (sym as_behind)

  -- reading goes on after the first part with what that part says
  pub goes_on : (next : Said) → Some next ≡ after_part said part → after_parts said (pieces is_blank rest) ≡ after_parts next (pieces is_blank behind)
  goes_on next is = first_part ∙ ap (option_and_then (λ n. after_parts n (pieces is_blank behind))) (sym is)

  pub stops : None ≡ after_part said part → after_parts said (pieces is_blank rest) ≡ None
  stops is = first_part ∙ ap (option_and_then (λ n. after_parts n (pieces is_blank behind))) (sym is)

-- there is a value for each variable
pub length_assigned : (vars : ℕ) (literals : List ℤ) → length (assigned vars literals) ≡ vars
length_assigned vars literals =
    length-map (range_with_len 0 vars) (λ place. is_made_true literals (place + 1)) ∙ length-range_with_len 0 vars
