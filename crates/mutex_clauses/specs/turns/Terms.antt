-- The clauses by which words have the values of terms, where two literals are true.
use Rattle.std.specs.Prelude.{ℕ, false, if◌then◌else◌, List, [], ◌∷◌, ◌++◌, ℤ, neg_ℤ, get_or, map, Option}
use Rattle.std.specs.List.{enumerate_from, flat_map}
use Rattle.std.specs.Option.{option_map_or}
use Rattle.bit_gates.specs.Folded.{constant}
use Rattle.bit_terms.specs.Terms.{word_at}
use Rattle.bit_blast.specs.Reads.{value_clauses}
use Rattle.mutex_clauses.specs.declared.shapes.steps.LoadTerm.{LoadTerm}
use Rattle.mutex_clauses.specs.declared.shapes.steps.TestTerm.{TestTerm}

-- `terms` are the words of the terms
module _ (first second : ℤ) (terms : List (List ℤ)) where
  -- a word of some words has the value of a term, if there are both
  abbrev pub word_clauses : (words : List (List ℤ)) → (place : ℕ) → (term : ℕ) → List (List ℤ)
  word_clauses words place term =
      value_clauses first second (get_or words place []) (word_at terms term)

  abbrev pub known_clauses : (words : List (List ℤ)) → (place : ℕ) → Option ℕ → List (List ℤ)
  known_clauses words place term = option_map_or (word_clauses words place) term []

  -- the cells of a state have the values of a shape's terms
  abbrev pub shape_clauses : (after : List (List ℤ)) → List ℕ → List (List ℤ)
  shape_clauses after shape =
      flat_map (λ x. word_clauses after x.0 x.1) (enumerate_from 0 shape)

  -- the same where only some cells have a term
  abbrev pub cell_clauses : (after : List (List ℤ)) → List (Option ℕ) → List (List ℤ)
  cell_clauses after cells =
      flat_map (λ x. known_clauses after x.0 x.1) (enumerate_from 0 cells)

  -- loads have the values of their terms
  abbrev pub load_clauses : (loads : List (List ℤ)) → List LoadTerm → List (List ℤ)
  load_clauses loads xs = flat_map (λ x. known_clauses loads x.load x.term) xs

  -- a test comes out as wanted, if its conjunct holds: some bit is set, or none
  abbrev pub none_clauses : (root : ℤ) → (word : List ℤ) → List (List ℤ)
  none_clauses root word =
      map (λ l. (neg_ℤ first ∷ neg_ℤ second ∷ neg_ℤ root ∷ []) ++ neg_ℤ l ∷ []) word

  abbrev pub some_clause : (root : ℤ) → (word : List ℤ) → List ℤ
  some_clause root word = (neg_ℤ first ∷ neg_ℤ second ∷ neg_ℤ root ∷ []) ++ word

  abbrev pub test_clauses : (roots : List ℤ) → TestTerm → List (List ℤ)
  test_clauses roots x =
      if x.wanted
      then some_clause (get_or roots x.conjunct (constant false)) (word_at terms x.term) ∷ []
      else none_clauses (get_or roots x.conjunct (constant false)) (word_at terms x.term)
