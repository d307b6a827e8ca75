-- The circuit of a conjunct that says which value a load takes.
use Rattle.std.specs.Prelude.{ℕ, ◌+◌, ◌==◌, true, if◌then◌else◌, List, [], ◌∷◌, ◌++◌, ℤ, pos, neg_ℤ, fold, map, length}
use Rattle.std.specs.List.{flat_map}
use Rattle.std.specs.Option.{option_map_or}
use Rattle.order_formula.specs.declared.read.Candidate.{Candidate}
use Rattle.order_formula.specs.Reads.{Read}
use Rattle.cnf_core.specs.Clauses.{Formula}
use Rattle.bit_gates.specs.Folded.{Made, constant, kept, conjunction}
use Rattle.bit_ops.specs.bit_words.Words.{Walked}
use Rattle.bit_order.specs.Clauses.{folded_clause}
use Rattle.bit_ops.specs.Ops.{some_of}
use Rattle.bit_terms.specs.Terms.{word_at}
use Rattle.bit_blast.specs.Cases.{Parts}

-- a formula with one more clause for each list of literals
abbrev pub with_clauses : Formula → List (List ℤ) → Formula
with_clauses f lists = record { vars = f.vars; clauses = f.clauses ++ flat_map folded_clause lists }

-- a write that a load may take: its event, the literals that the load sees and takes it, its value
pub record Source : Type 0 where
  pub event : ℕ
  pub seen : ℤ
  pub taken : ℤ
  pub value : List ℤ

-- if the conjunct is true and the load takes this value, the load's word equals it, bit by bit
abbrev pub value_clauses : (holds taken : ℤ) → (takes value : List ℤ) → List (List ℤ)
value_clauses holds taken [] value = []
value_clauses holds taken (a ∷ xs) [] = []
value_clauses holds taken (a ∷ xs) (b ∷ ys) =
    (neg_ℤ holds ∷ neg_ℤ taken ∷ neg_ℤ a ∷ b ∷ []) ∷ (neg_ℤ holds ∷ neg_ℤ taken ∷ a ∷ neg_ℤ b ∷ [])
    ∷ value_clauses holds taken xs ys

-- the sources of some candidates; their `taken` variables are the next after the first `n`
abbrev pub sources_of : (words : List (List ℤ)) → ℕ → List Candidate → (seen : List ℤ) → List Source
sources_of words n [] seen = []
sources_of words n (c ∷ cs) [] = []
sources_of words n (c ∷ cs) (l ∷ ls) =
    record { event = c.event; seen = l; taken = pos (n + 1); value = word_at words c.value }
    ∷ sources_of words (n + 1) cs ls

-- if the load takes `s`, each other write that it sees comes before `s`
abbrev pub last_clause : (before : ℕ → ℕ → ℤ) → Source → Source → List (List ℤ)
last_clause before s t =
    if t.event == s.event then []
    else (neg_ℤ s.taken ∷ neg_ℤ t.seen ∷ before t.event s.event ∷ []) ∷ []

abbrev pub last_clauses : (before : ℕ → ℕ → ℤ) → List Source → Source → List (List ℤ)
last_clauses before sources s =
    (neg_ℤ s.taken ∷ s.seen ∷ []) ∷ flat_map (last_clause before s) sources

-- if the load takes the value at the start, it sees no write
abbrev pub none_clauses : (start : ℤ) → List Source → List (List ℤ)
none_clauses start sources = map (λ t. neg_ℤ start ∷ neg_ℤ t.seen ∷ []) sources

-- all clauses of a load: it takes the value at the start, or of some write
abbrev pub read_clauses : (before : ℕ → ℕ → ℤ) → (holds start : ℤ) → (takes first : List ℤ)
    → List Source → List (List ℤ)
read_clauses before holds start takes first sources =
    ((start ∷ map (λ s. s.taken) sources) ∷ none_clauses start sources)
    ++ value_clauses holds start takes first
    ++ flat_map
    (λ s. last_clauses before sources s ++ value_clauses holds s.taken takes s.value) sources

module _ (parts : Parts) where
  -- whether a load sees a write at its cell
  abbrev pub seen_made : Read → Formula → Candidate → Made
  seen_made r f c =
      let cell : Made = option_map_or (λ test. some_of f (word_at parts.words test)) c.same_cell
      (kept f (constant true)) in
      conjunction cell.formula
      (if c.earlier then constant true else parts.before c.event r.event) cell.literal

  abbrev pub with_seen : Read → Walked Formula → Candidate → Walked Formula
  with_seen r m c =
      let here : Made = seen_made r m.state c in
      record { state = here.formula; word = m.word ++ here.literal ∷ [] }

  -- the same for each candidate
  abbrev pub all_seen : Read → Formula → List Candidate → Walked Formula
  all_seen r f candidates = fold (with_seen r) (record { state = f; word = [] }) candidates

  -- the new variables, in order: for the conjunct, the value at the start, and each candidate
  abbrev pub read_made : Formula → Read → Made
  read_made f r =
      let seen : Walked Formula = all_seen r f r.candidates in
      let n : ℕ = seen.state.vars in
      let sources : List Source = sources_of parts.words (n + 2) r.candidates seen.word in
      let wide : Formula = record { vars = n + 2 + length sources; clauses = seen.state.clauses } in
      let clauses : List (List ℤ) = read_clauses parts.before (pos (n + 1)) (pos (n + 2))
      (word_at parts.words r.takes) (word_at parts.words r.start) sources in
      record { formula = with_clauses wide clauses; literal = pos (n + 1) }
