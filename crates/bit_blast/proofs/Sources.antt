-- The writes that a load may take, with their literals.
use Rattle.std.proofs.Common.{◌≡◌, ◌≢◌, ℕ, suc, ◌+◌, ◌<◌, ◌≤◌, List, [], ◌∷◌, ◌++◌, ℤ, pos, neg_ℤ, refl, ap, sym, ◌∙◌, subst, arith, Bool, true, false, length, get_or, map, IsTrue}
use Rattle.std.specs.Prelude.{◌||◌, ◌==◌, if◌then◌else◌, fold, Option, Some, None}
use Rattle.std.specs.List.{All, Contains, flat_map, list_any}
use Rattle.std.specs.Option.{option_map_or}
use Rattle.std.proofs.lemmas.Bool.{eqb-false}
use Rattle.std.proofs.lemmas.List.{append-nil, append_assoc, length_push, map-append}
use Rattle.std.proofs.lemmas.List.Elements.{All-nil, All-append, All-cons, All-contains, All-head, All-map, All-push, All-tail, All-weaker}
use Rattle.sym_terms.specs.declared.node.Node.{Node}
use Rattle.order_formula.specs.declared.read.Candidate.{Candidate}
use Rattle.order_formula.specs.Orders.{Order, pair_of, same_pair}
use Rattle.order_formula.specs.Reads.{Read}
use Rattle.order_formula.specs.Truth.{is_read, passes_at}
use Rattle.order_formula.specs.Worlds.{World, is_before}
use Rattle.cnf_core.specs.Clauses.{Formula, Valuation, literal_true}
use Rattle.bit_gates.specs.Folded.{Made, constant, kept}
use Rattle.bit_gates.specs.Laws.{IsGrown, IsModel, IsOf, IsBit}
use Rattle.bit_gates.proofs.Blocks.{grown_none, grown_twice, IsOf-opposite, model_before}
use Rattle.bit_gates.proofs.Extended.{gates-extend}
use Rattle.bit_ops.specs.bit_words.Words.{Walked}
use Rattle.bit_ops.specs.bit_words.Laws.{values}
use Rattle.bit_ops.proofs.bit_words.Meaning.{all_grown}
use Rattle.bit_ops.specs.Ops.{some_of}
use Rattle.bit_terms.specs.Terms.{word_at}
use Rattle.bit_blast.specs.Cases.{Parts}
use Rattle.bit_blast.specs.Laws.{Tells}
use Rattle.bit_blast.specs.Reads.{Source, value_clauses, seen_made, with_seen, all_seen, sources_of, last_clause, last_clauses, none_clauses, read_clauses}
use Rattle.bit_blast.proofs.CaseLaws.{bit_both, bit_constant, test_bit, tells_more}
use Rattle.bit_blast.proofs.Lists.{AreTied, all_flat_map, contains_first, contains_later}
use Rattle.bit_blast.proofs.Values.{value_literals}

-- the order asks which of two events comes first
abbrev pub IsPairAsked : Order → (first second : ℕ) → Type 0
IsPairAsked o first second = IsTrue (list_any (same_pair (pair_of first second)) o.pairs)

-- a source's literals are over the first `n` variables
pub record IsSourceOf (n : ℕ) (s : Source) : Type 0 where
  pub seen : IsOf n s.seen
  pub taken : IsOf n s.taken
  pub value : All (IsOf n) s.value
  pub width : length s.value ≡ 32

module _ (o : Order) (nodes : List Node) (world : Valuation → World) (parts : Parts) (r : Read) where
  -- whether the load sees a write at its cell
  event_seen : (f : Formula) (event : ℕ) (earlier : Bool) → Tells o nodes world parts f → IsPairAsked o event r.event
      → IsBit f (kept f (if earlier then constant true else parts.before event r.event)) (λ v. earlier || is_before (world v) event r.event)
  event_seen f event true t a = bit_constant f true t.one
  event_seen f event false t a = t.before event r.event a

  cell_seen : (f : Formula) (cell : Option ℕ) → Tells o nodes world parts f
      → IsBit f (option_map_or (λ test. some_of f (word_at parts.words test)) cell (kept f (constant true))) (λ v. option_map_or (passes_at nodes (world v)) cell true)
  cell_seen f None t = bit_constant f true t.one
  cell_seen f (Some test) t = test_bit o nodes world parts f test t

  seen_bit : (f : Formula) (c : Candidate) → Tells o nodes world parts f → IsPairAsked o c.event r.event
      → IsBit f (seen_made parts r f c) (λ v. is_read nodes (world v) r c)
  seen_bit f c t a =
      bit_both f (kept f (if c.earlier then constant true else parts.before c.event r.event))
      (option_map_or (λ test. some_of f (word_at parts.words test)) c.same_cell (kept f (constant true)))
      (λ v. c.earlier || is_before (world v) c.event r.event) (λ v. option_map_or (passes_at nodes (world v)) c.same_cell true)
      (event_seen f c.event c.earlier t a) (cell_seen f c.same_cell t)

  -- whether the load sees each of some writes
  pub record AreSeen (f : Formula) (m : Walked Formula) (cs : List Candidate) : Type 0 where
    pub grown : IsGrown f m.state
    pub literals : All (IsOf m.state.vars) m.word
    pub count : length m.word ≡ length cs
    pub each : (v : Valuation) → IsModel v m.state → values v m.word ≡ map (is_read nodes (world v) r) cs

  seen_next : (f : Formula) (m : Walked Formula) (known : List Candidate) (c : Candidate) → Tells o nodes world parts f → IsPairAsked o c.event r.event
      → AreSeen f m known → AreSeen f (with_seen parts r m c) (known ++ c ∷ [])
  seen_next f m known c t a h =
      let g : Formula = m.state in
      let here : Made = seen_made parts r g c in
      let b = seen_bit g c (tells_more o nodes world parts f g (gates-extend f g t.one h.grown) t) a in
      let k : Formula = here.formula in
      record {
        grown = grown_twice f g k h.grown b.grown;
        literals = All-push (IsOf k.vars) m.word here.literal (all_grown g k m.word b.grown h.literals) b.literal;
        count = length_push m.word here.literal ∙ ap (λ x. x + 1) h.count ∙ sym (length_push known c);
        each = λ v o.
            map-append (literal_true v) m.word (here.literal ∷ [])
            ∙ ap (λ z. z ++ literal_true v here.literal ∷ []) (h.each v (model_before v g k b.grown o))
            ∙ ap (λ z. map (is_read nodes (world v) r) known ++ z ∷ []) (b.value v o)
            ∙ sym (map-append (is_read nodes (world v) r) known (c ∷ []));
      }

  seen_rest : (f : Formula) (m : Walked Formula) (known cs : List Candidate) → Tells o nodes world parts f → All (λ c. IsPairAsked o c.event r.event) cs
      → AreSeen f m known → AreSeen f (fold (with_seen parts r) m cs) (known ++ cs)
  seen_rest f m known [] t a h = subst (AreSeen f m) (sym (append-nil known)) h
  seen_rest f m known (c ∷ cs) t a h =
      let P : Candidate → Type 0 = λ k. IsPairAsked o k.event r.event in
      let m2 : Walked Formula = with_seen parts r m c in
      subst (AreSeen f (fold (with_seen parts r) m2 cs)) (append_assoc known (c ∷ []) cs)
      (seen_rest f m2 (known ++ c ∷ []) cs t (All-tail P c cs a) (seen_next f m known c t (All-head P c cs a) h))

  pub are_seen : (f : Formula) (cs : List Candidate) → Tells o nodes world parts f → All (λ c. IsPairAsked o c.event r.event) cs
      → AreSeen f (all_seen parts r f cs) cs
  are_seen f cs t a = seen_rest f (record { state = f; word = [] }) [] cs t a
      (record { grown = grown_none f; literals = All-nil (IsOf f.vars); count = refl; each = λ v o. refl })

module _ (nodes : List Node) (parts : Parts) (r : Read) where
  -- a source belongs to a write: it is seen as in a world, and its variable has a property
  pub record IsSourceFor (w : Valuation) (at : World) (Taken : Candidate → ℤ → Type 0) (c : Candidate) (s : Source) : Type 0 where
    pub event : s.event ≡ c.event
    pub value : s.value ≡ word_at parts.words c.value
    pub seen : literal_true w s.seen ≡ is_read nodes at r c
    pub taken : Taken c s.taken

  pub tied : (w : Valuation) (at : World) (Taken : Candidate → ℤ → Type 0) (n : ℕ) (cs : List Candidate) (ls : List ℤ)
      → values w ls ≡ map (is_read nodes at r) cs
      → ((k : ℕ) (d : Candidate) → k < length cs → Taken (get_or cs k d) (pos (n + 1 + k)))
      → AreTied (IsSourceFor w at Taken) cs (sources_of parts.words n cs ls)
  tied w at Taken n [] ls e h = tt
  tied w at Taken n (c ∷ cs) [] e h = absurd (cc)
  tied w at Taken n (c ∷ cs) (l ∷ ls) e h =
      let here : literal_true w l ≡ is_read nodes at r c = cc in
      let rest : values w ls ≡ map (is_read nodes at r) cs = cc in
      let first : n + 1 + 0 ≡ n + 1 = omega arith in (
        record { event = refl; value = refl; seen = here; taken = subst (λ k. Taken c (pos k)) first (h 0 c (omega arith)) },
        tied w at Taken (n + 1) cs ls rest
            (λ k d below.
            let e : n + 1 + suc k ≡ n + 1 + 1 + k = omega arith in
            subst (λ j. Taken (get_or cs k d) (pos j)) e (h (suc k) d (omega (arith, below)))),
      )

-- the sources' literals
pub length_sources : (parts : Parts) (n : ℕ) (cs : List Candidate) (ls : List ℤ) → length ls ≡ length cs → length (sources_of parts.words n cs ls) ≡ length cs
length_sources parts n [] ls e = refl
length_sources parts n (c ∷ cs) [] e = absurd (omega (arith, e))
length_sources parts n (c ∷ cs) (l ∷ ls) e = ap suc (length_sources parts (n + 1) cs ls (omega (arith, e)))

pub sources_events : (parts : Parts) (P : ℕ → Type 0) (n : ℕ) (cs : List Candidate) (ls : List ℤ) → ((c : Candidate) → Contains cs c → P c.event)
    → All (λ (s : Source). P s.event) (sources_of parts.words n cs ls)
sources_events parts P n [] ls h = All-nil (λ (s : Source). P s.event)
sources_events parts P n (c ∷ cs) [] h = All-nil (λ (s : Source). P s.event)
sources_events parts P n (c ∷ cs) (l ∷ ls) h =
    let first : Source = record { event = c.event; seen = l; taken = pos (n + 1); value = word_at parts.words c.value } in
    All-cons (λ (s : Source). P s.event) first (sources_of parts.words (n + 1) cs ls) (h c (contains_first c cs))
    (sources_events parts P (n + 1) cs ls (λ d there. h d (contains_later c d cs there)))

pub are_sources : (parts : Parts) (high n : ℕ) (cs : List Candidate) (ls : List ℤ) → n + length cs ≤ high → All (IsOf high) ls
    → ((term : ℕ) → All (IsOf high) (word_at parts.words term)) → ((term : ℕ) → length (word_at parts.words term) ≡ 32)
    → All (IsSourceOf high) (sources_of parts.words n cs ls)
are_sources parts high n [] ls h a p q = All-nil (IsSourceOf high)
are_sources parts high n (c ∷ cs) [] h a p q = All-nil (IsSourceOf high)
are_sources parts high n (c ∷ cs) (l ∷ ls) h a p q =
    let first : Source = record { event = c.event; seen = l; taken = pos (n + 1); value = word_at parts.words c.value } in
    All-cons (IsSourceOf high) first (sources_of parts.words (n + 1) cs ls)
    (record { seen = All-head (IsOf high) l ls a; taken = (omega arith, omega (arith, h)); value = p c.value; width = q c.value })
    (are_sources parts high (n + 1) cs ls (omega (arith, h)) (All-tail (IsOf high) l ls a) p q)

-- the literals of the sources' clauses
module _ (parts : Parts) (high : ℕ) (sources : List Source) (are : All (IsSourceOf high) sources)
    (before : (s t : Source) → Contains sources s → Contains sources t → t.event ≢ s.event → IsOf high (parts.before t.event s.event))
  where
    one_of : (s : Source) → Contains sources s → IsSourceOf high s
    one_of s there = All-contains (IsSourceOf high) sources s are there

    two : (a b : ℤ) → IsOf high a → IsOf high b → All (IsOf high) (a ∷ b ∷ [])
    two a b p q = All-cons (IsOf high) a (b ∷ []) p (All-cons (IsOf high) b [] q (All-nil (IsOf high)))

    last_literals : (s t : Source) → Contains sources s → Contains sources t → All (All (IsOf high)) (last_clause parts.before s t)
    last_literals s t p q = by (t.event == s.event) refl
      where
        by : (same : Bool) → (t.event == s.event) ≡ same
            → All (All (IsOf high)) (if same then [] else (neg_ℤ s.taken ∷ neg_ℤ t.seen ∷ parts.before t.event s.event ∷ []) ∷ [])
        by true e = All-nil (All (IsOf high))
        by false e =
            All-cons (All (IsOf high)) (neg_ℤ s.taken ∷ neg_ℤ t.seen ∷ parts.before t.event s.event ∷ []) []
            (All-cons (IsOf high) (neg_ℤ s.taken) (neg_ℤ t.seen ∷ parts.before t.event s.event ∷ []) (IsOf-opposite high s.taken (one_of s p).taken)
            (two (neg_ℤ t.seen) (parts.before t.event s.event) (IsOf-opposite high t.seen (one_of t q).seen) (before s t p q (eqb-false t.event s.event e))))
            (All-nil (All (IsOf high)))

    source_literals : (holds : ℤ) (takes : List ℤ) → IsOf high holds → All (IsOf high) takes → (s : Source) → Contains sources s
        → All (All (IsOf high)) (last_clauses parts.before sources s ++ value_clauses holds s.taken takes s.value)
    source_literals holds takes h a s there =
        All-append (All (IsOf high)) (last_clauses parts.before sources s) (value_clauses holds s.taken takes s.value)
        (All-cons (All (IsOf high)) (neg_ℤ s.taken ∷ s.seen ∷ []) (flat_map (last_clause parts.before s) sources)
        (two (neg_ℤ s.taken) s.seen (IsOf-opposite high s.taken (one_of s there).taken) (one_of s there).seen)
        (all_flat_map (All (IsOf high)) (last_clause parts.before s) sources (λ t at. last_literals s t there at)))
        (value_literals high holds s.taken takes s.value h (one_of s there).taken a (one_of s there).value)

    pub read_literals : (holds start : ℤ) (takes first : List ℤ) → IsOf high holds → IsOf high start → All (IsOf high) takes → All (IsOf high) first
        → All (All (IsOf high)) (read_clauses parts.before holds start takes first sources)
    read_literals holds start takes first h s a b =
        let some : List ℤ = start ∷ map (λ (s : Source). s.taken) sources in
        let none : List (List ℤ) = none_clauses start sources in
        let values : List (List ℤ) = value_clauses holds start takes first in
        let each : Source → List (List ℤ) = λ s. last_clauses parts.before sources s ++ value_clauses holds s.taken takes s.value in
        All-append (All (IsOf high)) ((some ∷ none) ++ values) (flat_map each sources)
        (All-append (All (IsOf high)) (some ∷ none) values
        (All-cons (All (IsOf high)) some none
        (All-cons (IsOf high) start (map (λ (s : Source). s.taken) sources) s
        (All-map (IsOf high) (λ (s : Source). s.taken) sources (All-weaker (IsSourceOf high) (λ k. IsOf high k.taken) (λ k p. p.taken) sources are)))
        (All-map (All (IsOf high)) (λ (t : Source). neg_ℤ start ∷ neg_ℤ t.seen ∷ []) sources
        (All-weaker (IsSourceOf high) (λ t. All (IsOf high) (neg_ℤ start ∷ neg_ℤ t.seen ∷ []))
        (λ t p. two (neg_ℤ start) (neg_ℤ t.seen) (IsOf-opposite high start s) (IsOf-opposite high t.seen p.seen)) sources are)))
        (value_literals high holds start takes first h s a b))
        (all_flat_map (All (IsOf high)) each sources (λ t there. source_literals holds takes h a t there))
