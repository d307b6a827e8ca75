-- What a load takes, in a world and in values that satisfy its clauses.
use Rattle.std.proofs.Common.{◌≡◌, ◌≢◌, ℕ, ◌<◌, ◌≤◌, List, [], ◌∷◌, ◌++◌, ℤ, neg_ℤ, refl, ap, sym, ◌∙◌, subst, arith, Bool, true, false, not, length, map, eq-eqb}
use Rattle.std.specs.Prelude.{◌||◌, ◌==◌, if◌then◌else◌, nat_lt, Option, Some, None}
use Rattle.std.specs.List.{All, Contains, IsDistinct, flat_map, list_all, list_any}
use Rattle.std.specs.Option.{option_map_or}
use Rattle.std.specs.Ordering.{int_eq}
use borrow.Author.Tests.{lt-ltb, ltb-true}
use Rattle.std.proofs.lemmas.Bool.{false≢true, and_from, and_parts, eqb-true, eqb-false}
use Rattle.std.proofs.lemmas.Bool.Decides.{Decides-int_eq}
use Rattle.std.proofs.lemmas.List.{length-map}
use Rattle.std.proofs.lemmas.List.Elements.{All-contains}
use Rattle.std.proofs.lemmas.List.Folds.{list_all-append, list_all-map}
use Rattle.sym_terms.specs.declared.node.Node.{Node}
use Rattle.order_formula.specs.declared.read.Candidate.{Candidate}
use Rattle.order_formula.specs.Reads.{Read}
use Rattle.order_formula.specs.Truth.{is_read, read_at, source_at, value_at}
use Rattle.order_formula.specs.Worlds.{World, IsWorld, position, is_before}
use Rattle.order_formula.proofs.Last.{Picks, picks}
use Rattle.cnf_core.specs.Clauses.{Valuation, literal_true, clause_true, satisfies}
use Rattle.cnf_core.proofs.GateLaws.{literal_true-neg}
use Rattle.bit_gates.specs.Laws.{IsOf}
use Rattle.bit_ops.specs.bit_words.Laws.{values}
use Rattle.bit_ops.specs.bit_arith.Laws.{int_value}
use Rattle.bit_terms.specs.Terms.{word_at}
use Rattle.bit_blast.specs.Cases.{Parts}
use Rattle.bit_blast.specs.Reads.{Source, value_clauses, last_clause, last_clauses, none_clauses, read_clauses}
use Rattle.bit_blast.proofs.Lists.{AreTied, tied_to, tied_from, any_of, any_map, some_passes, all_pass, passes_all, flat_map_passes, passes_flat_map, one_place, one_element}
use Rattle.bit_blast.proofs.Sources.{IsSourceOf, IsSourceFor}
use Rattle.bit_blast.proofs.Values.{ints_same, same_ints, values_forced, values_off, values_on}

-- the write from which a load takes its value in a world
module _ (nodes : List Node) (at : World) (r : Read) where
  abbrev Picked : Option Candidate → Type 0
  Picked o = Picks (λ c. position at c.event) (is_read nodes at r) r.candidates o

  picked : Picked (source_at nodes at r)
  picked = picks (λ c. position at c.event) (is_read nodes at r) r.candidates

  is_none : (o : Option Candidate) → Picked o → ((c : Candidate) → Contains r.candidates c → is_read nodes at r c ≡ false) → o ≡ None
  is_none None p h = refl
  is_none (Some a) p h = absurd (false≢true (sym (h a p.among) ∙ p.passes))

  pub no_source : ((c : Candidate) → Contains r.candidates c → is_read nodes at r c ≡ false) → source_at nodes at r ≡ None
  no_source h = is_none (source_at nodes at r) picked h

  -- the events are different and exist, so they have different positions
  pub record AreApart : Type 0 where
    pub world : IsWorld at
    pub distinct : IsDistinct (λ e d. e == d) (map (λ (c : Candidate). c.event) r.candidates)
    pub within : (c : Candidate) → Contains r.candidates c → c.event < length at.positions

  one_at : AreApart → (c d : Candidate) → Contains r.candidates c → Contains r.candidates d → position at c.event ≡ position at d.event → c ≡ d
  one_at apart c d p q same =
      one_element (λ (k : Candidate). k.event) r.candidates c d apart.distinct p q
      (one_place at.positions c.event d.event apart.world.distinct (apart.within c p) (apart.within d q) same)

  is_some : AreApart → (c : Candidate) → (o : Option Candidate) → Picked o → Contains r.candidates c → is_read nodes at r c ≡ true
      → ((d : Candidate) → Contains r.candidates d → is_read nodes at r d ≡ true → position at d.event ≤ position at c.event) → o ≡ Some c
  is_some apart c None p there seen last = absurd (false≢true (sym (p c there) ∙ seen))
  is_some apart c (Some a) p there seen last =
      ap Some (one_at apart a c p.among there (omega (arith, last a p.among p.passes, p.greatest c there seen)))

  pub the_source : AreApart → (c : Candidate) → Contains r.candidates c → is_read nodes at r c ≡ true
      → ((d : Candidate) → Contains r.candidates d → is_read nodes at r d ≡ true → position at d.event ≤ position at c.event) → source_at nodes at r ≡ Some c
  the_source apart c there seen last = is_some apart c (source_at nodes at r) picked there seen last

  -- the load takes its right value
  pub takes_from : (o : Option Candidate) → source_at nodes at r ≡ o
      → value_at nodes at r.takes ≡ option_map_or (λ (c : Candidate). value_at nodes at c.value) o (value_at nodes at r.start) → read_at nodes at r ≡ true
  takes_from o e h =
      ap (λ s. int_eq (value_at nodes at r.takes) (option_map_or (λ (c : Candidate). value_at nodes at c.value) s (value_at nodes at r.start))) e
      ∙ (Decides-int_eq (value_at nodes at r.takes) (option_map_or (λ (c : Candidate). value_at nodes at c.value) o (value_at nodes at r.start))).1 h

  pub taken_from : (o : Option Candidate) → source_at nodes at r ≡ o → read_at nodes at r ≡ true
      → value_at nodes at r.takes ≡ option_map_or (λ (c : Candidate). value_at nodes at c.value) o (value_at nodes at r.start)
  taken_from o e h =
      (Decides-int_eq (value_at nodes at r.takes) (option_map_or (λ (c : Candidate). value_at nodes at c.value) o (value_at nodes at r.start))).0
      (ap (λ s. int_eq (value_at nodes at r.takes) (option_map_or (λ (c : Candidate). value_at nodes at c.value) s (value_at nodes at r.start))) (sym e) ∙ h)

-- the parts of a load's clauses
abbrev pub some_clause : (start : ℤ) → List Source → List ℤ
some_clause start sources = start ∷ map (λ (s : Source). s.taken) sources

abbrev pub each_clauses : Parts → ℤ → List ℤ → List Source → Source → List (List ℤ)
each_clauses parts holds takes sources s = last_clauses parts.before sources s ++ value_clauses holds s.taken takes s.value

pub record AreMet (parts : Parts) (w : Valuation) (holds start : ℤ) (takes first : List ℤ) (sources : List Source) : Type 0 where
  pub some : clause_true w (some_clause start sources) ≡ true
  pub none : satisfies w (none_clauses start sources) ≡ true
  pub begins : satisfies w (value_clauses holds start takes first) ≡ true
  pub each : satisfies w (flat_map (each_clauses parts holds takes sources) sources) ≡ true

pub are_met : (parts : Parts) (w : Valuation) (holds start : ℤ) (takes first : List ℤ) (sources : List Source)
    → satisfies w (read_clauses parts.before holds start takes first sources) ≡ true → AreMet parts w holds start takes first sources
are_met parts w holds start takes first sources h =
    let ct : List ℤ → Bool = clause_true w in
    let front : List (List ℤ) = some_clause start sources ∷ none_clauses start sources in
    let vals : List (List ℤ) = value_clauses holds start takes first in
    let rest : List (List ℤ) = flat_map (each_clauses parts holds takes sources) sources in
    let p = and_parts (list_all ct (front ++ vals)) (list_all ct rest) (sym (list_all-append ct (front ++ vals) rest) ∙ h) in
    let q = and_parts (list_all ct front) (list_all ct vals) (sym (list_all-append ct front vals) ∙ p.0) in
    let t = and_parts (ct (some_clause start sources)) (list_all ct (none_clauses start sources)) q.0 in
    record { some = t.0; none = t.1; begins = q.1; each = p.1 }

pub meets : (parts : Parts) (w : Valuation) (holds start : ℤ) (takes first : List ℤ) (sources : List Source)
    → AreMet parts w holds start takes first sources → satisfies w (read_clauses parts.before holds start takes first sources) ≡ true
meets parts w holds start takes first sources h =
    let ct : List ℤ → Bool = clause_true w in
    let front : List (List ℤ) = some_clause start sources ∷ none_clauses start sources in
    let vals : List (List ℤ) = value_clauses holds start takes first in
    let rest : List (List ℤ) = flat_map (each_clauses parts holds takes sources) sources in
    list_all-append ct (front ++ vals) rest ∙ and_from _ _ (list_all-append ct front vals ∙ and_from _ _ (and_from _ _ h.some h.none) h.begins) h.each

second_false : (a na nb b : Bool) → na ≡ not a → nb ≡ not b → a ≡ true → (na || (nb || false)) ≡ true → b ≡ false
second_false a na nb true p q t h = grind arith
second_false a na nb false p q t h = refl

second_true : (a na b : Bool) → na ≡ not a → a ≡ true → (na || (b || false)) ≡ true → b ≡ true
second_true a na true p t h = refl
second_true a na false p t h = grind arith

-- a literal's opposite
not_true : (a na : Bool) → na ≡ not a → a ≡ false → na ≡ true
not_true true na p h = absurd (false≢true (sym h))
not_true false na p h = p

or_left : (p q : Bool) → p ≡ true → (p || q) ≡ true
or_left true q h = refl
or_left false q h = absurd (false≢true h)

or_right : (p q : Bool) → q ≡ true → (p || q) ≡ true
or_right true q h = refl
or_right false q h = h

third_true : (a na b nb c : Bool) → na ≡ not a → nb ≡ not b → a ≡ true → b ≡ true → (na || (nb || (c || false))) ≡ true → c ≡ true
third_true a na b nb true p q s t h = refl
third_true a na b nb false p q s t h = grind arith

not_first : (p q : Bool) → (p || q) ≡ true → p ≡ false → q ≡ true
not_first true q h e = absurd (false≢true (sym e))
not_first false q h e = h

-- values for a load's literals, in a world
module _ (nodes : List Node) (parts : Parts) (r : Read) (w : Valuation) (at : World) (apart : AreApart nodes at r) (high : ℕ) (holds start : ℤ) (sources : List Source)
    (Taken : Candidate → ℤ → Type 0) (tie : AreTied (IsSourceFor nodes parts r w at Taken) r.candidates sources) (are : All (IsSourceOf high) sources)
    (h : IsOf high holds) (s0 : IsOf high start) (words : (term : ℕ) → All (IsOf high) (word_at parts.words term))
    (widths : (term : ℕ) → length (word_at parts.words term) ≡ 32)
    (value : (term : ℕ) → int_value w (word_at parts.words term) ≡ value_at nodes at term)
    (before : (s t : Source) → Contains sources s → Contains sources t → t.event ≢ s.event
    → literal_true w (parts.before t.event s.event) ≡ is_before at t.event s.event)
  where
    of_source : (s : Source) → Contains sources s → IsSourceOf high s
    of_source s there = All-contains (IsSourceOf high) sources s are there

    of_write : (c : Candidate) → Contains r.candidates c → (s : Source) × Contains sources s × IsSourceFor nodes parts r w at Taken c s
    of_write c there = tied_from (IsSourceFor nodes parts r w at Taken) r.candidates sources c tie there

    to_write : (s : Source) → Contains sources s → (c : Candidate) × Contains r.candidates c × IsSourceFor nodes parts r w at Taken c s
    to_write s there = tied_to (IsSourceFor nodes parts r w at Taken) r.candidates sources s tie there

    not_holds : literal_true w (neg_ℤ holds) ≡ not (literal_true w holds)
    not_holds = literal_true-neg w holds h.0

    not_start : literal_true w (neg_ℤ start) ≡ not (literal_true w start)
    not_start = literal_true-neg w start s0.0

    not_taken : (s : Source) → Contains sources s → literal_true w (neg_ℤ s.taken) ≡ not (literal_true w s.taken)
    not_taken s there = let k : IsSourceOf high s = of_source s there in literal_true-neg w s.taken k.taken.0

    not_seen : (s : Source) → Contains sources s → literal_true w (neg_ℤ s.seen) ≡ not (literal_true w s.seen)
    not_seen s there = let k : IsSourceOf high s = of_source s there in literal_true-neg w s.seen k.seen.0

    abbrev takes : List ℤ
    takes = word_at parts.words r.takes

    abbrev first : List ℤ
    first = word_at parts.words r.start

    -- if the clauses are satisfied and the start is taken, no write is seen
    none_read : literal_true w start ≡ true → satisfies w (none_clauses start sources) ≡ true → (c : Candidate) → Contains r.candidates c
        → is_read nodes at r c ≡ false
    none_read t met c there =
        let k = of_write c there in
        let s : Source = k.0 in
        let clause : clause_true w (neg_ℤ start ∷ neg_ℤ s.seen ∷ []) ≡ true =
        all_pass (λ (x : Source). clause_true w (neg_ℤ start ∷ neg_ℤ x.seen ∷ [])) sources s
        (sym (list_all-map (clause_true w) (λ (x : Source). neg_ℤ start ∷ neg_ℤ x.seen ∷ []) sources) ∙ met) k.1 in
        sym k.2.seen ∙ second_false (literal_true w start) _ _ (literal_true w s.seen) not_start (not_seen s k.1) t clause

    -- if a write is taken, it is seen, and no other seen write comes after it
    module _ (s : Source) (there : Contains sources s) (c : Candidate) (among : Contains r.candidates c) (is : IsSourceFor nodes parts r w at Taken c s)
        (taken : literal_true w s.taken ≡ true) (met : list_all (clause_true w) (last_clauses parts.before sources s) ≡ true)
      where
        met_parts : (clause_true w (neg_ℤ s.taken ∷ s.seen ∷ []) ≡ true) × (list_all (clause_true w) (flat_map (last_clause parts.before s) sources) ≡ true)
        met_parts = and_parts (clause_true w (neg_ℤ s.taken ∷ s.seen ∷ [])) (list_all (clause_true w) (flat_map (last_clause parts.before s) sources)) met

        is_seen : is_read nodes at r c ≡ true
        is_seen = sym is.seen ∙ second_true (literal_true w s.taken) _ (literal_true w s.seen) (not_taken s there) taken met_parts.0

        before_it : (t : Source) → Contains sources t → literal_true w t.seen ≡ true → (same : Bool) → (t.event == s.event) ≡ same
            → list_all (clause_true w) (if same then [] else (neg_ℤ s.taken ∷ neg_ℤ t.seen ∷ parts.before t.event s.event ∷ []) ∷ []) ≡ true
            → position at t.event ≤ position at s.event
        before_it t at_t seen true e clause =
            let one : position at t.event ≡ position at s.event = ap (position at) (eqb-true t.event s.event e) in omega (arith, one)
        before_it t at_t seen false e clause =
            let other : clause_true w (neg_ℤ s.taken ∷ neg_ℤ t.seen ∷ parts.before t.event s.event ∷ []) ≡ true =
            (and_parts (clause_true w (neg_ℤ s.taken ∷ neg_ℤ t.seen ∷ parts.before t.event s.event ∷ [])) true clause).0 in
            let b : literal_true w (parts.before t.event s.event) ≡ true =
            third_true (literal_true w s.taken) _ (literal_true w t.seen) _ _ (not_taken s there) (not_seen t at_t) taken seen other in
            let less : nat_lt (position at t.event) (position at s.event) ≡ true = sym (before s t there at_t (eqb-false t.event s.event e)) ∙ b in
            let k : position at t.event < position at s.event = ltb-true (position at t.event) (position at s.event) less in
            omega (arith, k)

        none_after : (d : Candidate) → Contains r.candidates d → is_read nodes at r d ≡ true → position at d.event ≤ position at c.event
        none_after d at_d seen =
            let k = of_write d at_d in
            let t : Source = k.0 in
            let clauses : list_all (clause_true w) (last_clause parts.before s t) ≡ true =
            flat_map_passes (clause_true w) (last_clause parts.before s) sources t met_parts.1 k.1 in
            let below : position at t.event ≤ position at s.event = before_it t k.1 (k.2.seen ∙ seen) (t.event == s.event) refl clauses in
            let one : position at t.event ≡ position at d.event = ap (position at) k.2.event in
            let two : position at s.event ≡ position at c.event = ap (position at) is.event in
            omega (arith, below, one, two)

        pub is_taken : source_at nodes at r ≡ Some c
        is_taken = the_source nodes at r apart c among is_seen none_after

    -- if the clauses are satisfied and the conjunct's literal is true, the load takes its right
    -- value
    from_source : literal_true w holds ≡ true → (s : Source) → Contains sources s → literal_true w s.taken ≡ true
        → satisfies w (flat_map (each_clauses parts holds takes sources) sources) ≡ true → read_at nodes at r ≡ true
    from_source t s there taken met =
        let k = to_write s there in
        let c : Candidate = k.0 in
        let vals : List (List ℤ) = value_clauses holds s.taken takes s.value in
        let here : list_all (clause_true w) (each_clauses parts holds takes sources s) ≡ true =
        flat_map_passes (clause_true w) (each_clauses parts holds takes sources) sources s met there in
        let p = and_parts (list_all (clause_true w) (last_clauses parts.before sources s)) (list_all (clause_true w) vals)
        (sym (list_all-append (clause_true w) (last_clauses parts.before sources s) vals) ∙ here) in
        let o : IsSourceOf high s = of_source s there in
        let same : values w takes ≡ values w s.value =
        values_forced w high holds s.taken takes s.value h o.taken (words r.takes) o.value (o.width ∙ sym (widths r.takes)) t taken p.1 in
        takes_from nodes at r (Some c) (is_taken s there c k.1 k.2 taken p.0)
        (sym (value r.takes) ∙ same_ints w takes s.value same ∙ ap (int_value w) k.2.value ∙ value c.value)

    from_start : literal_true w holds ≡ true → literal_true w start ≡ true → satisfies w (none_clauses start sources) ≡ true
        → satisfies w (value_clauses holds start takes first) ≡ true → read_at nodes at r ≡ true
    from_start t taken none met =
        let same : values w takes ≡ values w first =
        values_forced w high holds start takes first h s0 (words r.takes) (words r.start) (widths r.start ∙ sym (widths r.takes)) t taken met in
        takes_from nodes at r None (no_source nodes at r (none_read taken none)) (sym (value r.takes) ∙ same_ints w takes first same ∙ value r.start)

    pub read_true : AreMet parts w holds start takes first sources → literal_true w holds ≡ true → read_at nodes at r ≡ true
    read_true met t = by (literal_true w start) refl
      where
        by : (b : Bool) → literal_true w start ≡ b → read_at nodes at r ≡ true
        by true e = from_start t e met.none met.begins
        by false e =
            let some : list_any (literal_true w) (map (λ (s : Source). s.taken) sources) ≡ true =
            not_first (literal_true w start) (list_any (literal_true w) (map (λ (s : Source). s.taken) sources)) met.some e in
            let s = some_passes (λ (x : Source). literal_true w x.taken) sources
            (sym (any_map (literal_true w) (λ (x : Source). x.taken) sources) ∙ some) in
            from_source t s.0 s.1 s.2 met.each

    -- if the variables are as in the world, the clauses are satisfied
    module _ (said : (c : Candidate) (l : ℤ) → Taken c l
        → literal_true w l ≡ option_map_or (λ (d : Candidate). c.event == d.event) (source_at nodes at r) false)
        (holding : literal_true w holds ≡ read_at nodes at r)
        (starting : literal_true w start ≡ option_map_or (λ (d : Candidate). false) (source_at nodes at r) true)
      where
        -- a write is taken if it is the source
        source_is : (c : Candidate) → Contains r.candidates c → (o : Option Candidate) → Picked nodes at r o
            → option_map_or (λ (d : Candidate). c.event == d.event) o false ≡ true → o ≡ Some c
        source_is c there None p e = absurd (false≢true e)
        source_is c there (Some d) p e =
            ap Some (sym (one_element (λ (k : Candidate). k.event) r.candidates c d apart.distinct there p.among (eqb-true c.event d.event e)))

        the_taken : (s : Source) (c : Candidate) → Contains r.candidates c → IsSourceFor nodes parts r w at Taken c s → literal_true w s.taken ≡ true
            → source_at nodes at r ≡ Some c
        the_taken s c there is t = source_is c there (source_at nodes at r) (picked nodes at r) (sym (said c s.taken is.taken) ∙ t)

        some_met : (o : Option Candidate) → Picked nodes at r o → source_at nodes at r ≡ o → clause_true w (some_clause start sources) ≡ true
        some_met None p e =
            or_left (literal_true w start) _ (starting ∙ ap (λ k. option_map_or (λ (d : Candidate). false) k true) e)
        some_met (Some d) p e =
            let k = of_write d p.among in
            let t : literal_true w k.0.taken ≡ true =
            said d k.0.taken k.2.taken ∙ ap (λ x. option_map_or (λ (q : Candidate). d.event == q.event) x false) e ∙ eq-eqb d.event d.event refl in
            or_right (literal_true w start) _
            (any_map (literal_true w) (λ (x : Source). x.taken) sources ∙ any_of (λ (x : Source). literal_true w x.taken) sources k.0 k.1 t)

        none_met : (o : Option Candidate) → Picked nodes at r o → source_at nodes at r ≡ o → satisfies w (none_clauses start sources) ≡ true
        none_met o p e =
            list_all-map (clause_true w) (λ (x : Source). neg_ℤ start ∷ neg_ℤ x.seen ∷ []) sources
            ∙ passes_all (λ (x : Source). clause_true w (neg_ℤ start ∷ neg_ℤ x.seen ∷ [])) sources (λ s there. by o p e s there)
          where
            by : (o : Option Candidate) → Picked nodes at r o → source_at nodes at r ≡ o → (s : Source) → Contains sources s
                → clause_true w (neg_ℤ start ∷ neg_ℤ s.seen ∷ []) ≡ true
            by None p e s there =
                let k = to_write s there in
                or_right (literal_true w (neg_ℤ start)) _
                (or_left (literal_true w (neg_ℤ s.seen)) _ (not_true (literal_true w s.seen) _ (not_seen s there) (k.2.seen ∙ p k.0 k.1)))
            by (Some d) p e s there =
                or_left (literal_true w (neg_ℤ start)) _
                (not_true (literal_true w start) _ not_start (starting ∙ ap (λ x. option_map_or (λ (q : Candidate). false) x true) e))

        off : (t : ℤ) → literal_true w (neg_ℤ t) ≡ true → (xs : List ℤ) → satisfies w (value_clauses holds t takes xs) ≡ true
        off t e xs = values_off w holds t takes xs (or_right (literal_true w (neg_ℤ holds)) (literal_true w (neg_ℤ t)) e)

        -- the values are equal if the load takes the one that it should
        value_met : (t : ℤ) (term : ℕ) (o : Option Candidate) → literal_true w (neg_ℤ t) ≡ not (literal_true w t)
            → (literal_true w t ≡ true → source_at nodes at r ≡ o) → option_map_or (λ (c : Candidate). value_at nodes at c.value) o (value_at nodes at r.start) ≡ value_at nodes at term
            → satisfies w (value_clauses holds t takes (word_at parts.words term)) ≡ true
        value_met t term o opposite from same = by (literal_true w holds) (literal_true w t) refl refl
          where
            by : (p q : Bool) → literal_true w holds ≡ p → literal_true w t ≡ q → satisfies w (value_clauses holds t takes (word_at parts.words term)) ≡ true
            by false q e f =
                values_off w holds t takes (word_at parts.words term)
                (or_left (literal_true w (neg_ℤ holds)) (literal_true w (neg_ℤ t)) (not_true (literal_true w holds) _ not_holds e))
            by true false e f = off t (not_true (literal_true w t) _ opposite f) (word_at parts.words term)
            by true true e f =
                let ints : int_value w takes ≡ int_value w (word_at parts.words term) =
                value r.takes ∙ taken_from nodes at r o (from f) (sym holding ∙ e) ∙ same ∙ sym (value term) in
                let long : length (values w takes) ≡ length (values w (word_at parts.words term)) =
                length-map takes (literal_true w) ∙ widths r.takes ∙ sym (widths term) ∙ sym (length-map (word_at parts.words term) (literal_true w)) in
                values_on w high holds t takes (word_at parts.words term) (words r.takes) (words term)
                (ints_same w takes (word_at parts.words term) (widths r.takes) (widths term) long ints)

        first_met : satisfies w (value_clauses holds start takes first) ≡ true
        first_met = value_met start r.start None not_start (λ t. from (source_at nodes at r) (sym starting ∙ t)) refl
          where
            from : (o : Option Candidate) → option_map_or (λ (d : Candidate). false) o true ≡ true → o ≡ None
            from None e = refl
            from (Some d) e = absurd (false≢true e)

        -- no seen write comes after the source
        module _ (s : Source) (there : Contains sources s) (c : Candidate) (among : Contains r.candidates c) (is : IsSourceFor nodes parts r w at Taken c s) where
          seen_met : literal_true w s.taken ≡ true → literal_true w s.seen ≡ true
          seen_met t = is.seen ∙ from (source_at nodes at r) (picked nodes at r) (the_taken s c among is t)
            where
              from : (o : Option Candidate) → Picked nodes at r o → o ≡ Some c → is_read nodes at r c ≡ true
              from None p e = absurd (cc)
              from (Some d) p e = let one : d ≡ c = cc in subst (λ k. is_read nodes at r k ≡ true) one p.passes

          greatest : literal_true w s.taken ≡ true → (d : Candidate) → Contains r.candidates d → is_read nodes at r d ≡ true
              → position at d.event ≤ position at c.event
          greatest t d at_d seen = from (source_at nodes at r) (picked nodes at r) (the_taken s c among is t)
            where
              from : (o : Option Candidate) → Picked nodes at r o → o ≡ Some c → position at d.event ≤ position at c.event
              from None p e = absurd (cc)
              from (Some a) p e = let one : a ≡ c = cc in subst (λ (k : Candidate). position at d.event ≤ position at k.event) one (p.greatest d at_d seen)

          before_met : literal_true w s.taken ≡ true → (t : Source) → Contains sources t → t.event ≢ s.event → literal_true w t.seen ≡ true
              → literal_true w (parts.before t.event s.event) ≡ true
          before_met taken t at_t differ seen =
              let k = to_write t at_t in
              let d : Candidate = k.0 in
              let most : position at d.event ≤ position at c.event = greatest taken d k.1 (sym k.2.seen ∙ seen) in
              let apart_too : position at d.event ≢ position at c.event =
              λ same. differ (k.2.event ∙ ap (λ (x : Candidate). x.event) (one_at nodes at r apart d c k.1 among same) ∙ sym is.event) in
              let one : position at t.event ≡ position at d.event = ap (position at) k.2.event in
              let two : position at s.event ≡ position at c.event = ap (position at) is.event in
              before s t there at_t differ ∙ lt-ltb (position at t.event) (position at s.event) (omega (arith, most, apart_too, one, two))

          last_met : (t : Source) → Contains sources t → (same : Bool) → (t.event == s.event) ≡ same
              → list_all (clause_true w) (if same then [] else (neg_ℤ s.taken ∷ neg_ℤ t.seen ∷ parts.before t.event s.event ∷ []) ∷ []) ≡ true
          last_met t at_t true e = refl
          last_met t at_t false e = and_from _ _ (by (literal_true w s.taken) (literal_true w t.seen) refl refl) refl
            where
              by : (p q : Bool) → literal_true w s.taken ≡ p → literal_true w t.seen ≡ q
                  → clause_true w (neg_ℤ s.taken ∷ neg_ℤ t.seen ∷ parts.before t.event s.event ∷ []) ≡ true
              by false q f g = or_left (literal_true w (neg_ℤ s.taken)) _ (not_true (literal_true w s.taken) _ (not_taken s there) f)
              by true false f g =
                  or_right (literal_true w (neg_ℤ s.taken)) _ (or_left (literal_true w (neg_ℤ t.seen)) _ (not_true (literal_true w t.seen) _ (not_seen t at_t) g))
              by true true f g =
                  or_right (literal_true w (neg_ℤ s.taken)) _ (or_right (literal_true w (neg_ℤ t.seen)) _
                  (or_left (literal_true w (parts.before t.event s.event)) false (before_met f t at_t (eqb-false t.event s.event e) g)))

          one_met : clause_true w (neg_ℤ s.taken ∷ s.seen ∷ []) ≡ true
          one_met = by (literal_true w s.taken) refl
            where
              by : (p : Bool) → literal_true w s.taken ≡ p → clause_true w (neg_ℤ s.taken ∷ s.seen ∷ []) ≡ true
              by false f = or_left (literal_true w (neg_ℤ s.taken)) _ (not_true (literal_true w s.taken) _ (not_taken s there) f)
              by true f = or_right (literal_true w (neg_ℤ s.taken)) _ (or_left (literal_true w s.seen) false (seen_met f))

          source_met : list_all (clause_true w) (each_clauses parts holds takes sources s) ≡ true
          source_met =
              list_all-append (clause_true w) (last_clauses parts.before sources s) (value_clauses holds s.taken takes s.value)
              ∙ and_from _ _ (and_from _ _ one_met
              (passes_flat_map (clause_true w) (last_clause parts.before s) sources (λ t at_t. last_met t at_t (t.event == s.event) refl)))
              (subst (λ xs. satisfies w (value_clauses holds s.taken takes xs) ≡ true) (sym is.value)
              (value_met s.taken c.value (Some c) (not_taken s there) (the_taken s c among is) refl))

        pub met : AreMet parts w holds start takes first sources
        met = record {
          some = some_met (source_at nodes at r) (picked nodes at r) refl;
          none = none_met (source_at nodes at r) (picked nodes at r) refl;
          begins = first_met;
          each = passes_flat_map (clause_true w) (each_clauses parts holds takes sources) sources
              (λ s there. let k = to_write s there in source_met s there k.0 k.1 k.2);
        }
