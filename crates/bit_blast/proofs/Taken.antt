-- The meaning of the literal of a read.
use Rattle.std.proofs.Common.{◌≡◌, ◌≢◌, ℕ, suc, ◌+◌, ◌<◌, ◌≤◌, List, [], ◌∷◌, ℤ, pos, refl, ap, sym, ◌∙◌, arith, Bool, true, false, length, get_or, map}
use Rattle.std.specs.Prelude.{◌==◌}
use Rattle.std.specs.List.{All, Contains, flat_map, list_all}
use Rattle.std.specs.Option.{option_map_or}
use Rattle.std.proofs.lemmas.Bool.{and_from, and_parts}
use Rattle.std.proofs.lemmas.List.{get_or-map, length-map}
use Rattle.std.proofs.lemmas.List.Elements.{All-contains, All-weaker}
use Rattle.std.proofs.lemmas.Map.Keys.{IsDistinct-tail}
use Rattle.sym_terms.specs.declared.node.Node.{Node}
use Rattle.order_formula.specs.declared.read.Candidate.{Candidate}
use Rattle.order_formula.specs.Orders.{Order}
use Rattle.order_formula.specs.Reads.{Read}
use Rattle.order_formula.specs.Truth.{read_at, source_at, value_at}
use Rattle.order_formula.specs.Worlds.{World, is_before}
use Rattle.cnf_core.specs.Clauses.{Formula, Valuation, literal_true, satisfies, is_within}
use Rattle.cnf_core.specs.Gates.{Agree, IsOver}
use Rattle.cnf_core.proofs.GateLaws.{satisfies-agree}
use Rattle.cnf_core.proofs.Pieces.{is_within-upto}
use Rattle.bit_gates.specs.Extended.{IsExtended}
use Rattle.bit_gates.specs.Folded.{kept}
use Rattle.bit_gates.specs.Laws.{IsModel, IsOf, IsBit}
use Rattle.bit_gates.proofs.Extended.{gates-extend}
use Rattle.bit_ops.specs.bit_words.Words.{Walked}
use Rattle.bit_ops.specs.bit_arith.Laws.{int_value}
use Rattle.bit_terms.specs.Terms.{word_at}
use Rattle.bit_terms.proofs.Meaning.{at_operand}
use Rattle.bit_blast.specs.Cases.{Parts}
use Rattle.bit_blast.specs.Laws.{Tells, IsRoot, ReadIsAsked, ReadsMean}
use Rattle.bit_blast.specs.Reads.{Source, all_seen, sources_of, read_clauses, read_made}
use Rattle.bit_blast.proofs.Clauses.{with_satisfied, with_over}
use Rattle.bit_blast.proofs.Lists.{AreTied, all_of, contains_first, contains_later, contains_map, one_place}
use Rattle.bit_order.specs.Clauses.{folded_clause}
use Rattle.bit_blast.proofs.Prefixes.{first_part, before_grown}
use Rattle.bit_blast.proofs.Sources.{IsPairAsked, IsSourceOf, IsSourceFor, AreSeen, are_seen, tied, length_sources, are_sources, read_literals, sources_events}
use Rattle.bit_blast.proofs.Taking.{AreApart, are_met, meets, read_true, met}
use Rattle.bit_blast.proofs.Variables.{with_values, agree_with, value_with}

-- clauses over the first variables, among more
pub within_wider : (n m : ℕ) (cs : List (List ℤ)) → n ≤ m → list_all (is_within n) cs ≡ true → list_all (is_within m) cs ≡ true
within_wider n m [] h a = refl
within_wider n m (c ∷ cs) h a =
    let parts = and_parts (is_within n c) (list_all (is_within n) cs) a in
    and_from _ _ (is_within-upto n m c h parts.0) (within_wider n m cs h parts.1)

pub of_wider : (n m : ℕ) (xs : List ℤ) → n ≤ m → All (IsOf n) xs → All (IsOf m) xs
of_wider n m xs h a = All-weaker (IsOf n) (IsOf m) (λ l o. (o.0, omega (arith, o.1, h))) xs a

module _ (o : Order) (nodes : List Node) (world : Valuation → World) (parts : Parts) (f : Formula) (r : Read) (t : Tells o nodes world parts f) (h : ReadIsAsked o r) where
  abbrev events : List ℕ
  events = r.event ∷ map (λ (c : Candidate). c.event) r.candidates

  named : (c : Candidate) → Contains r.candidates c → Contains events c.event
  named c there =
      contains_later r.event c.event (map (λ (k : Candidate). k.event) r.candidates) (contains_map (λ (k : Candidate). k.event) r.candidates c there)

  -- a candidate is a different event from the load
  other : (c : Candidate) → Contains r.candidates c → c.event ≢ r.event
  other c there same =
      let k : ℕ = there.0 in
      let long : length events ≡ suc (length r.candidates) = ap suc (length-map r.candidates (λ (k : Candidate). k.event)) in
      let at : get_or events (suc k) 0 ≡ c.event =
      get_or-map (λ (k : Candidate). k.event) r.candidates k c 0 there.1 ∙ ap (λ (k : Candidate). k.event) there.2 in
      let one : 0 ≡ suc k = one_place events 0 (suc k) h.distinct (omega (arith, long)) (omega (arith, long, there.1)) (sym same ∙ sym at) in
      omega (arith, one)

  asked_each : All (λ (c : Candidate). IsPairAsked o c.event r.event) r.candidates
  asked_each = all_of (λ (c : Candidate). IsPairAsked o c.event r.event) r.candidates
      (λ c there. h.asked c.event r.event (named c there) (contains_first r.event (map (λ (k : Candidate). k.event) r.candidates)) (other c there))

  abbrev seen : Walked Formula
  seen = all_seen parts r f r.candidates

  are : AreSeen o nodes world parts r f seen r.candidates
  are = are_seen o nodes world parts r f r.candidates t asked_each

  abbrev n : ℕ
  n = seen.state.vars

  abbrev sources : List Source
  sources = sources_of parts.words (n + 2) r.candidates seen.word

  abbrev wide : Formula
  wide = record { vars = n + 2 + length sources; clauses = seen.state.clauses }

  abbrev clauses : List (List ℤ)
  clauses = read_clauses parts.before (pos (n + 1)) (pos (n + 2)) (word_at parts.words r.takes) (word_at parts.words r.start) sources

  e : IsExtended f seen.state
  e = gates-extend f seen.state t.one are.grown

  more : f.vars ≤ wide.vars
  more = let m : f.vars ≤ n = e.more in omega (arith, m)

  -- all literals are over the formula's variables
  words : (term : ℕ) → All (IsOf wide.vars) (word_at parts.words term)
  words term = of_wider f.vars wide.vars (word_at parts.words term) more (at_operand f parts.words term t.one t.words).literals

  widths : (term : ℕ) → length (word_at parts.words term) ≡ 32
  widths term = (at_operand f parts.words term t.one t.words).width

  all_sources : All (IsSourceOf wide.vars) sources
  all_sources =
      let many : length sources ≡ length r.candidates = length_sources parts (n + 2) r.candidates seen.word are.count in
      let narrow : n ≤ wide.vars = omega arith in
      are_sources parts wide.vars (n + 2) r.candidates seen.word (omega (arith, many)) (of_wider n wide.vars seen.word narrow are.literals) words widths

  source_named : (s : Source) → Contains sources s → Contains events s.event
  source_named s there =
      All-contains (λ (s : Source). Contains events s.event) sources s (sources_events parts (Contains events) (n + 2) r.candidates seen.word named) there

  before_bit : (s u : Source) → Contains sources s → Contains sources u → u.event ≢ s.event
      → IsBit f (kept f (parts.before u.event s.event)) (λ v. is_before (world v) u.event s.event)
  before_bit s u p q differ = t.before u.event s.event (h.asked u.event s.event (source_named u q) (source_named s p) differ)

  before_of : (s u : Source) → Contains sources s → Contains sources u → u.event ≢ s.event → IsOf wide.vars (parts.before u.event s.event)
  before_of s u p q differ = let b : IsOf f.vars (parts.before u.event s.event) = (before_bit s u p q differ).literal in (b.0, omega (arith, b.1, more))

  holds_of : IsOf wide.vars (pos (n + 1))
  holds_of = (omega arith, omega arith)

  start_of : IsOf wide.vars (pos (n + 2))
  start_of = (omega arith, omega arith)

  raw : All (All (IsOf wide.vars)) clauses
  raw = read_literals parts wide.vars sources all_sources before_of (pos (n + 1)) (pos (n + 2)) (word_at parts.words r.takes) (word_at parts.words r.start)
      holds_of start_of (words r.takes) (words r.start)

  -- what holds for values that satisfy all clauses
  satisfied : (w : Valuation) → IsModel w (read_made parts f r).formula → (satisfies w wide.clauses ≡ true) × (satisfies w clauses ≡ true)
  satisfied w m = and_parts (satisfies w wide.clauses) (satisfies w clauses) (sym (with_satisfied w wide clauses m.one raw) ∙ m.all)

  of_seen : (w : Valuation) → IsModel w (read_made parts f r).formula → IsModel w seen.state
  of_seen w m = record { one = m.one; all = (satisfied w m).0 }

  apart : (w : Valuation) → AreApart nodes (world w) r
  apart w = record {
    world = t.worlds w;
    distinct = IsDistinct-tail (λ e d. e == d) r.event (map (λ (c : Candidate). c.event) r.candidates) h.distinct;
    within = λ c there.
        let inside : c.event < o.events = All-contains (λ e. e < o.events) events c.event h.within (named c there) in
        let long : length (world w).positions ≡ o.events = t.events w in
        omega (arith, inside, long);
  }

  value : (w : Valuation) → IsModel w f → (term : ℕ) → int_value w (word_at parts.words term) ≡ value_at nodes (world w) term
  value w m term = t.value w m term

  before : (w : Valuation) → IsModel w f → (s u : Source) → Contains sources s → Contains sources u → u.event ≢ s.event
      → literal_true w (parts.before u.event s.event) ≡ is_before (world w) u.event s.event
  before w m s u p q differ = (before_bit s u p q differ).value w m

  holds : (w : Valuation) → IsModel w (read_made parts f r).formula → literal_true w (pos (n + 1)) ≡ true → read_at nodes (world w) r ≡ true
  holds w m true_there =
      let g : IsModel w seen.state = of_seen w m in
      let k : IsModel w f = e.before w g in
      read_true nodes parts r w (world w) (apart w) wide.vars (pos (n + 1)) (pos (n + 2)) sources (λ c l. Unit {0})
      (tied nodes parts r w (world w) (λ c l. Unit {0}) (n + 2) r.candidates seen.word (are.each w g) (λ k d below. tt))
      all_sources holds_of start_of words widths (value w k) (before w k)
      (are_met parts w (pos (n + 1)) (pos (n + 2)) (word_at parts.words r.takes) (word_at parts.words r.start) sources (satisfied w m).1) true_there

  -- values of the new variables, from a world
  abbrev is_taken : World → Candidate → Bool
  is_taken at c = option_map_or (λ (d : Candidate). c.event == d.event) (source_at nodes at r) false

  abbrev told : World → List Bool
  told at = read_at nodes at r ∷ option_map_or (λ (d : Candidate). false) (source_at nodes at r) true ∷ map (is_taken at) r.candidates

  extends : (v : Valuation) → IsOver f → IsModel v f
      → (w : Valuation) × IsModel w (read_made parts f r).formula × Agree f.vars v w × (literal_true w (pos (n + 1)) ≡ read_at nodes (world v) r)
  extends v over m =
      let first = e.extends v over m in
      let u : Valuation = first.0 in
      let at : World = world v in
      let w : Valuation = with_values u n (told at) in
      let agree : Agree n u w = agree_with u n (told at) in
      let whole : Agree f.vars v w = λ k below. first.2 k below ∙ agree k (omega (arith, below, e.more)) in
      let same : world v ≡ world w = t.same v w whole in
      let one : w 1 ≡ true = sym (agree 1 (omega (arith, t.one, e.more))) ∙ first.1.one in
      let old : satisfies w seen.state.clauses ≡ true = sym (satisfies-agree n u w seen.state.clauses agree (e.over over)) ∙ first.1.all in
      let g : IsModel w seen.state = record { one = one; all = old } in
      let k : IsModel w f = e.before w g in
      let holding : literal_true w (pos (n + 1)) ≡ read_at nodes (world w) r =
      value_with u n (told at) 0 (n + 1) (omega arith) ∙ ap (λ x. read_at nodes x r) same in
      let starting : literal_true w (pos (n + 2)) ≡ option_map_or (λ (d : Candidate). false) (source_at nodes (world w) r) true =
      value_with u n (told at) 1 (n + 2) (omega arith) ∙ ap (λ x. option_map_or (λ (d : Candidate). false) (source_at nodes x r) true) same in
      let tie : AreTied (IsSourceFor nodes parts r w (world w) (λ c l. literal_true w l ≡ is_taken (world w) c)) r.candidates sources =
      tied nodes parts r w (world w) (λ c l. literal_true w l ≡ is_taken (world w) c) (n + 2) r.candidates seen.word (are.each w g)
      (λ j d below. value_with u n (told at) (suc (suc j)) (n + 2 + 1 + j) (omega arith)
      ∙ get_or-map (is_taken at) r.candidates j d false below ∙ ap (λ x. is_taken x (get_or r.candidates j d)) same) in
      let all : satisfies w clauses ≡ true =
      meets parts w (pos (n + 1)) (pos (n + 2)) (word_at parts.words r.takes) (word_at parts.words r.start) sources
      (met nodes parts r w (world w) (apart w) wide.vars (pos (n + 1)) (pos (n + 2)) sources (λ c l. literal_true w l ≡ is_taken (world w) c) tie
      all_sources holds_of start_of words widths (value w k) (before w k) (λ c l said. said) holding starting) in (
        w,
        record { one = one; all = with_satisfied w wide clauses one raw ∙ and_from _ _ old all },
        whole,
        holding ∙ ap (λ x. read_at nodes x r) (sym same),
      )

  pub read_root : IsRoot f (read_made parts f r) (λ v. read_at nodes (world v) r)
  read_root = record {
    more = more;
    over = λ a. with_over wide clauses raw (within_wider n wide.vars seen.state.clauses (omega arith) (e.over a));
    literal = holds_of;
    before = λ w m. e.before w (of_seen w m);
    holds = holds;
    extends = extends;
  }

  pub before_read : (w : Valuation) → satisfies w (read_made parts f r).formula.clauses ≡ true → satisfies w f.clauses ≡ true
  before_read w s = before_grown w f seen.state are.grown (first_part w seen.state.clauses (flat_map folded_clause clauses) s)

pub reads-mean : ReadsMean
reads-mean o nodes world parts f r t h = read_root o nodes world parts f r t h
