-- The clauses of ranks hold for the ranks of the regions.
use Rattle.std.proofs.Common.{◌≡◌, ◌≢◌, ℕ, zero, suc, ◌+◌, ◌*◌, ◌<◌, ◌≤◌, List, [], ◌∷◌, ℤ, pos, neg_ℤ, refl, ap, ap₂, sym, ◌∙◌, arith, Bool, true, false, not, ◌&&◌, length, get_or, map, inl, inr, Some, None, Option}
use Rattle.std.specs.Prelude.{◌==◌, if◌then◌else◌, nat_le, nat_lt}
use Rattle.std.specs.List.{All, AllPairs, IsDistinct, find, flat_map, list_any, range_with_len}
use Rattle.std.specs.Option.{MatchOption}
use Rattle.std.proofs.lemmas.Bool.{and_from, cases_order, eq-eqb, eqb-true, le-leb, lt-leb, lt-ltb, ltb-true, leb-true, true≢false}
use Rattle.std.proofs.lemmas.Bool.Decides.{Decides-eqb, nat_tests}
use Rattle.std.proofs.lemmas.List.{get_or-map, length-map}
use Rattle.std.proofs.lemmas.List.Elements.{All-cons, All-get_or, All-nil, Contains-get_or}
use Rattle.std.proofs.lemmas.List.FromFn.{get_or-map-range_with_len, length-map-range_with_len, length-range_with_len}
use Rattle.std.proofs.lemmas.Map.Made.{IsDistinct-from_AllPairs}
use Rattle.std.proofs.lemmas.Map.Steps.{length-le_from_distinct_below}
use Rattle.std.proofs.lemmas.Nat.{div-mul-add, mod-mul-add, mul-le}
use Rattle.cnf_core.specs.Clauses.{Formula, Valuation, clause_true, literal_true, satisfies}
use Rattle.cnf_core.proofs.GateLaws.{literal_true-agree}
use Rattle.bit_gates.specs.Folded.{constant}
use Rattle.bit_gates.specs.Laws.{IsOf}
use Rattle.bit_gates.proofs.Blocks.{IsOf-opposite}
use Rattle.bit_gates.proofs.Meaning.{both_bit, constant_of, constant_value}
use Rattle.bit_order.specs.bit_ranks.Ranks.{ranks_of}
use Rattle.bit_order.proofs.bit_ranks.RankLaws.{different-order, length-ranks, ranks-below, ranks-differ, ranks-order}
use Rattle.circuit_sizes.specs.bit_ops.bit_words.Laws.{values}
use Rattle.circuit_sizes.specs.bit_ops.bit_words.Words.{Walked}
use Rattle.bit_order.proofs.Ranges.{IsFound, searched}
use Rattle.bit_blast.proofs.Lists.{all_flat_map, all_of, any_of, contains_cases, one_place, passes_flat_map, some_passes}
use Rattle.bit_blast.proofs.Variables.{literal_positive}
use Rattle.mutex_states.specs.Extending.{Extends}
use Rattle.mutex_states.specs.Laws.{PositionsRank, RanksMean}
use Rattle.mutex_states.specs.Ranks.{AreRanks, Rise, SayRanks, exclusions, fall, gates_made, least_literal, number_clauses, one_clauses, rank_gate, rank_value, ranks_clauses, region_clauses, rise, with_rank, with_ranks}
use Rattle.mutex_states.proofs.Extending.{IsKept, and_then, by_clauses, by_gates, by_values, weaker, widened}
use Rattle.mutex_states.proofs.Literals.{excluded, exclusions_there, implication, implication_two, in_range, opposite, pair_there, three_there}
use Rattle.mutex_states.proofs.Walking.{AreWalked, walked, walked_count}

-- each number below the count is the rank of a region
module _ (count : ℕ) (rank : ℕ → ℕ) (are : AreRanks count rank) (k : ℕ) (low : k < count) where
  abbrev Has : Type 0
  Has = (region : ℕ) × (region < count) × (rank region ≡ k)

  none_has : ((region : ℕ) → region < count → rank region ≢ k) → ⊥
  none_has none = absurd (omega (arith, many, length-le_from_distinct_below all count distinct below))
    where
      ranks : List ℕ
      ranks = map rank (range_with_len 0 count)

      all : List ℕ
      all = k ∷ ranks

      long : length ranks ≡ count
      long = length-map-range_with_len rank 0 count

      many : length all ≡ suc count
      many = ap suc long

      at : (i d : ℕ) → i < count → get_or ranks i d ≡ rank i
      at i d there = get_or-map-range_with_len rank 0 count i i d there (omega arith)

      apart : AllPairs (λ p q. p ≢ q) all
      apart i zero d less there same = absurd (omega (arith, less))
      apart zero (suc j) d less there same =
          let below : j < count = omega (arith, there, many) in none j below (sym (same ∙ at j d below))
      apart (suc i) (suc j) d less there same =
          let high : j < count = omega (arith, there, many) in
          let lower : i < count = omega (arith, less, high) in
          are.differ i j lower high (λ one. absurd (omega (arith, one, less))) (sym (at i d lower) ∙ same ∙ at j d high)

      distinct : IsDistinct (λ p q. p == q) all
      distinct = IsDistinct-from_AllPairs Decides-eqb all apart

      below : (q : ℕ) → list_any (λ p. q == p) all ≡ true → q < count
      below q h =
          let x = some_passes (λ p. q == p) all h in
          let is : q ≡ x.0 = eqb-true q x.0 x.2 in
          elim (contains_cases k x.0 ranks x.1) [
            | inl first ↦ omega (arith, is, first, low)
            | inr later ↦
                let i : ℕ = later.0 in
                let there : i < count = omega (arith, later.1, long) in
                let rank_is : rank i ≡ x.0 = sym (at i x.0 there) ∙ later.2 in
                omega (arith, is, rank_is, are.below i there)
          ]

  pub has_rank : Has
  has_rank = by (find (λ i. rank i == k) (range_with_len 0 count)) (searched (λ i. rank i == k) 0 count)
    where
      by : (o : Option ℕ) → MatchOption o ((i : ℕ) → 0 ≤ i → i < 0 + count → (rank i == k) ≡ false) (IsFound (λ i. rank i == k) 0 count) → Has
      by None none = absurd (none_has (λ i there same. true≢false (sym (eq-eqb (rank i) k same) ∙ none i (omega arith) (omega (arith, there)))))
      by (Some i) found = (i, omega (arith, found.high), eqb-true (rank i) k found.passes)

module _ (count : ℕ) (before : (first second : ℕ) → ℤ) (rank : ℕ → ℕ) (f : Formula) (one : 0 < f.vars)
    (known : (first second : ℕ) → first < count → second < count → first ≢ second → IsOf f.vars (before first second)) (are : AreRanks count rank) where
  abbrev start : ℕ
  start = suc f.vars

  abbrev all : ℕ
  all = f.vars + count * count

  abbrev least : (region least : ℕ) → ℤ
  least = least_literal count start

  abbrev Ranks : Valuation → Type 0
  Ranks = Rise count before rank

  abbrev Say : Valuation → Type 0
  Say = SayRanks count before start rank

  constant_there : (n : ℕ) (b : Bool) → f.vars ≤ n → IsOf n (constant b)
  constant_there n b more = constant_of n b (omega (arith, one, more))

  least_there : (region k : ℕ) → region < count → IsOf all (least region k)
  least_there region zero below = constant_there all true (omega arith)
  least_there region (suc k) below = by (nat_lt (suc k) count) refl
    where
      by : (b : Bool) → nat_lt (suc k) count ≡ b → IsOf all (if b then pos (start + (region * count + k)) else constant false)
      by true low =
          let under : suc k < count = ltb-true (suc k) count low in
          let rows : (region + 1) * count ≤ count * count = mul-le (region + 1) count count count (omega (arith, below)) (omega arith) in
          (omega arith, omega (arith, under, rows))
      by false _ = constant_there all false (omega arith)

  -- a literal has its value if its variable has
  least_value : (w : Valuation) → w 1 ≡ true → (region k : ℕ) → rank region < count
      → ((j : ℕ) → j < count → w (start + (region * count + j)) ≡ nat_lt j (rank region)) → literal_true w (least region k) ≡ nat_le k (rank region)
  least_value w true_one region zero low h = true_one ∙ sym (le-leb 0 (rank region) (omega arith))
  least_value w true_one region (suc k) low h = by (nat_lt (suc k) count) refl
    where
      by : (b : Bool) → nat_lt (suc k) count ≡ b
          → literal_true w (if b then pos (start + (region * count + k)) else constant false) ≡ nat_le (suc k) (rank region)
      by true under =
          let less : suc k < count = ltb-true (suc k) count under in
          literal_positive w (start + (region * count + k)) (omega arith) ∙ h k (omega (arith, less))
      by false past =
          constant_value w false true_one
          ∙ sym (lt-leb (suc k) (rank region)
          (elim (cases_order (suc k) count) [
            | inl same ↦ omega (arith, same, low)
            | inr (inl less) ↦ absurd (true≢false (sym (lt-ltb (suc k) count less) ∙ past))
            | inr (inr more) ↦ omega (arith, more, low)
          ]))

  -- ranks are the same for valuations that agree on the first variables
  ranks_kept : (n : ℕ) → f.vars ≤ n → IsKept n Ranks
  ranks_kept n more v w agree rises i j p q apart =
      let of : IsOf f.vars (before i j) = known i j p q apart in
      (λ earlier. rises i j p q apart (literal_true-agree n v w (before i j) agree (omega (arith, of.1, more)) ∙ earlier))

  pub say_kept : (n : ℕ) → all ≤ n → IsKept n Say
  say_kept n more v w agree say = record {
    rises = ranks_kept n (omega (arith, more)) v w agree say.rises;
    least = λ region k below.
        let of : IsOf all (least region k) = least_there region k below in
        sym (literal_true-agree n v w (least region k) agree (omega (arith, of.1, more))) ∙ say.least region k below;
  }

  -- the variables
  valued : Extends Ranks f Say (widened f (count * count))
  valued =
      weaker Ranks (λ w. Ranks w × ((k : ℕ) → w (start + k) ≡ rank_value count rank k)) Ranks Say f (widened f (count * count)) (λ v m r. r)
      (λ w m h. record {
        rises = h.0;
        least = λ region k below.
            least_value w m.one region k (are.below region below)
            (λ j low. h.1 (region * count + j) ∙ ap₂ (λ a b. nat_lt a (rank b)) (mod-mul-add region count j low) (div-mul-add region count j low));
      }) (by_values Ranks f (count * count) (rank_value count rank) one (ranks_kept f.vars (omega arith)))

  -- the clauses
  fall_there : (region k : ℕ) → region < count → All (IsOf all) (fall count start region k)
  fall_there region k below =
      pair_there (IsOf all) (neg_ℤ (least region (suc k))) (least region k) (IsOf-opposite all (least region (suc k)) (least_there region (suc k) below))
      (least_there region k below)

  before_there : (i j : ℕ) → i < count → j < count → i ≢ j → IsOf all (before i j)
  before_there i j p q apart = let of : IsOf f.vars (before i j) = known i j p q apart in (of.0, omega (arith, of.1))

  rise_there : (i k j : ℕ) → i < count → j < count → All (All (IsOf all)) (rise count start before i k j)
  rise_there i k j p q = by (i == j) refl
    where
      by : (b : Bool) → (i == j) ≡ b
          → All (All (IsOf all)) (if b then [] else (neg_ℤ (before i j) ∷ neg_ℤ (least i k) ∷ least j (suc k) ∷ []) ∷ [])
      by true _ = All-nil (All (IsOf all))
      by false other =
          let apart : i ≢ j = λ same. true≢false (sym (eq-eqb i j same) ∙ other) in
          All-cons (All (IsOf all)) (neg_ℤ (before i j) ∷ neg_ℤ (least i k) ∷ least j (suc k) ∷ []) []
          (three_there (IsOf all) (neg_ℤ (before i j)) (neg_ℤ (least i k)) (least j (suc k)) (IsOf-opposite all (before i j) (before_there i j p q apart))
          (IsOf-opposite all (least i k) (least_there i k p)) (least_there j (suc k) q)) (All-nil (All (IsOf all)))

  clauses_there : All (All (IsOf all)) (ranks_clauses count start before)
  clauses_there =
      all_flat_map (All (IsOf all)) (region_clauses count start before) (range_with_len 0 count) (λ i at.
      let p : i < count = in_range count i at in
      all_flat_map (All (IsOf all)) (number_clauses count start before i) (range_with_len 0 count) (λ k _.
      All-cons (All (IsOf all)) (fall count start i k) (flat_map (rise count start before i k) (range_with_len 0 count)) (fall_there i k p)
      (all_flat_map (All (IsOf all)) (rise count start before i k) (range_with_len 0 count) (λ j other. rise_there i k j p (in_range count j other)))))

  module _ (v : Valuation) (say : Say v) where
    fall_true : (region k : ℕ) → region < count → clause_true v (fall count start region k) ≡ true
    fall_true region k below =
        implication v all (least region (suc k)) (least region k) (least_there region (suc k) below)
        (λ h. say.least region k below ∙ le-leb k (rank region) (let more = leb-true (suc k) (rank region) (sym (say.least region (suc k) below) ∙ h) in omega (arith, more)))

    rise_true : (i k j : ℕ) → i < count → j < count → satisfies v (rise count start before i k j) ≡ true
    rise_true i k j p q = by (i == j) refl
      where
        by : (b : Bool) → (i == j) ≡ b → satisfies v (if b then [] else (neg_ℤ (before i j) ∷ neg_ℤ (least i k) ∷ least j (suc k) ∷ []) ∷ []) ≡ true
        by true _ = refl
        by false other =
            let apart : i ≢ j = λ same. true≢false (sym (eq-eqb i j same) ∙ other) in
            and_from _ _
            (implication_two v all (before i j) (least i k) (least j (suc k)) (before_there i j p q apart) (least_there i k p)
            (λ earlier high.
            let rises : rank i < rank j = say.rises i j p q apart earlier in
            let more : k ≤ rank i = leb-true k (rank i) (sym (say.least i k p) ∙ high) in
            say.least j (suc k) q ∙ le-leb (suc k) (rank j) (omega (arith, rises, more)))) refl

    clauses_true : satisfies v (ranks_clauses count start before) ≡ true
    clauses_true =
        passes_flat_map (clause_true v) (region_clauses count start before) (range_with_len 0 count) (λ i at.
        let p : i < count = in_range count i at in
        passes_flat_map (clause_true v) (number_clauses count start before i) (range_with_len 0 count) (λ k _.
        and_from _ _ (fall_true i k p)
        (passes_flat_map (clause_true v) (rise count start before i k) (range_with_len 0 count) (λ j other. rise_true i k j p (in_range count j other)))))

  abbrev ranked : Formula
  ranked = with_ranks count before f

  pub all_ranks : Extends Ranks f Say ranked
  all_ranks =
      and_then Ranks Say Say f (widened f (count * count)) ranked valued
      (by_clauses Say (widened f (count * count)) (ranks_clauses count start before) clauses_there (λ v m say. clauses_true v say))

  -- the gates of one rank
  module _ (g : Formula) (k : ℕ) (wide : all ≤ g.vars) where
    abbrev gates : Walked Formula
    gates = gates_made count start k g

    abbrev gate_value : Valuation → ℕ → Bool
    gate_value w region = literal_true w (least region k) && literal_true w (neg_ℤ (least region (suc k)))

    in_formula : (h : Formula) (region j : ℕ) → g.vars ≤ h.vars → region < count → IsOf h.vars (least region j)
    in_formula h region j more below = let of : IsOf all (least region j) = least_there region j below in (of.0, omega (arith, of.1, wide, more))

    are_gates : AreWalked (rank_gate count start k) gate_value g gates (range_with_len 0 count)
    are_gates =
        walked (rank_gate count start k) gate_value (λ region. region < count) g
        (λ h region more below. both_bit h (least region k) (neg_ℤ (least region (suc k))) (in_formula h region k more below)
        (IsOf-opposite h.vars (least region (suc k)) (in_formula h region (suc k) more below)))
        (range_with_len 0 count) (all_of (λ region. region < count) (range_with_len 0 count) (in_range count))

    pub gates_there : All (IsOf gates.state.vars) gates.word
    gates_there = are_gates.literals

    pub gates_count : length gates.word ≡ count
    gates_count = walked_count (rank_gate count start k) (record { state = g; word = [] }) (range_with_len 0 count) ∙ omega (arith, length-range_with_len 0 count)

    -- a gate is true exactly if the region has the rank
    exactly : (r : ℕ) → (nat_le k r && not (nat_le (suc k) r)) ≡ (r == k)
    exactly r = grind (arith, nat_tests)

    gate_says : (v : Valuation) → Say v → (region : ℕ) → region < count → gate_value v region ≡ (rank region == k)
    gate_says v say region below =
        ap₂ (λ a b. a && b) (say.least region k below)
        (implication_opposite ∙ ap not (say.least region (suc k) below)) ∙ exactly (rank region)
      where
        implication_opposite : literal_true v (neg_ℤ (least region (suc k))) ≡ not (literal_true v (least region (suc k)))
        implication_opposite = opposite v all (least region (suc k)) (least_there region (suc k) below)

    same_gates : (v : Valuation) → Say v → (n : ℕ) (a : ℕ) → a + n ≤ count
        → map (gate_value v) (range_with_len a n) ≡ map (λ region. rank region == k) (range_with_len a n)
    same_gates v say zero a inside = refl
    same_gates v say (suc n) a inside =
        ap₂ (λ b bs. b ∷ bs) (gate_says v say a (omega (arith, inside))) (same_gates v say n (a + 1) (omega (arith, inside)))

    abbrev Told : Valuation → Type 0
    Told w = Say w × (values w gates.word ≡ map (λ region. rank region == k) (range_with_len 0 count))

    told : Extends Say g Told gates.state
    told =
        weaker Say Say Say Told g gates.state (λ v m s. s) (λ w m say. (say, are_gates.values w m ∙ same_gates w say count 0 (omega arith)))
        (by_gates Say g gates.state (omega (arith, one, wide)) (say_kept g.vars wide) are_gates.grown)

    module _ (v : Valuation) (t : Told v) where
      long : length gates.word ≡ count
      long = sym (length-map gates.word (literal_true v)) ∙ ap length t.1 ∙ length-map-range_with_len (λ region. rank region == k) 0 count

      gate_at : (i : ℕ) (d : ℤ) → i < count → literal_true v (get_or gates.word i d) ≡ (rank i == k)
      gate_at i d below =
          sym (get_or-map (literal_true v) gates.word i d false (omega (arith, below, long))) ∙ ap (λ bs. get_or bs i false) t.1
          ∙ get_or-map-range_with_len (λ region. rank region == k) 0 count i i false below (omega arith)

      some : k < count → clause_true v gates.word ≡ true
      some low =
          let r = has_rank count rank are k low in
          let i : ℕ = r.0 in
          let d : ℤ = constant true in
          let below : i < length gates.word = omega (arith, r.1, long) in
          any_of (literal_true v) gates.word (get_or gates.word i d) (Contains-get_or gates.word i d below) (gate_at i d r.1 ∙ eq-eqb (rank i) k r.2)

      apart : AllPairs (λ a b. literal_true v a ≡ true → literal_true v b ≡ true → ⊥) gates.word
      apart i j d less there p q =
          let high : j < count = omega (arith, there, long) in
          let lower : i < count = omega (arith, less, high) in
          are.differ i j lower high (λ same. absurd (omega (arith, same, less)))
          (eqb-true (rank i) k (sym (gate_at i d lower) ∙ p) ∙ sym (eqb-true (rank j) k (sym (gate_at j d high) ∙ q)))

    pub one_rank : k < count → Extends Say g Told (with_rank count start k g).state
    one_rank low =
        and_then Say Told Told g gates.state (with_rank count start k g).state told
        (by_clauses Told gates.state (one_clauses gates.word)
        (All-cons (All (IsOf gates.state.vars)) gates.word (exclusions gates.word) gates_there (exclusions_there gates.state.vars gates.word gates_there))
        (λ v m t. and_from _ _ (some v t low) (excluded v gates.state.vars gates.word gates_there (apart v t))))

  pub ranks_mean : RanksMean count before rank f
  ranks_mean = record { all = all_ranks; literals = λ g k wide. gates_there g k wide; each = λ g k wide low. one_rank g k wide low }

pub positions_rank : PositionsRank
positions_rank positions before v distinct says = (
  record {
    below = λ i there. All-get_or (λ r. r < length positions) (ranks_of positions) i 0 (omega (arith, there, long)) (ranks-below positions);
    differ = λ i j p q apart same. apart (one_place (ranks_of positions) i j (ranks-differ positions) (omega (arith, p, long)) (omega (arith, q, long)) same);
  },
  λ i j p q apart earlier.
      ltb-true (get_or (ranks_of positions) i 0) (get_or (ranks_of positions) j 0)
      (ranks-order positions i j p q ∙ different-order positions i j distinct p q
      ∙ lt-ltb (get_or positions i 0) (get_or positions j 0) (says i j p q apart earlier)),
)
  where
    long : length (ranks_of positions) ≡ length positions
    long = length-ranks positions
