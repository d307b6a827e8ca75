-- The ranks of regions as clauses. A region's rank is the number of regions that begin before it: a
-- variable for each region and each number says that the rank is at least that.
use Rattle.std.specs.Prelude.{◌≡◌, ◌≢◌, ℕ, zero, suc, ◌+◌, ◌*◌, ◌/◌, ◌%◌, ◌<◌, ◌==◌, Bool, true, false, if◌then◌else◌, nat_le, nat_lt, List, [], ◌∷◌, ◌++◌, ℤ, pos, neg_ℤ, fold, get_or, map}
use Rattle.std.specs.List.{flat_map, range_with_len}
use Rattle.cnf_core.specs.Clauses.{Formula, Valuation, literal_true}
use Rattle.bit_gates.specs.Folded.{Made, conjunction, constant}
use Rattle.circuit_sizes.specs.bit_ops.bit_words.Words.{Walked}
use Rattle.bit_order.specs.Comparators.{before_literal}
use Rattle.bit_order.specs.Layouts.{Layout}
use Rattle.bit_blast.specs.Reads.{with_clauses}

-- the literal that one of some regions begins before another, by the events that begin them
abbrev pub begins_before : Layout → List ℕ → (first second : ℕ) → ℤ
begins_before y begins first second =
    before_literal y (get_or begins first 0) (get_or begins second 0)

-- of some literals at least one is true, and no two are
abbrev pub excluding : ℤ → List ℤ → List (List ℤ)
excluding l ls = map (λ k. neg_ℤ l ∷ neg_ℤ k ∷ []) ls

abbrev pub exclusions : List ℤ → List (List ℤ)
exclusions [] = []
exclusions (l ∷ ls) = excluding l ls ++ exclusions ls

abbrev pub one_clauses : List ℤ → List (List ℤ)
one_clauses ls = ls ∷ exclusions ls

-- the number of regions, and the first of their variables
pub record Ranking : Type 0 where
  pub count : ℕ
  pub start : ℕ

module _ (count start : ℕ) where
  -- the literal of "this region's rank is at least `least`"; ranks are below the count
  abbrev pub least_literal : (region least : ℕ) → ℤ
  least_literal region zero = constant true
  least_literal region (suc k) =
      if nat_lt (suc k) count then pos (start + (region * count + k)) else constant false

  -- a rank of at least one more is at least `least`
  abbrev pub fall : (region least : ℕ) → List ℤ
  fall region least =
      neg_ℤ (least_literal region (suc least)) ∷ least_literal region least ∷ []

  -- `before` has the literal that a region begins before another, which then has a higher rank
  module _ (before : (first second : ℕ) → ℤ) where
    abbrev pub rise : (first least second : ℕ) → List (List ℤ)
    rise first least second =
        if first == second then []
        else
        (neg_ℤ (before first second) ∷ neg_ℤ (least_literal first least)
        ∷ least_literal second (suc least) ∷ []) ∷ []

    abbrev pub number_clauses : (region least : ℕ) → List (List ℤ)
    number_clauses region least =
        fall region least ∷ flat_map (rise region least) (range_with_len 0 count)

    abbrev pub region_clauses : ℕ → List (List ℤ)
    region_clauses region = flat_map (number_clauses region) (range_with_len 0 count)

    abbrev pub ranks_clauses : List (List ℤ)
    ranks_clauses = flat_map region_clauses (range_with_len 0 count)

  -- the gate of "this region has this rank"
  abbrev pub rank_gate : (rank : ℕ) → Formula → (region : ℕ) → Made
  rank_gate rank f region =
      conjunction f (least_literal region rank) (neg_ℤ (least_literal region (suc rank)))

  abbrev pub with_gate : (rank : ℕ) → Walked Formula → (region : ℕ) → Walked Formula
  with_gate rank m region =
      let here : Made = rank_gate rank m.state region in
      record { state = here.formula; word = m.word ++ here.literal ∷ [] }

  -- the gates of a rank, one for each region; exactly one is true
  abbrev pub gates_made : (rank : ℕ) → Formula → Walked Formula
  gates_made rank f =
      fold (with_gate rank) (record { state = f; word = [] }) (range_with_len 0 count)

  abbrev pub with_rank : (rank : ℕ) → Formula → Walked Formula
  with_rank rank f =
      let m : Walked Formula = gates_made rank f in
      record { state = with_clauses m.state (one_clauses m.word); word = m.word }

-- ranks of regions: all different, and below their number
pub record AreRanks (count : ℕ) (rank : ℕ → ℕ) : Type 0 where
  pub below : (region : ℕ) → region < count → rank region < count
  pub differ : (first second : ℕ) → first < count → second < count → first ≢ second
      → rank first ≢ rank second

module _ (count : ℕ) (before : (first second : ℕ) → ℤ) where
  -- a formula with the variables and the clauses of ranks
  abbrev pub with_ranks : Formula → Formula
  with_ranks f =
      with_clauses (record { vars = f.vars + count * count; clauses = f.clauses })
      (ranks_clauses count (suc f.vars) before)

  -- a region that begins before another, by the literals, has a lower rank
  abbrev pub Rise : (rank : ℕ → ℕ) → Valuation → Type 0
  Rise rank v =
      (first second : ℕ) → first < count → second < count → first ≢ second
      → literal_true v (before first second) ≡ true → rank first < rank second

  -- the literals from the variable `start` on say these ranks
  pub record SayRanks (start : ℕ) (rank : ℕ → ℕ) (v : Valuation) : Type 0 where
    pub rises : Rise rank v
    pub least : (region least : ℕ) → region < count
        → literal_true v (least_literal count start region least) ≡ nat_le least (rank region)

-- the values of the new variables: that of a region and a number says that the rank is above it
abbrev pub rank_value : (count : ℕ) → (rank : ℕ → ℕ) → (variable : ℕ) → Bool
rank_value count rank variable = nat_lt (variable % count) (rank (variable / count))
