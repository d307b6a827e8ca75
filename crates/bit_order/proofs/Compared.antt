-- The meaning of the comparators of pairs.
use Rattle.std.proofs.Common.{◌≡◌, ℕ, ◌+◌, ◌<◌, ◌≤◌, Bool, true, false, not, List, [], ◌∷◌, ◌++◌, ℤ, neg_ℤ, Option, Some, None, refl, ap, sym, ◌∙◌, subst, arith, length, map, get_or, min, max}
use Rattle.std.specs.Prelude.{◌&&◌, ◌||◌, ◌==◌, if◌then◌else◌, nat_lt, nat_le, fold, position, is_some, IfSome}
use Rattle.std.specs.List.{All, list_any, position_or_len}
use Rattle.std.specs.Option.{option_map, option_map_or}
use Rattle.std.proofs.lemmas.Bool.{false≢true, and_parts, eqb-true, lt-ltb, leb-true, leb-false}
use Rattle.std.proofs.lemmas.Bool.Decides.{nat_tests}
use Rattle.std.proofs.lemmas.List.{append-nil, append_assoc, length-append, map-append, get_or-map, get_or_default}
use Rattle.std.proofs.lemmas.List.Elements.{All-nil, All-cons, All-head, All-tail, All-append, All-weaker, All-get_or}
use Rattle.std.proofs.lemmas.List.Quantifiers.{position-Some}
use Rattle.cnf_core.specs.Clauses.{var_of, Formula, Valuation, literal_true}
use Rattle.cnf_core.proofs.GateLaws.{literal_true-neg}
use Rattle.bit_gates.specs.Folded.{Made, constant, kept}
use Rattle.bit_gates.specs.Laws.{IsGrown, IsModel, IsOf, IsBit}
use Rattle.bit_gates.proofs.Blocks.{grown_none, grown_more, grown_twice, IsOf-opposite, model_before}
use Rattle.bit_gates.proofs.Meaning.{constant_of, constant_value}
use Rattle.bit_words.specs.Words.{AreWithin, Walked}
use Rattle.bit_words.specs.Laws.{value, values}
use Rattle.bit_words.proofs.Meaning.{all_grown, compared_bit}
use Rattle.bit_ranks.specs.Ranks.{comes_before}
use Rattle.bit_ranks.proofs.Order.{one_way}
use Rattle.order_formula.specs.Orders.{IsOrder, PairIsOf, pair_of, same_pair}
use Rattle.order_formula.specs.declared.order.Pair.{Pair}
use Rattle.bit_order.specs.Layouts.{Layout, position_start, position_word, base}
use Rattle.bit_order.specs.Comparators.{compared_pair, with_comparator, comparators, comparator, before_literal}
use Rattle.bit_order.specs.helpers.Places.{PairIsWithin}
use Rattle.bit_order.proofs.WordLaws.{length_word, word_within}

-- an event comes before another, by the bits of their positions
abbrev pub comes_first : Valuation → ℕ → ℕ → Bool
comes_first w first second = comes_before (λ event. value w (position_word event)) first second

by_tie : (b : Bool) (x y : ℕ) → (if b then nat_le x y else nat_lt x y) ≡ (nat_lt x y || (x == y && b))
by_tie true x y = grind (arith, nat_tests)
by_tie false x y = grind (arith, nat_tests)

pub position_within : (vars event : ℕ) → position_start event + 7 ≤ vars → All (IsOf vars) (position_word event)
position_within vars event h = word_within (position_start event) 8 vars (omega arith) (omega (arith, h))

pub position_are_within : (vars event : ℕ) → position_start event + 7 ≤ vars → AreWithin vars (position_word event)
position_are_within vars event h = All-weaker (IsOf vars) (λ l. var_of l ≤ vars) (λ l o. o.1) (position_word event) (position_within vars event h)

pub compared_pair_bit : (f : Formula) (p : Pair) → 0 < f.vars → PairIsWithin f.vars p
    → IsBit f (compared_pair f p) (λ w. comes_first w p.lesser p.greater)
unfolding compared_pair
compared_pair_bit f p one within =
    let xs : List ℤ = position_word p.lesser in
    let ys : List ℤ = position_word p.greater in
    let tie : Bool = nat_lt p.lesser p.greater in
    let h = compared_bit (kept f (constant tie)) xs ys (constant_of f.vars tie one) (position_within f.vars p.lesser within.lesser)
    (position_within f.vars p.greater within.greater) (length_word (position_start p.greater) 8 ∙ sym (length_word (position_start p.lesser) 8)) in
    record {
      grown = h.grown;
      literal = h.literal;
      value = λ w m. h.value w m
          ∙ ap (λ b. if b then nat_le (value w xs) (value w ys) else nat_lt (value w xs) (value w ys)) (constant_value w tie m.one)
          ∙ by_tie tie (value w xs) (value w ys);
    }

abbrev pair_value : Valuation → Pair → Bool
pair_value w p = comes_first w p.lesser p.greater

-- a formula has grown by the comparators of some pairs
pub record AreCompared (f : Formula) (m : Walked Formula) (pairs : List Pair) : Type 0 where
  pub grown : IsGrown f m.state
  pub literals : All (IsOf m.state.vars) m.word
  pub values : (w : Valuation) → IsModel w m.state → values w m.word ≡ map (pair_value w) pairs

compared_none : (f : Formula) → AreCompared f (record { state = f; word = [] }) []
compared_none f = record { grown = grown_none f; literals = All-nil (IsOf f.vars); values = λ w m. refl }

compared_more : (f : Formula) (m : Walked Formula) (pairs : List Pair) (p : Pair) → 0 < f.vars → PairIsWithin f.vars p → AreCompared f m pairs
    → AreCompared f (with_comparator m p) (pairs ++ p ∷ [])
compared_more f m pairs p one within h =
    let g : Formula = m.state in
    let more : f.vars ≤ g.vars = grown_more f g h.grown in
    let here : Made = compared_pair g p in
    let b = compared_pair_bit g p (omega (arith, one, more))
    (record { lesser = omega (arith, within.lesser, more); greater = omega (arith, within.greater, more) }) in
    record {
      grown = grown_twice f g here.formula h.grown b.grown;
      literals = All-append (IsOf here.formula.vars) m.word (here.literal ∷ []) (all_grown g here.formula m.word b.grown h.literals)
          (All-cons (IsOf here.formula.vars) here.literal [] b.literal (All-nil (IsOf here.formula.vars)));
      values = λ w k.
          map-append (literal_true w) m.word (here.literal ∷ [])
          ∙ ap (λ bs. bs ++ literal_true w here.literal ∷ []) (h.values w (model_before w g here.formula b.grown k))
          ∙ ap (λ e. map (pair_value w) pairs ++ e ∷ []) (b.value w k) ∙ sym (map-append (pair_value w) pairs (p ∷ []));
    }

compared_from : (f : Formula) (m : Walked Formula) (done pairs : List Pair) → 0 < f.vars → All (PairIsWithin f.vars) pairs → AreCompared f m done
    → AreCompared f (fold with_comparator m pairs) (done ++ pairs)
compared_from f m done [] one within h = subst (AreCompared f m) (sym (append-nil done)) h
compared_from f m done (p ∷ ps) one within h =
    subst (AreCompared f (fold with_comparator (with_comparator m p) ps)) (append_assoc done (p ∷ []) ps)
    (compared_from f (with_comparator m p) (done ++ p ∷ []) ps one (All-tail (PairIsWithin f.vars) p ps within)
    (compared_more f m done p one (All-head (PairIsWithin f.vars) p ps within) h))

pub all_compared : (f : Formula) (pairs : List Pair) → 0 < f.vars → All (PairIsWithin f.vars) pairs
    → AreCompared f (fold with_comparator (record { state = f; word = [] }) pairs) pairs
all_compared f pairs one within = compared_from f (record { state = f; word = [] }) [] pairs one within (compared_none f)

-- there is a literal for each pair
pub length-compared : (m : Walked Formula) (pairs : List Pair) → length (fold with_comparator m pairs).word ≡ length m.word + length pairs
length-compared m [] = omega arith
length-compared m (p ∷ ps) =
    let here : Made = compared_pair m.state p in
    length-compared (with_comparator m p) ps ∙ omega (arith, length-append m.word (here.literal ∷ []))

-- if some element passes, there is a first one
pub first_there : {A : Type 0} (q : A → Bool) (xs : List A) → list_any q xs ≡ true → position_or_len q xs < length xs
first_there q [] any = absurd (false≢true any)
first_there q (x ∷ xs) any = grind (arith, first_there q xs)

-- pairs of a lawful order lie within the variables
pub pairs_within : (y : Layout) → IsOrder y.order → All (PairIsWithin (base y).vars) y.order.pairs
pairs_within y lawful =
    All-weaker (PairIsOf y.order.events) (PairIsWithin (base y).vars)
    (λ p h. record { lesser = omega (arith, h.ordered, h.within); greater = omega (arith, h.within) }) y.order.pairs lawful.pairs_within

pub base_some : (y : Layout) → 0 < (base y).vars
base_some y = omega arith

-- the literal of a pair of a lawful order
module _ (y : Layout) (lawful : IsOrder y.order) where
  all : AreCompared (base y) (comparators y) y.order.pairs
  all = all_compared (base y) y.order.pairs (base_some y) (pairs_within y lawful)

  pub comparators_grown : IsGrown (base y) (comparators y).state
  comparators_grown = all.grown

  pub record IsComparator (first second : ℕ) (l : ℤ) : Type 0 where
    pub there : IsOf (comparators y).state.vars l
    pub value : (w : Valuation) → IsModel w (comparators y).state → literal_true w l ≡ comes_first w (min first second) (max first second)

  long : length (comparators y).word ≡ length y.order.pairs
  long = length-compared (record { state = base y; word = [] }) y.order.pairs ∙ omega arith

  pub comparator_is : (first second : ℕ) → IfSome (comparator y first second) (IsComparator first second)
  comparator_is first second = by (position (same_pair (pair_of first second)) y.order.pairs) refl
    where
      d : Pair
      d = record { lesser = 0; greater = 0 }

      by : (o : Option ℕ) → position (same_pair (pair_of first second)) y.order.pairs ≡ o
          → IfSome (option_map (λ number. get_or (comparators y).word number (constant false)) o) (IsComparator first second)
      by None is = tt
      by (Some n) is =
          let found = position-Some (same_pair (pair_of first second)) y.order.pairs n d is in
          let p : Pair = get_or y.order.pairs n d in
          let same = and_parts (min first second == p.lesser) (max first second == p.greater) found.1 in
          let low : min first second ≡ p.lesser = eqb-true (min first second) p.lesser same.0 in
          let high : max first second ≡ p.greater = eqb-true (max first second) p.greater same.1 in
          record {
            there = All-get_or (IsOf (comparators y).state.vars) (comparators y).word n (constant false) (omega (arith, found.0, long)) all.literals;
            value = λ w m.
                sym (get_or-map (literal_true w) (comparators y).word n (constant false) false (omega (arith, found.0, long)))
                ∙ ap (λ bs. get_or bs n false) (all.values w m) ∙ get_or-map (pair_value w) y.order.pairs n d false found.0
                ∙ ap (λ e. comes_first w e p.greater) (sym low) ∙ ap (λ e. comes_first w (min first second) e) (sym high);
          }

  turned : (b : Bool) (l : ℤ) → IsOf (comparators y).state.vars l → IsOf (comparators y).state.vars (if b then l else neg_ℤ l)
  turned true l h = h
  turned false l h = IsOf-opposite (comparators y).state.vars l h

  -- one event before another, in either order of their numbers
  pub before_is_there : (first second : ℕ) → IsOf (comparators y).state.vars (before_literal y first second)
  before_is_there first second = by (comparator y first second) (comparator_is first second)
    where
      by : (o : Option ℤ) → IfSome o (IsComparator first second)
          → IsOf (comparators y).state.vars (option_map_or (λ l. if nat_le first second then l else neg_ℤ l) o (constant false))
      by None h = constant_of (comparators y).state.vars false (omega (arith, base_some y, grown_more (base y) (comparators y).state comparators_grown))
      by (Some l) h = turned (nat_le first second) l h.there

  pub before_is : (w : Valuation) → IsModel w (comparators y).state → (first second : ℕ)
      → list_any (same_pair (pair_of first second)) y.order.pairs ≡ true → literal_true w (before_literal y first second) ≡ comes_first w first second
  before_is w m first second asked = by (comparator y first second) some (comparator_is first second)
    where
      some : is_some (comparator y first second) ≡ true
      some =
          let t : nat_lt (position_or_len (same_pair (pair_of first second)) y.order.pairs) (length y.order.pairs) ≡ true =
          lt-ltb _ _ (first_there (same_pair (pair_of first second)) y.order.pairs asked) in
          rw t refl

      by_order : (b : Bool) → nat_le first second ≡ b → (l : ℤ) → IsComparator first second l
          → literal_true w (if b then l else neg_ℤ l) ≡ comes_first w first second
      by_order true le l h =
          let less : first ≤ second = leb-true first second le in
          let low : min first second ≡ first = omega (arith, less) in
          let high : max first second ≡ second = omega (arith, less) in
          h.value w m ∙ ap (λ e. comes_first w e (max first second)) low ∙ ap (comes_first w first) high
      by_order false gt l h =
          let more : second < first = leb-false first second gt in
          let low : min first second ≡ second = omega (arith, more) in
          let high : max first second ≡ first = omega (arith, more) in
          literal_true-neg w l h.there.0 ∙ ap not (h.value w m ∙ ap (λ e. comes_first w e (max first second)) low ∙ ap (comes_first w second) high)
          ∙ sym (one_way (λ event. value w (position_word event)) second first (λ same. absurd (omega (arith, same, more))))

      by : (o : Option ℤ) → is_some o ≡ true → IfSome o (IsComparator first second)
          → literal_true w (option_map_or (λ l. if nat_le first second then l else neg_ℤ l) o (constant false)) ≡ comes_first w first second
      by None lacks h = absurd (false≢true lacks)
      by (Some l) has h = by_order (nat_le first second) refl l h

-- the literal stored for a pair
module _ (y : Layout) (first second number : ℕ) (is : position (same_pair (pair_of first second)) y.order.pairs ≡ Some number) where
  pub comparator_place : number < length (comparators y).word
  comparator_place =
      let found = position-Some (same_pair (pair_of first second)) y.order.pairs number (record { lesser = 0; greater = 0 }) is in
      omega (arith, found.0, length-compared (record { state = base y; word = [] }) y.order.pairs)

  pub comparator_at : (ls : List ℤ) (l : ℤ) → ls ≡ (comparators y).word → l ≡ get_or ls number l → Some l ≡ comparator y first second
  comparator_at ls l same there =
      let kept : l ≡ get_or (comparators y).word number (constant false) =
      there ∙ ap (λ ws. get_or ws number l) same ∙ get_or_default (comparators y).word number l (constant false) comparator_place in
      ap Some kept ∙ ap (option_map (λ k. get_or (comparators y).word k (constant false))) (sym is)
