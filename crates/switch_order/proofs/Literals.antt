-- The literals of levels, and the literals that an event counts.
use Rattle.std.proofs.Common.{◌≡◌, ◌≢◌, ◌∙◌, inl, inr, ℕ, zero, suc, ◌+◌, ◌*◌, ◌<◌, ◌≤◌, ◌==◌, nat_lt, Bool, true, false, cond, List, [], ◌∷◌, ℤ, pos, neg_ℤ, length, get_or, Option, Some, None, refl, sym, ap, subst, arith}
use Rattle.std.specs.List.{All, IsDistinct}
use Rattle.std.proofs.lemmas.Bool.{cases_order, eq-eqb, eqb-true, lt-ltb, ltb-true, true≢false}
use Rattle.std.proofs.lemmas.Bool.Decides.{nat_tests}
use Rattle.std.proofs.lemmas.List.Elements.{All-cons, All-get_or, All-nil}
use Rattle.std.proofs.lemmas.Map.Keys.{apart_from_distinct}
use Rattle.std.proofs.lemmas.Nat.{mul-le}
use Rattle.cnf_core.specs.Clauses.{Formula, Valuation, literal_true}
use Rattle.bit_gates.specs.Folded.{constant}
use Rattle.bit_gates.specs.Laws.{IsModel, IsOf}
use Rattle.bit_gates.proofs.Blocks.{var_of-opposite}
use Rattle.bit_order.specs.Comparators.{before_literal}
use Rattle.bit_order.specs.Laws.{IsWorldFor, LiteralsMean}
use Rattle.bit_order.specs.Layouts.{Layout}
use Rattle.bit_order.specs.Readings.{world_of}
use Rattle.bit_order.proofs.Meaning.{literals-mean, values-say-worlds}
use Rattle.order_switches.specs.order_formula.Worlds.{World, is_before, position}
use Rattle.order_switches.specs.Switches.{end_at}
use Rattle.switch_order.specs.Laws.{IsReady}
use Rattle.switch_order.specs.Levels.{counts_by, counts_literal, level_literal}

-- different places of distinct numbers have different numbers
pub differ_at : (xs : List ℕ) (i j : ℕ) → IsDistinct (λ p q. p == q) xs → i < length xs → j < length xs → i ≢ j → get_or xs i 0 ≢ get_or xs j 0
differ_at xs i j distinct one other apart same =
    elim (cases_order i j) [
      | inl alike ↦ apart alike
      | inr (inl less) ↦ true≢false (sym (eq-eqb (get_or xs i 0) (get_or xs j 0) same) ∙ apart_from_distinct (λ p q. p == q) xs i j 0 distinct less other)
      | inr (inr more) ↦ true≢false (sym (eq-eqb (get_or xs j 0) (get_or xs i 0) (sym same)) ∙ apart_from_distinct (λ p q. p == q) xs j i 0 distinct more one)
    ]

pub positive_true : (v : Valuation) (k : ℕ) → 0 < k → literal_true v (pos k) ≡ v k
positive_true v zero less = absurd (omega (arith, less))
positive_true v (suc k) less = refl

opposite_of : (n : ℕ) (l : ℤ) → IsOf n l → IsOf n (neg_ℤ l)
opposite_of n l of = subst (λ v. (0 < v) × (v ≤ n)) (sym (var_of-opposite l)) of

all_four : {X : Type 0} (P : X → Type 0) (a b c d : X) → P a → P b → P c → P d → All P (a ∷ b ∷ c ∷ d ∷ [])
all_four P a b c d pa pb pc pd =
    All-cons P a (b ∷ c ∷ d ∷ []) pa (All-cons P b (c ∷ d ∷ []) pb (All-cons P c (d ∷ []) pc (All-cons P d [] pd (All-nil P))))

module _ (y : Layout) (threads : List ℕ) (failing : Option ℕ) (most : ℕ) (f : Formula) (ready : IsReady y threads failing f) where
  abbrev pub n : ℕ
  n = y.order.events

  abbrev pub all : ℕ
  all = f.vars + n * most

  abbrev pub start : ℕ
  start = suc f.vars

  pub mean : LiteralsMean y
  mean = literals-mean y ready.order

  pub one_there : 1 ≤ f.vars
  one_there = let of = mean.before_there 0 0 in omega (arith, of.0, of.1, ready.more)

  more_of : (l : ℤ) → IsOf f.vars l → IsOf all l
  more_of l of = (of.0, omega (arith, of.1))

  constant_of : (b : Bool) → IsOf f.vars (constant b)
  constant_of true = (omega arith, one_there)
  constant_of false = (omega arith, one_there)

  constant_there : (b : Bool) → IsOf all (constant b)
  constant_there b = more_of (constant b) (constant_of b)

  pub before_of : (e g : ℕ) → IsOf f.vars (before_literal y e g)
  before_of e g = let of = mean.before_there e g in (of.0, omega (arith, of.1, ready.more))

  pub before_there : (e g : ℕ) → IsOf all (before_literal y e g)
  before_there e g = more_of (before_literal y e g) (before_of e g)

  pub level_there : (e j : ℕ) → e < n → IsOf all (level_literal start most e j)
  level_there e zero less = constant_there true
  level_there e (suc j) less = by (nat_lt j most) refl
    where
      by : (b : Bool) → nat_lt j most ≡ b → IsOf all (cond b (pos (start + (e * most + j))) (constant false))
      by true low =
          let under = ltb-true j most low in
          let rows : (e + 1) * most ≤ n * most = mul-le (e + 1) most n most (omega (arith, less)) (omega arith) in
          (omega arith, omega (arith, under, rows))
      by false _ = constant_there false

  counts_by_of : (o : Option ℕ) (g : ℕ) → IsOf f.vars (counts_by y threads failing o g)
  counts_by_of None g = constant_of true
  counts_by_of (Some last) g = by (g == last)
    where
      by : (b : Bool) → IsOf f.vars (cond b (constant true) (before_literal y g last))
      by true = constant_of true
      by false = before_of g last

  pub counts_of : (g : ℕ) → IsOf f.vars (counts_literal y threads failing g)
  counts_of g = counts_by_of failing g

  pub counts_there : (g : ℕ) → IsOf all (counts_literal y threads failing g)
  counts_there g = more_of (counts_literal y threads failing g) (counts_of g)

  -- the literals of the clause of a rise
  pub rise_there : (e g j : ℕ) → e < n → g < n
      → All (IsOf all)
      (neg_ℤ (before_literal y e g) ∷ neg_ℤ (counts_literal y threads failing g) ∷ neg_ℤ (level_literal start most e j) ∷ level_literal start most g (suc j) ∷ [])
  rise_there e g j one other =
      all_four (IsOf all) (neg_ℤ (before_literal y e g)) (neg_ℤ (counts_literal y threads failing g)) (neg_ℤ (level_literal start most e j))
      (level_literal start most g (suc j)) (opposite_of all (before_literal y e g) (before_there e g))
      (opposite_of all (counts_literal y threads failing g) (counts_there g))
      (opposite_of all (level_literal start most e j) (level_there e j one)) (level_there g (suc j) other)

  pub world_is_for : (v : Valuation) → IsWorldFor y (world_of y v)
  world_is_for v = values-say-worlds y v ready.events

  module _ (v : Valuation) (model : IsModel v f) where
    abbrev w : World
    w = world_of y v

    world_is : IsWorldFor y w
    world_is = world_is_for v

    pub before_says : (e g : ℕ) → e < n → g < n → e ≢ g → literal_true v (before_literal y e g) ≡ is_before w e g
    before_says e g one other apart = mean.before v (ready.before v model) e g (ready.asked e g one other apart)

    counts_by_says : (o : Option ℕ) → failing ≡ o → (g : ℕ) → g < n → literal_true v (counts_by y threads failing o g) ≡ nat_lt (position w g) (end_at o w)
    counts_by_says None none g there =
        model.one
        ∙ sym (lt-ltb (position w g) 256 (All-get_or (λ p. p < 256) w.positions g 0 (omega (arith, there, world_is.positions)) world_is.small))
    counts_by_says (Some last) some g there = by (g == last) refl
      where
        by : (b : Bool) → (g == last) ≡ b → literal_true v (cond b (constant true) (before_literal y g last)) ≡ nat_lt (position w g) (position w last + 1)
        by true same =
            let one = ap (position w) (eqb-true g last same) in
            model.one ∙ sym (lt-ltb (position w g) (position w last + 1) (omega (arith, one)))
        by false other =
            let apart : g ≢ last = λ same. true≢false (sym (eq-eqb g last same) ∙ other) in
            let there_too = ready.last last some in
            let places = differ_at w.positions g last world_is.world.distinct (omega (arith, there, world_is.positions))
            (omega (arith, there_too, world_is.positions)) apart in
            before_says g last there there_too apart ∙ grind (arith, nat_tests, places)

    pub counts_says : (g : ℕ) → g < n → literal_true v (counts_literal y threads failing g) ≡ nat_lt (position w g) (end_at failing w)
    counts_says g there = counts_by_says failing refl g there
