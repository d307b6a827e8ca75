-- Values that satisfy a formula with levels give a world with at most that many switches, and the
-- other way round.
use Rattle.std.proofs.Common.{◌≡◌, ◌≢◌, ◌∙◌, ℕ, zero, suc, ◌+◌, ◌-◌, ◌*◌, ◌/◌, ◌%◌, ◌<◌, ◌≤◌, ◌==◌, nat_le, nat_lt, Bool, true, false, not, ◌||◌, cond, List, [], ◌∷◌, ℤ, pos, neg_ℤ, length, get_or, Option, refl, sym, ap, ap₂, arith}
use Rattle.std.specs.List.{flat_map, list_all, range_with_len}
use Rattle.std.proofs.lemmas.Bool.{and_from, and_parts, eq-eqb, eqb-true, false≢true, le-leb, lt-leb, lt-ltb, ltb-true, true≢false}
use Rattle.std.proofs.lemmas.List.Folds.{list_all-append}
use Rattle.std.proofs.lemmas.Nat.{div-mul-add, mod-mul-add}
use Rattle.cnf_core.specs.Clauses.{Formula, Valuation, clause_true, literal_true, satisfies}
use Rattle.cnf_core.specs.Gates.{Agree, IsOver}
use Rattle.cnf_core.proofs.GateLaws.{literal_true-agree, literal_true-neg, satisfies-agree}
use Rattle.bit_gates.specs.Folded.{constant}
use Rattle.bit_gates.specs.Laws.{IsModel, IsOf}
use Rattle.bit_order.specs.Comparators.{before_literal}
use Rattle.bit_order.specs.Layouts.{Layout}
use Rattle.bit_order.specs.Readings.{world_of}
use Rattle.bit_order.proofs.ClauseLaws.{clauses-mean}
use Rattle.bit_order.proofs.Ranges.{list_all-flat_map, range_all, range_at}
use Rattle.order_switches.specs.order_formula.Worlds.{World, is_before, position}
use Rattle.order_switches.specs.Levels.{AreLevels, Counts}
use Rattle.order_switches.specs.Switches.{end_at, switches}
use Rattle.order_switches.proofs.Levels as levels
use Rattle.switch_order.specs.Laws.{IsReady, LevelsMean}
use Rattle.switch_order.specs.Levels.{counts_literal, level_clauses, level_literal, with_levels, rise, rises, rises_from}
use Rattle.switch_order.proofs.Greatest.{greatest, greatest_least, greatest_most, greatest_passes, then_true, true_then}
use Rattle.switch_order.proofs.Literals as literals

module _ (y : Layout) (threads : List ℕ) (failing : Option ℕ) (most : ℕ) (f : Formula) (ready : IsReady y threads failing f) where
  abbrev n : ℕ
  n = y.order.events

  abbrev start : ℕ
  start = suc f.vars

  abbrev g : Formula
  g = with_levels y threads failing most f

  abbrev before_l : (first second : ℕ) → ℤ
  before_l = before_literal y

  abbrev counts_l : ℕ → ℤ
  counts_l = counts_literal y threads failing

  abbrev level_l : (event least : ℕ) → ℤ
  level_l = level_literal start most

  abbrev thread : ℕ → ℕ
  thread e = get_or threads e 0

  -- the clause of a rise, by its literals
  rise_value : (v : Valuation) → v 1 ≡ true → (e d j : ℕ) → e < n → d < n
      → satisfies v (rise y threads failing start most e d j)
      ≡ (not (literal_true v (before_l e d)) || (not (literal_true v (counts_l d)) || (not (literal_true v (level_l e j)) || (literal_true v (level_l d (suc j)) || false))))
  rise_value v one e d j there there_too =
      clauses-mean v (literals.all y threads failing most f ready)
      (neg_ℤ (before_l e d) ∷ neg_ℤ (counts_l d) ∷ neg_ℤ (level_l e j) ∷ level_l d (suc j) ∷ []) one
      (literals.rise_there y threads failing most f ready e d j there there_too)
      ∙ ap₂ (λ a b. a || b) (literal_true-neg v (before_l e d) (literals.before_there y threads failing most f ready e d).0)
      (ap₂ (λ a b. a || b) (literal_true-neg v (counts_l d) (literals.counts_there y threads failing most f ready d).0)
      (ap (λ a. a || (literal_true v (level_l d (suc j)) || false))
      (literal_true-neg v (level_l e j) (literals.level_there y threads failing most f ready e j there).0)))

  -- all clauses of levels are true exactly if each of them is
  rise_of : (v : Valuation) → satisfies v (level_clauses y threads failing start most) ≡ true → (e d j : ℕ) → e < n → d < n → thread e ≢ thread d → j ≤ most
      → satisfies v (rise y threads failing start most e d j) ≡ true
  rise_of v all e d j there there_too apart low =
      let test = clause_true v in
      let own = range_at (λ k. list_all test (rises_from y threads failing start most k)) 0 n e
      (sym (list_all-flat_map test (rises_from y threads failing start most) (range_with_len 0 n)) ∙ all) (omega arith) (omega (arith, there)) in
      let two = range_at (λ k. list_all test (rises y threads failing start most e k)) 0 n d
      (sym (list_all-flat_map test (rises y threads failing start most e) (range_with_len 0 n)) ∙ own) (omega arith) (omega (arith, there_too)) in
      range_at (λ k. list_all test (rise y threads failing start most e d k)) 0 (most + 1) j
      (sym (list_all-flat_map test (rise y threads failing start most e d) (range_with_len 0 (most + 1))) ∙ different (thread e == thread d) refl two)
      (omega arith) (omega (arith, low))
    where
      different : (b : Bool) → (thread e == thread d) ≡ b
          → list_all (clause_true v) (cond b [] (flat_map (rise y threads failing start most e d) (range_with_len 0 (most + 1)))) ≡ true
          → list_all (clause_true v) (flat_map (rise y threads failing start most e d) (range_with_len 0 (most + 1))) ≡ true
      different true same true_there = absurd (apart (eqb-true (thread e) (thread d) same))
      different false other true_there = true_there

  of_rises : (v : Valuation)
      → ((e d j : ℕ) → e < n → d < n → thread e ≢ thread d → j ≤ most → satisfies v (rise y threads failing start most e d j) ≡ true)
      → satisfies v (level_clauses y threads failing start most) ≡ true
  of_rises v each =
      list_all-flat_map test (rises_from y threads failing start most) (range_with_len 0 n)
      ∙ range_all (λ k. list_all test (rises_from y threads failing start most k)) 0 n (λ e low high.
      list_all-flat_map test (rises y threads failing start most e) (range_with_len 0 n)
      ∙ range_all (λ k. list_all test (rises y threads failing start most e k)) 0 n (λ d low_too high_too.
      by e d (omega (arith, high)) (omega (arith, high_too)) (thread e == thread d) refl))
    where
      test : List ℤ → Bool
      test = clause_true v

      by : (e d : ℕ) → e < n → d < n → (b : Bool) → (thread e == thread d) ≡ b
          → list_all test (cond b [] (flat_map (rise y threads failing start most e d) (range_with_len 0 (most + 1)))) ≡ true
      by e d there there_too true same = refl
      by e d there there_too false other =
          list_all-flat_map test (rise y threads failing start most e d) (range_with_len 0 (most + 1))
          ∙ range_all (λ k. list_all test (rise y threads failing start most e d k)) 0 (most + 1) (λ j low high.
          each e d j there there_too (λ same. true≢false (sym (eq-eqb (thread e) (thread d) same) ∙ other)) (omega (arith, high)))

  parts : (v : Valuation) → IsModel v g → (satisfies v f.clauses ≡ true) × (satisfies v (level_clauses y threads failing start most) ≡ true)
  parts v m =
      and_parts (satisfies v f.clauses) (satisfies v (level_clauses y threads failing start most))
      (sym (list_all-append (clause_true v) f.clauses (level_clauses y threads failing start most)) ∙ m.all)

  was : (v : Valuation) → IsModel v g → IsModel v f
  was v m = record { one = m.one; all = (parts v m).0 }

  long : (v : Valuation) → length threads ≡ length (world_of y v).positions
  long v = ready.every ∙ sym (literals.world_is_for y threads failing most f ready v).positions

  -- the greatest true levels are levels of the world
  few : (v : Valuation) → IsModel v g → switches threads failing (world_of y v) ≤ most
  few v m = levels.few threads failing w most (literals.world_is_for y threads failing most f ready v).world (long v) level (record {
    rise = rise_so;
    most = λ d there counts. greatest_most (is_at_least d) most;
  })
    where
      w : World
      w = world_of y v

      is_at_least : ℕ → ℕ → Bool
      is_at_least e j = literal_true v (level_l e j)

      level : ℕ → ℕ
      level e = greatest (is_at_least e) most

      rise_so : (e d : ℕ) → e < length threads → d < length threads → thread e ≢ thread d → is_before w e d ≡ true → Counts failing w d → level e < level d
      rise_so e d there there_too apart before counts = next (nat_lt (level e) most) refl more
        where
          within : (k : ℕ) → k < length threads → k < n
          within k less = omega (arith, less, ready.every)

          more : is_at_least d (suc (level e)) ≡ true
          more =
              then_true (literal_true v (before_l e d)) (literal_true v (counts_l d)) (is_at_least e (level e)) (is_at_least d (suc (level e)))
              (sym (rise_value v m.one e d (level e) (within e there) (within d there_too))
              ∙ rise_of v (parts v m).1 e d (level e) (within e there) (within d there_too) apart (greatest_most (is_at_least e) most))
              (literals.before_says y threads failing most f ready v (was v m) e d (within e there) (within d there_too) (λ same. apart (ap thread same)) ∙ before)
              (literals.counts_says y threads failing most f ready v (was v m) d (within d there_too)
              ∙ lt-ltb (position w d) (end_at failing w) counts)
              (greatest_passes (is_at_least e) most m.one)

          next : (b : Bool) → nat_lt (level e) most ≡ b → literal_true v (cond b (pos (start + (d * most + level e))) (constant false)) ≡ true → level e < level d
          next true low here =
              let least = greatest_least (is_at_least d) most (suc (level e)) (let less = ltb-true (level e) most low in omega (arith, less)) more in
              omega (arith, least)
          next false high here = absurd (false≢true (ap not (sym m.one) ∙ here))

  -- values of the variables of levels
  valued : Valuation → (ℕ → ℕ) → Valuation
  valued v level k = cond (nat_le k f.vars) (v k) (nat_lt ((k - start) % most) (level ((k - start) / most)))

  module _ (v : Valuation) (over : IsOver f) (m : IsModel v f) (level : ℕ → ℕ) (are : AreLevels threads failing (world_of y v) most level) where
    abbrev w : World
    w = world_of y v

    u : Valuation
    u = valued v level

    agree : Agree f.vars v u
    unfolding u valued
    agree k low = ap (λ b. cond b (v k) (nat_lt ((k - start) % most) (level ((k - start) / most)))) (sym (le-leb k f.vars low))

    one_is : u 1 ≡ true
    one_is = sym (agree 1 (literals.one_there y threads failing most f ready)) ∙ m.one

    -- a level's variable has its value
    level_value : (e j : ℕ) → j < most → u (start + (e * most + j)) ≡ nat_lt j (level e)
    unfolding u valued
    level_value e j low =
        let k = start + (e * most + j) in
        let i : k - start ≡ e * most + j = omega arith in
        ap (λ b. cond b (v k) (nat_lt ((k - start) % most) (level ((k - start) / most)))) (lt-leb k f.vars (omega arith))
        ∙ ap₂ (λ a b. nat_lt a (level b)) (ap (λ a. a % most) i ∙ mod-mul-add e most j low) (ap (λ a. a / most) i ∙ div-mul-add e most j low)

    low_enough : (e j : ℕ) → j ≤ level e → level e ≤ most → literal_true u (level_l e j) ≡ true
    low_enough e zero low top = one_is
    low_enough e (suc j) low top = by (nat_lt j most) refl
      where
        by : (b : Bool) → nat_lt j most ≡ b → literal_true u (cond b (pos (start + (e * most + j))) (constant false)) ≡ true
        by true under =
            literals.positive_true u (start + (e * most + j)) (omega arith) ∙ level_value e j (ltb-true j most under) ∙ lt-ltb j (level e) (omega (arith, low))
        by false past = absurd (false≢true (sym past ∙ lt-ltb j most (omega (arith, low, top))))

    high_enough : (e j : ℕ) → literal_true u (level_l e j) ≡ true → j ≤ level e
    high_enough e zero is = omega arith
    high_enough e (suc j) is = by (nat_lt j most) refl is
      where
        by : (b : Bool) → nat_lt j most ≡ b → literal_true u (cond b (pos (start + (e * most + j))) (constant false)) ≡ true → suc j ≤ level e
        by true under here =
            let less = ltb-true j (level e)
            (sym (literals.positive_true u (start + (e * most + j)) (omega arith) ∙ level_value e j (ltb-true j most under)) ∙ here) in
            omega (arith, less)
        by false past here = absurd (false≢true (ap not (sym one_is) ∙ here))

    same_literal : (l : ℤ) → IsOf f.vars l → literal_true u l ≡ literal_true v l
    same_literal l of = sym (literal_true-agree f.vars v u l agree of.1)

    each_rise : (e d j : ℕ) → e < n → d < n → thread e ≢ thread d → j ≤ most → satisfies u (rise y threads failing start most e d j) ≡ true
    each_rise e d j there there_too apart low =
        rise_value u one_is e d j there there_too
        ∙ true_then (literal_true u (before_l e d)) (literal_true u (counts_l d)) (literal_true u (level_l e j)) (literal_true u (level_l d (suc j)))
        (λ before counts least.
        let is = sym (literals.before_says y threads failing most f ready v m e d there there_too (λ same. apart (ap thread same)))
        ∙ sym (same_literal (before_l e d) (literals.before_of y threads failing most f ready e d)) ∙ before in
        let counted = ltb-true (position w d) (end_at failing w)
        (sym (literals.counts_says y threads failing most f ready v m d there_too)
        ∙ sym (same_literal (counts_l d) (literals.counts_of y threads failing most f ready d)) ∙ counts) in
        let there_e : e < length threads = omega (arith, there, ready.every) in
        let there_d : d < length threads = omega (arith, there_too, ready.every) in
        let more = are.rise e d there_e there_d apart is counted in
        let so_much = high_enough e j least in
        low_enough d (suc j) (omega (arith, more, so_much)) (are.most d there_d counted))

    model : IsModel u g
    model = record {
      one = one_is;
      all = list_all-append (clause_true u) f.clauses (level_clauses y threads failing start most)
          ∙ and_from (satisfies u f.clauses) (satisfies u (level_clauses y threads failing start most))
          (sym (satisfies-agree f.vars v u f.clauses agree over) ∙ m.all) (of_rises u each_rise);
    }

    pub extended : (w : Valuation) × IsModel w g × Agree f.vars v w
    extended = (u, model, agree)

  pub levels_mean : LevelsMean y threads failing most f
  levels_mean = record {
    before = was;
    few = few;
    extends = λ v over m few_so.
        let l = levels.levels threads failing (world_of y v) most (literals.world_is_for y threads failing most f ready v).world (long v) few_so in
        extended v over m l.0 l.1;
  }
