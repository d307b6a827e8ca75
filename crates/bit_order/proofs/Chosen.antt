-- Choices of one sleep exclude each other, and the one that is made gives the sleep's ender.
use Rattle.std.proofs.Common.{◌≡◌, ℕ, ◌+◌, ◌<◌, ◌≤◌, Bool, true, false, not, List, [], ◌∷◌, ℤ, pos, negsuc, neg_ℤ, ◌<ℤ◌, Option, Some, None, inl, inr, refl, ap, sym, ◌∙◌, arith, length, get_or, cond}
use Rattle.std.specs.Prelude.{◌&&◌, ◌||◌, ◌==◌, if◌then◌else◌, nat_eq, position}
use Rattle.std.specs.List.{Contains, list_any, position_or_len, flat_map, range_with_len, find}
use Rattle.std.specs.Option.{option_map, option_map_or, option_eq, MatchOption}
use Rattle.std.proofs.lemmas.Bool.{false≢true, false_from_ne_true, and_parts, and_from, eqb-true, eq-eqb, ne_eqb, cases_order, cases_lt, cond-true, cond-false, lt-ltb}
use Rattle.std.proofs.lemmas.Int.{ints}
use Rattle.std.proofs.lemmas.Option.{none-some, same_Some}
use Rattle.std.proofs.lemmas.List.{get_or_default}
use Rattle.std.proofs.lemmas.List.Elements.{All-get_or}
use Rattle.std.proofs.lemmas.List.Folds.{list_any_at}
use Rattle.std.proofs.lemmas.List.FromFn.{length-map-range_with_len, get_or-map-range_with_len}
use Rattle.std.proofs.lemmas.List.Quantifiers.{position-Some}
use Rattle.std.proofs.lemmas.Map.Keys.{apart_from_distinct}
use Rattle.std.proofs.Math.ListN.{get_or-eq_default}
use Rattle.cnf_core.specs.Clauses.{var_of, Valuation, literal_true, clause_true, satisfies}
use Rattle.cnf_core.proofs.GateLaws.{literal_true-neg}
use Rattle.bit_gates.specs.Folded.{constant}
use Rattle.bit_gates.proofs.Meaning.{constant_value}
use Rattle.order_formula.specs.Orders.{IsOrder, ChoiceIsOf, same_choice}
use Rattle.order_formula.specs.Worlds.{is_ended}
use Rattle.order_formula.specs.declared.order.Choice.{Choice}
use Rattle.bit_order.specs.Layouts.{Layout, choice_at, choice_literal, choice_start, exclusion, exclusions, ends_literal}
use Rattle.bit_order.specs.Readings.{is_made, ender_in, world_of}
use Rattle.bit_order.proofs.Compared.{first_there}
use Rattle.bit_order.proofs.Ranges.{list_all-flat_map, range_all, range_at, IsFound, searched, found_at, found_none}

-- no two choices of one sleep are made
abbrev pub AreApart : Valuation → ℕ → List Choice → Type 0
AreApart v start choices =
    (earlier later : ℕ) → earlier < later → later < length choices → (choice_at choices earlier).sleep ≡ (choice_at choices later).sleep
    → literal_true v (pos (start + earlier)) ≡ true → literal_true v (pos (start + later)) ≡ true → ⊥

-- a sleep that an event ends has it as its ender
pub ended_some : (o : Option ℕ) (by : ℕ) → option_eq nat_eq o (Some by) ≡ true → o ≡ Some by
ended_some None by h = absurd (false≢true h)
ended_some (Some x) by h = ap Some (eqb-true x by h)

both_not : (p q : Bool) → ((not p || (not q || false)) && true) ≡ not (p && q)
both_not true true = refl
both_not true false = refl
both_not false q = refl

unless_both : (p q : Bool) → (p ≡ true → q ≡ true → ⊥) → not (p && q) ≡ true
unless_both true true h = absurd (h refl refl)
unless_both true false h = refl
unless_both false q h = refl

module _ (v : Valuation) (start : ℕ) (choices : List Choice) (some : 0 < start) where
  abbrev made : ℕ → Bool
  made number = literal_true v (pos (start + number))

  exclusion_value : (earlier later : ℕ) (b : Bool)
      → satisfies v (if b then (neg_ℤ (pos (start + earlier)) ∷ neg_ℤ (pos (start + later)) ∷ []) ∷ [] else []) ≡ not (b && (made earlier && made later))
  exclusion_value earlier later true =
      ap (λ e. (e || (literal_true v (neg_ℤ (pos (start + later))) || false)) && true) (literal_true-neg v (pos (start + earlier)) (omega (arith, some)))
      ∙ ap (λ e. (not (made earlier) || (e || false)) && true) (literal_true-neg v (pos (start + later)) (omega (arith, some)))
      ∙ both_not (made earlier) (made later)
  exclusion_value earlier later false = refl

  abbrev of_later : ℕ → List (List ℤ)
  of_later later = flat_map (λ earlier. exclusion start choices earlier later) (range_with_len 0 later)

  pub apart_from : satisfies v (exclusions start choices) ≡ true → AreApart v start choices
  apart_from h earlier later less within same p q =
      let each = range_at (λ m. satisfies v (of_later m)) 0 (length choices) later
      (sym (list_all-flat_map (clause_true v) of_later (range_with_len 0 (length choices))) ∙ h) (omega arith) (omega (arith, within)) in
      let one = range_at (λ k. satisfies v (exclusion start choices k later)) 0 later earlier
      (sym (list_all-flat_map (clause_true v) (λ k. exclusion start choices k later) (range_with_len 0 later)) ∙ each) (omega arith) (omega (arith, less)) in
      let b : Bool = (choice_at choices earlier).sleep == (choice_at choices later).sleep in
      let is : b ≡ true = eq-eqb (choice_at choices earlier).sleep (choice_at choices later).sleep same in
      let no : not (b && (made earlier && made later)) ≡ true = sym (exclusion_value earlier later b) ∙ one in
      let yes : (b && (made earlier && made later)) ≡ true = and_from b (made earlier && made later) is (and_from (made earlier) (made later) p q) in
      absurd (false≢true (sym (ap not yes) ∙ no))

  pub apart_to : AreApart v start choices → satisfies v (exclusions start choices) ≡ true
  apart_to apart =
      list_all-flat_map (clause_true v) of_later (range_with_len 0 (length choices))
      ∙ range_all (λ m. satisfies v (of_later m)) 0 (length choices) (λ later _ within.
      list_all-flat_map (clause_true v) (λ k. exclusion start choices k later) (range_with_len 0 later)
      ∙ range_all (λ k. satisfies v (exclusion start choices k later)) 0 later (λ earlier _ less.
      let b : Bool = (choice_at choices earlier).sleep == (choice_at choices later).sleep in
      exclusion_value earlier later b ∙ unless_both b (made earlier && made later) (λ is both.
      let parts = and_parts (made earlier) (made later) both in
      apart earlier later (omega (arith, less)) (omega (arith, within))
      (eqb-true (choice_at choices earlier).sleep (choice_at choices later).sleep is) parts.0 parts.1)))

-- the ender of a sleep
module _ (y : Layout) (v : Valuation) where
  abbrev among : ℕ → Choice
  among number = choice_at y.order.choices number

  abbrev count : ℕ
  count = length y.order.choices

  abbrev Finds : ℕ → Option ℕ → Type 0
  Finds sleep o = MatchOption o ((k : ℕ) → 0 ≤ k → k < 0 + count → is_made y v sleep k ≡ false) (IsFound (is_made y v sleep) 0 count)

  -- the ender comes from a choice that is made
  pub record IsBy (sleep by number : ℕ) : Type 0 where
    pub within : number < count
    pub sleep_is : (among number).sleep ≡ sleep
    pub by_is : (among number).by ≡ by
    pub made : literal_true v (choice_literal y number) ≡ true

  pub ender_is : (sleep by : ℕ) → ender_in y v sleep ≡ Some by → (number : ℕ) × IsBy sleep by number
  ender_is sleep by is = from (find (is_made y v sleep) (range_with_len 0 count)) (searched (is_made y v sleep) 0 count) is
    where
      from : (o : Option ℕ) → Finds sleep o → option_map (λ number. (among number).by) o ≡ Some by → (number : ℕ) × IsBy sleep by number
      from None f e = absurd (none-some by e)
      from (Some k) f e =
          let parts = and_parts ((among k).sleep == sleep) (literal_true v (choice_literal y k)) f.passes in (
            k,
            record {
              within = omega (arith, f.high);
              sleep_is = eqb-true (among k).sleep sleep parts.0;
              by_is = same_Some (among k).by by e;
              made = parts.1;
            },
          )

  pub ender_chosen : (sleep by : ℕ) → ender_in y v sleep ≡ Some by → Contains y.order.choices (record { sleep = sleep; by = by })
  ender_chosen sleep by is =
      let h = ender_is sleep by is in
      let c : Choice = record { sleep = sleep; by = by } in
      let first : ℕ → Choice = λ s. record { sleep = s; by = (among h.0).by } in
      let second : ℕ → Choice = λ e. record { sleep = sleep; by = e } in
      (h.0, h.1.within, get_or_default y.order.choices h.0 c (record { sleep = 0; by = 0 }) h.1.within ∙ ap first h.1.sleep_is ∙ ap second h.1.by_is)

  -- if no two choices of a sleep are made, the one that is made gives the ender
  pub made_is_ender : AreApart v (choice_start y) y.order.choices → (number : ℕ) → number < count → literal_true v (choice_literal y number) ≡ true
      → ender_in y v (among number).sleep ≡ Some (among number).by
  made_is_ender apart number within made =
      from (find (is_made y v (among number).sleep) (range_with_len 0 count)) (searched (is_made y v (among number).sleep) 0 count)
    where
      passes : is_made y v (among number).sleep number ≡ true
      passes = and_from _ _ (eq-eqb (among number).sleep (among number).sleep refl) made

      from : (o : Option ℕ) → Finds (among number).sleep o → option_map (λ k. (among k).by) o ≡ Some (among number).by
      from None none = absurd (false≢true (sym (none number (omega arith) (omega (arith, within))) ∙ passes))
      from (Some k) f =
          let parts = and_parts ((among k).sleep == (among number).sleep) (literal_true v (choice_literal y k)) f.passes in
          let one_sleep : (among k).sleep ≡ (among number).sleep = eqb-true (among k).sleep (among number).sleep parts.0 in
          elim (cases_order k number) [
            | inl same ↦ ap (λ n. Some (among n).by) same
            | inr (inl less) ↦ absurd (apart k number less within one_sleep parts.1 made)
            | inr (inr more) ↦ absurd (apart number k more (omega (arith, f.high)) (sym one_sleep) made parts.1)
          ]

  -- the ender of each sleep of the world
  ender_there : (sleep : ℕ) → sleep < y.order.sleeps → get_or (world_of y v).enders sleep None ≡ ender_in y v sleep
  ender_there sleep within = get_or-map-range_with_len (ender_in y v) 0 y.order.sleeps sleep sleep None within (omega arith)

  pub ender_of_world : (sleep by : ℕ) → get_or (world_of y v).enders sleep None ≡ Some by → ender_in y v sleep ≡ Some by
  ender_of_world sleep by is = elim (cases_lt sleep y.order.sleeps) [
    | inl within ↦ sym (ender_there sleep within) ∙ is
    | inr past ↦ absurd (none-some by (sym (get_or-eq_default (world_of y v).enders None
        (omega (arith, past, length-map-range_with_len (ender_in y v) 0 y.order.sleeps))) ∙ is))
  ]

  module _ (lawful : IsOrder y.order) where
    -- no choice occurs twice
    pub once : (j k : ℕ) → j < count → k < count → (among j).sleep ≡ (among k).sleep → (among j).by ≡ (among k).by → j ≡ k
    once j k p q sleeps bys = elim (cases_order j k) [
      | inl same ↦ same
      | inr (inl less) ↦ absurd (false≢true (sym (differ j k less q) ∙ and_from _ _ (eq-eqb _ _ sleeps) (eq-eqb _ _ bys)))
      | inr (inr more) ↦ absurd (false≢true (sym (differ k j more p) ∙ and_from _ _ (eq-eqb _ _ (sym sleeps)) (eq-eqb _ _ (sym bys))))
    ]
      where
        differ : (i m : ℕ) → i < m → m < count → same_choice (among i) (among m) ≡ false
        differ i m less within = apart_from_distinct same_choice y.order.choices i m (record { sleep = 0; by = 0 }) lawful.choices less within

    pub made_is : AreApart v (choice_start y) y.order.choices → (number : ℕ) → number < count
        → literal_true v (choice_literal y number) ≡ option_eq nat_eq (ender_in y v (among number).sleep) (Some (among number).by)
    made_is apart number within = by (literal_true v (choice_literal y number)) refl
      where
        by : (b : Bool) → literal_true v (choice_literal y number) ≡ b → b ≡ option_eq nat_eq (ender_in y v (among number).sleep) (Some (among number).by)
        by true made = sym (ap (λ o. option_eq nat_eq o (Some (among number).by)) (made_is_ender apart number within made)
            ∙ eq-eqb (among number).by (among number).by refl)
        by false not_made = sym (false_from_ne_true (option_eq nat_eq (ender_in y v (among number).sleep) (Some (among number).by)) (λ ended.
            let h = ender_is (among number).sleep (among number).by (ended_some (ender_in y v (among number).sleep) (among number).by ended) in
            let one : h.0 ≡ number = once h.0 number h.1.within within h.1.sleep_is h.1.by_is in
            false≢true (sym not_made ∙ ap (λ k. literal_true v (choice_literal y k)) (sym one) ∙ h.1.made)))

    pub ends_is : v 1 ≡ true → AreApart v (choice_start y) y.order.choices → (sleep by : ℕ)
        → literal_true v (ends_literal y sleep by) ≡ is_ended (world_of y v) sleep by
    ends_is one apart sleep by = from (position (same_choice c) y.order.choices) refl
      where
        c : Choice
        c = record { sleep = sleep; by = by }

        d : Choice
        d = record { sleep = 0; by = 0 }

        from : (o : Option ℕ) → position (same_choice c) y.order.choices ≡ o
            → literal_true v (option_map_or (choice_literal y) o (constant false)) ≡ is_ended (world_of y v) sleep by
        from None is = constant_value v false one ∙ sym (false_from_ne_true (is_ended (world_of y v) sleep by) (λ ended.
            let h = ender_is sleep by (ender_of_world sleep by (ended_some (get_or (world_of y v).enders sleep None) by ended)) in
            let asked : list_any (same_choice c) y.order.choices ≡ true =
            list_any_at (same_choice c) y.order.choices h.0 d h.1.within (and_from _ _ (eq-eqb _ _ (sym h.1.sleep_is)) (eq-eqb _ _ (sym h.1.by_is))) in
            none-some (position_or_len (same_choice c) y.order.choices)
            (sym is ∙ ap (λ b. cond b (Some (position_or_len (same_choice c) y.order.choices)) None)
            (lt-ltb _ _ (first_there (same_choice c) y.order.choices asked)))))
        from (Some k) is =
            let found = position-Some (same_choice c) y.order.choices k d is in
            let parts = and_parts (sleep == (among k).sleep) (by == (among k).by) found.1 in
            let sleeps : sleep ≡ (among k).sleep = eqb-true sleep (among k).sleep parts.0 in
            let bys : by ≡ (among k).by = eqb-true by (among k).by parts.1 in
            let there : ChoiceIsOf y.order.sleeps y.order.events (among k) =
            All-get_or (ChoiceIsOf y.order.sleeps y.order.events) y.order.choices k d found.0 lawful.choices_within in
            made_is apart k found.0
            ∙ ap (λ o. option_eq nat_eq o (Some (among k).by)) (sym (ender_there (among k).sleep there.sleep))
            ∙ ap (λ s. is_ended (world_of y v) s (among k).by) (sym sleeps)
            ∙ ap (is_ended (world_of y v) sleep) (sym bys)

-- a clause of exclusion, and none
negated : (l : ℤ) (n : ℕ) → var_of l ≡ n → l <ℤ pos 0 → l ≡ neg_ℤ (pos n)
negated (pos k) n is less = absurd (omega (arith, ints, less))
negated (negsuc k) n is less = ap (λ m. neg_ℤ (pos m)) is

pub exclusion_made : (start : ℕ) (choices : List Choice) (earlier later : ℕ) (first second : ℤ)
    → (choice_at choices earlier).sleep ≡ (choice_at choices later).sleep → var_of first ≡ start + earlier → first <ℤ pos 0
    → var_of second ≡ start + later → second <ℤ pos 0 → (first ∷ second ∷ []) ∷ [] ≡ exclusion start choices earlier later
exclusion_made start choices earlier later first second same p q r s =
    ap (λ l. (l ∷ second ∷ []) ∷ []) (negated first (start + earlier) p q)
    ∙ ap (λ l. (neg_ℤ (pos (start + earlier)) ∷ l ∷ []) ∷ []) (negated second (start + later) r s)
    ∙ sym (cond-true _ ((neg_ℤ (pos (start + earlier)) ∷ neg_ℤ (pos (start + later)) ∷ []) ∷ []) []
    (eq-eqb (choice_at choices earlier).sleep (choice_at choices later).sleep same))

pub exclusion_none : (start : ℕ) (choices : List Choice) (earlier later : ℕ) → ((choice_at choices earlier).sleep ≡ (choice_at choices later).sleep → ⊥)
    → [] ≡ exclusion start choices earlier later
exclusion_none start choices earlier later apart =
    sym (cond-false _ ((neg_ℤ (pos (start + earlier)) ∷ neg_ℤ (pos (start + later)) ∷ []) ∷ []) []
    (ne_eqb (choice_at choices earlier).sleep (choice_at choices later).sleep apart))

-- the result of a search along the choices
module _ (y : Layout) (v : Valuation) (sleep number : ℕ) (choices : List Choice) (same : choices ≡ y.order.choices)
    (before : (k : ℕ) → k < number → is_made y v sleep k ≡ false)
  where
    pub ender_first : number < length choices → (choice_at choices number).sleep ≡ sleep → literal_true v (choice_literal y number) ≡ true
        → Some (choice_at choices number).by ≡ ender_in y v sleep
    ender_first within of made =
        let of_sleep : (choice_at y.order.choices number).sleep ≡ sleep = ap (λ cs. (choice_at cs number).sleep) (sym same) ∙ of in
        let passes : is_made y v sleep number ≡ true = and_from _ _ (eq-eqb (choice_at y.order.choices number).sleep sleep of_sleep) made in
        let found = found_at (is_made y v sleep) 0 (length y.order.choices) number (omega arith) (omega (arith, within, ap length same))
        (λ k _ less. before k less) passes in
        ap (λ cs. Some (choice_at cs number).by) same ∙ sym (ap (option_map (λ k. (choice_at y.order.choices k).by)) found)

    pub ender_none : length choices ≤ number → None ≡ ender_in y v sleep
    ender_none past =
        sym (ap (option_map (λ k. (choice_at y.order.choices k).by)) (found_none (is_made y v sleep) 0 (length y.order.choices)
        (λ k _ less. before k (omega (arith, less, past, ap length same)))))
