-- Values of the variables for a given world.
use Rattle.std.proofs.Common.{◌≡◌, ℕ, ◌+◌, ◌-◌, ◌*◌, ◌/◌, ◌<◌, Bool, true, false, cond, pos, Option, Some, None, inl, inr, refl, ap, sym, ◌∙◌, subst, arith, length, map, get_or}
use Rattle.std.specs.Prelude.{◌==◌, ◌%◌, nat_lt, nat_eq}
use Rattle.std.specs.Int.{w32, bit_at, cast_signed, cast_unsigned}
use Rattle.std.specs.List.{range_with_len}
use Rattle.std.specs.Option.{option_eq}
use Rattle.std.proofs.lemmas.Bool.{cond-true, cond-false, and_from, eq-eqb, lt-ltb, le-ltb, cases_lt}
use Rattle.std.proofs.lemmas.Int.{to_z-of_z}
use Rattle.std.proofs.lemmas.List.{get_or_default}
use Rattle.std.proofs.lemmas.List.Elements.{All-get_or}
use Rattle.std.proofs.lemmas.List.FromFn.{fill_by_all}
use Rattle.std.proofs.lemmas.Nat.Bits.{bit_at-lt}
use Rattle.std.proofs.lemmas.Option.{none-some, same_Some}
use Rattle.bit_arith.specs.int_ops.Arith.{IsInt}
use Rattle.bit_arith.proofs.int_ops.Bits.{unsigned-below}
use Rattle.cnf_core.specs.Clauses.{Valuation, literal_true, satisfies}
use Rattle.bit_gates.specs.Laws.{IsModel}
use Rattle.bit_words.specs.Laws.{digit, value}
use Rattle.bit_arith.specs.Laws.{int_value}
use Rattle.bit_ranks.specs.Ranks.{ranks_of}
use Rattle.bit_ranks.proofs.RankLaws.{ranks-order, different-order}
use Rattle.order_formula.specs.Orders.{IsOrder}
use Rattle.order_formula.specs.Worlds.{World, position, is_before, is_ended}
use Rattle.order_formula.specs.declared.order.Choice.{Choice}
use Rattle.bit_order.specs.Layouts.{Layout, position_start, load_start, position_word, load_word, choice_start, choice_at, choice_literal, base, exclusions}
use Rattle.bit_order.specs.Readings.{bits_in, ender_in, world_of}
use Rattle.bit_order.specs.Laws.{IsWorldFor, SaysSame}
use Rattle.bit_order.proofs.Chosen.{AreApart, apart_to, ended_some, ender_is, made_is_ender, once}
use Rattle.bit_order.proofs.WordLaws.{value_of_bits, variable_value}

-- a bit of a number
abbrev bit : ℕ → ℕ → Bool
bit number place = bit_at number place == 1

digit_bit : (number place : ℕ) → digit (bit number place) ≡ bit_at number place
digit_bit number place = by (bit_at number place) (bit_at-lt number place)
  where
    by : (b : ℕ) → b < 2 → digit (b == 1) ≡ b
    by b small = elim (cases_lt b 1) [
      | inl none ↦ let e : b ≡ 0 = omega (arith, none) in subst (λ k. digit (k == 1) ≡ k) (sym e) refl
      | inr some ↦ let e : b ≡ 1 = omega (arith, small, some) in subst (λ k. digit (k == 1) ≡ k) (sym e) refl
    ]

module _ (y : Layout) (w : World) where
  -- the bits of positions and loads, the highest first, and whether the event of a choice ends its
  -- sleep
  abbrev position_bit : (event place : ℕ) → Bool
  position_bit event place = bit (position w event) (7 - place)

  abbrev load_number : ℕ → ℕ
  load_number load = cast_unsigned w32 (get_or w.loads load (pos 0))

  abbrev load_bit : (load place : ℕ) → Bool
  load_bit load place = bit (load_number load) (31 - place)

  abbrev choice_bit : ℕ → Bool
  choice_bit number = is_ended w (choice_at y.order.choices number).sleep (choice_at y.order.choices number).by

  abbrev after_positions : ℕ → Bool
  after_positions k = cond (nat_lt k (32 * y.loads)) (load_bit (k / 32) (k % 32)) (choice_bit (k - 32 * y.loads))

  abbrev after_one : ℕ → Bool
  after_one k = cond (nat_lt k (8 * y.order.events)) (position_bit (k / 8) (k % 8)) (after_positions (k - 8 * y.order.events))

  abbrev pub saying : Valuation
  saying n = cond (nat_lt n 2) true (after_one (n - 2))

  past_one : (n k : ℕ) → n ≡ 2 + k → saying n ≡ after_one k
  past_one n k e =
      let small : nat_lt n 2 ≡ false = le-ltb n 2 (omega (arith, e)) in
      let rest : n - 2 ≡ k = omega (arith, e) in
      cond-false (nat_lt n 2) true (after_one (n - 2)) small ∙ ap after_one rest

  says_position : (event place : ℕ) → event < y.order.events → place < 8 → saying (position_start event + place) ≡ position_bit event place
  says_position event place there narrow =
      let k : ℕ = 8 * event + place in
      let within : nat_lt k (8 * y.order.events) ≡ true = lt-ltb k (8 * y.order.events) (omega (arith, there, narrow)) in
      let e : k / 8 ≡ event = omega (arith, narrow) in
      let p : k % 8 ≡ place = omega (arith, narrow) in
      past_one (position_start event + place) k (omega arith) ∙ cond-true _ (position_bit (k / 8) (k % 8)) (after_positions (k - 8 * y.order.events)) within
      ∙ ap (λ m. position_bit m (k % 8)) e ∙ ap (position_bit event) p

  past_positions : (n k : ℕ) → n ≡ 2 + 8 * y.order.events + k → saying n ≡ after_positions k
  past_positions n k e =
      let m : ℕ = 8 * y.order.events + k in
      let past : nat_lt m (8 * y.order.events) ≡ false = le-ltb m (8 * y.order.events) (omega arith) in
      let rest : m - 8 * y.order.events ≡ k = omega arith in
      past_one n m (omega (arith, e)) ∙ cond-false _ (position_bit (m / 8) (m % 8)) (after_positions (m - 8 * y.order.events)) past ∙ ap after_positions rest

  says_load : (load place : ℕ) → load < y.loads → place < 32 → saying (load_start y load + place) ≡ load_bit load place
  says_load load place there narrow =
      let k : ℕ = 32 * load + place in
      let within : nat_lt k (32 * y.loads) ≡ true = lt-ltb k (32 * y.loads) (omega (arith, there, narrow)) in
      let e : k / 32 ≡ load = omega (arith, narrow) in
      let p : k % 32 ≡ place = omega (arith, narrow) in
      past_positions (load_start y load + place) k (omega arith) ∙ cond-true _ (load_bit (k / 32) (k % 32)) (choice_bit (k - 32 * y.loads)) within
      ∙ ap (λ m. load_bit m (k % 32)) e ∙ ap (load_bit load) p

  says_choice : (number : ℕ) → literal_true saying (choice_literal y number) ≡ choice_bit number
  says_choice number =
      let k : ℕ = 32 * y.loads + number in
      let past : nat_lt k (32 * y.loads) ≡ false = le-ltb k (32 * y.loads) (omega arith) in
      let rest : k - 32 * y.loads ≡ number = omega arith in
      variable_value saying (choice_start y + number) (omega arith)
      ∙ past_positions (choice_start y + number) k (omega arith) ∙ cond-false _ (load_bit (k / 32) (k % 32)) (choice_bit (k - 32 * y.loads)) past
      ∙ ap choice_bit rest

  module _ (lawful : IsOrder y.order) (h : IsWorldFor y w) where
    -- the words have the positions and the loads of the world
    says_event : (event : ℕ) → event < y.order.events → value saying (position_word event) ≡ position w event
    says_event event there =
        value_of_bits saying (position_start event) 8 (position w event) (omega arith)
        (All-get_or (λ p. p < 256) w.positions event 0 (omega (arith, there, h.positions)) h.small)
        (λ place narrow. ap digit (says_position event place there narrow) ∙ digit_bit (position w event) (7 - place))

    says_value : (load : ℕ) → load < y.loads → int_value saying (load_word y load) ≡ get_or w.loads load (pos 0)
    says_value load there =
        let fits : IsInt (get_or w.loads load (pos 0)) = All-get_or IsInt w.loads load (pos 0) (omega (arith, there, h.loads)) h.ints in
        ap (cast_signed w32) (value_of_bits saying (load_start y load) 32 (load_number load) (omega arith) (unsigned-below (get_or w.loads load (pos 0)) fits)
        (λ place narrow. ap digit (says_load load place there narrow) ∙ digit_bit (load_number load) (31 - place)))
        ∙ to_z-of_z w32 (get_or w.loads load (pos 0)) fits

    -- only one choice of a sleep is made
    says_apart : AreApart saying (choice_start y) y.order.choices
    says_apart earlier later less within same p q =
        let first : Choice = choice_at y.order.choices earlier in
        let second : Choice = choice_at y.order.choices later in
        let one : get_or w.enders first.sleep None ≡ Some first.by = ended_some _ first.by (sym (says_choice earlier) ∙ p) in
        let two : get_or w.enders second.sleep None ≡ Some second.by = ended_some _ second.by (sym (says_choice later) ∙ q) in
        let bys : first.by ≡ second.by = same_Some first.by second.by (sym one ∙ ap (λ s. get_or w.enders s None) same ∙ two) in
        let e : earlier ≡ later = once y saying lawful earlier later (omega (arith, less, within)) within same bys in
        omega (arith, e, less)

    pub says_model : IsModel saying (base y)
    says_model = record {
      one = refl;
      all = and_from true (satisfies saying (exclusions (choice_start y) y.order.choices)) refl
          (apart_to saying (choice_start y) y.order.choices (omega arith) says_apart);
    }

    same_bits : w.positions ≡ bits_in y saying
    same_bits = fill_by_all (λ event. value saying (position_word event)) w.positions y.order.events 0 h.positions (λ event there. sym (says_event event there))

    same_loads : w.loads ≡ map (λ load. int_value saying (load_word y load)) (range_with_len 0 y.loads)
    same_loads = fill_by_all (λ load. int_value saying (load_word y load)) w.loads y.loads (pos 0) h.loads (λ load there. sym (says_value load there))

    same_ender : (sleep : ℕ) → get_or w.enders sleep None ≡ ender_in y saying sleep
    same_ender sleep = by (get_or w.enders sleep None) refl
      where
        none : (o : Option ℕ) → ender_in y saying sleep ≡ o → get_or w.enders sleep None ≡ None → None ≡ o
        none None e is = refl
        none (Some ender) e is =
            let g = ender_is y saying sleep ender e in
            let c : Choice = choice_at y.order.choices g.0 in
            let ended : get_or w.enders c.sleep None ≡ Some c.by = ended_some _ c.by (sym (says_choice g.0) ∙ g.1.made) in
            absurd (none-some c.by (sym is ∙ ap (λ s. get_or w.enders s None) (sym g.1.sleep_is) ∙ ended))

        by : (o : Option ℕ) → get_or w.enders sleep None ≡ o → o ≡ ender_in y saying sleep
        by None is = none (ender_in y saying sleep) refl is
        by (Some ender) is =
            let there = h.chosen sleep ender is in
            let c : Choice = record { sleep = sleep; by = ender } in
            let same : choice_at y.order.choices there.0 ≡ c = get_or_default y.order.choices there.0 (record { sleep = 0; by = 0 }) c there.1 ∙ there.2 in
            let made : literal_true saying (choice_literal y there.0) ≡ true =
            says_choice there.0 ∙ ap (λ (d : Choice). is_ended w d.sleep d.by) same
            ∙ ap (λ o. option_eq nat_eq o (Some ender)) is ∙ eq-eqb ender ender refl in
            let of : ender_in y saying (choice_at y.order.choices there.0).sleep ≡ Some (choice_at y.order.choices there.0).by =
            made_is_ender y saying says_apart there.0 there.1 made in
            sym (ap (λ (d : Choice). ender_in y saying d.sleep) (sym same) ∙ of ∙ ap (λ (d : Choice). Some d.by) same)

    same_enders : w.enders ≡ map (ender_in y saying) (range_with_len 0 y.order.sleeps)
    same_enders = fill_by_all (ender_in y saying) w.enders y.order.sleeps None h.enders (λ sleep _. same_ender sleep)

    pub says_same : SaysSame y w (world_of y saying)
    says_same = record {
      before = λ first second p q.
          let n : y.order.events ≡ length w.positions = sym h.positions in
          let ranks : nat_lt (get_or (ranks_of w.positions) first 0) (get_or (ranks_of w.positions) second 0) ≡ is_before w first second =
          ranks-order w.positions first second (omega (arith, p, n)) (omega (arith, q, n))
          ∙ different-order w.positions first second h.world.distinct (omega (arith, p, n)) (omega (arith, q, n)) in
          sym ranks ∙ ap (λ bits. nat_lt (get_or (ranks_of bits) first 0) (get_or (ranks_of bits) second 0)) same_bits;
      loads = same_loads;
      enders = same_enders;
    }
