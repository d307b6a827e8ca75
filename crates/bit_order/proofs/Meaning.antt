-- Values of the variables and worlds determine each other.
use Rattle.std.proofs.Common.{◌≡◌, ℕ, ◌+◌, ◌<◌, ◌≤◌, Bool, true, false, List, [], ◌∷◌, ℤ, pos, neg_ℤ, Option, Some, None, refl, ap, sym, ◌∙◌, subst, arith, length, map, min, max, get_or}
use Rattle.std.specs.Prelude.{◌&&◌, ◌||◌, ◌==◌, if◌then◌else◌, nat_lt, position}
use Rattle.std.specs.Int.{w32, cast_signed}
use Rattle.std.specs.List.{list_all, list_any, position_or_len, flat_map, range_with_len}
use Rattle.std.specs.Option.{option_map, option_map_or}
use mir.ValLaws.{to_z-Fits}
use Rattle.std.proofs.lemmas.Bool.{and_parts, and_from, eqb-true, le-leb}
use Rattle.std.proofs.lemmas.List.Elements.{All-cons, All-nil, All-get_or, All-from_get_or, All-weaker}
use Rattle.std.proofs.lemmas.List.FromFn.{fill_by_all, length-map-range_with_len, get_or-map-range_with_len}
use Rattle.std.proofs.lemmas.List.Quantifiers.{position-Some}
use Rattle.std.proofs.lemmas.List.Sums.{passes_at_first}
use Rattle.bit_arith.specs.int_ops.Arith.{IsInt}
use Rattle.cnf_core.specs.Clauses.{var_of, Valuation, literal_true, satisfies, is_within}
use Rattle.cnf_core.specs.Gates.{Agree, IsOver}
use Rattle.bit_gates.specs.Folded.{constant}
use Rattle.bit_gates.specs.Laws.{IsModel, IsOf}
use Rattle.bit_gates.proofs.Blocks.{var_of-opposite}
use Rattle.bit_gates.proofs.Meaning.{constant_of}
use Rattle.bit_words.specs.Laws.{value}
use Rattle.bit_arith.specs.Laws.{int_value}
use Rattle.bit_ranks.specs.Ranks.{ranks_of}
use Rattle.bit_ranks.proofs.RankLaws.{ranks-below, ranks-differ, ranks-order, length-ranks}
use Rattle.order_formula.specs.Orders.{IsOrder, PairIsOf, pair_of, same_pair, same_choice}
use Rattle.order_formula.specs.Worlds.{World, is_before}
use Rattle.order_formula.specs.declared.order.Choice.{Choice}
use Rattle.order_formula.specs.declared.order.Pair.{Pair}
use Rattle.bit_order.specs.Layouts.{Layout, position_start, load_start, position_word, load_word, choice_start, choice_at, choice_literal, exclusion, exclusions, base, ends_literal}
use Rattle.bit_order.specs.Comparators.{ordered}
use Rattle.bit_order.specs.Readings.{bits_in, is_made, ender_in, world_of}
use Rattle.bit_order.specs.Laws.{IsWorldFor, SaysSame, LiteralsMean}
use Rattle.bit_order.proofs.Chosen.{apart_from, ender_chosen, ender_of_world, ends_is}
use Rattle.bit_order.proofs.ClauseLaws.{within_from}
use Rattle.bit_order.proofs.Compared.{comes_first, base_some, first_there, before_is_there, before_is}
use Rattle.bit_order.proofs.Ranges.{list_all-flat_map, range_all, find_same}
use Rattle.bit_order.proofs.Saying.{saying, says_model, says_same}
use Rattle.bit_order.proofs.Three.{ordered-extended, comparators-before}
use Rattle.bit_order.proofs.WordLaws.{length_word, word_within, word_below, value_agrees, variable_value}

-- the clauses before any gate are over its variables
two_literals : (n : ℕ) (a b : ℤ) → var_of a ≤ n → var_of b ≤ n → is_within n (a ∷ b ∷ []) ≡ true
two_literals n a b p q =
    within_from n (a ∷ b ∷ []) (All-cons (λ l. var_of l ≤ n) a (b ∷ []) p (All-cons (λ l. var_of l ≤ n) b [] q (All-nil (λ l. var_of l ≤ n))))

module _ (start : ℕ) (choices : List Choice) (vars : ℕ) (room : start + length choices ≤ vars + 1) where
  exclusion_within : (earlier later : ℕ) → earlier < later → later < length choices → list_all (is_within vars) (exclusion start choices earlier later) ≡ true
  exclusion_within earlier later less within = by ((choice_at choices earlier).sleep == (choice_at choices later).sleep)
    where
      opposite : (k : ℕ) → start + k ≤ vars → var_of (neg_ℤ (pos (start + k))) ≤ vars
      opposite k h = omega (arith, h, var_of-opposite (pos (start + k)))

      by : (b : Bool) → list_all (is_within vars) (if b then (neg_ℤ (pos (start + earlier)) ∷ neg_ℤ (pos (start + later)) ∷ []) ∷ [] else []) ≡ true
      by true = and_from _ true (two_literals vars (neg_ℤ (pos (start + earlier))) (neg_ℤ (pos (start + later)))
          (opposite earlier (omega (arith, less, within, room))) (opposite later (omega (arith, within, room)))) refl
      by false = refl

  exclusions_within : list_all (is_within vars) (exclusions start choices) ≡ true
  exclusions_within =
      list_all-flat_map (is_within vars) (λ later. flat_map (λ earlier. exclusion start choices earlier later) (range_with_len 0 later))
      (range_with_len 0 (length choices))
      ∙ range_all (λ later. list_all (is_within vars) (flat_map (λ earlier. exclusion start choices earlier later) (range_with_len 0 later))) 0 (length choices)
      (λ later _ within. list_all-flat_map (is_within vars) (λ earlier. exclusion start choices earlier later) (range_with_len 0 later)
      ∙ range_all (λ earlier. list_all (is_within vars) (exclusion start choices earlier later)) 0 later
      (λ earlier _ less. exclusion_within earlier later (omega (arith, less)) (omega (arith, within))))

pub base-over : (y : Layout) → IsOver (base y)
base-over y =
    and_from (is_within (base y).vars (constant true ∷ [])) (list_all (is_within (base y).vars) (exclusions (choice_start y) y.order.choices))
    (and_from _ true (le-leb 1 (base y).vars (omega arith)) refl)
    (exclusions_within (choice_start y) y.order.choices (base y).vars (omega arith))

-- any values give a world
pub values-say-worlds : (y : Layout) (v : Valuation) → y.order.events ≤ 256 → IsWorldFor y (world_of y v)
values-say-worlds y v few =
    let bits : List ℕ = bits_in y v in
    let many : length bits ≡ y.order.events = length-map-range_with_len (λ event. value v (position_word event)) 0 y.order.events in
    let ints : ℕ → ℤ = λ load. int_value v (load_word y load) in
    let loads : length (world_of y v).loads ≡ y.loads = length-map-range_with_len ints 0 y.loads in
    record {
      world = record { distinct = ranks-differ bits };
      positions = length-ranks bits ∙ many;
      small = All-weaker (λ r. r < length bits) (λ p. p < 256) (λ r h. omega (arith, h, many, few)) (ranks_of bits) (ranks-below bits);
      loads = loads;
      ints = All-from_get_or IsInt (world_of y v).loads (pos 0) (λ load within.
          let there : load < y.loads = omega (arith, within, loads) in
          subst IsInt (sym (get_or-map-range_with_len ints 0 y.loads load load (pos 0) there (omega arith)))
          (to_z-Fits w32 (value v (load_word y load)) (record { fits = word_below v (load_start y load) 32 })));
      enders = length-map-range_with_len (ender_in y v) 0 y.order.sleeps;
      chosen = λ sleep by is. ender_chosen y v sleep by (ender_of_world y v sleep by is);
    }

-- the order of two events in the world is that of their bits
abbrev by_bits : (e f m n : ℕ) → Bool
by_bits e f m n = nat_lt m n || (m == n && nat_lt e f)

pub world_order : (y : Layout) (v : Valuation) (first second : ℕ) → first < y.order.events → second < y.order.events
    → is_before (world_of y v) first second ≡ comes_first v first second
world_order y v first second p q =
    let bits : List ℕ = bits_in y v in
    let number : ℕ → ℕ = λ event. value v (position_word event) in
    let many : length bits ≡ y.order.events = length-map-range_with_len number 0 y.order.events in
    let one : get_or bits first 0 ≡ number first = get_or-map-range_with_len number 0 y.order.events first first 0 p (omega arith) in
    let two : get_or bits second 0 ≡ number second = get_or-map-range_with_len number 0 y.order.events second second 0 q (omega arith) in
    ranks-order bits first second (omega (arith, p, many)) (omega (arith, q, many))
    ∙ ap (λ m. by_bits first second m (get_or bits second 0)) one ∙ ap (by_bits first second (number first)) two

-- a pair that the order asks about has existing events
asked_within : (y : Layout) → IsOrder y.order → (first second : ℕ) → list_any (same_pair (pair_of first second)) y.order.pairs ≡ true
    → max first second < y.order.events
asked_within y lawful first second asked =
    let test : Pair → Bool = same_pair (pair_of first second) in
    let d : Pair = record { lesser = 0; greater = 0 } in
    let place = first_there test y.order.pairs asked in
    let p : Pair = get_or y.order.pairs (position_or_len test y.order.pairs) d in
    let passes : test p ≡ true = passes_at_first test y.order.pairs d place in
    let same = and_parts (min first second == p.lesser) (max first second == p.greater) passes in
    let within : PairIsOf y.order.events p =
    All-get_or (PairIsOf y.order.events) y.order.pairs (position_or_len test y.order.pairs) d place lawful.pairs_within in
    let e : max first second ≡ p.greater = eqb-true (max first second) p.greater same.1 in
    omega (arith, e, within.within)

module _ (y : Layout) (lawful : IsOrder y.order) where
  more : (base y).vars ≤ (ordered y).vars
  more = (ordered-extended y lawful).more

  ends_there : (sleep by : ℕ) → IsOf (ordered y).vars (ends_literal y sleep by)
  ends_there sleep by = from (position (same_choice c) y.order.choices) refl
    where
      c : Choice
      c = record { sleep = sleep; by = by }

      from : (o : Option ℕ) → position (same_choice c) y.order.choices ≡ o
          → IsOf (ordered y).vars (option_map_or (choice_literal y) o (constant false))
      from None is = constant_of (ordered y).vars false (omega (arith, more, base_some y))
      from (Some k) is =
          let found = position-Some (same_choice c) y.order.choices k (record { sleep = 0; by = 0 }) is in
          (omega arith, omega (arith, found.0, more))

  pub literals-mean : LiteralsMean y
  literals-mean = record {
    before_there = before_is_there y lawful;
    before = λ v m first second asked.
        let within = asked_within y lawful first second asked in
        before_is y lawful v (comparators-before y v m) first second asked
        ∙ sym (world_order y v first second (omega (arith, within)) (omega (arith, within)));
    ends_there = ends_there;
    ends = λ v m sleep by.
        let b : IsModel v (base y) = (ordered-extended y lawful).before v m in
        ends_is y v lawful b.one
        (apart_from v (choice_start y) y.order.choices (omega arith)
        (and_parts (literal_true v (constant true) || false) (satisfies v (exclusions (choice_start y) y.order.choices)) b.all).1) sleep by;
    load_there = λ load there. word_within (load_start y load) 32 (ordered y).vars (omega arith) (omega (arith, there, more));
    load_wide = λ load. length_word (load_start y load) 32;
    load = λ v load there. sym (get_or-map-range_with_len (λ k. int_value v (load_word y k)) 0 y.loads load load (pos 0) there (omega arith));
  }

-- values that agree on the variables before any gate give the same world
range_same : {A : Type 0} (f g : ℕ → A) (n : ℕ) (d : A) → ((k : ℕ) → k < n → f k ≡ g k) → map f (range_with_len 0 n) ≡ map g (range_with_len 0 n)
range_same f g n d same =
    fill_by_all g (map f (range_with_len 0 n)) n d (length-map-range_with_len f 0 n)
    (λ k h. get_or-map-range_with_len f 0 n k k d h (omega arith) ∙ same k h)

module _ (y : Layout) (v w : Valuation) (agree : Agree (base y).vars v w) where
  same_bits : bits_in y v ≡ bits_in y w
  same_bits = range_same _ _ y.order.events 0 (λ event there.
      value_agrees v w (position_start event) 8 (base y).vars agree (omega arith) (omega (arith, there)))

  same_loads : (world_of y v).loads ≡ (world_of y w).loads
  same_loads = range_same _ _ y.loads (pos 0) (λ load there.
      ap (cast_signed w32) (value_agrees v w (load_start y load) 32 (base y).vars agree (omega arith) (omega (arith, there))))

  same_ender : (sleep : ℕ) → ender_in y v sleep ≡ ender_in y w sleep
  same_ender sleep =
      ap (option_map (λ number. (choice_at y.order.choices number).by))
      (find_same (is_made y v sleep) (is_made y w sleep) 0 (length y.order.choices) (λ number _ there.
      ap (λ b. (choice_at y.order.choices number).sleep == sleep && b)
      (variable_value v (choice_start y + number) (omega arith) ∙ agree (choice_start y + number) (omega (arith, there))
      ∙ sym (variable_value w (choice_start y + number) (omega arith)))))

  same_enders : (world_of y v).enders ≡ (world_of y w).enders
  same_enders = range_same _ _ y.order.sleeps None (λ sleep _. same_ender sleep)

  pub same-world : world_of y v ≡ world_of y w
  same-world =
      let first : List ℕ → World = λ bits. record { positions = ranks_of bits; loads = (world_of y v).loads; enders = (world_of y v).enders } in
      let second : List ℤ → World = λ loads. record { positions = (world_of y w).positions; loads = loads; enders = (world_of y v).enders } in
      let third : List (Option ℕ) → World = λ enders. record { positions = (world_of y w).positions; loads = (world_of y w).loads; enders = enders } in
      ap first same_bits ∙ ap second same_loads ∙ ap third same_enders

-- each world is given by some values
pub worlds-have-values : (y : Layout) (w : World) → IsOrder y.order → IsWorldFor y w → (v : Valuation) × IsModel v (ordered y) × SaysSame y w (world_of y v)
worlds-have-values y w lawful h =
    let v : Valuation = saying y w in
    let e = (ordered-extended y lawful).extends v (base-over y) (says_model y w lawful h) in
    (e.0, e.1, subst (SaysSame y w) (same-world y v e.0 e.2) (says_same y w lawful h))
