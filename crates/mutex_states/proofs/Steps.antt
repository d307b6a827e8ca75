-- Each state has values of the variables of the state after it.
use Rattle.std.proofs.Common.{◌≡◌, ℕ, zero, suc, ◌+◌, ◌-◌, ◌*◌, ◌/◌, ◌%◌, ◌<◌, ◌≤◌, List, [], ◌∷◌, ℤ, pos, Some, refl, ap, ap₂, sym, ◌∙◌, subst, arith, Bool, true, false, ◌&&◌, length, get_or, map}
use Rattle.std.specs.Prelude.{◌==◌, if◌then◌else◌, slice_get}
use Rattle.std.specs.Int.{bit_at, cast_signed, cast_unsigned, w32}
use Rattle.std.specs.List.{All, Contains, flat_map}
use Rattle.std.proofs.lemmas.Bool.{le-ltb, lt-ltb}
use Rattle.std.proofs.lemmas.Int.{to_z-of_z}
use Rattle.std.proofs.lemmas.List.{get_or-map, get_or_default, length-map}
use Rattle.std.proofs.lemmas.List.Elements.{All-from_get_or, All-get_or, All-head, All-tail}
use Rattle.std.proofs.lemmas.List.FromFn.{fill_by_all, get_or-map-range_with_len, length-map-range_with_len}
use Rattle.std.proofs.lemmas.Nat.Bits.{bit_at-lt}
use Rattle.std.proofs.lemmas.Option.{get_or_from_slice_get, slice_get_within}
use Rattle.order_cells.specs.sym_exec.path_walk.tc_code.Expr.{Expr}
use Rattle.circuit_sizes.specs.sym_terms.Values.{value_of}
use Rattle.mutex_regions.proofs.order_events.Lists.{at_in, in_flat_map}
use Rattle.cnf_core.specs.Clauses.{Formula, Valuation, literal_true}
use Rattle.cnf_core.specs.Gates.{Agree}
use Rattle.cnf_core.proofs.GateLaws.{literal_true-agree}
use Rattle.bit_gates.specs.Folded.{constant}
use Rattle.bit_gates.specs.Laws.{IsModel, IsOf}
use Rattle.bit_gates.proofs.Blocks.{grown_more}
use Rattle.circuit_sizes.specs.bit_ops.Laws.{IsOperand}
use Rattle.circuit_sizes.specs.bit_ops.bit_arith.Laws.{int_value}
use Rattle.circuit_sizes.specs.bit_ops.bit_arith.int_ops.Arith.{IsInt}
use Rattle.circuit_sizes.proofs.bit_ops.bit_arith.int_ops.Bits.{unsigned-below}
use Rattle.circuit_sizes.specs.bit_ops.bit_words.Laws.{digit, number_of}
use Rattle.bit_order.specs.Layouts.{word_from}
use Rattle.bit_order.proofs.WordLaws.{length_word, value_of_bits, word_within}
use Rattle.circuit_sizes.specs.bit_terms.Laws.{HaveInts}
use Rattle.circuit_sizes.specs.bit_terms.Terms.{Words, term_words, word_at}
use Rattle.circuit_sizes.proofs.bit_terms.Meaning.{at_operand, terms-mean}
use Rattle.bit_blast.proofs.CaseLaws.{operand_stays}
use Rattle.bit_blast.proofs.RootLaws.{values_agree}
use Rattle.bit_blast.proofs.Variables.{literal_positive}
use Rattle.mutex_states.specs.Extending.{Extends}
use Rattle.mutex_states.specs.Steps.{Goes, IsTurn, State, Step, Turn, TurnSays, after_from, exprs_of, has_shape, pool, shaped_from, shapes, state_bit, term_of, turn_clauses, turn_value, with_turn}
use Rattle.mutex_states.proofs.Extending.{IsKept, and_then, by_clauses, by_gates, by_values, weaker}
use Rattle.mutex_states.proofs.Pool.{pool_ints, pool_value}
use Rattle.mutex_states.proofs.Turns.{Fits, Says, turn_there, turn_true}

pub int_agrees : (n : ℕ) (v w : Valuation) (xs : List ℤ) → Agree n v w → All (IsOf n) xs → int_value v xs ≡ int_value w xs
int_agrees n v w xs agree of = ap (λ bs. cast_signed w32 (number_of bs)) (values_agree n v w xs agree of)

pub words_agree : (f : Formula) (v w : Valuation) (xs : List (List ℤ)) → Agree f.vars v w → All (IsOperand f) xs → map (int_value w) xs ≡ map (int_value v) xs
words_agree f v w [] agree of = refl
words_agree f v w (x ∷ xs) agree of =
    ap₂ (λ a b. a ∷ b) (sym (int_agrees f.vars v w x agree (All-head (IsOperand f) x xs of).literals)) (words_agree f v w xs agree (All-tail (IsOperand f) x xs of))

digit_bit : (number place : ℕ) → digit (bit_at number place == 1) ≡ bit_at number place
digit_bit number place = by (bit_at number place) (bit_at-lt number place)
  where
    by : (b : ℕ) → b < 2 → digit (b == 1) ≡ b
    by zero small = refl
    by (suc zero) small = refl
    by (suc (suc b)) small = absurd (omega (arith, small))

-- a formula with the terms of a state, and the variables of the state after it
abbrev pub wide_of : (cells : ℕ) → List Step → State → Formula
wide_of cells steps before =
    let g : Formula = (term_words (pool cells steps) before.words before.formula).formula in
    record { vars = g.vars + (length (shapes cells steps) + 32 * cells); clauses = g.clauses }

pub words_count : (cells : ℕ) (steps : List Step) (loads : List (List ℤ)) (roots : List ℤ) (ordered : ℤ) (ranked : List ℤ) (before : State)
    → length (with_turn cells steps loads roots ordered ranked before).words ≡ cells
words_count cells steps loads roots ordered ranked before =
    let n : ℕ = (term_words (pool cells steps) before.words before.formula).formula.vars + length (shapes cells steps) in
    length-map-range_with_len (λ k. word_from (suc n + 32 * k) 32) 0 cells

module _ (cells : ℕ) (steps : List Step) (loads : List (List ℤ)) (roots : List ℤ) (ordered : ℤ) (ranked : List ℤ) (before : State)
    (is : IsTurn cells steps loads roots ordered ranked before) where
  abbrev f : Formula
  f = before.formula

  abbrev es : List Expr
  es = flat_map exprs_of steps

  abbrev m : Words
  m = term_words (pool cells steps) before.words f

  abbrev n : ℕ
  n = m.formula.vars

  abbrev many : ℕ
  many = length (shapes cells steps)

  abbrev t : Turn
  t = record { ordered = ordered; ranked = ranked; shaped = shaped_from n many; words = m.words; after = after_from (n + many) cells }

  abbrev wide : Formula
  wide = record { vars = n + (many + 32 * cells); clauses = m.formula.clauses }

  terms : HaveInts (pool cells steps) before.words f m
  terms = terms-mean (pool cells steps) before.words f is.one (pool_ints cells es is.named is.ints) is.words_in

  more : f.vars ≤ n
  more = grown_more f m.formula terms.grown

  wider : f.vars ≤ wide.vars
  wider = omega (arith, more)

  -- the new words and literals
  after_at : (k : ℕ) (d : List ℤ) → k < cells → get_or t.after k d ≡ word_from (suc (n + many) + 32 * k) 32
  after_at k d below = get_or-map-range_with_len (λ j. word_from (suc (n + many) + 32 * j) 32) 0 cells k k d below (omega arith)

  after_in : (k : ℕ) → k < cells → IsOperand wide (get_or t.after k [])
  after_in k below =
      subst (IsOperand wide) (sym (after_at k [] below)) (record {
        literals = word_within (suc (n + many) + 32 * k) 32 wide.vars (omega arith) (omega (arith, below));
        width = length_word (suc (n + many) + 32 * k) 32;
      })

  shaped_count : length t.shaped ≡ many
  shaped_count = length-map-range_with_len (λ k. pos (suc n + k)) 0 many

  shaped_at : (k : ℕ) → k < many → get_or t.shaped k (constant false) ≡ pos (suc n + k)
  shaped_at k below = get_or-map-range_with_len (λ j. pos (suc n + j)) 0 many k k (constant false) below (omega arith)

  shaped_in : (k : ℕ) → k < many → IsOf wide.vars (get_or t.shaped k (constant false))
  shaped_in k below = subst (IsOf wide.vars) (sym (shaped_at k below)) (omega arith, omega (arith, below))

  in_wide : (l : ℤ) → IsOf f.vars l → IsOf wide.vars l
  in_wide l of = (of.0, omega (arith, of.1, wider))

  fits : Fits cells steps loads roots t wide
  fits = record {
    one = omega (arith, is.one, wider);
    ordered_in = in_wide ordered is.ordered_in;
    ranked_in = λ i below. in_wide (get_or ranked i (constant false)) (is.ranked_in i below);
    count = shaped_count;
    shaped_in = shaped_in;
    words_in = λ term.
        operand_stays m.formula wide (word_at m.words term) (omega arith) (at_operand m.formula m.words term (omega (arith, is.one, more)) terms.words);
    after_in = after_in;
    held = is.held;
    loads_in = λ s x p q. operand_stays f wide (get_or loads x.load []) wider (is.loads_in s x p q);
    roots_in = λ s x p q. in_wide (get_or roots x.conjunct (constant false)) (is.roots_in s x p q);
  }

  pub after_words : All (IsOperand wide) t.after
  after_words =
      All-from_get_or (IsOperand wide) t.after []
      (λ k there. let long : length t.after ≡ cells = length-map-range_with_len (λ j. word_from (suc (n + many) + 32 * j) 32) 0 cells in
      after_in k (omega (arith, there, long)))

  module _ (all : Bool) (which : ℕ) (s : Step) (old new amounts : List ℤ) (holds : ℕ → Bool) (there : slice_get steps which ≡ Some s)
      (goes : all ≡ true → Goes s old new amounts holds) (ints : All IsInt new) (short : length old ≡ cells) (long : length new ≡ cells) where
    abbrev Say : Valuation → Type 0
    Say = TurnSays cells steps loads roots ordered ranked before all which s old amounts holds

    abbrev Then : Valuation → Type 0
    Then w = Say w × (map (int_value w) t.after ≡ new)

    among : Contains steps s
    among = at_in steps which s there

    say_kept : (k : ℕ) → f.vars ≤ k → IsKept k Say
    say_kept k low v w agree say =
        let near : Agree f.vars v w = λ j below. agree j (omega (arith, below, low)) in
        let same : (l : ℤ) → IsOf f.vars l → literal_true w l ≡ literal_true v l = λ l of. sym (literal_true-agree f.vars v w l near of.1) in
        record {
          ordered_is = same ordered is.ordered_in ∙ say.ordered_is;
          ranked_is = λ i below. same (get_or ranked i (constant false)) (is.ranked_in i below) ∙ say.ranked_is i below;
          before_is = words_agree f v w before.words near is.words_in ∙ say.before_is;
          loads_are = λ x p. sym (int_agrees f.vars v w (get_or loads x.load []) near (is.loads_in s x among p).literals) ∙ say.loads_are x p;
          roots_are = λ x p. same (get_or roots x.conjunct (constant false)) (is.roots_in s x among p) ∙ say.roots_are x p;
        }

    abbrev value_new : ℕ → Bool
    value_new = turn_value cells steps all s new

    abbrev Valued : Valuation → Type 0
    Valued w = Say w × ((k : ℕ) → w (suc n + k) ≡ value_new k)

    -- the new variables say the shape and the state
    shape_said : (w : Valuation) → Valued w → (k : ℕ) (xs : List ℕ) → slice_get (shapes cells steps) k ≡ Some xs
        → literal_true w (get_or t.shaped k (constant false)) ≡ (all && has_shape cells steps xs s)
    shape_said w h k xs at =
        let below : k < many = slice_get_within (shapes cells steps) k xs at in
        let is_shape : get_or (shapes cells steps) k [] ≡ xs =
        get_or_default (shapes cells steps) k [] xs below ∙ get_or_from_slice_get (shapes cells steps) k xs xs at in
        ap (literal_true w) (shaped_at k below) ∙ literal_positive w (suc n + k) (omega arith) ∙ h.1 k
        ∙ ap (λ b. if b then all && has_shape cells steps (get_or (shapes cells steps) k []) s else state_bit new (k - many)) (lt-ltb k many below)
        ∙ ap (λ ys. all && has_shape cells steps ys s) is_shape

    bit_said : (w : Valuation) → Valued w → (k place : ℕ) → place < 32
        → w (suc (n + many) + 32 * k + place) ≡ (bit_at (cast_unsigned w32 (get_or new k (pos 0))) (31 - place) == 1)
    bit_said w h k place narrow =
        let i : ℕ = many + (32 * k + place) in
        let at : suc (n + many) + 32 * k + place ≡ suc n + i = omega arith in
        let rest : i - many ≡ 32 * k + place = omega arith in
        let e : (32 * k + place) / 32 ≡ k = omega (arith, narrow) in
        let p : (32 * k + place) % 32 ≡ place = omega (arith, narrow) in
        ap w at ∙ h.1 i
        ∙ ap (λ b. if b then all && has_shape cells steps (get_or (shapes cells steps) i []) s else state_bit new (i - many)) (le-ltb i many (omega arith))
        ∙ ap (state_bit new) rest
        ∙ ap₂ (λ a b. bit_at (cast_unsigned w32 (get_or new a (pos 0))) (31 - b) == 1) e p

    word_said : (w : Valuation) → Valued w → (k : ℕ) → k < cells → int_value w (get_or t.after k []) ≡ get_or new k (pos 0)
    word_said w h k below =
        let z : ℤ = get_or new k (pos 0) in
        let first : ℕ = suc (n + many) + 32 * k in
        let fits_int : IsInt z = All-get_or IsInt new k (pos 0) (omega (arith, below, long)) ints in
        ap (int_value w) (after_at k [] below)
        ∙ ap (cast_signed w32)
        (value_of_bits w first 32 (cast_unsigned w32 z) (omega arith) (unsigned-below z fits_int)
        (λ place narrow. ap digit (bit_said w h k place narrow) ∙ digit_bit (cast_unsigned w32 z) (31 - place))) ∙ to_z-of_z w32 z fits_int

    state_said : (w : Valuation) → Valued w → map (int_value w) t.after ≡ new
    state_said w h =
        let many_words : length t.after ≡ cells = length-map-range_with_len (λ j. word_from (suc (n + many) + 32 * j) 32) 0 cells in
        let f_at : ℕ → ℤ = λ k. get_or new k (pos 0) in
        fill_by_all f_at (map (int_value w) t.after) cells (pos 0) (length-map t.after (int_value w) ∙ many_words)
        (λ k below. get_or-map (int_value w) t.after k [] (pos 0) (omega (arith, below, many_words)) ∙ word_said w h k below)
        ∙ sym (fill_by_all f_at new cells (pos 0) long (λ k below. refl))

    says : (w : Valuation) → IsModel w wide → Valued w → Says cells steps loads roots t w all which s old new amounts holds
    says w model h = record {
      there = there;
      ordered_is = h.0.ordered_is;
      ranked_is = h.0.ranked_is;
      shaped_is = shape_said w h;
      words_are = λ e p.
          terms.int w (record { one = model.one; all = model.all }) (term_of cells steps e)
          ∙ ap (λ ls. value_of (pool cells steps) ls (term_of cells steps e)) h.0.before_is
          ∙ pool_value cells es is.named old short e (in_flat_map exprs_of s e steps among p);
      after_is = λ j z at.
          let below : j < length new = slice_get_within new j z at in
          word_said w h j (omega (arith, below, long)) ∙ get_or_default new j (pos 0) z below ∙ get_or_from_slice_get new j z z at;
      loads_are = h.0.loads_are;
      roots_are = h.0.roots_are;
      goes = goes;
    }

    abbrev last : Formula
    last = (with_turn cells steps loads roots ordered ranked before).formula

    pub turn_extends : Extends Say f Then last
    turn_extends =
        and_then Say Say Then f m.formula last (by_gates Say f m.formula is.one (say_kept f.vars (omega arith)) terms.grown)
        (and_then Say Valued Then m.formula wide last
        (by_values Say m.formula (many + 32 * cells) value_new (omega (arith, is.one, more)) (say_kept n more))
        (weaker Valued Valued Valued Then wide last (λ v model h. h) (λ w model h. (h.0, state_said w h))
        (by_clauses Valued wide (turn_clauses cells steps loads roots t) (turn_there cells steps loads roots t wide fits)
        (λ v model h. turn_true cells steps loads roots t wide fits v model.one all which s old new amounts holds (says v model h)))))
