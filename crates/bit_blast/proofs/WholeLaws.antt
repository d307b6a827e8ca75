-- The meaning of all clauses of an order, its terms and a formula.
use Rattle.std.proofs.Common.{◌≡◌, ℕ, suc, zero, ◌+◌, ◌<◌, List, [], ◌∷◌, ℤ, refl, ap, sym, ◌∙◌, subst, arith, Bool, true, false, map}
use Rattle.std.specs.Prelude.{◌&&◌, ◌||◌}
use Rattle.std.specs.List.{All, range_with_len}
use Rattle.std.proofs.lemmas.Bool.{false≢true}
use Rattle.std.proofs.lemmas.List.Elements.{All-nil, All-cons, All-map}
use Rattle.sym_terms.specs.declared.node.Node.{Node}
use Rattle.sym_terms.specs.Values.{value_of}
use Rattle.order_formula.specs.declared.formula.Conjunct.{Conjunct}
use Rattle.order_formula.specs.Truth.{holds_at, body_at, value_at}
use Rattle.order_formula.specs.Worlds.{World}
use Rattle.cnf_core.specs.Clauses.{Formula, Valuation, satisfies}
use Rattle.cnf_core.specs.Gates.{Agree, IsOver}
use Rattle.bit_gates.specs.Extended.{IsExtended}
use Rattle.bit_gates.specs.Folded.{constant}
use Rattle.bit_gates.specs.Laws.{IsModel, IsOf}
use Rattle.bit_gates.proofs.Blocks.{grown_none}
use Rattle.bit_gates.proofs.Extended.{gates-extend}
use Rattle.bit_ops.specs.bit_arith.Laws.{int_value}
use Rattle.bit_ops.specs.Laws.{IsOperand}
use Rattle.bit_order.specs.Comparators.{before_literal, comparators, ordered, transitivity}
use Rattle.bit_order.specs.Laws.{IsWorldFor, SaysSame, LiteralsMean}
use Rattle.bit_order.specs.Layouts.{Layout, base, choice_start, ends_literal, exclusions, load_word}
use Rattle.bit_order.specs.Readings.{world_of}
use Rattle.bit_order.proofs.Compared.{base_some, comparators_grown}
use Rattle.bit_order.proofs.Meaning.{base-over, literals-mean, same-world, values-say-worlds, worlds-have-values}
use Rattle.bit_order.proofs.Three.{ordered-extended}
use Rattle.bit_terms.specs.Laws.{HaveInts}
use Rattle.bit_terms.proofs.Meaning.{terms-mean}
use Rattle.bit_blast.specs.Cases.{Parts}
use Rattle.bit_blast.specs.Layered.{parts_of}
use Rattle.bit_blast.specs.Laws.{AreRoots, Tells}
use Rattle.bit_blast.specs.Whole.{load_words, clauses_with_roots, clauses_with_terms, IsReady, WholeMeans}
use Rattle.bit_blast.proofs.Prefixes.{first_part, before_grown}
use Rattle.bit_blast.proofs.RootLaws.{are_roots, before_all, to, back}
use Rattle.bit_blast.proofs.Same.{holds_same}

pub map_twice : {X Y Z : Type 0} (f : X → Y) (g : Y → Z) (xs : List X) → map g (map f xs) ≡ map (λ x. g (f x)) xs
map_twice f g [] = refl
map_twice f g (x ∷ xs) = ap (λ ys. g (f x) ∷ ys) (map_twice f g xs)

-- the loads' words are over the order's variables
pub all_range : (P : ℕ → Type 0) (a n : ℕ) → ((k : ℕ) → k < a + n → P k) → All P (range_with_len a n)
all_range P a zero h = All-nil P
all_range P a (suc n) h =
    All-cons P a (range_with_len (a + 1) n) (h a (omega arith)) (all_range P (a + 1) n (λ k below. h k (omega (arith, below))))

or_none : (p : Bool) → ((p || false) && true) ≡ true → p ≡ true
or_none true h = refl
or_none false h = absurd (false≢true h)

module _ (y : Layout) (nodes : List Node) (formula : List Conjunct) (h : IsReady y nodes formula) where
  pub literals : LiteralsMean y
  literals = literals-mean y h.order

  pub order : IsExtended (base y) (ordered y)
  order = ordered-extended y h.order

  some : 0 < (ordered y).vars
  some = let a : 0 < (base y).vars = base_some y in omega (arith, a, order.more)

  pub loads : All (IsOperand (ordered y)) (load_words y)
  loads = All-map (IsOperand (ordered y)) (load_word y) (range_with_len 0 y.loads)
      (all_range (λ k. IsOperand (ordered y) (load_word y k)) 0 y.loads
      (λ k below. record { literals = literals.load_there k (omega (arith, below)); width = literals.load_wide k }))

  pub terms : HaveInts nodes (load_words y) (ordered y) (clauses_with_terms y nodes)
  terms = terms-mean nodes (load_words y) (ordered y) some h.ints loads

  abbrev g : Formula
  g = (clauses_with_terms y nodes).formula

  abbrev parts : Parts
  parts = parts_of y (clauses_with_terms y nodes).words

  pub grown : IsExtended (ordered y) g
  grown = gates-extend (ordered y) g some terms.grown

  literal_stays : (l : ℤ) → IsOf (ordered y).vars l → IsOf g.vars l
  literal_stays l o = (o.0, omega (arith, o.1, grown.more))

  values_are : (v : Valuation) → (term : ℕ) → value_of nodes (map (int_value v) (load_words y)) term ≡ value_at nodes (world_of y v) term
  values_are v term = ap (λ ls. value_of nodes ls term) (map_twice (load_word y) (int_value v) (range_with_len 0 y.loads))

  pub tells : Tells y.order nodes (world_of y) parts g
  tells = record {
    one = omega (arith, some, grown.more);
    worlds = λ v. let w = values-say-worlds y v h.events in w.world;
    events = λ v. let w = values-say-worlds y v h.events in w.positions;
    same = λ v w agree. same-world y v w (λ k below. agree k (omega (arith, below, order.more, grown.more)));
    before = λ a b asked. record {
      grown = grown_none g;
      literal = literal_stays (before_literal y a b) (literals.before_there a b);
      value = λ v m. literals.before v (grown.before v m) a b asked;
    };
    ends = λ s b asked. record {
      grown = grown_none g;
      literal = literal_stays (ends_literal y s b) (literals.ends_there s b);
      value = λ v m. literals.ends v (grown.before v m) s b;
    };
    words = terms.words;
    value = λ v m term. terms.int v m term ∙ values_are v term;
  }

  over : IsOver g
  over = grown.over (order.over (base-over y))

  -- a world has values that satisfy the clauses of its order and terms
  said : (w : World) → IsWorldFor y w → (v : Valuation) × IsModel v g × SaysSame y w (world_of y v)
  said w is =
      let v = worlds-have-values y w h.order is in
      let u = grown.extends v.0 (order.over (base-over y)) v.1 in
      (u.0, u.1, subst (SaysSame y w) (same-world y v.0 u.0 (λ k below. u.2 k (omega (arith, below, order.more)))) v.2)

  pub still : (v u : Valuation) → Agree g.vars v u → world_of y v ≡ world_of y u
  still v u agree = same-world y v u (λ k below. agree k (omega (arith, below, order.more, grown.more)))

  pub all_roots : AreRoots nodes (world_of y) (clauses_with_terms y nodes).formula (clauses_with_roots y nodes formula) formula
  all_roots = are_roots y.order nodes (world_of y) parts g formula tells h.told

  -- the first clause makes variable 1 true
  pub first_true : (v : Valuation) → satisfies v (clauses_with_roots y nodes formula).state.clauses ≡ true → v 1 ≡ true
  first_true v s =
      let c : Formula = (comparators y).state in
      let here : satisfies v (ordered y).clauses ≡ true =
      before_grown v (ordered y) g terms.grown (before_all y.order nodes (world_of y) parts g formula tells h.told v s) in
      let below : satisfies v (base y).clauses ≡ true =
      before_grown v (base y) c (comparators_grown y h.order) (first_part v c.clauses (transitivity y) here) in
      or_none (v 1) (first_part v ((constant true ∷ []) ∷ []) (exclusions (choice_start y) y.order.choices) below)

  pub whole_means : WholeMeans y nodes formula
  whole_means = record {
    to = λ v m. (values-say-worlds y v h.events, (to y.order nodes (world_of y) parts g formula tells h.told v m).1);
    back = λ w is true_there.
        let v = said w is in
        let s = v.2 in
        let there : holds_at nodes (world_of y v.0) formula ≡ true =
        sym (holds_same nodes y.order w (world_of y v.0) s.before s.loads s.enders formula h.within) ∙ true_there in
        let u = back y.order nodes (world_of y) parts g formula tells h.told v.0 over v.1 there in
        (u.0, u.1, subst (SaysSame y w) (still v.0 u.0 u.2) s);
    each = λ w is.
        let v = said w is in
        let u = all_roots.extends v.0 over v.1 in
        let e = still v.0 u.0 u.2 in
        (u.0, u.1, subst (SaysSame y w) e v.2, u.3 ∙ ap (λ x. map (λ (c : Conjunct). body_at nodes x c.body) formula) e);
  }
