-- Loads after all regions take the last state, where all is in order.
use Rattle.std.proofs.Common.{◌≡◌, ℕ, ◌<◌, ◌≤◌, List, [], ◌∷◌, ℤ, Option, Some, None, refl, ap, sym, ◌∙◌, subst, arith, Bool, true, false, ◌&&◌, length, get_or, map}
use Rattle.std.specs.Prelude.{filter, fold, if◌then◌else◌, slice_get}
use Rattle.std.specs.List.{All, Contains, enumerate_from, list_all}
use Rattle.std.specs.Option.{option_map_or}
use Rattle.std.proofs.lemmas.Bool.{and_parts}
use Rattle.std.proofs.lemmas.List.Elements.{All-get_or, All-map, All-nil}
use Rattle.std.proofs.lemmas.List.Folds.{list_all-map}
use Rattle.std.proofs.lemmas.Option.{slice_get_within}
use Rattle.order_cells.specs.sym_exec.path_walk.tc_code.Code.{Code}
use Rattle.order_cells.specs.sym_exec.path_walk.Paths.{Paths}
use Rattle.order_cells.specs.sym_exec.path_walk.declared.event.Region.{Region}
use Rattle.circuit_sizes.specs.sym_terms.declared.node.Node.{Node}
use Rattle.order_cells.specs.sym_exec.Executed.{Symbolic}
use Rattle.order_cells.specs.sym_exec.declared.symbolic.Access.{Access}
use Rattle.mutex_regions.specs.order_events.order_formula.declared.formula.Conjunct.{Conjunct}
use Rattle.mutex_regions.specs.order_events.lawful_order.Events.{Placed, number_of}
use Rattle.mutex_regions.proofs.order_events.Lists.{in_back, in_front, of_enumerated, of_filter}
use Rattle.cnf_core.specs.Clauses.{Formula, Valuation, clause_true, literal_true, satisfies}
use Rattle.bit_gates.specs.Folded.{Made, conjunction, constant}
use Rattle.bit_gates.specs.Laws.{IsBit, IsModel, IsOf}
use Rattle.bit_gates.proofs.Blocks.{grown_more, grown_twice, model_before}
use Rattle.bit_gates.proofs.Meaning.{both_bit, constant_of}
use Rattle.circuit_sizes.specs.bit_ops.Laws.{IsOperand}
use Rattle.circuit_sizes.specs.bit_ops.bit_arith.Laws.{int_value}
use Rattle.bit_order.specs.Layouts.{load_word}
use Rattle.circuit_sizes.proofs.bit_ops.bit_words.Meaning.{all_grown}
use Rattle.bit_blast.specs.Drafts.{Draft}
use Rattle.bit_blast.specs.Reads.{value_clauses}
use Rattle.bit_blast.specs.Says.{IsDraftOver}
use Rattle.bit_blast.proofs.Lists.{all_flat_map, all_of, all_pass, passes_flat_map}
use Rattle.bit_blast.proofs.Values.{value_literals}
use Rattle.mutex_regions.specs.read_write.Accesses.{all_accesses}
use Rattle.mutex_regions.specs.Regions.{regions_of}
use Rattle.mutex_regions.specs.declared.variables.Spot.{Spot}
use Rattle.mutex_states.specs.Extending.{Extends}
use Rattle.mutex_states.specs.InOrder.{read_literal, read_number, steps_before}
use Rattle.mutex_states.specs.States.{after_made, ends_before, is_outside, last_load_clauses, names_spot, spots, with_last_load, with_last_loads}
use Rattle.mutex_states.proofs.Conjunctions.{conjunction_bit, with_next_literal}
use Rattle.mutex_states.proofs.Extending.{IsKept, and_then, by_clauses, by_gates, same}
use Rattle.mutex_states.proofs.Ordered.{of_get}
use Rattle.bit_blast.proofs.CaseLaws.{operand_stays}
use Rattle.mutex_states.proofs.Words.{equal_words}

-- a conjunction of literals, one for each element
fold_each : {X : Type 0} (l : X → ℤ) (xs : List X) (m : Made)
    → fold (λ (all : Made) x. conjunction all.formula all.literal (l x)) m xs ≡ fold with_next_literal m (map l xs)
fold_each l [] m = refl
fold_each l (x ∷ xs) m = fold_each l xs (conjunction m.formula m.literal (l x))

module _ (code : Code) (paths : Paths) (symbolic : Symbolic) (nodes : List Node) (formula : List Conjunct) (m : ℕ) (d : Draft) (ordered : ℤ) (state : List (List ℤ)) where
  abbrev regions : List (Placed Region)
  regions = regions_of paths m

  abbrev cells : List Spot
  cells = spots code paths symbolic nodes formula m

  abbrev ends : Placed Access → Placed Region → ℤ
  ends = ends_before code paths symbolic nodes formula m d ordered state

  abbrev read : Placed Access → ℤ
  read = read_literal paths symbolic formula d

  abbrev after : Formula → Placed Access → Made
  after = after_made code paths symbolic nodes formula m d ordered state

  abbrev clauses : Placed Access → (load : ℕ) → ℤ → List (List ℤ)
  clauses = last_load_clauses code paths symbolic nodes formula m d ordered state

  abbrev with_load : Placed Access → Formula → ℕ → Formula
  with_load = with_last_load code paths symbolic nodes formula m d ordered state

  abbrev names : Spot → Placed Access → Bool
  names s a = names_spot code paths symbolic nodes formula m s a.it.cell

  -- the literals and words are over the variables of a formula
  pub record AreLast (h : Formula) : Type 0 where
    pub draft : IsDraftOver d h
    pub ordered_in : IsOf h.vars ordered
    pub loads_in : (a : Placed Access) (l : ℕ) → Contains (all_accesses symbolic) a → a.it.takes ≡ Some l → IsOperand h (load_word d.layout l)
    pub state_in : All (IsOperand h) state
    pub count : length state ≡ length cells

  -- where a load comes after all regions, it takes what the state has
  pub record AreTaken (v : Valuation) : Type 0 where
    pub taken : (a : Placed Access) (l k : ℕ) (s : Spot) → Contains (all_accesses symbolic) a → a.it.takes ≡ Some l → slice_get cells k ≡ Some s
        → names s a ≡ true → literal_true v ordered ≡ true → literal_true v (read a) ≡ true
        → ((r : Placed Region) → Contains regions r → literal_true v (ends a r) ≡ true)
        → int_value v (load_word d.layout l) ≡ int_value v (get_or state k [])

  module _ (h : Formula) (fits : AreLast h) (Told : Valuation → Type 0) (kept : IsKept h.vars Told)
      (right : (v : Valuation) → v 1 ≡ true → Told v → AreTaken v) where
    wider : (f : Formula) (l : ℤ) → h.vars ≤ f.vars → IsOf h.vars l → IsOf f.vars l
    wider f l more of = (of.0, omega (arith, of.1, more))

    kept_on : (f : Formula) → h.vars ≤ f.vars → IsKept f.vars Told
    kept_on f more v w agree told = kept v w (λ k below. agree k (omega (arith, below, more))) told

    one_in : (f : Formula) → h.vars ≤ f.vars → 0 < f.vars
    one_in f more = let o = fits.draft.one in omega (arith, o, more)

    ends_in : (f : Formula) (a : Placed Access) (r : Placed Region) → h.vars ≤ f.vars → IsOf f.vars (ends a r)
    ends_in f a r more = by r.it.to
      where
        by : (o : Option ℕ) → IsOf f.vars (option_map_or (λ k. steps_before paths symbolic formula d r.thread k a.thread a.it.step) o (constant false))
        by None = constant_of f.vars false (one_in f more)
        by (Some k) =
            wider f (steps_before paths symbolic formula d r.thread k a.thread a.it.step) more
            (fits.draft.before (number_of paths r.thread k) (number_of paths a.thread a.it.step))

    read_in : (f : Formula) (a : Placed Access) → h.vars ≤ f.vars → IsOf f.vars (read a)
    read_in f a more =
        wider f (read a) more (of_get (IsOf h.vars) d.roots (read_number paths formula a) (constant false) fits.draft.roots (constant_of h.vars false fits.draft.one))

    -- the gates of one load
    after_bit : (f : Formula) (a : Placed Access) → h.vars ≤ f.vars
        → IsBit f (after f a) (λ v. (literal_true v ordered && literal_true v (read a)) && list_all (λ r. literal_true v (ends a r)) regions)
    after_bit f a more =
        let first : Made = conjunction f ordered (read a) in
        let b = both_bit f ordered (read a) (wider f ordered more fits.ordered_in) (read_in f a more) in
        let ls : List ℤ = map (ends a) regions in
        let there : All (IsOf f.vars) ls = All-map (IsOf f.vars) (ends a) regions (all_of (λ r. IsOf f.vars (ends a r)) regions (λ r _. ends_in f a r more)) in
        let c = conjunction_bit first ls b.literal (all_grown f first.formula ls b.grown there) in
        let last : Made = fold with_next_literal first ls in
        subst (λ (k : Made). IsBit f k (λ v. (literal_true v ordered && literal_true v (read a)) && list_all (λ r. literal_true v (ends a r)) regions))
        (sym (fold_each (ends a) regions first)) (record {
          grown = grown_twice f first.formula last.formula b.grown c.grown;
          literal = c.literal;
          value = λ v k.
              c.value v k ∙ ap (λ p. p && list_all (literal_true v) ls) (b.value v (model_before v first.formula last.formula c.grown k))
              ∙ ap (λ q. (literal_true v ordered && literal_true v (read a)) && q) (list_all-map (literal_true v) (ends a) regions);
        })

    module _ (f : Formula) (a : Placed Access) (l : ℕ) (more : h.vars ≤ f.vars) (among : Contains (all_accesses symbolic) a) (takes : a.it.takes ≡ Some l) where
      abbrev made : Made
      made = after f a

      abbrev g : Formula
      g = made.formula

      bit : IsBit f made (λ v. (literal_true v ordered && literal_true v (read a)) && list_all (λ r. literal_true v (ends a r)) regions)
      bit = after_bit f a more

      more_still : h.vars ≤ g.vars
      more_still = let up = grown_more f g bit.grown in omega (arith, up, more)

      true_of : IsOf g.vars (constant true)
      true_of = constant_of g.vars true (one_in g more_still)

      load_in : IsOperand g (load_word d.layout l)
      load_in = operand_stays h g (load_word d.layout l) more_still (fits.loads_in a l among takes)

      cell_in : (k : ℕ) (s : Spot) → slice_get cells k ≡ Some s → IsOperand g (get_or state k [])
      cell_in k s at =
          operand_stays h g (get_or state k []) more_still
          (All-get_or (IsOperand h) state k [] (let low = slice_get_within cells k s at in omega (arith, low, fits.count)) fits.state_in)

      abbrev of_cell : ℕ × Spot → List (List ℤ)
      of_cell x = if names x.1 a then value_clauses made.literal (constant true) (load_word d.layout l) (get_or state x.0 []) else []

      there : All (All (IsOf g.vars)) (clauses a l made.literal)
      there = all_flat_map (All (IsOf g.vars)) of_cell (enumerate_from 0 cells) (λ x i. by x (of_enumerated x cells i) (names x.1 a))
        where
          by : (x : ℕ × Spot) → slice_get cells x.0 ≡ Some x.1 → (b : Bool)
              → All (All (IsOf g.vars)) (if b then value_clauses made.literal (constant true) (load_word d.layout l) (get_or state x.0 []) else [])
          by x at true =
              value_literals g.vars made.literal (constant true) (load_word d.layout l) (get_or state x.0 []) bit.literal true_of load_in.literals
              (cell_in x.0 x.1 at).literals
          by x at false = All-nil (All (IsOf g.vars))

      hold : (v : Valuation) → IsModel v g → Told v → satisfies v (clauses a l made.literal) ≡ true
      hold v model told =
          passes_flat_map (clause_true v) of_cell (enumerate_from 0 cells) (λ x i. by x (of_enumerated x cells i) (names x.1 a) refl)
        where
          by : (x : ℕ × Spot) → slice_get cells x.0 ≡ Some x.1 → (b : Bool) → names x.1 a ≡ b
              → satisfies v (if b then value_clauses made.literal (constant true) (load_word d.layout l) (get_or state x.0 []) else []) ≡ true
          by x at true is =
              equal_words v g made.literal (constant true) (load_word d.layout l) (get_or state x.0 []) bit.literal true_of load_in (cell_in x.0 x.1 at)
              (λ so _.
              let parts = and_parts (literal_true v ordered && literal_true v (read a)) (list_all (λ r. literal_true v (ends a r)) regions) (sym (bit.value v model) ∙ so) in
              let two = and_parts (literal_true v ordered) (literal_true v (read a)) parts.0 in
              (right v model.one told).taken a l x.0 x.1 among takes at is two.0 two.1
              (λ r i. all_pass (λ s. literal_true v (ends a s)) regions r parts.1 i))
          by x at false is = refl

      one_load : Extends Told f Told (with_load a f l)
      one_load =
          and_then Told Told Told f g (with_load a f l) (by_gates Told f g (one_in f more) (kept_on f more) bit.grown)
          (by_clauses Told g (clauses a l made.literal) there hold)

    loads_from : (xs : List (Placed Access)) → ((a : Placed Access) → Contains xs a → Contains (all_accesses symbolic) a) → (f : Formula) → h.vars ≤ f.vars
        → Extends Told f Told (fold (λ (k : Formula) (a : Placed Access). option_map_or (with_load a k) a.it.takes k) f xs)
    loads_from [] among f more = same Told f
    loads_from (a ∷ xs) among f more =
        and_then Told Told Told f next (fold (λ (k : Formula) (b : Placed Access). option_map_or (with_load b k) b.it.takes k) next xs) here
        (loads_from xs (λ b i. among b (in_back b a xs i)) next (let up = here.more in omega (arith, up, more)))
      where
        next : Formula
        next = option_map_or (with_load a f) a.it.takes f

        here : Extends Told f Told (option_map_or (with_load a f) a.it.takes f)
        here = by a.it.takes refl
          where
            by : (o : Option ℕ) → a.it.takes ≡ o → Extends Told f Told (option_map_or (with_load a f) o f)
            by None is = same Told f
            by (Some l) is = one_load f a l more (among a (in_front a xs)) is

    pub last_loads : Extends Told h Told (with_last_loads code paths symbolic nodes formula m d ordered state h)
    last_loads =
        loads_from (filter (is_outside code paths symbolic nodes formula m) (all_accesses symbolic))
        (λ a i. (of_filter (is_outside code paths symbolic nodes formula m) a (all_accesses symbolic) i).0) h (omega arith)
