-- The steps of a mutex's regions are over the variables of a draft's clauses and the cells.
use Rattle.std.proofs.Common.{◌≡◌, ℕ, ◌<◌, List, [], ◌∷◌, ◌++◌, ℤ, pos, inl, inr, refl, ap, sym, ◌∙◌, subst, arith, true, false, length, get_or, map}
use Rattle.std.specs.Prelude.{IsTrue}
use Rattle.std.specs.List.{All, Contains, filter_map, flat_map}
use Rattle.std.proofs.lemmas.List.{get_or-map}
use Rattle.std.proofs.lemmas.List.Elements.{All-get_or, All-map, Contains-append_cases}
use Rattle.std.proofs.lemmas.List.FromFn.{get_or-map-range_with_len, length-map-range_with_len}
use Rattle.order_cells.specs.sym_exec.path_walk.tc_code.Code.{Code}
use Rattle.order_cells.specs.sym_exec.path_walk.tc_code.Expr.{Expr, HasInts, names_slots}
use Rattle.order_cells.specs.sym_exec.path_walk.Paths.{Paths}
use Rattle.order_cells.specs.sym_exec.path_walk.declared.event.Region.{Region}
use Rattle.circuit_sizes.specs.sym_terms.declared.node.Node.{Node}
use Rattle.order_cells.specs.sym_exec.Executed.{Symbolic}
use Rattle.mutex_regions.specs.order_events.order_formula.declared.formula.Conjunct.{Conjunct}
use Rattle.mutex_regions.specs.order_events.lawful_order.Events.{Placed}
use Rattle.mutex_regions.specs.order_events.lawful_order.Whole.{IsExecutedBy}
use Rattle.mutex_regions.proofs.order_events.Lists.{of_filter_map, of_flat_map, of_map}
use Rattle.cnf_core.specs.Clauses.{Formula, Valuation}
use Rattle.bit_gates.specs.Folded.{constant}
use Rattle.bit_gates.specs.Laws.{IsOf}
use Rattle.bit_gates.proofs.Meaning.{constant_of}
use Rattle.circuit_sizes.specs.bit_ops.Laws.{IsOperand}
use Rattle.circuit_sizes.specs.bit_ops.bit_arith.Laws.{int_value}
use Rattle.circuit_sizes.specs.bit_ops.bit_arith.int_ops.Arith.{IsInt}
use Rattle.bit_order.specs.Layouts.{Layout, load_word}
use Rattle.circuit_sizes.specs.bit_terms.Laws.{IsIntNode}
use Rattle.circuit_sizes.proofs.bit_terms.Meaning.{constant_operand}
use Rattle.bit_blast.specs.Drafts.{Draft}
use Rattle.bit_blast.specs.Says.{DraftSays, IsDraftOver}
use Rattle.bit_blast.specs.Whole.{load_words}
use Rattle.bit_blast.proofs.Lists.{all_of}
use Rattle.mutex_regions.specs.order_events.order_formula.Worlds.{World}
use Rattle.mutex_regions.specs.read_write.Accesses.{all_accesses}
use Rattle.mutex_regions.proofs.read_write.Numbers.{access_of}
use Rattle.mutex_regions.specs.Functions.{Doing}
use Rattle.mutex_regions.specs.Regions.{regions_of}
use Rattle.mutex_regions.specs.States.{value_first}
use Rattle.mutex_regions.specs.Variables.{guarded}
use Rattle.mutex_regions.specs.declared.functions.Holding.{Holding}
use Rattle.mutex_regions.specs.declared.functions.Loaded.{Loaded}
use Rattle.mutex_regions.specs.declared.variables.Spot.{Spot}
use Rattle.mutex_regions.proofs.Setting.{start_int}
use Rattle.mutex_states.specs.States.{does, spots, start_word, step_of, steps}
use Rattle.mutex_states.specs.Steps.{AreSteps, Step, Tested, exprs_of}
use Rattle.mutex_states.proofs.Acting.{test_is}
use Rattle.mutex_states.proofs.Expressions.{IsDoneWell, IsOverCells, IsTaken, does_well, term_gives}
use Rattle.mutex_states.proofs.Ordered.{constant_int, of_get}
use Rattle.mutex_states.proofs.Short.{are_short}

-- the words of the loads
load_at : (y : Layout) (k : ℕ) → k < y.loads → get_or (load_words y) k [] ≡ load_word y k
load_at y k low = get_or-map-range_with_len (load_word y) 0 y.loads k k [] low (omega arith)

load_get : (d : Draft) (f : Formula) (k : ℕ) → IsDraftOver d f → k < d.layout.loads → IsOperand f (get_or (load_words d.layout) k [])
load_get d f k over low =
    All-get_or (IsOperand f) (load_words d.layout) k []
    (let long : length (load_words d.layout) ≡ d.layout.loads = length-map-range_with_len (load_word d.layout) 0 d.layout.loads in omega (arith, low, long)) over.loads

pub load_in : (d : Draft) (f : Formula) (k : ℕ) → IsDraftOver d f → k < d.layout.loads → IsOperand f (load_word d.layout k)
load_in d f k over low = subst (IsOperand f) (load_at d.layout k low) (load_get d f k over low)

-- a load has its value
pub load_said : (nodes : List Node) (formula : List Conjunct) (d : Draft) (w : World) (v : Valuation) (k : ℕ) → DraftSays nodes formula d w v → k < d.layout.loads
    → int_value v (get_or (load_words d.layout) k []) ≡ get_or w.loads k (pos 0)
load_said nodes formula d w v k says low =
    let long : length (load_words d.layout) ≡ d.layout.loads = length-map-range_with_len (load_word d.layout) 0 d.layout.loads in
    sym (get_or-map (int_value v) (load_words d.layout) k [] (pos 0) (omega (arith, low, long))) ∙ ap (λ zs. get_or zs k (pos 0)) says.loads

pub load_word_said : (nodes : List Node) (formula : List Conjunct) (d : Draft) (w : World) (v : Valuation) (k : ℕ) → DraftSays nodes formula d w v
    → k < d.layout.loads → int_value v (load_word d.layout k) ≡ get_or w.loads k (pos 0)
load_word_said nodes formula d w v k says low = ap (int_value v) (sym (load_at d.layout k low)) ∙ load_said nodes formula d w v k says low

module _ (code : Code) (paths : Paths) (symbolic : Symbolic) (nodes : List Node) (formula : List Conjunct) (m : ℕ) where
  abbrev cells_in : ℕ
  cells_in = length (spots code paths symbolic nodes formula m)

  abbrev steps_in : List Step
  steps_in = steps code paths symbolic nodes formula m

  abbrev step_in : Placed Region → Step
  step_in = step_of code paths symbolic nodes formula m

  abbrev doing : Placed Region → Doing
  doing = does code paths symbolic nodes formula m

  -- ---- expressions

  module _ (constants : All IsIntNode nodes) where
    record IsStepWell (s : Step) : Type 0 where
      held : length s.does.cells ≡ cells_in
      exprs : (e : Expr) → Contains (exprs_of s) e → IsOverCells cells_in e
      loads : (x : Loaded) → Contains s.does.loads x → IsTaken cells_in nodes constants (all_accesses symbolic) x.load

    well : (r : Placed Region) → IsDoneWell cells_in nodes constants (all_accesses symbolic) (doing r)
    well r = does_well cells_in nodes constants (all_accesses symbolic) (guarded paths symbolic m) r refl (are_short (regions_of paths m) (all_accesses symbolic)).0

    abbrev of_cells : Placed Region → List Expr
    of_cells r = filter_map (λ (x : Holding). x.value) (doing r).cells

    abbrev of_loads : Placed Region → List Expr
    of_loads r = filter_map (λ (x : Loaded). x.value) (doing r).loads

    abbrev of_tests : Placed Region → List Expr
    of_tests r = map (λ (x : Tested). x.test) (step_in r).tests

    tests_over : (r : Placed Region) (e : Expr) → Contains (of_tests r) e → IsOverCells cells_in e
    tests_over r e there =
        let o = of_map (λ (x : Tested). x.test) e (step_in r).tests there in
        let t = test_is code paths symbolic nodes formula m r o.0 o.1 in
        subst (IsOverCells cells_in) o.2 (term_gives cells_in nodes constants (doing r).loads (well r).loads 8 t.test.term o.0.test t.is)

    exprs_over : (r : Placed Region) (e : Expr) → Contains (of_cells r ++ (of_loads r ++ of_tests r)) e → IsOverCells cells_in e
    exprs_over r e there = elim (Contains-append_cases (of_cells r) (of_loads r ++ of_tests r) e there) [
      | inl cell ↦
          let o = of_filter_map (λ (x : Holding). x.value) e (doing r).cells cell in
          ((well r).held o.0 o.1).gives e o.2
      | inr rest ↦ elim (Contains-append_cases (of_loads r) (of_tests r) e rest) [
        | inl load ↦
            let o = of_filter_map (λ (x : Loaded). x.value) e (doing r).loads load in
            (well r).loads o.0 o.1 e o.2
        | inr test ↦ tests_over r e test
      ]
    ]

    step_well : (s : Step) → Contains steps_in s → IsStepWell s
    step_well s there =
        let o = of_map step_in s (regions_of paths m) there in
        subst IsStepWell o.2 (record { held = (well o.0).count; exprs = exprs_over o.0; loads = (well o.0).taken })

    pub taken_in : (executed : IsExecutedBy paths symbolic) (s : Step) (x : Loaded) → Contains steps_in s → Contains s.does.loads x → x.load < symbolic.loads
    taken_in executed s x p q =
        let t = (step_well s p).loads x q in executed.takes t.0.thread t.0.it x.load (access_of symbolic t.0 t.1) t.2

    over : (e : Expr) → Contains (flat_map exprs_of steps_in) e → IsOverCells cells_in e
    over e there = let o = of_flat_map exprs_of e steps_in there in (step_well o.0 o.1).exprs e o.2

    pub are_named : All (λ e. IsTrue (names_slots cells_in e)) (flat_map exprs_of steps_in)
    are_named = all_of (λ e. IsTrue (names_slots cells_in e)) (flat_map exprs_of steps_in) (λ e there. (over e there).named)

    pub are_steps : (d : Draft) (f : Formula) (ordered : ℤ) → IsExecutedBy paths symbolic → d.layout.loads ≡ symbolic.loads → IsDraftOver d f
        → IsOf f.vars ordered → AreSteps cells_in steps_in (load_words d.layout) d.roots ordered f
    are_steps d f ordered executed loads draft ordered_in = record {
      one = draft.one;
      ordered_in = ordered_in;
      loads_in = λ s x p q. load_get d f x.load draft (let inside = taken_in executed s x p q in omega (arith, inside, loads));
      roots_in = λ s x p q. of_get (IsOf f.vars) d.roots x.conjunct (constant false) draft.roots (constant_of f.vars false draft.one);
      held = λ s p. (step_well s p).held;
      named = are_named;
      ints = all_of HasInts (flat_map exprs_of steps_in) (λ e there. (over e there).numbers);
    }

  -- ---- the start

  module _ (w : World) (memory : All IsInt code.memory) where
    abbrev at_start : Spot → ℤ
    at_start = value_first code paths symbolic nodes w

    abbrev word_of : Spot → List ℤ
    word_of = start_word code paths symbolic nodes formula m

    pub start_words : (v : Valuation) (ss : List Spot) → v 1 ≡ true → map (int_value v) (map word_of ss) ≡ map at_start ss
    start_words v [] one = refl
    start_words v (s ∷ ss) one =
        ap (λ z. z ∷ map (int_value v) (map word_of ss)) (constant_int v (at_start s) one (start_int code s memory))
        ∙ ap (λ zs. at_start s ∷ zs) (start_words v ss one)

    pub start_ints : (ss : List Spot) → All IsInt (map at_start ss)
    start_ints ss = All-map IsInt at_start ss (all_of (λ s. IsInt (at_start s)) ss (λ s _. start_int code s memory))

    pub start_in : (f : Formula) (ss : List Spot) → 0 < f.vars → All (IsOperand f) (map word_of ss)
    start_in f ss one = All-map (IsOperand f) word_of ss (all_of (λ s. IsOperand f (word_of s)) ss (λ s _. constant_operand f (at_start s) one))
