-- What the parts of a mutex's states add.
use Rattle.std.proofs.Common.{◌≡◌, ℕ, suc, ◌+◌, ◌*◌, ◌≤◌, Bool, true, false, List, [], ◌∷◌, ◌++◌, ℤ, pos, neg_ℤ, Option, Some, None, refl, sym, ◌∙◌, subst, arith, length, map, get_or}
use Rattle.std.specs.Prelude.{◌&&◌, ◌==◌, filter, fold, if◌then◌else◌, nat_lt, sum_by}
use Rattle.std.specs.List.{All, Contains, enumerate_from, flat_map, range_with_len}
use Rattle.std.specs.Option.{option_map_or, option_to_list}
use Rattle.std.proofs.Math.Nat.{mul-le-mul}
use Rattle.std.proofs.lemmas.List.{length-append, length-map}
use Rattle.std.proofs.lemmas.List.Elements.{All-map}
use Rattle.std.proofs.lemmas.List.FromFn.{length-range_with_len}
use Rattle.std.proofs.lemmas.List.Sums.{sum_by-cons}
use Rattle.order_cells.specs.sym_exec.path_walk.tc_code.Code.{Code}
use Rattle.order_cells.specs.sym_exec.path_walk.tc_code.Expr.{Expr}
use Rattle.order_cells.specs.sym_exec.path_walk.Paths.{Paths}
use Rattle.order_cells.specs.sym_exec.path_walk.declared.event.Region.{Region}
use Rattle.circuit_sizes.specs.sym_terms.declared.node.Node.{Node}
use Rattle.order_cells.specs.sym_exec.Executed.{Symbolic}
use Rattle.order_cells.specs.sym_exec.declared.symbolic.Access.{Access}
use Rattle.order_cells.specs.sym_exec.tc_code.declared.cell.Cell.{Cell}
use Rattle.order_cells.specs.sym_exec.tc_code.declared.cell.Cell.TheVariants.{Fixed, Element}
use Rattle.mutex_regions.specs.order_events.order_formula.declared.formula.Conjunct.{Conjunct}
use Rattle.mutex_regions.specs.order_events.lawful_order.Cells.{value_at_start}
use Rattle.mutex_regions.specs.order_events.lawful_order.Events.{Placed, number_of}
use Rattle.cnf_core.specs.Clauses.{Formula}
use Rattle.bit_gates.specs.Folded.{IsLarger, Made, conjunction, constant, kept}
use Rattle.circuit_sizes.specs.bit_ops.bit_words.Words.{Walked, less_literal}
use Rattle.circuit_sizes.proofs.bit_ops.bit_words.Loops.{larger_more}
use Rattle.bit_order.specs.Layouts.{load_word, word_from}
use Rattle.bit_order.proofs.WordLaws.{length_word}
use Rattle.circuit_sizes.specs.bit_terms.Sizes.{terms_size}
use Rattle.circuit_sizes.specs.bit_terms.Terms.{Words, constant_word, term_words, word_at}
use Rattle.circuit_sizes.proofs.bit_terms.Meaning.{constant_operand}
use Rattle.bit_blast.specs.Drafts.{Draft}
use Rattle.bit_blast.specs.Reads.{value_clauses}
use Rattle.bit_blast.specs.Whole.{load_words}
use Rattle.bit_blast.proofs.Lists.{all_of}
use Rattle.mutex_regions.specs.read_write.Accesses.{all_accesses}
use Rattle.mutex_regions.specs.Functions.{is_closed}
use Rattle.mutex_regions.specs.InOrder.{must_keep}
use Rattle.mutex_regions.specs.Regions.{regions_of}
use Rattle.mutex_regions.specs.declared.functions.Holding.{Holding}
use Rattle.mutex_regions.specs.declared.functions.Loaded.{Loaded}
use Rattle.mutex_regions.specs.declared.variables.Spot.{Spot}
use Rattle.mutex_states.specs.InOrder.{access_literals, apart_literals, forward_literals, in_order_made, is_of_mutex, literals, read_literal, rise_literals, root, steps_before, used, uses, with_index}
use Rattle.mutex_states.specs.Ranks.{begins_before, excluding, exclusions, gates_made, least_literal, number_clauses, one_clauses, rank_gate, ranks_clauses, region_clauses as rank_clauses, rise, with_gate, with_rank, with_ranks}
use Rattle.mutex_states.specs.Sizes.{last_size, order_size, rank_size, ranks_size, region_size, shape_size, turn_size}
use Rattle.mutex_states.specs.States.{after_made, begins, ends_before, is_outside, last_load_clauses, names_spot, size, spots, start_word, step_of, steps as steps_of, with_last_load, with_last_loads, with_states_of}
use Rattle.mutex_states.specs.Steps.{State, Step, Tested, Turn, after_from, equal_clauses, has_shape, left_clauses, load_clauses, open_clauses, pool, ranked_among, region_clauses, shape_clauses, shaped_from, shapes, some_clause, term_of, test_clauses, turn_clauses, with_next, with_turn, with_turns}
use Rattle.mutex_states.proofs.Conjunctions.{with_next_literal}
use Rattle.circuit_sizes.specs.Small.{IsShort}
use Rattle.circuit_sizes.proofs.Gates.{conjunction_larger, fold_larger, larger_none, larger_up, less_larger}
use Rattle.circuit_sizes.proofs.Terms.{short_at, terms_small}
use Rattle.mutex_states.proofs.Larger.{clauses_larger, filter_enumerated, filter_few, flat_few, flat_part, flat_sum_enumerated, flat_twice, length_enumerated, option_few, times_le, value_few, value_few_first, wide_larger}
use Rattle.mutex_states.proofs.Walking.{walked_count}

-- lists that are made of numbers
range_few : {Y : Type 0} (f : ℕ → List Y) (m n : ℕ) → ((k : ℕ) → length (f k) ≤ m) → length (flat_map f (range_with_len 0 n)) ≤ n * m
range_few f m n few =
    subst (λ k. length (flat_map f (range_with_len 0 n)) ≤ k * m) (length-range_with_len 0 n) (flat_few f m (range_with_len 0 n) (λ k _. few k))

-- ---- ranks

module _ (count start : ℕ) (before : (first second : ℕ) → ℤ) where
  rise_few : (first least second : ℕ) → length (rise count start before first least second) ≤ 1
  rise_few first least second = by (first == second)
    where
      by : (b : Bool) → length (if b then [] else (neg_ℤ (before first second) ∷ neg_ℤ (least_literal count start first least) ∷ least_literal count start second (suc least) ∷ []) ∷ []) ≤ 1
      by true = omega arith
      by false = omega arith

  number_few : (region least : ℕ) → length (number_clauses count start before region least) ≤ count + 1
  number_few region least =
      let rises : List (List ℤ) = flat_map (rise count start before region least) (range_with_len 0 count) in
      let few : length rises ≤ count * 1 = range_few (rise count start before region least) 1 count (rise_few region least) in
      let all : length (number_clauses count start before region least) ≡ suc (length rises) = refl in
      omega (arith, few, all)

  all_few : length (ranks_clauses count start before) ≤ ranks_size count
  all_few =
      range_few (rank_clauses count start before) (count * (count + 1)) count
      (λ region. range_few (number_clauses count start before region) (count + 1) count (number_few region))

square_few : (count : ℕ) → count * count ≤ ranks_size count
square_few count =
    let one : count * 1 ≤ count * (count + 1) = mul-le-mul {n₁ = count} {m₁ = 1} {n₂ = count} {m₂ = count + 1} (omega arith) (omega arith) in
    let wide : count ≤ count * (count + 1) = omega (arith, one) in
    mul-le-mul {n₁ = count} {m₁ = count} {n₂ = count} {m₂ = count * (count + 1)} (omega arith) wide

pub ranks_larger : (count : ℕ) (before : (first second : ℕ) → ℤ) (f : Formula) → IsLarger (ranks_size count) f (with_ranks count before f)
ranks_larger count before f =
    wide_larger (ranks_size count) (count * count) f (ranks_clauses count (suc f.vars) before) (square_few count) (all_few count (suc f.vars) before)

exclusions_few : (ls : List ℤ) → length (exclusions ls) ≤ length ls * length ls
exclusions_few [] = omega arith
exclusions_few (l ∷ ls) =
    let n : ℕ = length ls in
    let both : length (exclusions (l ∷ ls)) ≡ length (excluding l ls) + length (exclusions ls) = length-append (excluding l ls) (exclusions ls) in
    let own : length (excluding l ls) ≡ n = length-map ls (λ k. neg_ℤ l ∷ neg_ℤ k ∷ []) in
    let rest : length (exclusions ls) ≤ n * n = exclusions_few ls in
    let next : n * suc n ≡ n * n + n = omega arith in
    let square : length (l ∷ ls) * length (l ∷ ls) ≡ n * suc n + suc n = omega arith in
    omega (arith, both, own, rest, next, square)

module _ (count start rank : ℕ) (f : Formula) where
  abbrev gates : Walked Formula
  gates = gates_made count start rank f

  gates_count : length gates.word ≡ count
  gates_count = walked_count (rank_gate count start rank) (record { state = f; word = [] }) (range_with_len 0 count) ∙ omega (arith, length-range_with_len 0 count)

  gates_larger : IsLarger (count * 3) f gates.state
  gates_larger =
      subst (λ n. IsLarger (n * 3) f gates.state) (length-range_with_len 0 count)
      (fold_larger (λ (m : Walked Formula). m.state) (with_gate count start rank) 3 (record { state = f; word = [] }) (range_with_len 0 count)
      (λ m region. conjunction_larger m.state (least_literal count start region rank) (neg_ℤ (least_literal count start region (suc rank)))))

  pub rank_larger : IsLarger (rank_size count) f (with_rank count start rank f).state
  rank_larger =
      let few : length (exclusions gates.word) ≤ count * count =
      subst (λ n. length (exclusions gates.word) ≤ n * n) gates_count (exclusions_few gates.word) in
      let all : length (one_clauses gates.word) ≡ suc (length (exclusions gates.word)) = refl in
      larger_more (count * 3) (count * count + 1) (rank_size count) f gates.state (with_rank count start rank f).state gates_larger
      (clauses_larger (count * count + 1) gates.state (one_clauses gates.word) (omega (arith, few, all))) (omega arith)

-- ---- the literal that all is in order

module _ (paths : Paths) (symbolic : Symbolic) (formula : List Conjunct) (d : Draft) (m : ℕ) where
  abbrev regions : List (Placed Region)
  regions = regions_of paths m

  abbrev own : Placed Region → List (Placed Access)
  own = uses paths symbolic m

  abbrev step : (t k u j : ℕ) → ℤ
  step = steps_before paths symbolic formula d

  abbrev conjuncts : ℕ
  conjuncts = length (filter (λ (c : Conjunct). is_of_mutex m c.group) formula)

  abbrev all_used : ℕ
  all_used = length (used paths symbolic m)

  apart_few : length (apart_literals paths symbolic formula d m) ≡ conjuncts
  apart_few =
      length-map (filter (λ (p : ℕ × Conjunct). is_of_mutex m p.1.group) (enumerate_from 0 formula)) (λ (p : ℕ × Conjunct). root paths symbolic formula d p.0)
      ∙ filter_enumerated (λ (c : Conjunct). is_of_mutex m c.group) 0 formula

  forward_few : length (forward_literals paths symbolic formula d m) ≤ length regions * 1
  forward_few =
      flat_few (λ (r : Placed Region). map (λ k. step r.thread r.it.«from» r.thread k) (option_to_list r.it.to)) 1 regions
      (λ r _. subst (λ n. n ≤ 1) (sym (length-map (option_to_list r.it.to) (λ k. step r.thread r.it.«from» r.thread k))) (option_few r.it.to))

  rise_count : length (rise_literals paths symbolic formula d m) ≤ length regions * length regions
  rise_count =
      flat_few
      (λ (r : Placed Region). map (λ (s : Placed Region). step r.thread r.it.«from» s.thread s.it.«from»)
      (filter (λ (s : Placed Region). r.thread == s.thread && nat_lt r.it.«from» s.it.«from») regions)) (length regions) regions
      (λ r _. subst (λ n. n ≤ length regions)
      (sym (length-map (filter (λ (s : Placed Region). r.thread == s.thread && nat_lt r.it.«from» s.it.«from») regions)
      (λ (s : Placed Region). step r.thread r.it.«from» s.thread s.it.«from»)))
      (filter_few (λ (s : Placed Region). r.thread == s.thread && nat_lt r.it.«from» s.it.«from») regions))

  access_few : (r : Placed Region) (a : Placed Access) → Contains regions r
      → length (access_literals paths symbolic formula d m r a) ≤ 3 + all_used
  access_few r a among =
      let ends : List ℤ = map (λ k. step a.thread a.it.step r.thread k) (option_to_list r.it.to) in
      let reads : List ℤ = map (λ _. read_literal paths symbolic formula d a) (option_to_list a.it.takes) in
      let later : List (Placed Access) = filter (λ (b : Placed Access). nat_lt a.it.step b.it.step && must_keep a.it b.it) (own r) in
      let orders : List ℤ = map (λ (b : Placed Access). step a.thread a.it.step b.thread b.it.step) later in
      let all : length (access_literals paths symbolic formula d m r a) ≡ suc (length (ends ++ (reads ++ orders))) = refl in
      let one : length (ends ++ (reads ++ orders)) ≡ length ends + length (reads ++ orders) = length-append ends (reads ++ orders) in
      let two : length (reads ++ orders) ≡ length reads + length orders = length-append reads orders in
      let of_ends : length ends ≡ length (option_to_list r.it.to) = length-map (option_to_list r.it.to) (λ k. step a.thread a.it.step r.thread k) in
      let of_reads : length reads ≡ length (option_to_list a.it.takes) =
      length-map (option_to_list a.it.takes) (λ _. read_literal paths symbolic formula d a) in
      let of_orders : length orders ≡ length later = length-map later (λ (b : Placed Access). step a.thread a.it.step b.thread b.it.step) in
      let fewer : length later ≤ length (own r) = filter_few (λ (b : Placed Access). nat_lt a.it.step b.it.step && must_keep a.it b.it) (own r) in
      let part : length (own r) ≤ all_used = flat_part own regions r among in
      omega (arith, all, one, two, of_ends, of_reads, of_orders, fewer, part, option_few r.it.to, option_few a.it.takes)

  literals_few : length (literals paths symbolic formula d m) ≤ conjuncts + (length regions + (length regions * length regions + all_used * (3 + all_used)))
  literals_few =
      let apart : List ℤ = apart_literals paths symbolic formula d m in
      let forward : List ℤ = forward_literals paths symbolic formula d m in
      let rise : List ℤ = rise_literals paths symbolic formula d m in
      let accesses : List ℤ = flat_map (λ r. flat_map (access_literals paths symbolic formula d m r) (own r)) regions in
      let all : length (literals paths symbolic formula d m) ≡ length apart + length (forward ++ (rise ++ accesses)) =
      length-append apart (forward ++ (rise ++ accesses)) in
      let two : length (forward ++ (rise ++ accesses)) ≡ length forward + length (rise ++ accesses) = length-append forward (rise ++ accesses) in
      let three : length (rise ++ accesses) ≡ length rise + length accesses = length-append rise accesses in
      let of_apart : length apart ≡ conjuncts = apart_few in
      let of_forward : length forward ≤ length regions * 1 = forward_few in
      let of_rise : length rise ≤ length regions * length regions = rise_count in
      let of_accesses : length accesses ≤ all_used * (3 + all_used) =
      flat_twice own (access_literals paths symbolic formula d m) (3 + all_used) regions access_few in
      let n : ℕ = length regions * length regions in
      let k : ℕ = all_used * (3 + all_used) in
      let rises : length rise ≤ n = of_rise in
      let used_all : length accesses ≤ k = of_accesses in
      omega (arith, all, two, three, of_apart, of_forward, rises, used_all)

  index_larger : (all : Made) (c : Cell ℕ) → IsLarger 387 all.formula (with_index paths symbolic formula d m all c).formula
  index_larger all (Fixed c) = larger_none 387 all.formula
  index_larger all (Element g n i) =
      let ys : List ℤ = constant_word (pos n) in
      let below : Made = less_literal (kept all.formula (constant false)) (word_at d.words i) ys in
      let g : Formula = record { vars = 1; clauses = [] } in
      let width : length ys ≡ 32 = (constant_operand g (pos n) (omega arith)).width in
      larger_more 384 3 387 all.formula below.formula (conjunction below.formula all.literal below.literal).formula
      (subst (λ k. IsLarger (k * 12) all.formula below.formula) width (less_larger (kept all.formula (constant false)) (word_at d.words i) ys))
      (conjunction_larger below.formula all.literal below.literal) refl

  pub order_larger : (f : Formula) → IsLarger (order_size conjuncts (length regions) all_used) f (in_order_made paths symbolic formula d m f).formula
  order_larger f =
      let ls : List ℤ = literals paths symbolic formula d m in
      let start : Made = kept f (constant true) in
      let first : Made = fold with_next_literal start ls in
      let n : ℕ = conjuncts + (length regions + (length regions * length regions + all_used * (3 + all_used))) in
      let last : Made = in_order_made paths symbolic formula d m f in
      larger_more (n * 3) (all_used * 387) (order_size conjuncts (length regions) all_used) f first.formula last.formula
      (larger_up (length ls * 3) (n * 3) f first.formula (times_le (length ls) n 3 literals_few)
      (fold_larger (λ (k : Made). k.formula) with_next_literal 3 start ls (λ k l. conjunction_larger k.formula k.literal l)))
      (fold_larger (λ (k : Made). k.formula) (λ (k : Made) (a : Placed Access). with_index paths symbolic formula d m k a.it.cell) 387 first (used paths symbolic m)
      (λ k a. index_larger k a.it.cell)) refl

-- ---- the state after a rank

module _ (cells : ℕ) (steps : List Step) (loads : List (List ℤ)) (roots : List ℤ) (t : Turn)
    (wide : (term : ℕ) → length (word_at t.words term) ≤ 32) where
  value_wide : (holds taken : ℤ) (xs : List ℤ) (term : ℕ) → length (value_clauses holds taken xs (word_at t.words term)) ≤ 64
  value_wide holds taken xs term = omega (arith, value_few holds taken xs (word_at t.words term), wide term)

  among_few : (p : Step → Bool) → length (ranked_among cells steps loads roots t p) ≤ length steps
  among_few p =
      let passing : List (ℕ × Step) = filter (λ (x : ℕ × Step). p x.1) (enumerate_from 0 steps) in
      let all : length (ranked_among cells steps loads roots t p) ≡ length passing =
      length-map passing (λ (x : ℕ × Step). get_or t.ranked x.0 (constant false)) in
      let few : length passing ≤ length (enumerate_from 0 steps) = filter_few (λ (x : ℕ × Step). p x.1) (enumerate_from 0 steps) in
      omega (arith, all, few, length_enumerated 0 steps)

  left_few : (shape : List ℕ) (shaped : ℤ) → length (left_clauses cells steps loads roots t shape shaped) ≤ length shape * 64
  left_few shape shaped =
      subst (λ n. length (left_clauses cells steps loads roots t shape shaped) ≤ n * 64) (length_enumerated 0 shape)
      (flat_few (λ (x : ℕ × ℕ). value_clauses shaped (constant true) (get_or t.after x.0 []) (word_at t.words x.1)) 64 (enumerate_from 0 shape)
      (λ x _. value_wide shaped (constant true) (get_or t.after x.0 []) x.1))

  shape_few : (k : ℕ) (shape : List ℕ)
      → length (let shaped = get_or t.shaped k (constant false) in
      shape_clauses cells steps loads roots t shape shaped ++ left_clauses cells steps loads roots t shape shaped) ≤ shape_size (length steps) shape
  shape_few k shape =
      let shaped : ℤ = get_or t.shaped k (constant false) in
      let ranked : List ℤ = ranked_among cells steps loads roots t (has_shape cells steps shape) in
      let rules : List (List ℤ) = shape_clauses cells steps loads roots t shape shaped in
      let left : List (List ℤ) = left_clauses cells steps loads roots t shape shaped in
      let both : length (rules ++ left) ≡ length rules + length left = length-append rules left in
      let own : length rules ≡ suc (suc (length (map (λ l. neg_ℤ t.ordered ∷ neg_ℤ l ∷ shaped ∷ []) ranked))) = refl in
      let each : length (map (λ l. neg_ℤ t.ordered ∷ neg_ℤ l ∷ shaped ∷ []) ranked) ≡ length ranked =
      length-map ranked (λ l. neg_ℤ t.ordered ∷ neg_ℤ l ∷ shaped ∷ []) in
      let few : length ranked ≤ length steps = among_few (has_shape cells steps shape) in
      let words : length left ≤ length shape * 64 = left_few shape shaped in
      omega (arith, both, own, each, few, words)

  equal_few : (region : ℕ) (word : List ℤ) (e : Option Expr) → length (equal_clauses cells steps loads roots t region word e) ≤ 64
  equal_few region word None = omega arith
  equal_few region word (Some e) = value_wide t.ordered (get_or t.ranked region (constant false)) word (term_of cells steps e)

  open_few : (region : ℕ) (s : Step) → length (open_clauses cells steps loads roots t region s) ≤ (if is_closed s.does then 0 else length s.does.cells * 64)
  open_few region s = by (is_closed s.does)
    where
      all : List (List ℤ)
      all = flat_map (λ (x : ℕ × Holding). equal_clauses cells steps loads roots t region (get_or t.after x.0 []) x.1.value) (enumerate_from 0 s.does.cells)

      few : length all ≤ length s.does.cells * 64
      few =
          subst (λ n. length all ≤ n * 64) (length_enumerated 0 s.does.cells)
          (flat_few (λ (x : ℕ × Holding). equal_clauses cells steps loads roots t region (get_or t.after x.0 []) x.1.value) 64 (enumerate_from 0 s.does.cells)
          (λ x _. equal_few region (get_or t.after x.0 []) x.1.value))

      by : (b : Bool) → length (if b then [] else all) ≤ (if b then 0 else length s.does.cells * 64)
      by true = omega arith
      by false = few

  test_few : (region : ℕ) (x : Tested) → length (test_clauses cells steps loads roots t region x) ≤ 32
  test_few region x = by x.wanted
    where
      word : List ℤ
      word = word_at t.words (term_of cells steps x.test)

      unless : List ℤ
      unless = neg_ℤ t.ordered ∷ neg_ℤ (get_or t.ranked region (constant false)) ∷ neg_ℤ (get_or roots x.conjunct (constant false)) ∷ []

      by : (b : Bool) → length (if b then (unless ++ word) ∷ [] else map (λ l. unless ++ neg_ℤ l ∷ []) word) ≤ 32
      by true = omega arith
      by false = omega (arith, length-map word (λ l. unless ++ neg_ℤ l ∷ []), wide (term_of cells steps x.test))

  region_few : (region : ℕ) (s : Step) → length (region_clauses cells steps loads roots t region s) ≤ region_size s
  region_few region s =
      let opens : List (List ℤ) = open_clauses cells steps loads roots t region s in
      let takes : List (List ℤ) = load_clauses cells steps loads roots t region s in
      let tests : List (List ℤ) = flat_map (test_clauses cells steps loads roots t region) s.tests in
      let all : length (region_clauses cells steps loads roots t region s) ≡ length opens + length (takes ++ tests) = length-append opens (takes ++ tests) in
      let two : length (takes ++ tests) ≡ length takes + length tests = length-append takes tests in
      let of_open : length opens ≤ (if is_closed s.does then 0 else length s.does.cells * 64) = open_few region s in
      let of_takes : length takes ≤ length s.does.loads * 64 =
      flat_few (λ (x : Loaded). equal_clauses cells steps loads roots t region (get_or loads x.load []) x.value) 64 s.does.loads
      (λ x _. equal_few region (get_or loads x.load []) x.value) in
      let of_tests : length tests ≤ length s.tests * 32 = flat_few (test_clauses cells steps loads roots t region) 32 s.tests (λ x _. test_few region x) in
      omega (arith, all, two, of_open, of_takes, of_tests)

  pub turn_few : length (turn_clauses cells steps loads roots t)
      ≤ 1 + (sum_by (shape_size (length steps)) (shapes cells steps) + sum_by region_size steps)
  turn_few =
      let of_shapes : List (List ℤ) =
      flat_map
      (λ (x : ℕ × List ℕ). let shaped = get_or t.shaped x.0 (constant false) in
      shape_clauses cells steps loads roots t x.1 shaped ++ left_clauses cells steps loads roots t x.1 shaped) (enumerate_from 0 (shapes cells steps)) in
      let of_steps : List (List ℤ) = flat_map (λ (x : ℕ × Step). region_clauses cells steps loads roots t x.0 x.1) (enumerate_from 0 steps) in
      let one : List ℤ = some_clause cells steps loads roots t in
      let all : length (turn_clauses cells steps loads roots t) ≡ length of_shapes + length (one ∷ of_steps) = length-append of_shapes (one ∷ of_steps) in
      let shapes_few : length of_shapes ≤ sum_by (shape_size (length steps)) (shapes cells steps) =
      flat_sum_enumerated
      (λ (k : ℕ) (shape : List ℕ). let shaped = get_or t.shaped k (constant false) in
      shape_clauses cells steps loads roots t shape shaped ++ left_clauses cells steps loads roots t shape shaped) (shape_size (length steps)) 0
      (shapes cells steps) shape_few in
      let steps_few : length of_steps ≤ sum_by region_size steps =
      flat_sum_enumerated (region_clauses cells steps loads roots t) region_size 0 steps region_few in
      omega (arith, all, shapes_few, steps_few)

pub at_least : {X : Type 0} (g : X → ℕ) (xs : List X) → ((x : X) → 1 ≤ g x) → length xs ≤ sum_by g xs
at_least g [] more = omega arith
at_least g (x ∷ xs) more = omega (arith, sum_by-cons g x xs, more x, at_least g xs more)

next_times : (k n : ℕ) → suc k * n ≡ n + k * n
next_times k n = omega arith

-- the words of a state
pub after_short : (n cells : ℕ) → All IsShort (after_from n cells)
after_short n cells =
    All-map IsShort (λ k. word_from (suc n + 32 * k) 32) (range_with_len 0 cells)
    (all_of (λ k. IsShort (word_from (suc n + 32 * k) 32)) (range_with_len 0 cells) (λ k _. omega (arith, length_word (suc n + 32 * k) 32)))

module _ (cells : ℕ) (steps : List Step) (loads : List (List ℤ)) (roots : List ℤ) (ordered : ℤ) where
  pub turn_larger : (ranked : List ℤ) (before : State) → All IsShort before.words
      → IsLarger (turn_size cells steps) before.formula (with_turn cells steps loads roots ordered ranked before).formula
  turn_larger ranked before short =
      let small = terms_small (pool cells steps) before.words before.formula short in
      let w : Words = term_words (pool cells steps) before.words before.formula in
      let n : ℕ = w.formula.vars in
      let many : ℕ = length (shapes cells steps) in
      let t : Turn = record { ordered = ordered; ranked = ranked; shaped = shaped_from n many; words = w.words; after = after_from (n + many) cells } in
      let rest : ℕ = 32 * cells + 1 + (sum_by (shape_size (length steps)) (shapes cells steps) + sum_by region_size steps) in
      larger_more (terms_size (pool cells steps)) rest (turn_size cells steps) before.formula w.formula
      (with_turn cells steps loads roots ordered ranked before).formula small.larger
      (wide_larger rest (many + 32 * cells) w.formula (turn_clauses cells steps loads roots t)
      (omega (arith, at_least (shape_size (length steps)) (shapes cells steps) (λ shape. omega arith)))
      (omega (arith, turn_few cells steps loads roots t (λ term. short_at w.words term small.short)))) refl

  -- the states after all ranks
  module _ (start : ℕ) where
    abbrev next : State → ℕ → State
    next x rank = with_next cells steps loads roots ordered start x rank

    abbrev each : ℕ
    each = rank_size (length steps) + turn_size cells steps

    next_larger : (x : State) (rank : ℕ) → All IsShort x.words → IsLarger each x.formula (next x rank).formula
    next_larger x rank short =
        let r : Walked Formula = with_rank (length steps) start rank x.formula in
        larger_more (rank_size (length steps)) (turn_size cells steps) each x.formula r.state (next x rank).formula
        (rank_larger (length steps) start rank x.formula) (turn_larger r.word (record { formula = r.state; words = x.words }) short) refl

    some_turns : (x : State) (ranks : List ℕ) → All IsShort x.words → IsLarger (length ranks * each) x.formula (fold next x ranks).formula
    some_turns x [] short = (omega arith, omega arith, omega arith)
    some_turns x (rank ∷ ranks) short =
        let y : State = next x rank in
        let r : Walked Formula = with_rank (length steps) start rank x.formula in
        let n : ℕ = (term_words (pool cells steps) x.words r.state).formula.vars + length (shapes cells steps) in
        larger_more each (length ranks * each) (length (rank ∷ ranks) * each) x.formula y.formula (fold next y ranks).formula (next_larger x rank short)
        (some_turns y ranks (after_short n cells)) (next_times (length ranks) each)

    pub turns_larger : (x : State) → All IsShort x.words
        → IsLarger (length steps * each) x.formula (with_turns cells steps loads roots ordered start x).formula
    turns_larger x short =
        subst (λ n. IsLarger (n * each) x.formula (with_turns cells steps loads roots ordered start x).formula) (length-range_with_len 0 (length steps))
        (some_turns x (range_with_len 0 (length steps)) short)

-- ---- the loads after all regions

module _ (code : Code) (paths : Paths) (symbolic : Symbolic) (nodes : List Node) (formula : List Conjunct) (m : ℕ) (d : Draft) (ordered : ℤ)
    (state : List (List ℤ)) where
  abbrev all_spots : List Spot
  all_spots = spots code paths symbolic nodes formula m

  last_few : (a : Placed Access) (load : ℕ) (after : ℤ) → length (last_load_clauses code paths symbolic nodes formula m d ordered state a load after) ≤ length all_spots * 64
  last_few a load after =
      subst (λ n. length (last_load_clauses code paths symbolic nodes formula m d ordered state a load after) ≤ n * 64) (length_enumerated 0 all_spots)
      (flat_few one 64 (enumerate_from 0 all_spots) (λ x _. few x))
    where
      one : ℕ × Spot → List (List ℤ)
      one x =
          if names_spot code paths symbolic nodes formula m x.1 a.it.cell
          then value_clauses after (constant true) (load_word d.layout load) (get_or state x.0 []) else []

      few : (x : ℕ × Spot) → length (one x) ≤ 64
      few x = by (names_spot code paths symbolic nodes formula m x.1 a.it.cell)
        where
          all : List (List ℤ)
          all = value_clauses after (constant true) (load_word d.layout load) (get_or state x.0 [])

          by : (b : Bool) → length (if b then all else []) ≤ 64
          by true = omega (
            arith,
            value_few_first after (constant true) (load_word d.layout load) (get_or state x.0 []),
            length_word (2 + 8 * d.layout.order.events + 32 * load) 32,
          )
          by false = omega arith

  after_larger : (f : Formula) (a : Placed Access)
      → IsLarger ((length (regions_of paths m) + 1) * 3) f (after_made code paths symbolic nodes formula m d ordered state f a).formula
  after_larger f a =
      let first : Made = conjunction f ordered (read_literal paths symbolic formula d a) in
      larger_more 3 (length (regions_of paths m) * 3) ((length (regions_of paths m) + 1) * 3) f first.formula
      (after_made code paths symbolic nodes formula m d ordered state f a).formula (conjunction_larger f ordered (read_literal paths symbolic formula d a))
      (fold_larger (λ (k : Made). k.formula)
      (λ (k : Made) (r : Placed Region). conjunction k.formula k.literal (ends_before code paths symbolic nodes formula m d ordered state a r)) 3 first
      (regions_of paths m)
      (λ k r. conjunction_larger k.formula k.literal (ends_before code paths symbolic nodes formula m d ordered state a r))) (omega arith)

  pub last_load_larger : (f : Formula) (a : Placed Access) (load : ℕ)
      → IsLarger ((length (regions_of paths m) + 1) * 3 + length all_spots * 64) f
      (with_last_load code paths symbolic nodes formula m d ordered state a f load)
  last_load_larger f a load =
      let after : Made = after_made code paths symbolic nodes formula m d ordered state f a in
      larger_more ((length (regions_of paths m) + 1) * 3) (length all_spots * 64) ((length (regions_of paths m) + 1) * 3 + length all_spots * 64) f after.formula
      (with_last_load code paths symbolic nodes formula m d ordered state a f load) (after_larger f a)
      (clauses_larger (length all_spots * 64) after.formula (last_load_clauses code paths symbolic nodes formula m d ordered state a load after.literal)
      (last_few a load after.literal)) refl

  abbrev one_load : ℕ
  one_load = (length (regions_of paths m) + 1) * 3 + length all_spots * 64

  load_larger : (f : Formula) (a : Placed Access)
      → IsLarger one_load f (option_map_or (with_last_load code paths symbolic nodes formula m d ordered state a f) a.it.takes f)
  load_larger f a = by a.it.takes
    where
      by : (o : Option ℕ) → IsLarger one_load f (option_map_or (with_last_load code paths symbolic nodes formula m d ordered state a f) o f)
      by None = larger_none one_load f
      by (Some load) = last_load_larger f a load

  pub last_loads_larger : (f : Formula)
      → IsLarger (last_size (length (regions_of paths m)) (length all_spots) (length (all_accesses symbolic))) f
      (with_last_loads code paths symbolic nodes formula m d ordered state f)
  last_loads_larger f =
      let outside : List (Placed Access) = filter (is_outside code paths symbolic nodes formula m) (all_accesses symbolic) in
      larger_up (length outside * one_load) (last_size (length (regions_of paths m)) (length all_spots) (length (all_accesses symbolic))) f
      (with_last_loads code paths symbolic nodes formula m d ordered state f)
      (times_le (length outside) (length (all_accesses symbolic)) one_load
      (filter_few (is_outside code paths symbolic nodes formula m) (all_accesses symbolic)))
      (fold_larger (λ (g : Formula). g)
      (λ (g : Formula) (a : Placed Access). option_map_or (with_last_load code paths symbolic nodes formula m d ordered state a g) a.it.takes g) one_load f outside
      load_larger)

-- ---- a mutex

module _ (code : Code) (paths : Paths) (symbolic : Symbolic) (nodes : List Node) (formula : List Conjunct) (m : ℕ) (d : Draft) where
  abbrev own_steps : List Step
  own_steps = steps_of code paths symbolic nodes formula m

  abbrev own_spots : List Spot
  own_spots = spots code paths symbolic nodes formula m

  abbrev count : ℕ
  count = length own_steps

  abbrev accesses_used : ℕ
  accesses_used = length (used paths symbolic m)

  same_count : length (regions_of paths m) ≡ count
  same_count = sym (length-map (regions_of paths m) (step_of code paths symbolic nodes formula m))

  begins_count : length (begins code paths symbolic nodes formula m) ≡ count
  begins_count = length-map (regions_of paths m) (λ (r : Placed Region). number_of paths r.thread r.it.«from») ∙ same_count

  start_short : All IsShort (map (start_word code paths symbolic nodes formula m) own_spots)
  start_short =
      All-map IsShort (start_word code paths symbolic nodes formula m) own_spots
      (all_of (λ s. IsShort (start_word code paths symbolic nodes formula m s)) own_spots (λ s _. word_short s))
    where
      word_short : (s : Spot) → IsShort (start_word code paths symbolic nodes formula m s)
      word_short s =
          let g : Formula = record { vars = 1; clauses = [] } in
          let width = (constant_operand g (if s.variable.is_array then pos 0 else value_at_start code (Fixed s.variable.first)) (omega arith)).width in
          omega (arith, width)

  pub states_larger : IsLarger (size code paths symbolic nodes formula m) d.clauses (with_states_of code paths symbolic nodes formula m d).clauses
  states_larger =
      let cells : ℕ = length own_spots in
      let conjuncts : ℕ = length (filter (λ (c : Conjunct). is_of_mutex m c.group) formula) in
      let ordered : Made = in_order_made paths symbolic formula d m d.clauses in
      let many : ℕ = length (begins code paths symbolic nodes formula m) in
      let before : ℕ → ℕ → ℤ = begins_before d.layout (begins code paths symbolic nodes formula m) in
      let ranked : Formula = with_ranks many before ordered.formula in
      let first : State = record { formula = ranked; words = map (start_word code paths symbolic nodes formula m) own_spots } in
      let last : State = with_turns cells own_steps (load_words d.layout) d.roots ordered.literal (suc ordered.formula.vars) first in
      let all : Formula = (with_states_of code paths symbolic nodes formula m d).clauses in
      let each : ℕ = rank_size count + turn_size cells own_steps in
      let loads_size : ℕ = last_size count cells (length (all_accesses symbolic)) in
      let of_order : IsLarger (order_size conjuncts count accesses_used) d.clauses ordered.formula =
      subst (λ n. IsLarger (order_size conjuncts n accesses_used) d.clauses ordered.formula) same_count (order_larger paths symbolic formula d m d.clauses) in
      let of_ranks : IsLarger (ranks_size count) ordered.formula ranked =
      subst (λ n. IsLarger (ranks_size n) ordered.formula ranked) begins_count (ranks_larger many before ordered.formula) in
      let of_turns : IsLarger (count * each) ranked last.formula =
      turns_larger cells own_steps (load_words d.layout) d.roots ordered.literal (suc ordered.formula.vars) first start_short in
      let of_loads : IsLarger loads_size last.formula all =
      subst (λ n. IsLarger (last_size n cells (length (all_accesses symbolic))) last.formula all) same_count
      (last_loads_larger code paths symbolic nodes formula m d ordered.literal last.words last.formula) in
      larger_more (order_size conjuncts count accesses_used + ranks_size count) (count * each + loads_size) (size code paths symbolic nodes formula m)
      d.clauses ranked all
      (larger_more (order_size conjuncts count accesses_used) (ranks_size count) (order_size conjuncts count accesses_used + ranks_size count) d.clauses
      ordered.formula ranked of_order of_ranks refl)
      (larger_more (count * each) loads_size (count * each + loads_size) ranked last.formula all of_turns of_loads refl) refl
