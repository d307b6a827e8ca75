-- Where the literal that all is in order is true, all is.
use Rattle.std.proofs.Common.{◌≡◌, ℕ, zero, suc, ◌<◌, ◌≤◌, ◌^◌, List, [], ◌∷◌, ◌++◌, ℤ, pos, Option, Some, None, refl, ap, sym, ◌∙◌, subst, arith, Bool, true, false, ◌&&◌, ◌==◌, length, get_or, map}
use Rattle.std.specs.Prelude.{IsSome, filter, fold, if◌then◌else◌, int_le, int_lt, nat_le, nat_lt}
use Rattle.std.specs.Int.{cast_signed, cast_unsigned, w32}
use Rattle.std.specs.List.{All, Contains, enumerate_from, flat_map, list_all}
use Rattle.std.specs.Option.{option_to_list}
use Rattle.std.proofs.lemmas.Bool.{and_from, and_parts, eq-eqb, false≢true, le-leb, lt-ltb, ltb-true}
use Rattle.std.proofs.lemmas.Int.{ints, of_z-to_z}
use Rattle.std.proofs.lemmas.List.Elements.{All-append, All-cons, All-head, All-map, All-nil, All-tail, Contains-append_left, Contains-append_right}
use Rattle.order_cells.specs.sym_exec.path_walk.tc_code.Code.{Code}
use Rattle.order_cells.specs.sym_exec.path_walk.Paths.{Paths}
use Rattle.order_cells.specs.sym_exec.path_walk.declared.event.Region.{Region}
use Rattle.circuit_sizes.specs.sym_terms.Values.{value_of}
use Rattle.circuit_sizes.specs.sym_terms.declared.node.Node.{Node}
use Rattle.circuit_sizes.specs.sym_terms.declared.node.Node.TheVariants.{Constant}
use Rattle.order_cells.specs.sym_exec.Executed.{Symbolic}
use Rattle.order_cells.specs.sym_exec.declared.symbolic.Access.{Access}
use Rattle.order_cells.specs.sym_exec.tc_code.declared.cell.Cell.{Cell}
use Rattle.order_cells.specs.sym_exec.tc_code.declared.cell.Cell.TheVariants.{Fixed, Element}
use Rattle.mutex_regions.specs.order_events.order_formula.declared.formula.Conjunct.{Conjunct}
use Rattle.mutex_regions.specs.order_events.order_formula.Worlds.{World, position}
use Rattle.mutex_regions.specs.order_events.lawful_order.Events.{IsBefore, Placed, number_of}
use Rattle.mutex_regions.proofs.order_events.Lists.{in_at, in_back, in_enumerated, in_filter, in_flat_map, in_front, in_map}
use Rattle.cnf_core.specs.Clauses.{Formula, Valuation, literal_true}
use Rattle.bit_gates.specs.Folded.{Made, conjunction, constant, kept}
use Rattle.bit_gates.specs.Laws.{IsBit, IsModel, IsOf}
use Rattle.bit_gates.proofs.Blocks.{IsOf-grown, grown_more, grown_none, grown_twice, model_before}
use Rattle.bit_gates.proofs.Meaning.{both_bit, constant_of, constant_value}
use Rattle.circuit_sizes.specs.bit_ops.Laws.{IsOperand}
use Rattle.circuit_sizes.specs.bit_ops.bit_arith.Laws.{int_value}
use Rattle.circuit_sizes.specs.bit_ops.bit_arith.int_ops.Arith.{IsInt}
use Rattle.circuit_sizes.proofs.bit_ops.bit_arith.Values.{value_below}
use Rattle.circuit_sizes.specs.bit_ops.bit_words.Laws.{value}
use Rattle.circuit_sizes.specs.bit_ops.bit_words.Words.{less_literal}
use Rattle.circuit_sizes.proofs.bit_ops.bit_words.Meaning.{compared_bit}
use Rattle.circuit_sizes.specs.bit_terms.Terms.{constant_word, word_at}
use Rattle.circuit_sizes.specs.bit_terms.Laws.{IsIntNode}
use Rattle.circuit_sizes.proofs.bit_terms.Meaning.{at_operand, constant_operand, terms-mean}
use Rattle.bit_blast.specs.Drafts.{Draft}
use Rattle.bit_blast.specs.Says.{DraftSays, IsDraftOver}
use Rattle.bit_blast.proofs.Lists.{all_flat_map, all_of, all_pass}
use Rattle.mutex_regions.specs.read_write.Accesses.{all_accesses}
use Rattle.mutex_regions.specs.Functions.{is_used}
use Rattle.mutex_regions.specs.InOrder.{IsInOrder, IsRight, Uses, must_keep}
use Rattle.mutex_regions.specs.Regions.{lies_in, regions_of}
use Rattle.mutex_regions.specs.Variables.{guarded, is_among, variable_of}
use Rattle.mutex_states.specs.InOrder.{RulesFollow, access_literals, apart_literals, forward_literals, in_order_made, is_of_mutex, literals, read_literal, read_number, rise_literals, root, steps_before, used, uses, with_index}
use Rattle.mutex_states.specs.Laws.{InOrderMeans}
use Rattle.mutex_states.proofs.Conjunctions.{and_assoc, and_nothing, conjunction_bit, with_next_literal}
use Rattle.mutex_states.proofs.Literals.{some_at}
use Rattle.mutex_states.proofs.Short.{short_array}
use Rattle.bit_blast.proofs.CaseLaws.{operand_stays}

-- an element of a list, or another
pub of_get : (P : ℤ → Type 0) (xs : List ℤ) (k : ℕ) (d : ℤ) → All P xs → P d → P (get_or xs k d)
of_get P [] k d all here = here
of_get P (x ∷ xs) zero d all here = All-head P x xs all
of_get P (x ∷ xs) (suc k) d all here = of_get P xs k d (All-tail P x xs all) here

-- past its end a list has the other, which is false
true_within : (v : Valuation) (xs : List ℤ) (k : ℕ) → v 1 ≡ true → literal_true v (get_or xs k (constant false)) ≡ true → k < length xs
true_within v [] k one is = absurd (false≢true (sym (constant_value v false one) ∙ is))
true_within v (x ∷ xs) zero one is = omega arith
true_within v (x ∷ xs) (suc k) one is = let below = true_within v xs k one is in omega (arith, below)

in_option : {X : Type 0} (o : Option X) (x : X) → o ≡ Some x → Contains (option_to_list o) x
in_option o x is = subst (λ p. Contains (option_to_list p) x) (sym is) (0, omega arith, refl)

pub some_value : {X : Type 0} (o : Option X) → IsSome o → (x : X) × (o ≡ Some x)
some_value None h = absurd (false≢true h)
some_value (Some x) h = (x, refl)

-- a short number is itself as a word
small_int : (n : ℕ) → n < 2 ^ 31 → IsInt (pos n)
small_int n less = omega (arith, ints, less)

signed_small : (u : ℕ) → u < 2 ^ 31 → cast_signed w32 u ≡ pos u
signed_small u less = omega (arith, ints, less)

unsigned_small : (n : ℕ) → n < 2 ^ 31 → cast_unsigned w32 (pos n) ≡ n
unsigned_small n less = omega (arith, ints, less)

pub constant_int : (v : Valuation) (z : ℤ) → v 1 ≡ true → IsInt z → int_value v (constant_word z) ≡ z
constant_int v z one int =
    let g : Formula = record { vars = 1; clauses = [] } in
    let h = terms-mean (Constant z ∷ []) [] g (omega arith) (All-cons IsIntNode (Constant z) [] int (All-nil IsIntNode)) (All-nil (IsOperand g)) in
    h.int v (record { one = one; all = refl }) 0

in_bounds : (u c n : ℕ) (z : ℤ) → u < c → c < 2 ^ 32 → n < 2 ^ 31 → cast_signed w32 c ≡ pos n → cast_signed w32 u ≡ z
    → (int_le (pos 0) z ≡ true) × (int_lt z (pos n) ≡ true)
in_bounds u c n z less low small same is =
    let c_is : c ≡ n = sym (of_z-to_z w32 c low) ∙ ap (cast_unsigned w32) same ∙ unsigned_small n small in
    let z_is : z ≡ pos u = sym is ∙ signed_small u (omega (arith, less, c_is, small)) in (
      ap (int_le (pos 0)) z_is ∙ le-leb 0 u (omega arith),
      ap (λ k. int_lt k (pos n)) z_is ∙ lt-ltb u n (omega (arith, less, c_is)),
    )

-- what literals of the order and of loads say
module _ (code : Code) (paths : Paths) (symbolic : Symbolic) (nodes : List Node) (formula : List Conjunct) (w : World) (m : ℕ) (d : Draft) (v : Valuation)
    (one : v 1 ≡ true) (says : DraftSays nodes formula d w v) (rules : RulesFollow code paths symbolic nodes formula w m) where
  pub step_read : (t k u j : ℕ) → literal_true v (steps_before paths symbolic formula d t k u j) ≡ true → IsBefore paths w t k u j
  step_read t k u j so =
      let a : ℕ = number_of paths t k in
      let b : ℕ = number_of paths u j in
      ltb-true (position w a) (position w b) (says.before a b so)

  pub right_read : (a : Placed Access) (l : ℕ) → Contains (all_accesses symbolic) a → a.it.takes ≡ Some l
      → literal_true v (read_literal paths symbolic formula d a) ≡ true → IsRight code paths symbolic nodes w m a
  right_read a l among is so =
      let number : ℕ = read_number paths formula a in
      let low : number < length formula = let inside = true_within v d.roots number one so in omega (arith, inside, says.count) in
      let c = some_at formula number low in
      rules.right a c.0 among (subst IsSome (sym is) refl) c.1 (sym (says.roots number c.0 c.1) ∙ so)

module _ (code : Code) (paths : Paths) (symbolic : Symbolic) (nodes : List Node) (formula : List Conjunct) (w : World) (m : ℕ) (d : Draft) (f : Formula)
    (over : IsDraftOver d f) where
  abbrev lits : List ℤ
  lits = literals paths symbolic formula d m

  abbrev accesses : Placed Region → List (Placed Access)
  accesses = uses paths symbolic m

  abbrev regions : List (Placed Region)
  regions = regions_of paths m

  abbrev Of : ℤ → Type 0
  Of = IsOf f.vars

  abbrev step : (t k u j : ℕ) → ℤ
  step = steps_before paths symbolic formula d

  step_of : (t k u j : ℕ) → Of (step t k u j)
  step_of t k u j = over.before (number_of paths t k) (number_of paths u j)

  root_of : (k : ℕ) → Of (root paths symbolic formula d k)
  root_of k = of_get Of d.roots k (constant false) over.roots (constant_of f.vars false over.one)

  access_there : (r : Placed Region) (a : Placed Access) → All Of (access_literals paths symbolic formula d m r a)
  access_there r a =
      let ends : List ℤ = map (λ k. step a.thread a.it.step r.thread k) (option_to_list r.it.to) in
      let reads : List ℤ = map (λ _. read_literal paths symbolic formula d a) (option_to_list a.it.takes) in
      let later : List (Placed Access) = filter (λ (b : Placed Access). nat_lt a.it.step b.it.step && must_keep a.it b.it) (accesses r) in
      let orders : List ℤ = map (λ (b : Placed Access). step a.thread a.it.step b.thread b.it.step) later in
      All-cons Of (step r.thread r.it.«from» a.thread a.it.step) (ends ++ (reads ++ orders)) (step_of r.thread r.it.«from» a.thread a.it.step)
      (All-append Of ends (reads ++ orders)
      (All-map Of (λ k. step a.thread a.it.step r.thread k) (option_to_list r.it.to)
      (all_of (λ k. Of (step a.thread a.it.step r.thread k)) (option_to_list r.it.to) (λ k _. step_of a.thread a.it.step r.thread k)))
      (All-append Of reads orders
      (All-map Of (λ _. read_literal paths symbolic formula d a) (option_to_list a.it.takes)
      (all_of (λ _. Of (read_literal paths symbolic formula d a)) (option_to_list a.it.takes) (λ _ _. root_of (read_number paths formula a))))
      (All-map Of (λ (b : Placed Access). step a.thread a.it.step b.thread b.it.step) later
      (all_of (λ (b : Placed Access). Of (step a.thread a.it.step b.thread b.it.step)) later (λ b _. step_of a.thread a.it.step b.thread b.it.step)))))

  abbrev about : List (ℕ × Conjunct)
  about = filter (λ (p : ℕ × Conjunct). is_of_mutex m p.1.group) (enumerate_from 0 formula)

  abbrev access_all : List ℤ
  access_all = flat_map (λ r. flat_map (access_literals paths symbolic formula d m r) (accesses r)) regions

  there : All Of lits
  there =
      let apart : List ℤ = apart_literals paths symbolic formula d m in
      let forward : List ℤ = forward_literals paths symbolic formula d m in
      let rise : List ℤ = rise_literals paths symbolic formula d m in
      All-append Of apart (forward ++ (rise ++ access_all))
      (All-map Of (λ (p : ℕ × Conjunct). root paths symbolic formula d p.0) about
      (all_of (λ (p : ℕ × Conjunct). Of (root paths symbolic formula d p.0)) about (λ p _. root_of p.0)))
      (All-append Of forward (rise ++ access_all)
      (all_flat_map Of (λ (r : Placed Region). map (λ k. step r.thread r.it.«from» r.thread k) (option_to_list r.it.to)) regions (λ r _.
      All-map Of (λ k. step r.thread r.it.«from» r.thread k) (option_to_list r.it.to)
      (all_of (λ k. Of (step r.thread r.it.«from» r.thread k)) (option_to_list r.it.to) (λ k _. step_of r.thread r.it.«from» r.thread k))))
      (All-append Of rise access_all
      (all_flat_map Of (λ (r : Placed Region). map (λ (s : Placed Region). step r.thread r.it.«from» s.thread s.it.«from»)
      (filter (λ (s : Placed Region). r.thread == s.thread && nat_lt r.it.«from» s.it.«from») regions)) regions (λ r _.
      All-map Of (λ (s : Placed Region). step r.thread r.it.«from» s.thread s.it.«from»)
      (filter (λ (s : Placed Region). r.thread == s.thread && nat_lt r.it.«from» s.it.«from») regions)
      (all_of (λ (s : Placed Region). Of (step r.thread r.it.«from» s.thread s.it.«from»))
      (filter (λ (s : Placed Region). r.thread == s.thread && nat_lt r.it.«from» s.it.«from») regions)
      (λ s _. step_of r.thread r.it.«from» s.thread s.it.«from»))))
      (all_flat_map Of (λ r. flat_map (access_literals paths symbolic formula d m r) (accesses r)) regions (λ r _.
      all_flat_map Of (access_literals paths symbolic formula d m r) (accesses r) (λ a _. access_there r a)))))

  -- whether an index is in range
  abbrev range_at : Valuation → Cell ℕ → Bool
  range_at v (Fixed c) = true
  range_at v (Element g n i) = nat_lt (value v (word_at d.words i)) (value v (constant_word (pos n)))

  abbrev in_range : Valuation → Placed Access → Bool
  in_range v a = range_at v a.it.cell

  index_bit : (all : Made) (c : Cell ℕ) → f.vars ≤ all.formula.vars → IsOf all.formula.vars all.literal
      → IsBit all.formula (with_index paths symbolic formula d m all c) (λ v. literal_true v all.literal && range_at v c)
  index_bit all (Fixed c) more of = record { grown = grown_none all.formula; literal = of; value = λ v k. and_nothing (literal_true v all.literal) }
  index_bit all (Element g n i) more of =
      let h : Formula = all.formula in
      let one : 0 < h.vars = let o = over.one in omega (arith, o, more) in
      let xs : List ℤ = word_at d.words i in
      let ys : List ℤ = constant_word (pos n) in
      let x : IsOperand h xs = operand_stays f h xs more (at_operand f d.words i over.one over.words) in
      let y : IsOperand h ys = constant_operand h (pos n) one in
      let below : Made = less_literal (kept h (constant false)) xs ys in
      let b = compared_bit (kept h (constant false)) xs ys (constant_of h.vars false one) x.literals y.literals (y.width ∙ sym x.width) in
      let last : Made = conjunction below.formula all.literal below.literal in
      let c = both_bit below.formula all.literal below.literal (IsOf-grown h below.formula all.literal b.grown of) b.literal in
      record {
        grown = grown_twice h below.formula last.formula b.grown c.grown;
        literal = c.literal;
        value = λ v k.
            let here = model_before v below.formula last.formula c.grown k in
            c.value v k
            ∙ ap (λ p. literal_true v all.literal && p)
            (b.value v here ∙ ap (λ p. if p then nat_le (value v xs) (value v ys) else nat_lt (value v xs) (value v ys)) (constant_value v false k.one));
      }

  indexes_bit : (all : Made) (xs : List (Placed Access)) → f.vars ≤ all.formula.vars → IsOf all.formula.vars all.literal
      → IsBit all.formula (fold (λ (k : Made) (a : Placed Access). with_index paths symbolic formula d m k a.it.cell) all xs)
      (λ v. literal_true v all.literal && list_all (in_range v) xs)
  indexes_bit all [] more of = record { grown = grown_none all.formula; literal = of; value = λ v k. and_nothing (literal_true v all.literal) }
  indexes_bit all (a ∷ xs) more of =
      let here : Made = with_index paths symbolic formula d m all a.it.cell in
      let b = index_bit all a.it.cell more of in
      let wider : f.vars ≤ here.formula.vars = let up = grown_more all.formula here.formula b.grown in omega (arith, more, up) in
      let rest : Made = fold (λ (k : Made) (c : Placed Access). with_index paths symbolic formula d m k c.it.cell) here xs in
      let r = indexes_bit here xs wider b.literal in
      record {
        grown = grown_twice all.formula here.formula rest.formula b.grown r.grown;
        literal = r.literal;
        value = λ v k.
            r.value v k ∙ ap (λ p. p && list_all (in_range v) xs) (b.value v (model_before v here.formula rest.formula r.grown k))
            ∙ and_assoc (literal_true v all.literal) (in_range v a) (list_all (in_range v) xs);
      }

  abbrev start : Made
  start = kept f (constant true)

  abbrev first : Made
  first = fold with_next_literal start lits

  first_bit : IsBit f first (λ v. literal_true v (constant true) && list_all (literal_true v) lits)
  first_bit = conjunction_bit start lits (constant_of f.vars true over.one) there

  abbrev made : Made
  made = in_order_made paths symbolic formula d m f

  -- the literal is true exactly if all literals are and all indexes are in range
  pub in_order_bit : IsBit f made (λ v. list_all (literal_true v) lits && list_all (in_range v) (used paths symbolic m))
  in_order_bit =
      let r = indexes_bit first (used paths symbolic m) (grown_more f first.formula first_bit.grown) first_bit.literal in
      record {
        grown = grown_twice f first.formula made.formula first_bit.grown r.grown;
        literal = r.literal;
        value = λ v k.
            r.value v k
            ∙ ap (λ p. p && list_all (in_range v) (used paths symbolic m))
            (first_bit.value v (model_before v first.formula made.formula r.grown k) ∙ ap (λ p. p && list_all (literal_true v) lits) (constant_value v true k.one));
      }

  module _ (v : Valuation) (model : IsModel v made.formula) (says : DraftSays nodes formula d w v) (rules : RulesFollow code paths symbolic nodes formula w m)
      (is_true : literal_true v made.literal ≡ true) where
    parts : (list_all (literal_true v) lits ≡ true) × (list_all (in_range v) (used paths symbolic m) ≡ true)
    parts = and_parts (list_all (literal_true v) lits) (list_all (in_range v) (used paths symbolic m)) (sym (in_order_bit.value v model) ∙ is_true)

    holds : (l : ℤ) → Contains lits l → literal_true v l ≡ true
    holds l among = all_pass (literal_true v) lits l parts.0 among

    earlier : (t k u j : ℕ) → Contains lits (step t k u j) → IsBefore paths w t k u j
    earlier t k u j among = step_read code paths symbolic nodes formula w m d v model.one says rules t k u j (holds (step t k u j) among)

    abbrev apart : List ℤ
    apart = apart_literals paths symbolic formula d m

    abbrev forward : List ℤ
    forward = forward_literals paths symbolic formula d m

    abbrev rise : List ℤ
    rise = rise_literals paths symbolic formula d m

    in_forward : (l : ℤ) → Contains forward l → Contains lits l
    in_forward l h = Contains-append_right apart (forward ++ (rise ++ access_all)) l (Contains-append_left forward (rise ++ access_all) l h)

    in_rise : (l : ℤ) → Contains rise l → Contains lits l
    in_rise l h =
        Contains-append_right apart (forward ++ (rise ++ access_all)) l
        (Contains-append_right forward (rise ++ access_all) l (Contains-append_left rise access_all l h))

    in_uses : (r : Placed Region) (a : Placed Access) → Uses code paths symbolic nodes w m r a → Contains (accesses r) a
    in_uses r a u = in_filter (is_used (guarded paths symbolic m) r) a (all_accesses symbolic) u.access u.used

    in_access : (r : Placed Region) (a : Placed Access) (l : ℤ) → Uses code paths symbolic nodes w m r a → Contains (access_literals paths symbolic formula d m r a) l
        → Contains lits l
    in_access r a l u h =
        Contains-append_right apart (forward ++ (rise ++ access_all)) l
        (Contains-append_right forward (rise ++ access_all) l
        (Contains-append_right rise access_all l
        (in_flat_map (λ s. flat_map (access_literals paths symbolic formula d m s) (accesses s)) r l regions u.region
        (in_flat_map (access_literals paths symbolic formula d m r) a l (accesses r) (in_uses r a u) h))))

    -- the kinds of literals of an access
    abbrev ends_of : Placed Region → Placed Access → List ℤ
    ends_of r a = map (λ k. step a.thread a.it.step r.thread k) (option_to_list r.it.to)

    abbrev reads_of : Placed Access → List ℤ
    reads_of a = map (λ _. read_literal paths symbolic formula d a) (option_to_list a.it.takes)

    abbrev later : Placed Region → Placed Access → List (Placed Access)
    later r a = filter (λ (b : Placed Access). nat_lt a.it.step b.it.step && must_keep a.it b.it) (accesses r)

    abbrev orders_of : Placed Region → Placed Access → List ℤ
    orders_of r a = map (λ (b : Placed Access). step a.thread a.it.step b.thread b.it.step) (later r a)

    read_true : (r : Placed Region) (a : Placed Access) (l : ℕ) → Uses code paths symbolic nodes w m r a → a.it.takes ≡ Some l
        → IsRight code paths symbolic nodes w m a
    read_true r a l u is =
        let first_literal : ℤ = step r.thread r.it.«from» a.thread a.it.step in
        let among : Contains (access_literals paths symbolic formula d m r a) (read_literal paths symbolic formula d a) =
        in_back (read_literal paths symbolic formula d a) first_literal (ends_of r a ++ (reads_of a ++ orders_of r a))
        (Contains-append_right (ends_of r a) (reads_of a ++ orders_of r a) (read_literal paths symbolic formula d a)
        (Contains-append_left (reads_of a) (orders_of r a) (read_literal paths symbolic formula d a)
        (in_map (λ _. read_literal paths symbolic formula d a) l (option_to_list a.it.takes) (in_option a.it.takes l is)))) in
        right_read code paths symbolic nodes formula w m d v model.one says rules a l u.access is
        (holds (read_literal paths symbolic formula d a) (in_access r a (read_literal paths symbolic formula d a) u among))

    range_true : (a : Placed Access) (g n i : ℕ) (r : Placed Region) → Uses code paths symbolic nodes w m r a → a.it.cell ≡ Element g n i
        → (int_le (pos 0) (value_of nodes w.loads i) ≡ true) × (int_lt (value_of nodes w.loads i) (pos n) ≡ true)
    range_true a g n i r u is =
        let among : Contains (used paths symbolic m) a = in_flat_map accesses r a regions u.region (in_uses r a u) in
        let so : range_at v a.it.cell ≡ true = all_pass (in_range v) (used paths symbolic m) a parts.1 among in
        let less : value v (word_at d.words i) < value v (constant_word (pos n)) =
        ltb-true (value v (word_at d.words i)) (value v (constant_word (pos n))) (sym (ap (range_at v) is) ∙ so) in
        let own = (and_parts (lies_in r a) (is_among (guarded paths symbolic m) (variable_of a.it.cell)) u.used).1 in
        let small = short_array paths symbolic m a g n i u.access own is in
        let width = (constant_operand f (pos n) over.one).width in
        in_bounds (value v (word_at d.words i)) (value v (constant_word (pos n))) n (value_of nodes w.loads i) less
        (subst (λ k. value v (constant_word (pos n)) < 2 ^ k) width (value_below v (constant_word (pos n)))) small (constant_int v (pos n) model.one (small_int n small)) (says.words i)

    pub in_order : IsInOrder code paths symbolic nodes w m
    in_order = record {
      apart = rules.apart (λ c among about_m.
          let at = in_at formula c among in
          sym (says.roots at.0 c at.1)
          ∙ holds (root paths symbolic formula d at.0)
          (Contains-append_left apart (forward ++ (rise ++ access_all)) (root paths symbolic formula d at.0)
          (in_map (λ (p : ℕ × Conjunct). root paths symbolic formula d p.0) (at.0, c) about
          (in_filter (λ (p : ℕ × Conjunct). is_of_mutex m p.1.group) (at.0, c) (enumerate_from 0 formula) (in_enumerated at.0 c formula at.1) about_m))));
      forward = λ r k among is.
          earlier r.thread r.it.«from» r.thread k
          (in_forward (step r.thread r.it.«from» r.thread k)
          (in_flat_map (λ (s : Placed Region). map (λ j. step s.thread s.it.«from» s.thread j) (option_to_list s.it.to)) r
          (step r.thread r.it.«from» r.thread k) regions among
          (in_map (λ j. step r.thread r.it.«from» r.thread j) k (option_to_list r.it.to) (in_option r.it.to k is))));
      rise = λ r s p q same less.
          earlier r.thread r.it.«from» s.thread s.it.«from»
          (in_rise (step r.thread r.it.«from» s.thread s.it.«from»)
          (in_flat_map (λ (x : Placed Region). map (λ (y : Placed Region). step x.thread x.it.«from» y.thread y.it.«from»)
          (filter (λ (y : Placed Region). x.thread == y.thread && nat_lt x.it.«from» y.it.«from») regions)) r (step r.thread r.it.«from» s.thread s.it.«from»)
          regions p
          (in_map (λ (y : Placed Region). step r.thread r.it.«from» y.thread y.it.«from») s
          (filter (λ (y : Placed Region). r.thread == y.thread && nat_lt r.it.«from» y.it.«from») regions)
          (in_filter (λ (y : Placed Region). r.thread == y.thread && nat_lt r.it.«from» y.it.«from») s regions q
          (and_from _ _ (eq-eqb r.thread s.thread same) (lt-ltb r.it.«from» s.it.«from» less))))));
      begun = λ r a u.
          earlier r.thread r.it.«from» a.thread a.it.step
          (in_access r a (step r.thread r.it.«from» a.thread a.it.step) u
          (in_front (step r.thread r.it.«from» a.thread a.it.step) (ends_of r a ++ (reads_of a ++ orders_of r a))));
      ended = λ r a k u is.
          earlier a.thread a.it.step r.thread k
          (in_access r a (step a.thread a.it.step r.thread k) u
          (in_back (step a.thread a.it.step r.thread k) (step r.thread r.it.«from» a.thread a.it.step) (ends_of r a ++ (reads_of a ++ orders_of r a))
          (Contains-append_left (ends_of r a) (reads_of a ++ orders_of r a) (step a.thread a.it.step r.thread k)
          (in_map (λ j. step a.thread a.it.step r.thread j) k (option_to_list r.it.to) (in_option r.it.to k is)))));
      kept = λ r a b u t less must.
          earlier a.thread a.it.step b.thread b.it.step
          (in_access r a (step a.thread a.it.step b.thread b.it.step) u
          (in_back (step a.thread a.it.step b.thread b.it.step) (step r.thread r.it.«from» a.thread a.it.step) (ends_of r a ++ (reads_of a ++ orders_of r a))
          (Contains-append_right (ends_of r a) (reads_of a ++ orders_of r a) (step a.thread a.it.step b.thread b.it.step)
          (Contains-append_right (reads_of a) (orders_of r a) (step a.thread a.it.step b.thread b.it.step)
          (in_map (λ (x : Placed Access). step a.thread a.it.step x.thread x.it.step) b (later r a)
          (in_filter (λ (x : Placed Access). nat_lt a.it.step x.it.step && must_keep a.it x.it) b (accesses r) (in_uses r b t)
          (and_from _ _ (lt-ltb a.it.step b.it.step less) must)))))));
      taken = λ r a u some. let l = some_value a.it.takes some in read_true r a l.0 u l.1;
      indexed = λ r a g n i u is. range_true a g n i r u is;
    }

  pub in_order_means : InOrderMeans code paths symbolic nodes formula w m d f
  in_order_means = record { grown = in_order_bit.grown; literal = in_order_bit.literal; means = in_order }
