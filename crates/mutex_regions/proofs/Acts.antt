-- A region's accesses, one after another: what the cells hold is what their expressions say.
use Rattle.std.proofs.Common.{◌≡◌, ◌⊎◌, ℕ, suc, ◌+◌, ◌<◌, ◌≤◌, Bool, true, false, not, cond, ◌&&◌, ◌||◌, ◌==◌, ℤ, pos, negsuc, List, [], ◌∷◌, ◌++◌, map, get_or, Option, Some, None, inl, inr, refl, ap, sym, subst, ◌∙◌, arith, append_assoc}
use Rattle.std.specs.Prelude.{IsSome, filter, fold, int_le, int_lt, is_none, is_some, nat_lt, option_and_then, option_map, slice_get}
use Rattle.std.specs.List.{Contains, enumerate_from, list_any}
use Rattle.std.specs.Option.{option_map_or}
use Rattle.std.proofs.lemmas.Bool.{and_from, and_parts, and_right, cases_order, eq-eqb, eqb-true, false_from_ne_true, false≢true, lt-ltb, ltb-true, or_cases, or_left, or_right}
use Rattle.std.proofs.lemmas.List.{append-nil}
use Rattle.std.proofs.lemmas.List.Elements.{Contains-append_cases, Contains-append_left, Contains-push, Contains-push_cases}
use Rattle.std.proofs.lemmas.List.Folds.{list_any-append}
use Rattle.std.proofs.lemmas.Option.{get_or_from_slice_get, none-some, same_Some, slice_get-map}
use Rattle.int_ops.specs.Arith.{IsInt}
use Rattle.tc_code.specs.Code.{Code}
use Rattle.tc_code.specs.Expr as expr
use Rattle.tc_code.specs.Expr.{Expr}
use Rattle.path_walk.specs.Paths.{Paths}
use Rattle.path_walk.specs.declared.event.Region.{Region}
use Rattle.sym_terms.specs.declared.node.Node.{Node}
use Rattle.sym_exec.specs.Executed.{Symbolic}
use Rattle.sym_exec.specs.declared.symbolic.Access.{Access}
use Rattle.sym_exec.specs.tc_code.declared.cell.Cell.{Cell}
use Rattle.sym_exec.specs.tc_code.declared.cell.Cell.TheVariants.{Fixed, Element}
use Rattle.sym_exec.proofs.Ints.{value_int}
use Rattle.order_formula.specs.Worlds.{World}
use Rattle.order_events.specs.lawful_order.Events.{Placed}
use Rattle.order_events.specs.lawful_order.Mutexes.{IsLeftBefore}
use Rattle.order_events.proofs.Lists.{in_at, in_filter, in_front, in_map, of_cons, of_filter, of_map, of_nil}
use Rattle.read_write.specs.Accesses.{is_one}
use Rattle.read_write.proofs.Numbers.{access_of}
use Rattle.mutex_regions.specs.Functions.{Doing, at_begin, chosen, index_over, is_used, stored, term_over, where_is, with_access, with_load, with_store}
use Rattle.mutex_regions.specs.declared.functions.Holding.{Holding}
use Rattle.mutex_regions.specs.declared.functions.Loaded.{Loaded}
use Rattle.mutex_regions.specs.InOrder.{must_keep}
use Rattle.mutex_regions.specs.States.{is_write_before, state_before, writes_to}
use Rattle.mutex_regions.specs.Variables.{is_among, same_variable, spots_of, variable_of}
use Rattle.mutex_regions.specs.declared.variables.Spot.{Spot}
use Rattle.mutex_regions.specs.declared.variables.Variable.{Variable}
use Rattle.mutex_regions.proofs.Values.{GivesInt, chosen_right, term_right, where_right}
use Rattle.mutex_regions.proofs.Lists.{any_of, at_enumerated, of_any, same_test}
use Rattle.mutex_regions.proofs.Spots.{spot_is, spot_there}
use Rattle.mutex_regions.proofs.Rises.{Rises, earlier, following, step_of, used_rise}
use Rattle.mutex_regions.proofs.Setting.{Setting, SeenBy, Use, Value, accesses, at, begins, both_to, comes_before, element, element_from, fixed_from, in_region, last, last_int, last_one, last_same, length_of, one_of_steps, regions, same_back, same_of, same_on, same_or_apart, same_parts, steps_rise, takes_last, to, to_same, use_parts, variables, wrote}

module _ (code : Code) (paths : Paths) (symbolic : Symbolic) (nodes : List Node) (w : World) (m : ℕ) (set : Setting code paths symbolic nodes w m) (r : Placed Region)
    (there : Contains (regions code paths symbolic nodes w m set) r) where
  -- the mutex's accesses, variables and regions in this world
  abbrev all : List (Placed Access)
  all = accesses code paths symbolic nodes w m set

  abbrev own : List Variable
  own = variables code paths symbolic nodes w m set

  abbrev place : Placed Access → ℕ
  place a = at code paths symbolic nodes w m set a

  abbrev begin : ℕ
  begin = begins code paths symbolic nodes w m set r

  abbrev Used : Placed Access → Type 0
  Used a = Use code paths symbolic nodes w m set r a

  abbrev To : Spot → Cell ℕ → Bool
  To s c = to code paths symbolic nodes w m set s c

  abbrev writes : Spot → Placed Access → Bool
  writes s a = writes_to code paths symbolic nodes w s a

  abbrev value_last : (Placed Access → Bool) → Spot → ℤ
  value_last is s = last code paths symbolic nodes w m set is s

  abbrev value_written : Placed Access → ℤ
  value_written a = wrote code paths symbolic nodes w m set a

  -- the state before the region, and the values of expressions over it
  abbrev pub st : List ℤ
  st = state_before code paths symbolic nodes w own begin

  abbrev of_expr : Expr → ℤ
  of_expr e = expr.value_of e st

  -- the writes to a cell before the region, and among these accesses of it
  abbrev pub sofar : List (Placed Access) → Spot → Placed Access → Bool
  sofar done s a = writes s a && (nat_lt (place a) begin || list_any (is_one a) done)

  abbrev used : List (Placed Access)
  used = filter (is_used own r) all

  rise : Rises step_of used
  rise = used_rise paths symbolic (is_used own r) set.about.executed

  pub use_of : (a : Placed Access) → Contains used a → Used a
  use_of a i = let f = of_filter (is_used own r) a all i in record { region = there; access = f.0; used = f.1 }

  pub of_use : (a : Placed Access) → Used a → Contains used a
  of_use a u = in_filter (is_used own r) a all u.access u.used

  thread_is : (a : Placed Access) → Used a → a.thread ≡ r.thread
  thread_is a u = (use_parts code paths symbolic nodes w m set r a u).0.thread

  -- what is known after some accesses
  pub record Knows (done : List (Placed Access)) (d : Doing) : Type 0 where
    pub spots : map (λ (x : Holding). x.spot) d.cells ≡ spots_of own
    pub cells : (x : Holding) (e : Expr) → Contains d.cells x → x.value ≡ Some e → of_expr e ≡ value_last (sofar done x.spot) x.spot
    pub loads : (l : Loaded) (e : Expr) → Contains d.loads l → l.value ≡ Some e → get_or w.loads l.load (pos 0) ≡ of_expr e

  -- ---- before the first access

  abbrev slot_of : ℕ × Spot → Holding
  slot_of p = record { spot = p.1; value = Some (expr.Slot p.0) }

  spots_begin : (n : ℕ) (xs : List Spot) → map (λ (x : Holding). x.spot) (map slot_of (enumerate_from n xs)) ≡ xs
  spots_begin n [] = refl
  spots_begin n (x ∷ xs) = ap (λ ys. x ∷ ys) (spots_begin (n + 1) xs)

  none_yet : (s : Spot) → value_last (is_write_before code paths symbolic nodes w begin s) s ≡ value_last (sofar [] s) s
  none_yet s = last_same code paths symbolic nodes w m set (is_write_before code paths symbolic nodes w begin s) (sofar [] s) s
      (λ d i. ap (λ b. writes s d && b) (no_more (nat_lt (place d) begin)))
    where
      no_more : (b : Bool) → b ≡ (b || false)
      no_more true = refl
      no_more false = refl

  knows_begin : Knows [] (at_begin own)
  knows_begin = record { spots = spots_begin 0 (spots_of own); cells = cells; loads = λ l e i. absurd (of_nil l i) }
    where
      cells : (x : Holding) (e : Expr) → Contains (at_begin own).cells x → x.value ≡ Some e → of_expr e ≡ value_last (sofar [] x.spot) x.spot
      cells x e i some =
          let o = of_map {X = ℕ × Spot} {Y = Holding} slot_of x (enumerate_from 0 (spots_of own)) i in
          let p = o.0 in
          let k = in_at (enumerate_from 0 (spots_of own)) p o.1 in
          let e' = at_enumerated 0 (spots_of own) k.0 p k.1 in
          let number : p.0 ≡ k.0 = omega (arith, e'.0) in
          let spot : p.1 ≡ x.spot = ap (λ (y : Holding). y.spot) o.2 in
          let is : expr.Slot p.0 ≡ e = same_Some (expr.Slot p.0) e (ap (λ (y : Holding). y.value) o.2 ∙ some) in
          let held : Spot → ℤ = λ s. value_last (is_write_before code paths symbolic nodes w begin s) s in
          let here : slice_get st p.0 ≡ Some (held p.1) =
          ap (slice_get st) number ∙ slice_get-map held (spots_of own) k.0 ∙ ap (option_map held) e'.1 in
          ap of_expr (sym is) ∙ get_or_from_slice_get st p.0 (held p.1) (pos 0) here ∙ ap held spot ∙ none_yet x.spot

  -- ---- one more access

  module _ (done rest : List (Placed Access)) (a : Placed Access) (split : used ≡ done ++ a ∷ rest) where
    abbrev c : Cell ℕ
    c = a.it.cell

    abbrev v : Variable
    v = variable_of c

    rising : Rises step_of (done ++ a ∷ rest)
    rising = subst (Rises step_of) split rise

    is_used_here : Contains (done ++ a ∷ rest) a
    is_used_here = in_middle done
      where
        in_middle : (ys : List (Placed Access)) → Contains (ys ++ a ∷ rest) a
        in_middle [] = in_front a rest
        in_middle (y ∷ ys) = let i = in_middle ys in (suc i.0, omega (arith, i.1), i.2)

    usage : Used a
    usage = use_of a (subst (λ ys. Contains ys a) (sym split) is_used_here)

    among : is_among own v ≡ true
    among = (use_parts code paths symbolic nodes w m set r a usage).1

    use_done : (b : Placed Access) → Contains done b → Used b
    use_done b i = use_of b (subst (λ ys. Contains ys b) (sym split) (Contains-append_left done (a ∷ rest) b i))

    step_done : (b : Placed Access) → Contains done b → b.it.step < a.it.step
    step_done b i = earlier step_of done rest a b rising i (thread_is b (use_done b i) ∙ sym (thread_is a usage))

    -- an earlier access of the region is done
    done_is : (b : Placed Access) → Used b → b.it.step < a.it.step → Contains done b
    done_is b u less = elim (Contains-append_cases done (a ∷ rest) b (subst (λ ys. Contains ys b) split (of_use b u))) [
      | inl before ↦ before
      | inr behind ↦ absurd (late (of_cons b a rest behind))
    ]
      where
        late : (a ≡ b) ⊎ Contains rest b → ⊥
        late (inl same) = omega (arith, less, ap (λ (x : Placed Access). x.it.step) same)
        late (inr i) = omega (arith, less, following step_of done rest a b rising i (thread_is b u ∙ sym (thread_is a usage)))

    found_done : (b : Placed Access) → Contains all b → list_any (is_one b) done ≡ true → Contains done b
    found_done b i h =
        let o = of_any (is_one b) done h in
        let p = and_parts (b.thread == o.0.thread) (b.it.step == o.0.it.step) o.2 in
        let same = one_of_steps code paths symbolic nodes w m set b o.0 i (use_done o.0 o.1).access (eqb-true b.thread o.0.thread p.0)
        (eqb-true b.it.step o.0.it.step p.1) in
        subst (λ x. Contains done x) (sym same) o.1

    one_itself : (b : Placed Access) → is_one b b ≡ true
    one_itself b = and_from (b.thread == b.thread) (b.it.step == b.it.step) (eq-eqb b.thread b.thread refl) (eq-eqb b.it.step b.it.step refl)

    begun : begin < place a
    begun = set.order.begun r a usage

    -- ---- what the access sees

    among_same : (u : Variable) → same_variable u v ≡ true → is_among own u ≡ true
    among_same u same =
        let o = of_any (same_variable v) own among in any_of (same_variable u) own o.0 o.1 (same_on u v o.0 same o.2)

    some_mapped : (o : Option ℕ) → IsSome o → IsSome (option_map (Value code paths symbolic nodes w m set) o)
    some_mapped None is = is
    some_mapped (Some t) is = refl

    mapped_some : (o : Option ℕ) → IsSome (option_map (Value code paths symbolic nodes w m set) o) → IsSome o
    mapped_some None is = is
    mapped_some (Some t) is = refl

    module _ (s : Spot) (mine : To s c ≡ true) where
      sees : (b : Placed Access) → Contains all b → sofar done s b ≡ true → SeenBy code paths symbolic nodes w m set a b
      sees b i h =
          let p = and_parts (writes s b) (nat_lt (place b) begin || list_any (is_one b) done) h in
          let q = and_parts (is_some b.it.writes) (To s b.it.cell) p.0 in
          record {
            there = access_of symbolic b i;
            writes = some_mapped b.it.writes q.0;
            cell = both_to code paths symbolic nodes w m set s b.it.cell c q.1 mine;
            before = elim (or_cases (nat_lt (place b) begin) (list_any (is_one b) done) p.1) [
              | inl less ↦ inl (omega (arith, ltb-true (place b) begin less, begun))
              | inr old ↦
                  let j = found_done b i old in inr (thread_is b (use_done b j) ∙ sym (thread_is a usage), step_done b j)
            ];
          }

      -- a write that the access sees comes before the region, or is done
      comes : (b : Placed Access) → Contains all b → IsSome a.it.takes → SeenBy code paths symbolic nodes w m set a b
          → (nat_lt (place b) begin || list_any (is_one b) done) ≡ true
      comes b i takes x = by (same_or_apart code paths symbolic nodes w m set r h.0 there h.1.region)
        where
          mine_too : To s b.it.cell ≡ true
          mine_too = to_same code paths symbolic nodes w m set s b.it.cell c mine x.cell

          same : same_variable (variable_of b.it.cell) v ≡ true
          same = same_on (variable_of b.it.cell) s.variable v
              (same_back s.variable (variable_of b.it.cell) (same_of code paths symbolic nodes w m set s b.it.cell mine_too))
              (same_of code paths symbolic nodes w m set s c mine)

          h : (z : Placed Region) × Use code paths symbolic nodes w m set z b
          h = in_region code paths symbolic nodes w m set b i (mapped_some b.it.writes x.writes) (among_same (variable_of b.it.cell) same)

          early : place b < begin → (nat_lt (place b) begin || list_any (is_one b) done) ≡ true
          early less = or_left (nat_lt (place b) begin) (list_any (is_one b) done) (lt-ltb (place b) begin less)

          -- nothing later on the path is seen
          no_later : place a < place b → (b.thread ≡ a.thread → b.it.step < a.it.step → ⊥) → ⊥
          no_later less never = elim x.before [ inl before ↦ omega (arith, before, less) | inr path ↦ never path.0 path.1 ]

          keep : must_keep a.it b.it ≡ true
          keep =
              and_from (same_variable v (variable_of b.it.cell))
              ((is_some a.it.writes || is_some b.it.writes) && not (is_none a.it.takes && is_none b.it.writes)) (same_back (variable_of b.it.cell) v same)
              (and_from (is_some a.it.writes || is_some b.it.writes) (not (is_none a.it.takes && is_none b.it.writes))
              (or_right (is_some a.it.writes) (is_some b.it.writes) (mapped_some b.it.writes x.writes))
              (takes_first a.it.takes takes))
            where
              takes_first : (o : Option ℕ) → IsSome o → not (is_none o && is_none b.it.writes) ≡ true
              takes_first None is = absurd (false≢true is)
              takes_first (Some l) is = refl

          inner : Used b → (nat_lt (place b) begin || list_any (is_one b) done) ≡ true
          inner u = elim (cases_order b.it.step a.it.step) [
            | inl equal ↦
                let e = one_of_steps code paths symbolic nodes w m set b a i usage.access (thread_is b u ∙ sym (thread_is a usage)) equal in
                absurd (elim x.before [
                  | inl before ↦ omega (arith, before, ap (λ (z : Placed Access). place z) e)
                  | inr path ↦ omega (arith, path.1, equal)
                ])
            | inr (inl less) ↦ or_right (nat_lt (place b) begin) (list_any (is_one b) done) (any_of (is_one b) done b (done_is b u less) (one_itself b))
            | inr (inr more) ↦ absurd (no_later (set.order.kept r a b usage u more keep) (λ t less. omega (arith, less, more)))
          ]

          by : (r ≡ h.0) ⊎ (IsLeftBefore paths w r.thread r.it h.0.thread h.0.it ⊎ IsLeftBefore paths w h.0.thread h.0.it r.thread r.it)
              → (nat_lt (place b) begin || list_any (is_one b) done) ≡ true
          by (inl e) = inner (subst (λ z. Use code paths symbolic nodes w m set z b) (sym e) h.1)
          by (inr (inl left)) =
              let less : place a < place b =
              omega (arith, comes_before code paths symbolic nodes w m set r h.0 a usage left, set.order.begun h.0 b h.1) in
              absurd (no_later less (λ t back. steps_rise code paths symbolic nodes w m set r h.0 a b usage h.1 left (sym t) back))
          by (inr (inr left)) = early (comes_before code paths symbolic nodes w m set h.0 r b h.1 left)

      -- a right load takes what its cell holds
      takes_held : (l : ℕ) → a.it.takes ≡ Some l → get_or w.loads l (pos 0) ≡ value_last (sofar done s) s
      takes_held l takes =
          let is : IsSome a.it.takes = ap is_some takes in
          takes_last code paths symbolic nodes w m set a l s (sofar done s) takes (set.order.taken r a usage is) mine sees
          (λ b i x. and_from (writes s b) (nat_lt (place b) begin || list_any (is_one b) done)
          (and_from (is_some b.it.writes) (To s b.it.cell) (mapped_some b.it.writes x.writes)
          (to_same code paths symbolic nodes w m set s b.it.cell c mine x.cell)) (comes b i is x))

    -- ---- what the access leaves

    more_done : (b : Placed Access) → list_any (is_one b) (done ++ a ∷ []) ≡ (list_any (is_one b) done || (is_one b a || false))
    more_done b = list_any-append (is_one b) done (a ∷ [])

    is_a : (b : Placed Access) → Contains all b → is_one b a ≡ true → b ≡ a
    is_a b i h =
        let p = and_parts (b.thread == a.thread) (b.it.step == a.it.step) h in
        one_of_steps code paths symbolic nodes w m set b a i usage.access (eqb-true b.thread a.thread p.0) (eqb-true b.it.step a.it.step p.1)

    -- a cell that it doesn't write keeps its value
    other : (s : Spot) → writes s a ≡ false → value_last (sofar (done ++ a ∷ []) s) s ≡ value_last (sofar done s) s
    other s none = last_same code paths symbolic nodes w m set (sofar (done ++ a ∷ []) s) (sofar done s) s (λ b i. same_test (sofar (done ++ a ∷ []) s b) (sofar done s b) (back b i) (on b))
      where
        on : (b : Placed Access) → sofar done s b ≡ true → sofar (done ++ a ∷ []) s b ≡ true
        on b h =
            let p = and_parts (writes s b) (nat_lt (place b) begin || list_any (is_one b) done) h in
            and_from (writes s b) (nat_lt (place b) begin || list_any (is_one b) (done ++ a ∷ [])) p.0
            (elim (or_cases (nat_lt (place b) begin) (list_any (is_one b) done) p.1) [
              | inl less ↦ or_left (nat_lt (place b) begin) (list_any (is_one b) (done ++ a ∷ [])) less
              | inr old ↦ or_right (nat_lt (place b) begin) (list_any (is_one b) (done ++ a ∷ []))
                  (more_done b ∙ or_left (list_any (is_one b) done) (is_one b a || false) old)
            ])

        back : (b : Placed Access) → Contains all b → sofar (done ++ a ∷ []) s b ≡ true → sofar done s b ≡ true
        back b i h =
            let p = and_parts (writes s b) (nat_lt (place b) begin || list_any (is_one b) (done ++ a ∷ [])) h in
            and_from (writes s b) (nat_lt (place b) begin || list_any (is_one b) done) p.0
            (elim (or_cases (nat_lt (place b) begin) (list_any (is_one b) (done ++ a ∷ [])) p.1) [
              | inl less ↦ or_left (nat_lt (place b) begin) (list_any (is_one b) done) less
              | inr new ↦ elim (or_cases (list_any (is_one b) done) (is_one b a || false) (sym (more_done b) ∙ new)) [
                | inl old ↦ or_right (nat_lt (place b) begin) (list_any (is_one b) done) old
                | inr one ↦ absurd (its_write b i p.0 one)
              ]
            ])
          where
            its_write : (b : Placed Access) → Contains all b → writes s b ≡ true → (is_one b a || false) ≡ true → ⊥
            its_write b i does one = elim (or_cases (is_one b a) false one) [
              | inl hit ↦ false≢true (sym none ∙ ap (writes s) (sym (is_a b i hit)) ∙ does)
              | inr empty ↦ false≢true empty
            ]

    -- a cell that it writes has its value
    mine_now : (s : Spot) → writes s a ≡ true → value_last (sofar (done ++ a ∷ []) s) s ≡ value_written a
    mine_now s does = last_one code paths symbolic nodes w m set (sofar (done ++ a ∷ []) s) s a
        (record { among = usage.access; passes = passes; greatest = greatest })
      where
        passes : sofar (done ++ a ∷ []) s a ≡ true
        passes =
            and_from (writes s a) (nat_lt (place a) begin || list_any (is_one a) (done ++ a ∷ [])) does
            (or_right (nat_lt (place a) begin) (list_any (is_one a) (done ++ a ∷ []))
            (any_of (is_one a) (done ++ a ∷ []) a (Contains-push done a) (one_itself a)))

        w_parts : (is_some a.it.writes ≡ true) × (To s c ≡ true)
        w_parts = and_parts (is_some a.it.writes) (To s c) does

        keeps : (b : Placed Access) → To s b.it.cell ≡ true → must_keep b.it a.it ≡ true
        keeps b hits =
            and_from (same_variable (variable_of b.it.cell) v)
            ((is_some b.it.writes || is_some a.it.writes) && not (is_none b.it.takes && is_none a.it.writes))
            (same_on (variable_of b.it.cell) s.variable v
            (same_back s.variable (variable_of b.it.cell) (same_of code paths symbolic nodes w m set s b.it.cell hits))
            (same_of code paths symbolic nodes w m set s c w_parts.1))
            (and_from (is_some b.it.writes || is_some a.it.writes) (not (is_none b.it.takes && is_none a.it.writes))
            (or_right (is_some b.it.writes) (is_some a.it.writes) w_parts.0)
            (ap not (and_right (is_none b.it.takes) (is_none a.it.writes) (not_none a.it.writes w_parts.0))))
          where
            not_none : (o : Option ℕ) → is_some o ≡ true → is_none o ≡ false
            not_none None is = absurd (false≢true is)
            not_none (Some t) is = refl

        old : (b : Placed Access) → To s b.it.cell ≡ true → Contains done b → place b ≤ place a
        old b hits j = omega (arith, set.order.kept r b a (use_done b j) usage (step_done b j) (keeps b hits))

        greatest : (b : Placed Access) → Contains all b → sofar (done ++ a ∷ []) s b ≡ true → place b ≤ place a
        greatest b i h =
            let p = and_parts (writes s b) (nat_lt (place b) begin || list_any (is_one b) (done ++ a ∷ [])) h in
            let hits = (and_parts (is_some b.it.writes) (To s b.it.cell) p.0).1 in
            elim (or_cases (nat_lt (place b) begin) (list_any (is_one b) (done ++ a ∷ [])) p.1) [
              | inl less ↦ omega (arith, ltb-true (place b) begin less, begun)
              | inr new ↦ elim (or_cases (list_any (is_one b) done) (is_one b a || false) (sym (more_done b) ∙ new)) [
                | inl before ↦ old b hits (found_done b i before)
                | inr one ↦ elim (or_cases (is_one b a) false one) [
                  | inl hit ↦ omega (arith, ap (λ (z : Placed Access). place z) (is_a b i hit))
                  | inr none ↦ absurd (false≢true none)
                ]
              ]
            ]

    -- ---- the cell that the access names

    abbrev spot : Cell ℕ → ℕ → Spot
    spot d k = record { variable = variable_of d; index = k }

    record Index (d : Cell ℕ) (o : Option Expr) : Type 0 where
      j : ℕ
      within : j < (variable_of d).cells
      hits : To (spot d j) d ≡ true
      only : (s : Spot) → s.index < (variable_of d).cells → To s d ≡ true → s.index ≡ j
      index : (i : Expr) → o ≡ Some i → of_expr i ≡ pos j

    below : (j n : ℕ) → int_lt (pos j) (pos n) ≡ true → j < n
    below j n h = ltb-true j n h

    not_negative : (k : ℕ) → int_le (pos 0) (negsuc k) ≡ true → ⊥
    not_negative k h = false≢true h

    one_number : (m' n : ℕ) → pos m' ≡ pos n → m' ≡ n
    one_number m' n e = cc

    index_is : (loads : List Loaded) → ((l : Loaded) (e : Expr) → Contains loads l → l.value ≡ Some e → get_or w.loads l.load (pos 0) ≡ of_expr e)
        → (d : Cell ℕ) → ((f n i : ℕ) → d ≡ Element f n i
        → (int_le (pos 0) (Value code paths symbolic nodes w m set i) ≡ true) × (int_lt (Value code paths symbolic nodes w m set i) (pos n) ≡ true))
        → Index d (index_over nodes loads d)
    index_is loads right (Fixed f) ranges = record {
      j = 0;
      within = omega arith;
      hits = fixed_from code paths symbolic nodes w m set (spot (Fixed f) 0) f refl refl;
      only = λ s few h. omega (arith, few);
      index = λ i some. ap of_expr (sym (same_Some (expr.Number (pos 0)) i some));
    }
    index_is loads right (Element f n i) ranges = by (Value code paths symbolic nodes w m set i) refl
      where
        range : (int_le (pos 0) (Value code paths symbolic nodes w m set i) ≡ true) × (int_lt (Value code paths symbolic nodes w m set i) (pos n) ≡ true)
        range = ranges f n i refl

        by : (z : ℤ) → Value code paths symbolic nodes w m set i ≡ z → Index (Element f n i) (index_over nodes loads (Element f n i))
        by (pos j) is = record {
          j = j;
          within = below j n (subst (λ z. int_lt z (pos n) ≡ true) is range.1);
          hits = element_from code paths symbolic nodes w m set (spot (Element f n i) j) f n i (record { array = refl; first = refl; index = is });
          only = λ s few h. one_number s.index j (sym (element code paths symbolic nodes w m set s f n i h).index ∙ is);
          index = λ e some. sym (term_right nodes w.loads st loads set.about.terms right 8 i e some) ∙ is;
        }
        by (negsuc k) is = absurd (not_negative k (subst (λ z. int_le (pos 0) z ≡ true) is range.0))

    -- what cells hold depends only on their variable's first cell and kind, and on the index
    held_same : (s : Spot) (u : Variable) → same_variable s.variable u ≡ true
        → value_last (sofar done s) s ≡ value_last (sofar done (record { variable = u; index = s.index })) (record { variable = u; index = s.index })
    held_same s u same =
        let p = same_parts s.variable u same in
        let held : ℕ → Bool → ℤ = λ f b.
        let x : Spot = record { variable = record { first = f; cells = 0; is_array = b }; index = s.index } in value_last (sofar done x) x in
        ap (λ f. held f s.variable.is_array) p.0 ∙ ap (λ b. held u.first b) p.1

    -- ---- the load

    module _ (d : Doing) (knows : Knows done d) where
      abbrev mine : List Holding
      mine = filter (λ (x : Holding). same_variable x.spot.variable v) d.cells

      names : Index c (index_over nodes d.loads c)
      names = index_is d.loads knows.loads c (λ f n i is. set.order.indexed r a f n i usage is)

      abbrev held : ℕ → ℤ
      held k = value_last (sofar done (spot c k)) (spot c k)

      holds : (x : Holding) → Contains mine x → (e : Expr) → x.value ≡ Some e → of_expr e ≡ held x.spot.index
      holds x i e some =
          let o = of_filter (λ (y : Holding). same_variable y.spot.variable v) x d.cells i in
          knows.cells x e o.0 some ∙ held_same x.spot v o.1

      exists : (x : Holding) × Contains mine x × (x.spot.index ≡ names.j)
      exists =
          let u = of_any (same_variable v) own among in
          let back = same_back v u.0 u.2 in
          let few : names.j < u.0.cells = omega (arith, names.within, length_of code paths symbolic nodes w m set u.0 a u.1 usage.access back) in
          let there' : Contains (map (λ (x : Holding). x.spot) d.cells) (record { variable = u.0; index = names.j }) =
          subst (λ ss. Contains ss (record { variable = u.0; index = names.j })) (sym knows.spots) (spot_there own u.0 names.j u.1 few) in
          let o = of_map {X = Holding} {Y = Spot} (λ x. x.spot) (record { variable = u.0; index = names.j }) d.cells there' in (
            o.0,
            in_filter (λ (y : Holding). same_variable y.spot.variable v) o.0 d.cells o.1 (subst (λ (s : Spot). same_variable s.variable v ≡ true) (sym o.2) back),
            ap (λ (s : Spot). s.index) o.2,
          )

      -- a load's expression has the value that the load takes
      load_right : (l : ℕ) (e : Expr) → a.it.takes ≡ Some l → chosen (index_over nodes d.loads c) mine ≡ Some e → get_or w.loads l (pos 0) ≡ of_expr e
      load_right l e takes some =
          takes_held (spot c names.j) names.hits l takes
          ∙ sym (chosen_right st names.j held (index_over nodes d.loads c) (λ k. last_int code paths symbolic nodes w m set (sofar done (spot c k)) (spot c k)) names.index mine
          holds exists e some)

      knows_load : (o : Option ℕ) → a.it.takes ≡ o → Knows done (option_map_or (with_load nodes c d) o d)
      knows_load None is = knows
      knows_load (Some l) is = record { spots = knows.spots; cells = knows.cells; loads = loads }
        where
          loads : (x : Loaded) (e : Expr) → Contains (d.loads ++ record { load = l; value = chosen (index_over nodes d.loads c) mine } ∷ []) x → x.value ≡ Some e
              → get_or w.loads x.load (pos 0) ≡ of_expr e
          loads x e i some = elim (Contains-push_cases d.loads (record { load = l; value = chosen (index_over nodes d.loads c) mine }) x i) [
            | inl old ↦ knows.loads x e old some
            | inr same ↦
                ap (λ (y : Loaded). get_or w.loads y.load (pos 0)) (sym same)
                ∙ load_right l e is (ap (λ (y : Loaded). y.value) same ∙ some)
          ]

    -- ---- the store

    module _ (d : Doing) (knows : Knows done d) where
      unwritten : a.it.writes ≡ None → Knows (done ++ a ∷ []) d
      unwritten none = record {
        spots = knows.spots;
        cells = λ x e i some. knows.cells x e i some ∙ sym (other x.spot (ap (λ o. is_some o && To x.spot c) none));
        loads = knows.loads;
      }

      module _ (t : ℕ) (is : a.it.writes ≡ Some t) where
        abbrev index : Option Expr
        index = index_over nodes d.loads c

        abbrev new : Option Expr
        new = term_over nodes d.loads t

        at_index : Index c (index_over nodes d.loads c)
        at_index = index_is d.loads knows.loads c (λ f n i e. set.order.indexed r a f n i usage e)

        wrote_is : value_written a ≡ Value code paths symbolic nodes w m set t
        wrote_is = ap (λ o. option_map_or (Value code paths symbolic nodes w m set) o (pos 0)) is

        new_is : (e : Expr) → new ≡ Some e → of_expr e ≡ value_written a
        new_is e some = sym (term_right nodes w.loads st d.loads set.about.terms knows.loads 8 t e some) ∙ sym wrote_is

        new_int : GivesInt st at_index.j new
        new_int e some =
            subst IsInt (term_right nodes w.loads st d.loads set.about.terms knows.loads 8 t e some)
            (value_int nodes w.loads set.ints t)

        writes_mine : (s : Spot) → To s c ≡ true → writes s a ≡ true
        writes_mine s hits = and_from (is_some a.it.writes) (To s c) (ap is_some is) hits

        writes_not : (s : Spot) → (To s c ≡ true → ⊥) → writes s a ≡ false
        writes_not s never = and_right (is_some a.it.writes) (To s c) (false_from_ne_true (To s c) never)

        -- a cell of the same variable at the index is named
        moved : (s : Spot) (d : Cell ℕ) (k : ℕ) → same_variable s.variable (variable_of d) ≡ true → s.index ≡ k → To (spot d k) d ≡ true → To s d ≡ true
        moved s (Fixed f) k same at hits =
            let p = same_parts s.variable (variable_of (Fixed f)) same in fixed_from code paths symbolic nodes w m set s f p.1 p.0
        moved s (Element f n i) k same at hits =
            let p = same_parts s.variable (variable_of (Element f n i)) same in
            element_from code paths symbolic nodes w m set s f n i
            (record { array = p.1; first = p.0; index = (element code paths symbolic nodes w m set (spot (Element f n i) k) f n i hits).index ∙ ap (λ n. pos n) (sym at) })

        spots_stay : (xs : List Holding) → map (λ (x : Holding). x.spot) (map (stored v index new) xs) ≡ map (λ (x : Holding). x.spot) xs
        spots_stay [] = refl
        spots_stay (x ∷ xs) = by (same_variable x.spot.variable v) (spots_stay xs)
          where
            by : (b : Bool) → map (λ (y : Holding). y.spot) (map (stored v index new) xs) ≡ map (λ (y : Holding). y.spot) xs
                → (cond b (record x { value = option_and_then (λ i. where_is i x.spot.index new x.value) index }) x).spot ∷ map (λ (y : Holding). y.spot) (map (stored v index new) xs)
                ≡ x.spot ∷ map (λ (y : Holding). y.spot) xs
            by true rest' = ap (λ ys. x.spot ∷ ys) rest'
            by false rest' = ap (λ ys. x.spot ∷ ys) rest'

        -- one of the variable's cells after the store
        cell_right : (x : Holding) (e : Expr) (o : Option Expr) → Contains d.cells x → same_variable x.spot.variable v ≡ true → index ≡ o
            → option_and_then (λ i. where_is i x.spot.index new x.value) o ≡ Some e → of_expr e ≡ value_last (sofar (done ++ a ∷ []) x.spot) x.spot
        cell_right x e None i same at some = absurd (none-some e some)
        cell_right x e (Some f) i same at some =
            elim (where_right st at_index.j f x.spot.index new x.value e (at_index.index f at) new_int x_int some) [
              | inl here ↦
                  here.3 ∙ new_is here.1 here.2
                  ∙ sym (mine_now x.spot (writes_mine x.spot (moved x.spot c at_index.j same (sym here.0) at_index.hits)))
              | inr stays ↦
                  stays.3 ∙ knows.cells x stays.1 i stays.2
                  ∙ sym (other x.spot (writes_not x.spot (λ hits. stays.0 (sym (at_index.only x.spot few hits)))))
            ]
          where
            x_int : GivesInt st at_index.j x.value
            x_int g known = subst IsInt (sym (knows.cells x g i known)) (last_int code paths symbolic nodes w m set (sofar done x.spot) x.spot)

            there' : Contains (spots_of own) x.spot
            there' = subst (λ ss. Contains ss x.spot) knows.spots (in_map {X = Holding} {Y = Spot} (λ y. y.spot) x d.cells i)

            few : x.spot.index < v.cells
            few =
                let s = spot_is own x.spot there' in
                omega (arith, s.within, length_of code paths symbolic nodes w m set x.spot.variable a s.variable usage.access same)

        written_there : Knows (done ++ a ∷ []) (with_store nodes c d t)
        written_there = record { spots = spots_stay d.cells ∙ knows.spots; cells = cells; loads = knows.loads }
          where
            cells : (x : Holding) (e : Expr) → Contains (map (stored v index new) d.cells) x → x.value ≡ Some e
                → of_expr e ≡ value_last (sofar (done ++ a ∷ []) x.spot) x.spot
            cells x e i some =
                let o = of_map {X = Holding} {Y = Holding} (stored v index new) x d.cells i in by o.0 o.1 o.2 (same_variable o.0.spot.variable v) refl
              where
                by : (y : Holding) → Contains d.cells y → stored v index new y ≡ x → (b : Bool) → same_variable y.spot.variable v ≡ b
                    → of_expr e ≡ value_last (sofar (done ++ a ∷ []) x.spot) x.spot
                by y j becomes true same =
                    let is' : record y { value = option_and_then (λ i. where_is i y.spot.index new y.value) index } ≡ x =
                    ap (λ b. cond b (record y { value = option_and_then (λ i. where_is i y.spot.index new y.value) index }) y) (sym same) ∙ becomes in
                    cell_right y e index j same refl (ap (λ (z : Holding). z.value) is' ∙ some)
                    ∙ ap (λ (s : Spot). value_last (sofar (done ++ a ∷ []) s) s) (ap (λ (z : Holding). z.spot) is')
                by y j becomes false miss =
                    let is' : y ≡ x = ap (λ b. cond b (record y { value = option_and_then (λ i. where_is i y.spot.index new y.value) index }) y) (sym miss) ∙ becomes in
                    knows.cells y e j (ap (λ (z : Holding). z.value) is' ∙ some)
                    ∙ sym (other y.spot (writes_not y.spot (λ hits. false≢true (sym miss ∙ same_of code paths symbolic nodes w m set y.spot c hits))))
                    ∙ ap (λ (s : Spot). value_last (sofar (done ++ a ∷ []) s) s) (ap (λ (z : Holding). z.spot) is')

      knows_store : (o : Option ℕ) → a.it.writes ≡ o → Knows (done ++ a ∷ []) (option_map_or (with_store nodes c d) o d)
      knows_store None is = unwritten is
      knows_store (Some t) is = written_there t is

    pub knows_more : (d : Doing) → Knows done d → Knows (done ++ a ∷ []) (with_access nodes d a)
    knows_more d knows =
        knows_store (option_map_or (with_load nodes c d) a.it.takes d) (knows_load d knows a.it.takes refl) a.it.writes refl

  -- ---- after all accesses

  knows_after : (done rest : List (Placed Access)) (d : Doing) → used ≡ done ++ rest → Knows done d → Knows used (fold (with_access nodes) d rest)
  knows_after done [] d split knows = subst (λ ys. Knows ys d) (sym (split ∙ append-nil done)) knows
  knows_after done (a ∷ rest) d split knows =
      knows_after (done ++ a ∷ []) rest (with_access nodes d a) (split ∙ sym (append_assoc done (a ∷ []) rest)) (knows_more done rest a split d knows)

  pub knows_all : Knows used (fold (with_access nodes) (at_begin own) used)
  knows_all = knows_after [] used (at_begin own) refl knows_begin
