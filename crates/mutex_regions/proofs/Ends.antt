-- Each region takes the state before it to the state after it.
use Rattle.std.proofs.Common.{◌≡◌, ◌⊎◌, ℕ, ◌<◌, ◌≤◌, Bool, true, ◌||◌, ℤ, pos, List, [], ◌∷◌, map, get_or, Option, Some, None, inl, inr, refl, ap, sym, subst, ◌∙◌, arith}
use Rattle.std.specs.Prelude.{IsSome, filter, is_some, nat_lt, option_map, slice_get}
use Rattle.std.specs.List.{Contains, list_any}
use Rattle.std.proofs.lemmas.Bool.{and_from, and_parts, eq-eqb, lt-ltb, ltb-true, or_cases, or_left, or_right}
use Rattle.std.proofs.lemmas.Option.{slice_get-map}
use Rattle.tc_code.specs.Code.{Code}
use Rattle.tc_code.specs.Expr as expr
use Rattle.tc_code.specs.Expr.{Expr}
use Rattle.path_walk.specs.Paths.{Paths}
use Rattle.path_walk.specs.declared.event.Region.{Region}
use Rattle.sym_terms.specs.Values.{value_of}
use Rattle.sym_terms.specs.declared.node.Node.{Node}
use Rattle.sym_exec.specs.Executed.{Symbolic}
use Rattle.sym_exec.specs.declared.symbolic.Access.{Access}
use Rattle.sym_exec.specs.tc_code.declared.cell.Cell.{Cell}
use Rattle.order_formula.specs.Worlds.{World, position}
use Rattle.order_events.specs.lawful_order.Events.{Placed, number_of}
use Rattle.order_events.specs.lawful_order.Mutexes.{IsLeftBefore}
use Rattle.order_events.proofs.Lists.{at_in, in_back, in_front}
use Rattle.read_write.specs.Accesses.{is_one}
use Rattle.read_write.proofs.Numbers.{access_of}
use Rattle.mutex_regions.specs.Functions.{function_of, is_used}
use Rattle.mutex_regions.specs.declared.functions.Holding.{Holding}
use Rattle.mutex_regions.specs.Laws.{IsLastBefore, IsLastLoad, RegionsAct}
use Rattle.mutex_regions.specs.States.{is_write_before, state_before, writes_to}
use Rattle.mutex_regions.specs.Variables.{same_variable, spots_of, variable_of}
use Rattle.mutex_regions.specs.declared.variables.Spot.{Spot}
use Rattle.mutex_regions.proofs.Acts.{Knows, knows_all, of_use, sofar, st, use_of}
use Rattle.mutex_regions.proofs.Values.{term_right}
use Rattle.mutex_regions.proofs.Lists.{any_of, of_any, same_test}
use Rattle.mutex_regions.proofs.Setting.{Setting, SeenBy, Use, Value, accesses, at, at_first, begins, both_to, comes_before, in_region, last, last_is, last_same, one_of_steps, regions, same_back, same_of, same_or_apart, takes_last, to, to_same, variables}
use Rattle.mutex_regions.proofs.Spots.{spot_is}
use Rattle.std.proofs.lemmas.Bool.{eqb-true}
use Rattle.std.specs.Prelude.{◌==◌}

map_same : {X Y : Type 0} (f g : X → Y) (xs : List X) → ((x : X) → Contains xs x → f x ≡ g x) → map f xs ≡ map g xs
map_same f g [] same = refl
map_same f g (x ∷ xs) same =
    ap (λ y. y ∷ map f xs) (same x (in_front x xs)) ∙ ap (λ ys. g x ∷ ys) (map_same f g xs (λ y i. same y (in_back y x xs i)))

module _ (code : Code) (paths : Paths) (symbolic : Symbolic) (nodes : List Node) (w : World) (m : ℕ) (set : Setting code paths symbolic nodes w m) where
  abbrev all : List (Placed Access)
  all = accesses code paths symbolic nodes w m set

  abbrev own : List Spot
  own = spots_of (variables code paths symbolic nodes w m set)

  abbrev place : Placed Access → ℕ
  place a = at code paths symbolic nodes w m set a

  abbrev begin : Placed Region → ℕ
  begin r = begins code paths symbolic nodes w m set r

  abbrev value_last : (Placed Access → Bool) → Spot → ℤ
  value_last is s = last code paths symbolic nodes w m set is s

  abbrev before : ℕ → Spot → Placed Access → Bool
  before p s = is_write_before code paths symbolic nodes w p s

  abbrev Uses : Placed Region → Placed Access → Type 0
  Uses r a = Use code paths symbolic nodes w m set r a

  abbrev To : Spot → Cell ℕ → Bool
  To s c = to code paths symbolic nodes w m set s c

  abbrev InRegions : Placed Region → Type 0
  InRegions r = Contains (regions code paths symbolic nodes w m set) r

  -- a write to a cell of the state lies in a region
  lies : (s : Spot) (a : Placed Access) → Contains own s → Contains all a → writes_to code paths symbolic nodes w s a ≡ true → (r : Placed Region) × Uses r a
  lies s a i j h =
      let p = and_parts (is_some a.it.writes) (To s a.it.cell) h in
      let u = spot_is (variables code paths symbolic nodes w m set) s i in
      in_region code paths symbolic nodes w m set a j p.0
      (any_of (same_variable (variable_of a.it.cell)) (variables code paths symbolic nodes w m set) s.variable u.variable
      (same_back s.variable (variable_of a.it.cell) (same_of code paths symbolic nodes w m set s a.it.cell p.1)))

  -- ---- before all regions

  first : (p : ℕ) → ((s : Placed Region) → InRegions s → p ≤ begin s)
      → state_before code paths symbolic nodes w (variables code paths symbolic nodes w m set) p ≡ map (at_first code paths symbolic nodes w m set) own
  first p none = map_same (λ s. value_last (before p s) s) (at_first code paths symbolic nodes w m set) own held
    where
      held : (s : Spot) → Contains own s → value_last (before p s) s ≡ at_first code paths symbolic nodes w m set s
      held s i = elim (last_is code paths symbolic nodes w m set (before p s) s) [
        | inl o ↦ o.1
        | inr o ↦
            let a = o.0 in
            let h = and_parts (writes_to code paths symbolic nodes w s a) (nat_lt (place a) p) o.1.passes in
            let q = lies s a i o.1.among h.0 in
            absurd (omega (arith, ltb-true (place a) p h.1, none q.0 q.1.region, set.order.begun q.0 a q.1))
      ]

  -- ---- after a region

  module _ (r : Placed Region) (p : ℕ) (is : IsLastBefore code paths symbolic nodes w m r p) where
    abbrev used : List (Placed Access)
    used = filter (is_used (variables code paths symbolic nodes w m set) r) all

    abbrev done : Spot → Placed Access → Bool
    done s = sofar code paths symbolic nodes w m set r is.there used s

    -- the region's accesses come before the position
    ends : (a : Placed Access) → Uses r a → place a < p
    ends a u = by r.it.to refl
      where
        by : (o : Option ℕ) → r.it.to ≡ o → place a < p
        by None open' = is.whole open' (number_of paths a.thread a.it.step)
        by (Some k) end = omega (arith, set.order.ended r a k u end, is.ended k end)

    -- all other writes before it come before the region
    comes : (s : Spot) (a : Placed Access) → Contains own s → Contains all a → writes_to code paths symbolic nodes w s a ≡ true → place a < p
        → (nat_lt (place a) (begin r) || list_any (is_one a) used) ≡ true
    comes s a i j does less = by (same_or_apart code paths symbolic nodes w m set r q.0 is.there q.1.region)
      where
        q : (z : Placed Region) × Uses z a
        q = lies s a i j does

        early : place a < begin r → (nat_lt (place a) (begin r) || list_any (is_one a) used) ≡ true
        early e = or_left (nat_lt (place a) (begin r)) (list_any (is_one a) used) (lt-ltb (place a) (begin r) e)

        by : (r ≡ q.0) ⊎ (IsLeftBefore paths w r.thread r.it q.0.thread q.0.it ⊎ IsLeftBefore paths w q.0.thread q.0.it r.thread r.it)
            → (nat_lt (place a) (begin r) || list_any (is_one a) used) ≡ true
        by (inl same) =
            or_right (nat_lt (place a) (begin r)) (list_any (is_one a) used)
            (any_of (is_one a) used a
            (of_use code paths symbolic nodes w m set r is.there a (subst (λ z. Uses z a) (sym same) q.1))
            (and_from (a.thread == a.thread) (a.it.step == a.it.step) (eq-eqb a.thread a.thread refl) (eq-eqb a.it.step a.it.step refl)))
        by (inr (inl left)) =
            let inside = set.order.begun q.0 a q.1 in
            let order = is.last q.0 q.1.region (omega (arith, inside, less)) in
            absurd (omega (arith, set.order.forward r left.0 is.there left.1, left.2, order))
        by (inr (inr left)) = early (comes_before code paths symbolic nodes w m set q.0 r a q.1 left)

    after : (s : Spot) → Contains own s → value_last (before p s) s ≡ value_last (done s) s
    after s i = last_same code paths symbolic nodes w m set (before p s) (done s) s (λ a j. same_test (before p s a) (done s a) (on a j) (back a j))
      where
        on : (a : Placed Access) → Contains all a → before p s a ≡ true → done s a ≡ true
        on a j h =
            let f = and_parts (writes_to code paths symbolic nodes w s a) (nat_lt (place a) p) h in
            and_from (writes_to code paths symbolic nodes w s a) (nat_lt (place a) (begin r) || list_any (is_one a) used) f.0
            (comes s a i j f.0 (ltb-true (place a) p f.1))

        mine : (a : Placed Access) → Contains all a → list_any (is_one a) used ≡ true → Uses r a
        mine a j h =
            let o = of_any (is_one a) used h in
            let u = use_of code paths symbolic nodes w m set r is.there o.0 o.1 in
            let f = and_parts (a.thread == o.0.thread) (a.it.step == o.0.it.step) o.2 in
            let same = one_of_steps code paths symbolic nodes w m set a o.0 j u.access (eqb-true a.thread o.0.thread f.0)
            (eqb-true a.it.step o.0.it.step f.1) in
            subst (λ z. Uses r z) (sym same) u

        back : (a : Placed Access) → Contains all a → done s a ≡ true → before p s a ≡ true
        back a j h =
            let f = and_parts (writes_to code paths symbolic nodes w s a) (nat_lt (place a) (begin r) || list_any (is_one a) used) h in
            and_from (writes_to code paths symbolic nodes w s a) (nat_lt (place a) p) f.0
            (lt-ltb (place a) p (elim (or_cases (nat_lt (place a) (begin r)) (list_any (is_one a) used) f.1) [
              | inl less ↦ omega (arith, ltb-true (place a) (begin r) less, is.begun)
              | inr own ↦ ends a (mine a j own)
            ]))

    known : Knows code paths symbolic nodes w m set r is.there used (function_of nodes (variables code paths symbolic nodes w m set) all r)
    known = knows_all code paths symbolic nodes w m set r is.there

    cells : (k : ℕ) (x : Holding) (e : Expr) → slice_get (function_of nodes (variables code paths symbolic nodes w m set) all r).cells k ≡ Some x → x.value ≡ Some e
        → slice_get (state_before code paths symbolic nodes w (variables code paths symbolic nodes w m set) p) k
        ≡ Some (expr.value_of e (st code paths symbolic nodes w m set r is.there))
    cells k x e there some =
        let d = function_of nodes (variables code paths symbolic nodes w m set) all r in
        let spot : slice_get own k ≡ Some x.spot =
        ap (λ ss. slice_get ss k) (sym known.spots) ∙ slice_get-map (λ (y : Holding). y.spot) d.cells k ∙ ap (option_map (λ (y : Holding). y.spot)) there in
        slice_get-map (λ s. value_last (before p s) s) own k ∙ ap (option_map (λ s. value_last (before p s) s)) spot
        ∙ ap (λ v. Some v) (after x.spot (at_in own k x.spot spot) ∙ sym (known.cells x e (at_in d.cells k x there) some))

  -- ---- outside of all regions

  some_mapped : (o : Option ℕ) → IsSome o → IsSome (option_map (Value code paths symbolic nodes w m set) o)
  some_mapped None is = is
  some_mapped (Some t) is = refl

  mapped_some : (o : Option ℕ) → IsSome (option_map (Value code paths symbolic nodes w m set) o) → IsSome o
  mapped_some None is = is
  mapped_some (Some t) is = refl

  outside : (a : Placed Access) (l k p : ℕ) (s : Spot) → IsLastLoad code paths symbolic nodes w m a → a.it.takes ≡ Some l → slice_get own k ≡ Some s
      → To s a.it.cell ≡ true → ((e : ℕ) → position w e < p)
      → slice_get (state_before code paths symbolic nodes w (variables code paths symbolic nodes w m set) p) k ≡ Some (get_or w.loads l (pos 0))
  outside a l k p s is takes here hits beyond =
      slice_get-map (λ x. value_last (before p x) x) own k ∙ ap (option_map (λ x. value_last (before p x) x)) here
      ∙ ap (λ v. Some v) (sym (takes_last code paths symbolic nodes w m set a l s (before p s) takes is.right hits sees seen))
    where
      sees : (d : Placed Access) → Contains all d → before p s d ≡ true → SeenBy code paths symbolic nodes w m set a d
      sees d i h =
          let f = and_parts (writes_to code paths symbolic nodes w s d) (nat_lt (place d) p) h in
          let g = and_parts (is_some d.it.writes) (To s d.it.cell) f.0 in
          let q = lies s d (at_in own k s here) i f.0 in
          let end = is.after q.0 q.1.region in
          record {
            there = access_of symbolic d i;
            writes = some_mapped d.it.writes g.0;
            cell = both_to code paths symbolic nodes w m set s d.it.cell a.it.cell g.1 hits;
            before = inl (omega (arith, set.order.ended q.0 d end.0 q.1 end.1, end.2));
          }

      seen : (d : Placed Access) → Contains all d → SeenBy code paths symbolic nodes w m set a d → before p s d ≡ true
      seen d i x =
          and_from (writes_to code paths symbolic nodes w s d) (nat_lt (place d) p)
          (and_from (is_some d.it.writes) (To s d.it.cell) (mapped_some d.it.writes x.writes)
          (to_same code paths symbolic nodes w m set s d.it.cell a.it.cell hits x.cell))
          (lt-ltb (place d) p (beyond (number_of paths d.thread d.it.step)))

  pub act : RegionsAct code paths symbolic nodes w m
  act = record {
    first = first;
    loads = λ r l e there i some. (knows_all code paths symbolic nodes w m set r there).loads l e i some;
    terms = λ r levels term e there some.
        term_right nodes w.loads (st code paths symbolic nodes w m set r there)
        (function_of nodes (variables code paths symbolic nodes w m set) all r).loads set.about.terms
        (knows_all code paths symbolic nodes w m set r there).loads levels term e some;
    cells = λ r p k x e is there some. cells r p is k x e there some;
    outside = λ a l k p s is takes here hits beyond. outside a l k p s is takes here hits beyond;
  }
