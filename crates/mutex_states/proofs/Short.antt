-- The arrays among a mutex's variables are short, and its states have few cells.
use Rattle.std.proofs.Common.{◌≡◌, ℕ, ◌+◌, ◌<◌, ◌≤◌, ◌^◌, Bool, true, false, not, cond, ◌&&◌, ◌||◌, ◌==◌, List, [], ◌∷◌, ◌++◌, length, map, inl, inr, refl, ap, sym, subst, ◌∙◌, arith}
use Rattle.std.specs.Prelude.{fold, is_none, is_some, nat_le}
use Rattle.std.specs.List.{Contains, range_with_len, sum_by}
use Rattle.std.proofs.lemmas.Bool.{and_parts, eqb-true, false≢true, leb-true, not-true, or_cases}
use Rattle.std.proofs.lemmas.List.{length-append, length-map}
use Rattle.std.proofs.lemmas.List.Elements.{Contains-push_cases}
use Rattle.std.proofs.lemmas.List.FromFn.{length-range_with_len}
use Rattle.std.proofs.lemmas.List.Sums.{sum_by-cons, sum_by_push}
use Rattle.order_cells.specs.sym_exec.path_walk.Paths.{Paths}
use Rattle.order_cells.specs.sym_exec.path_walk.declared.event.Region.{Region}
use Rattle.order_cells.specs.sym_exec.Executed.{Symbolic}
use Rattle.order_cells.specs.sym_exec.declared.symbolic.Access.{Access}
use Rattle.order_cells.specs.sym_exec.tc_code.declared.cell.Cell.TheVariants.{Element}
use Rattle.mutex_regions.specs.order_events.lawful_order.Events.{Placed}
use Rattle.mutex_regions.specs.read_write.Accesses.{all_accesses}
use Rattle.mutex_regions.specs.Regions.{regions_of}
use Rattle.mutex_regions.specs.Variables.{fits, guarded, is_among, is_guarded, is_inside, is_proper, same_variable, spots_of, variable_of, variables_of, with_variable}
use Rattle.mutex_regions.specs.declared.variables.Spot.{Spot}
use Rattle.mutex_regions.specs.declared.variables.Variable.{Variable}
use Rattle.mutex_regions.proofs.Lists.{of_all, of_any}
use Rattle.mutex_regions.proofs.Setting.{guarded_are, same_back}

abbrev cells_of : Variable → ℕ
cells_of v = v.cells

-- short variables, and few cells of them all
abbrev pub AreShort : List Variable → Type 0
AreShort vs = ((v : Variable) → Contains vs v → v.cells ≤ 8) × (sum_by cells_of vs ≤ 64)

module _ (regions : List (Placed Region)) (accesses : List (Placed Access)) where
  one_more : (vs : List Variable) (a : Placed Access) → AreShort vs → AreShort (with_variable regions accesses vs a)
  one_more vs a before = by (is_some a.it.writes && (not (is_among vs u) && (is_guarded regions accesses u && fits vs u))) refl
    where
      u : Variable
      u = variable_of a.it.cell

      by : (b : Bool) → (is_some a.it.writes && (not (is_among vs u) && (is_guarded regions accesses u && fits vs u))) ≡ b
          → AreShort (cond b (vs ++ u ∷ []) vs)
      by false miss = before
      by true hit =
          let p = and_parts (is_some a.it.writes) (not (is_among vs u) && (is_guarded regions accesses u && fits vs u)) hit in
          let q = and_parts (not (is_among vs u)) (is_guarded regions accesses u && fits vs u) p.1 in
          let f = and_parts (is_guarded regions accesses u) (fits vs u) q.1 in
          let n = and_parts (nat_le u.cells 8) (nat_le (sum_by cells_of vs + u.cells) 64) f.1 in
          let few : sum_by cells_of vs + u.cells ≤ 64 = leb-true (sum_by cells_of vs + u.cells) 64 n.1 in (
            λ v i. elim (Contains-push_cases vs u v i) [
              | inl old ↦ before.0 v old
              | inr new ↦ subst (λ (x : Variable). x.cells ≤ 8) new (leb-true u.cells 8 n.0)
            ],
            omega (arith, sum_by_push cells_of vs u, few),
          )

  all_short : (xs : List (Placed Access)) (vs : List Variable) → AreShort vs → AreShort (fold (with_variable regions accesses) vs xs)
  all_short [] vs before = before
  all_short (a ∷ xs) vs before = all_short xs (with_variable regions accesses vs a) (one_more vs a before)

  pub are_short : AreShort (variables_of regions accesses)
  are_short = all_short accesses [] (λ v i. absurd (omega (arith, i.1)), omega arith)

-- a variable of a mutex has the length that an access to it has
module _ (paths : Paths) (symbolic : Symbolic) (m : ℕ) (a : Placed Access) where
  abbrev u : Variable
  u = variable_of a.it.cell

  same_length : (v : Variable) → same_variable v u ≡ true → is_proper (regions_of paths m) v a ≡ true → v.cells ≡ u.cells
  same_length v same proper =
      let rest = is_none a.it.writes || is_inside (regions_of paths m) a in
      elim (or_cases (not (same_variable v u)) (v.cells == u.cells && rest) proper) [
        | inl other ↦ absurd (false≢true (sym (not-true (same_variable v u) other) ∙ same))
        | inr own ↦ eqb-true v.cells u.cells (and_parts (v.cells == u.cells) rest own).0
      ]

  pub short_variable : Contains (all_accesses symbolic) a → is_among (guarded paths symbolic m) u ≡ true → u.cells ≤ 8
  short_variable there among =
      let regions = regions_of paths m in
      let accesses = all_accesses symbolic in
      let v = of_any (same_variable u) (guarded paths symbolic m) among in
      let proper = of_all (is_proper regions v.0) accesses a (guarded_are regions accesses v.0 v.1) there in
      let short = (are_short regions accesses).0 v.0 v.1 in
      omega (arith, short, same_length v.0 (same_back u v.0 v.2) proper)

  pub short_array : (g n i : ℕ) → Contains (all_accesses symbolic) a → is_among (guarded paths symbolic m) u ≡ true → a.it.cell ≡ Element g n i → n < 2 ^ 31
  short_array g n i there among is =
      let e : u.cells ≡ n = ap (λ c. (variable_of c).cells) is in
      omega (arith, short_variable there among, e)

-- a state has a value for each cell of each variable
spots_length : (vs : List Variable) → length (spots_of vs) ≡ sum_by cells_of vs
spots_length [] = refl
spots_length (v ∷ vs) =
    let spot : ℕ → Spot = λ k. record { variable = v; index = k } in
    let own : length (map spot (range_with_len 0 v.cells)) ≡ v.cells = length-map (range_with_len 0 v.cells) spot ∙ length-range_with_len 0 v.cells in
    omega (arith, length-append (map spot (range_with_len 0 v.cells)) (spots_of vs), own, spots_length vs, sum_by-cons cells_of v vs)

pub few_spots : (paths : Paths) (symbolic : Symbolic) (m : ℕ) → length (spots_of (guarded paths symbolic m)) ≤ 64
few_spots paths symbolic m =
    let few = (are_short (regions_of paths m) (all_accesses symbolic)).1 in
    omega (arith, spots_length (guarded paths symbolic m), few)
