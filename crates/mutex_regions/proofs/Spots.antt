-- The cells of a state.
use Rattle.std.proofs.Common.{◌≡◌, ℕ, ◌+◌, ◌<◌, List, [], ◌∷◌, length, map, refl, ap, sym, subst, ◌∙◌, arith}
use Rattle.std.specs.List.{Contains, range_with_len, sum_by}
use Rattle.std.proofs.lemmas.List.{length-append}
use Rattle.std.proofs.lemmas.List.FromFn.{length-map-range_with_len}
use Rattle.std.proofs.lemmas.List.Sums.{sum_by-cons}
use Rattle.order_events.proofs.Lists.{in_flat_map, in_map, of_flat_map, of_map}
use Rattle.mutex_regions.specs.Variables.{spots_of}
use Rattle.mutex_regions.specs.declared.variables.Spot.{Spot}
use Rattle.mutex_regions.specs.declared.variables.Variable.{Variable}
use Rattle.mutex_regions.proofs.Lists.{in_range, of_range}

-- a cell of the state, by its variable and index
pub record IsSpot (vs : List Variable) (s : Spot) : Type 0 where
  pub variable : Contains vs s.variable
  pub within : s.index < s.variable.cells

pub spot_is : (vs : List Variable) (s : Spot) → Contains (spots_of vs) s → IsSpot vs s
spot_is vs s i =
    let o = of_flat_map {X = Variable} {Y = Spot} (λ u. map (λ k. record { variable = u; index = k }) (range_with_len 0 u.cells)) s vs i in
    let p = of_map {X = ℕ} {Y = Spot} (λ k. record { variable = o.0; index = k }) s (range_with_len 0 o.0.cells) o.2 in
    let few = of_range 0 o.0.cells p.0 p.1 in
    subst (IsSpot vs) p.2 (record { variable = o.1; within = omega (arith, few) })

pub spot_there : (vs : List Variable) (u : Variable) (k : ℕ) → Contains vs u → k < u.cells → Contains (spots_of vs) (record { variable = u; index = k })
spot_there vs u k i few =
    in_flat_map {X = Variable} {Y = Spot} (λ x. map (λ n. record { variable = x; index = n }) (range_with_len 0 x.cells)) u (record { variable = u; index = k }) vs i
    (in_map {X = ℕ} {Y = Spot} (λ n. record { variable = u; index = n }) k (range_with_len 0 u.cells)
    (subst (λ n. Contains (range_with_len 0 u.cells) n) (let e : 0 + k ≡ k = omega arith in e) (in_range 0 u.cells k few)))

-- a state has as many cells as its variables
pub spots_count : (vs : List Variable) → length (spots_of vs) ≡ sum_by (λ v. v.cells) vs
spots_count [] = refl
spots_count (v ∷ vs) =
    let spot : ℕ → Spot = λ k. record { variable = v; index = k } in
    length-append (map spot (range_with_len 0 v.cells)) (spots_of vs) ∙ ap (λ n. n + length (spots_of vs)) (length-map-range_with_len spot 0 v.cells)
    ∙ ap (λ n. v.cells + n) (spots_count vs) ∙ sym (sum_by-cons (λ u. u.cells) v vs)
