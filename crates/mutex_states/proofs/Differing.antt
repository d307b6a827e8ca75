-- The regions of a mutex begin at different positions in every world.
use Rattle.std.proofs.Common.{◌≡◌, ◌≢◌, ℕ, ◌<◌, List, Some, ap, sym, ◌∙◌, arith, length, get_or}
use Rattle.std.specs.Prelude.{◌==◌, option_map, slice_get}
use Rattle.std.specs.List.{AllPairs, Contains, IsDistinct}
use Rattle.std.proofs.lemmas.Bool.Decides.{Decides-eqb}
use Rattle.std.proofs.lemmas.List.{length-map}
use Rattle.std.proofs.lemmas.Map.Made.{IsDistinct-from_AllPairs}
use Rattle.std.proofs.lemmas.Option.{get_or_from_slice_get, slice_get-map}
use Rattle.order_cells.specs.sym_exec.path_walk.tc_code.Code.{Code}
use Rattle.order_cells.specs.sym_exec.path_walk.Paths.{ArePaths, Paths}
use Rattle.order_cells.specs.sym_exec.path_walk.declared.event.Region.{Region}
use Rattle.circuit_sizes.specs.sym_terms.declared.node.Node.{Node}
use Rattle.order_cells.specs.sym_exec.Executed.{Symbolic}
use Rattle.mutex_regions.specs.order_events.order_formula.Worlds.{IsWorld, World}
use Rattle.mutex_regions.specs.order_events.lawful_order.Events.{Placed, number_of}
use Rattle.mutex_regions.specs.order_events.lawful_order.Lawful.{IsWorldOf}
use Rattle.mutex_regions.specs.order_events.lawful_order.Whole.{HasStep}
use Rattle.mutex_regions.proofs.order_events.Lists.{at_in}
use Rattle.mutex_regions.proofs.order_events.Numbers.{has_number, one_step}
use Rattle.mutex_regions.proofs.order_events.Whole.{whole}
use Rattle.mutex_regions.proofs.read_write.Numbers.{one_position}
use Rattle.mutex_regions.specs.Laws.{begin}
use Rattle.mutex_regions.specs.Regions.{regions_of}
use Rattle.mutex_regions.proofs.Distinct.{begin_of, begins_rise, has_region}
use Rattle.mutex_regions.proofs.Rises.{rises_at}
use Rattle.mutex_states.specs.Going.{positions_of}
use Rattle.mutex_states.proofs.Literals.{some_at}

module _ (code : Code) (paths : Paths) (symbolic : Symbolic) (nodes : List Node) (w : World) (m : ℕ) (are : ArePaths code paths) (world : IsWorld w)
    (of : IsWorldOf paths symbolic w) where
  abbrev regions : List (Placed Region)
  regions = regions_of paths m

  abbrev at : Placed Region → ℕ
  at = begin code paths symbolic nodes w m

  abbrev positions : List ℕ
  positions = positions_of code paths symbolic nodes w m

  many : length positions ≡ length regions
  many = length-map regions at

  place_is : (i d : ℕ) (r : Placed Region) → slice_get regions i ≡ Some r → get_or positions i d ≡ at r
  place_is i d r is = get_or_from_slice_get positions i (at r) d (slice_get-map at regions i ∙ ap (option_map at) is)

  step_at : (r : Placed Region) → Contains regions r → HasStep paths r.thread r.it.«from»
  step_at r i = (whole code paths are).taken r.thread r.it (has_region paths m r i).0

  inside : (r : Placed Region) → Contains regions r → number_of paths r.thread r.it.«from» < length w.positions
  inside r i = omega (arith, has_number paths r.thread r.it.«from» (step_at r i), of.events)

  apart : AllPairs (λ p q. p ≢ q) positions
  apart i j d less there same =
      let r = some_at regions i (omega (arith, less, there, many)) in
      let s = some_at regions j (omega (arith, there, many)) in
      let p : Contains regions r.0 = at_in regions i r.0 r.1 in
      let q : Contains regions s.0 = at_in regions j s.0 s.1 in
      let one : at r.0 ≡ at s.0 = sym (place_is i d r.0 r.1) ∙ same ∙ place_is j d s.0 s.1 in
      let number = one_position w (number_of paths r.0.thread r.0.it.«from») (number_of paths s.0.thread s.0.it.«from») world (inside r.0 p) (inside s.0 q) one in
      let h = one_step paths r.0.thread r.0.it.«from» s.0.thread s.0.it.«from» (step_at r.0 p) number in
      let rises : r.0.it.«from» < s.0.it.«from» = rises_at begin_of regions i j r.0 s.0 (begins_rise code paths m are) r.1 s.1 less (sym h.0) in
      absurd (omega (arith, rises, h.1))

  pub begins_differ : IsDistinct (λ p q. p == q) positions
  begins_differ = IsDistinct-from_AllPairs Decides-eqb positions apart
