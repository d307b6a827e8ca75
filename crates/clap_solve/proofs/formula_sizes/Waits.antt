-- Bounds on the sizes of the conjuncts of conditions and of deadlocks.
use Rattle.std.proofs.Common.{◌≡◌, ℕ, ◌+◌, ◌*◌, ◌≤◌, List, [], ◌∷◌, ◌++◌, map, length, Bool, true, false, Option, Some, None, ap, arith, sum_by}
use Rattle.std.specs.Prelude.{not, filter, nat_lt, ◌==◌, ◌&&◌, option_to_list, if◌then◌else◌}
use Rattle.std.specs.List.{enumerate_from, flat_map}
use Rattle.std.specs.Option.{option_map_or}
use Rattle.std.proofs.lemmas.List.{length-map}
use Rattle.std.proofs.lemmas.List.FromFn.{length-enumerate_from}
use Rattle.std.proofs.lemmas.List.Sums.{sum_by-append, sum_by-cons}
use Rattle.clap_system.specs.path_walk.Paths.{Walk, Paths}
use Rattle.clap_system.specs.path_walk.declared.event.Blocked.{Blocked}
use Rattle.clap_system.specs.path_walk.declared.event.Blocked.TheVariants.{Lock, Wake, Join}
use Rattle.clap_system.specs.path_walk.declared.event.Event.{Event}
use Rattle.clap_system.specs.path_walk.declared.event.Sleep.{Sleep}
use Rattle.mutex_states.specs.bit_blast.order_formula.declared.literal.Atom.TheVariants.{Before, Ends}
use Rattle.clap_system.specs.lawful_order.Events.{Placed, all_events, all_sleeps}
use Rattle.clap_system.specs.condition_order.declared.wait.Ender.{Ender}
use Rattle.clap_system.specs.condition_order.Conditions.{ender_by, enders, sleeps_on, cases_one, begun, ended, ended_before, holds, fails, woken, not_both, ends_no_later, cases_before}
use Rattle.clap_system.specs.condition_order.Conditions.{not_lost, wait_formula, formula_of, wait_of, condition_formula, all_waits}
use Rattle.clap_system.specs.sync_order.Stuck as stuck
use Rattle.clap_system.specs.sync_order.Stuck.{cases_if, unended, not_ended_literal, sleeping, is_held, has_exited, stuck_at, stuck_formula}
use Rattle.mutex_states.specs.bit_blast.Sizes.{literal_size, case_size, size_of}
use Rattle.clap_solve.proofs.formula_sizes.Own.{conjunct_size}
use Rattle.clap_solve.proofs.formula_sizes.Loads.{filter_map_few}
use Rattle.clap_solve.proofs.formula_sizes.Sums.{all_equal, regroup, times_le, of_map, of_flat, of_flat_made, of_all, chosen_few, filter_few}

-- the enders of a condition, and the sleeps on it
pub enders_few : (events : List (Placed Event)) (c : ℕ) → length (enders events c) ≤ length events
enders_few events c = omega (arith, filter_map_few (ender_by c) (enumerate_from 0 events), length-enumerate_from 0 events)

sleeps_few : (paths : Paths) (c : ℕ) → length (sleeps_on (all_waits paths) c) ≤ length (all_sleeps paths)
sleeps_few paths c =
    let h : length (sleeps_on (all_waits paths) c) ≤ length (all_waits paths) = chosen_few _ _ (all_waits paths) in
    omega (
      arith,
      h,
      length-map (enumerate_from 0 (all_sleeps paths)) (wait_of (all_events paths)),
      length-enumerate_from 0 (all_sleeps paths),
    )

-- the conjuncts of a sleep's wait
module _ (events : List (Placed Event)) (s : ℕ × Placed Sleep) (es : List Ender) (rs : List ℕ) where
  woken_size : size_of (woken (wait_of events s) es) ≤ length es * 19 + 1
  woken_size = by (wait_of events s).wakes
    where
      cases : (gs : List Ender) → sum_by case_size (map (λ g. holds (Ends s.0 g.event) ∷ []) gs) ≤ length gs * 6
      cases gs = of_map case_size (λ (g : Ender). holds (Ends s.0 g.event) ∷ []) 6 gs (λ g. omega arith)

      by : (o : Option ℕ) → size_of (option_map_or (λ wake. ended (wait_of events s) es ∷ map (ended_before (wait_of events s) wake) es) o []) ≤ length es * 19 + 1
      by None = omega arith
      by (Some wake) =
          let before = of_map conjunct_size (ended_before (wait_of events s) wake) 13 es (λ g. omega arith) in
          omega (arith, cases es, before, sum_by-cons conjunct_size (ended (wait_of events s) es) (map (ended_before (wait_of events s) wake) es))

  later_size : (g : Ender) → size_of (ends_no_later (wait_of events s) rs g) ≤ length rs * 13
  later_size g = by g.all
    where
      by : (b : Bool) → size_of (if b then [] else map (not_both (wait_of events s) g) (filter (λ r. nat_lt s.0 r) rs)) ≤ length rs * 13
      by true = omega arith
      by false =
          let h = of_map conjunct_size (not_both (wait_of events s) g) 13 (filter (λ r. nat_lt s.0 r) rs) (λ r. omega arith) in
          omega (arith, h, filter_few (λ r. nat_lt s.0 r) rs)

  one_size : (g : Ender) (some : List ℕ) → sum_by case_size (cases_one g some) ≤ length some * 6
  one_size g some = of_map case_size (λ r. holds (Ends r g.event) ∷ []) 6 some (λ r. omega arith)

  before_size : (g : Ender) → sum_by case_size (cases_before (wait_of events s) es g) ≤ length es * 9
  before_size g =
      let h = of_map case_size (λ (h : Ender). holds (Ends s.0 h.event) ∷ holds (Before h.event g.event) ∷ []) 9
      (filter (λ (h : Ender). not (h.event == g.event)) es) (λ h. omega arith) in
      omega (arith, h, filter_few (λ (h : Ender). not (h.event == g.event)) es)

  lost_size : (g : Ender) → conjunct_size (not_lost (wait_of events s) es rs g) ≤ length es * 9 + length rs * 6 + 13
  lost_size g = by g.all
    where
      here : (some : List ℕ) → sum_by case_size ((fails (Before (wait_of events s).begins g.event) ∷ []) ∷ cases_before (wait_of events s) es g ++ cases_one g some) ≤ length es * 9 + length some * 6 + 6
      here some =
          omega (
            arith,
            sum_by-cons case_size (fails (Before (wait_of events s).begins g.event) ∷ []) (cases_before (wait_of events s) es g ++ cases_one g some),
            sum_by-append case_size (cases_before (wait_of events s) es g) (cases_one g some),
            before_size g,
            one_size g some,
          )

      by : (b : Bool) → sum_by case_size ((fails (Before (wait_of events s).begins g.event) ∷ []) ∷ cases_before (wait_of events s) es g ++ cases_one g (if b then s.0 ∷ [] else rs)) + 1
          ≤ length es * 9 + length rs * 6 + 13
      by true = omega (arith, here (s.0 ∷ []))
      by false = omega (arith, here rs)

  -- the size by bounds on the numbers of enders and sleeps
  wait_size : (n : ℕ) → length es ≤ n → length rs ≤ n → size_of (wait_formula (wait_of events s) es rs) ≤ n * (n * 28 + 45) + 1
  wait_size n few short =
      let a = of_map conjunct_size (begun (wait_of events s)) 13 es (λ g. omega arith) in
      let b = woken_size in
      let c = of_flat conjunct_size (ends_no_later (wait_of events s) rs) (n * 13) es (λ g. omega (arith, later_size g, short)) in
      let d = of_map conjunct_size (not_lost (wait_of events s) es rs) (n * 15 + 13) es (λ g. omega (arith, lost_size g, few, short)) in
      let e = times_le (length es) (n * 13) n (n * 13) few (omega arith) in
      let f = times_le (length es) (n * 15 + 13) n (n * 15 + 13) few (omega arith) in
      let last = map (not_lost (wait_of events s) es rs) es in
      let later = flat_map (ends_no_later (wait_of events s) rs) es in
      let g = sum_by-append conjunct_size later last in
      let h = sum_by-append conjunct_size (woken (wait_of events s) es) (later ++ last) in
      let i = sum_by-append conjunct_size (map (begun (wait_of events s)) es) (woken (wait_of events s) es ++ (later ++ last)) in
      omega (arith, a, b, c, d, e, f, g, h, i, few)

module _ (paths : Paths) (few : length (all_sleeps paths) ≤ length (all_events paths)) where
  pub conditions_size : size_of (condition_formula paths)
      ≤ length (all_events paths) * (length (all_events paths) * (length (all_events paths) * 28 + 45) + 1)
  conditions_size =
      let n : ℕ = length (all_events paths) in
      let k : ℕ = length (all_sleeps paths) in
      let all = all_waits paths in
      let most : ℕ = n * (n * 28 + 45) + 1 in
      let h = of_flat_made conjunct_size (wait_of (all_events paths)) (formula_of (all_events paths) all) most (enumerate_from 0 (all_sleeps paths))
      (λ s. wait_size (all_events paths) s (enders (all_events paths) s.1.it.condition) (sleeps_on all s.1.it.condition) n
      (enders_few (all_events paths) s.1.it.condition) (omega (arith, sleeps_few paths s.1.it.condition, few))) in
      let up = times_le k most n most few (omega arith) in
      let same : length (enumerate_from 0 (all_sleeps paths)) * most ≡ k * most = ap (λ j. j * most) (length-enumerate_from 0 (all_sleeps paths)) in
      omega (arith, h, up, same)

  unended_size : (s c : ℕ) → sum_by literal_size (unended (all_events paths) s c) ≤ length (all_events paths) * 3
  unended_size s c =
      let h = of_map literal_size (not_ended_literal s) 3 (enders (all_events paths) c) (λ g. omega arith) in
      omega (arith, h, enders_few (all_events paths) c)

  on_size : (t k : ℕ) → sum_by literal_size (stuck.sleeps_on (all_events paths) (all_sleeps paths) t k)
      ≤ length (all_events paths) * length (all_events paths) * 3
  on_size t k =
      let n : ℕ = length (all_events paths) in
      let h = of_all literal_size (sleeping (all_events paths) t k) (λ _. n * 3) (all_sleeps paths)
      (λ s x. here s x (x.thread == t && x.it.step == k)) in
      let all = all_equal (n * 3) (all_sleeps paths) in
      let up = times_le (length (all_sleeps paths)) n n n few (omega arith) in
      omega (arith, h, all, regroup (length (all_sleeps paths)) n 3, up)
    where
      here : (s : ℕ) (x : Placed Sleep) (b : Bool) → sum_by literal_size (if b then unended (all_events paths) s x.it.condition else []) ≤ length (all_events paths) * 3
      here s x true = unended_size s x.it.condition
      here s x false = omega arith

  stuck_size : (t : ℕ) (q : Walk) (b : Blocked) → conjunct_size (stuck_at paths t q b) ≤ length (all_events paths) * length (all_events paths) * 3 + 4
  stuck_size t q (Lock m) = by (is_held paths.threads m)
    where
      by : (b : Bool) → sum_by case_size (cases_if b) + 1 ≤ length (all_events paths) * length (all_events paths) * 3 + 4
      by true = omega arith
      by false = omega arith
  stuck_size t q (Wake c m k) = by (is_held paths.threads m)
    where
      by : (b : Bool) → sum_by case_size (if b then [] ∷ [] else stuck.sleeps_on (all_events paths) (all_sleeps paths) t k ∷ []) + 1
          ≤ length (all_events paths) * length (all_events paths) * 3 + 4
      by true = omega arith
      by false =
          omega (arith, on_size t k, sum_by-cons case_size (stuck.sleeps_on (all_events paths) (all_sleeps paths) t k) [])
  stuck_size t q (Join k) = by (not (has_exited paths.threads q k))
    where
      by : (b : Bool) → sum_by case_size (cases_if b) + 1 ≤ length (all_events paths) * length (all_events paths) * 3 + 4
      by true = omega arith
      by false = omega arith

  pub stuck_formula_size : size_of (stuck_formula paths) ≤ length paths.threads * (length (all_events paths) * length (all_events paths) * 3 + 4)
  stuck_formula_size =
      let m : ℕ = length (all_events paths) * length (all_events paths) * 3 + 4 in
      let h = of_all conjunct_size (λ t q. map (stuck_at paths t q) (option_to_list q.blocked)) (λ _. m) paths.threads (λ t q. one t q q.blocked) in
      omega (arith, h, all_equal m paths.threads)
    where
      one : (t : ℕ) (q : Walk) (o : Option Blocked)
          → size_of (map (stuck_at paths t q) (option_to_list o)) ≤ length (all_events paths) * length (all_events paths) * 3 + 4
      one t q None = omega arith
      one t q (Some b) = omega (arith, stuck_size t q b, sum_by-cons conjunct_size (stuck_at paths t q b) [])
