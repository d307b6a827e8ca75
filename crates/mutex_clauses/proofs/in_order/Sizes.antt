-- How many literals there are, and that all are within the variables.
use Rattle.std.proofs.Common.{◌≡◌, ℕ, suc, ◌+◌, ◌*◌, ◌<◌, ◌≤◌, false, List, ◌++◌, ℤ, refl, sym, ◌∙◌, subst, arith, length, map}
use Rattle.std.specs.Prelude.{filter}
use Rattle.std.specs.List.{Contains, enumerate_from, flat_map}
use Rattle.std.specs.Option.{option_to_list}
use Rattle.std.proofs.lemmas.List.{length-append, length-map}
use Rattle.std.proofs.lemmas.List.Elements.{All-append, All-cons, All-map}
use Rattle.path_walk.specs.Paths.{Paths}
use Rattle.path_walk.specs.declared.event.Region.{Region}
use Rattle.sym_exec.specs.declared.symbolic.Access.{Access}
use Rattle.order_formula.specs.declared.formula.Conjunct.{Conjunct}
use Rattle.order_events.specs.lawful_order.Events.{Placed, number_of}
use Rattle.cnf_core.specs.Clauses.{var_of}
use Rattle.bit_gates.specs.Folded.{constant}
use Rattle.bit_words.specs.Words.{AreWithin}
use Rattle.bit_order.specs.Comparators.{before_literal}
use Rattle.bit_order.specs.Layouts.{Layout}
use Rattle.bit_blast.proofs.Lists.{all_flat_map, all_of}
use Rattle.mutex_states.specs.InOrder.{is_of_mutex, read_number}
use Rattle.mutex_states.proofs.Larger.{filter_enumerated, filter_few, flat_few, flat_part, flat_twice, option_few}
use Rattle.mutex_states.proofs.Ordered.{of_get}
use Rattle.mutex_clauses.specs.in_order.helpers.Listed.{apart, ends, follows, forward, matters, of_access, of_mutex, of_region, orders, reads, rise, root, step_before}

module _ (paths : Paths) (y : Layout) (formula : List Conjunct) (roots : List ℤ) (m : ℕ) (regions : List (Placed Region))
    (own : Placed Region → List (Placed Access)) where
  abbrev pub conjuncts : ℕ
  conjuncts = length (filter (λ (c : Conjunct). is_of_mutex m c.group) formula)

  abbrev pub all_used : ℕ
  all_used = length (flat_map own regions)

  abbrev about : List (ℕ × Conjunct)
  about = filter (λ (p : ℕ × Conjunct). is_of_mutex m p.1.group) (enumerate_from 0 formula)

  -- ---- how many

  apart_few : length (apart paths y formula roots m) ≡ conjuncts
  apart_few =
      length-map about (λ (p : ℕ × Conjunct). root paths y formula roots p.0)
      ∙ filter_enumerated (λ (c : Conjunct). is_of_mutex m c.group) 0 formula

  forward_few : length (flat_map (forward paths y) regions) ≤ length regions * 1
  forward_few =
      flat_few (forward paths y) 1 regions
      (λ r _. subst (λ n. n ≤ 1) (sym (length-map (option_to_list r.it.to) (λ k. step_before paths y r.thread r.it.«from» r.thread k)))
      (option_few r.it.to))

  rise_few : length (flat_map (rise paths y regions) regions) ≤ length regions * length regions
  rise_few =
      flat_few (rise paths y regions) (length regions) regions
      (λ r _. subst (λ n. n ≤ length regions)
      (sym (length-map (filter (follows paths y r) regions)
      (λ (s : Placed Region). step_before paths y r.thread r.it.«from» s.thread s.it.«from»)))
      (filter_few (follows paths y r) regions))

  access_few : (r : Placed Region) (a : Placed Access) → Contains regions r
      → length (of_access paths y formula roots r (own r) a) ≤ 3 + all_used
  access_few r a among =
      let to_end : List ℤ = ends paths y r a in
      let right : List ℤ = reads paths y formula roots a in
      let later : List (Placed Access) = filter (matters paths y a) (own r) in
      let order : List ℤ = orders paths y (own r) a in
      let all : length (of_access paths y formula roots r (own r) a) ≡ suc (length (to_end ++ (right ++ order))) = refl in
      let one : length (to_end ++ (right ++ order)) ≡ length to_end + length (right ++ order) = length-append to_end (right ++ order) in
      let two : length (right ++ order) ≡ length right + length order = length-append right order in
      let of_ends : length to_end ≡ length (option_to_list r.it.to) =
      length-map (option_to_list r.it.to) (λ k. step_before paths y a.thread a.it.step r.thread k) in
      let of_reads : length right ≡ length (option_to_list a.it.takes) =
      length-map (option_to_list a.it.takes) (λ _. root paths y formula roots (read_number paths formula a)) in
      let of_orders : length order ≡ length later =
      length-map later (λ (b : Placed Access). step_before paths y a.thread a.it.step b.thread b.it.step) in
      let fewer : length later ≤ length (own r) = filter_few (matters paths y a) (own r) in
      let part : length (own r) ≤ all_used = flat_part own regions r among in
      omega (arith, all, one, two, of_ends, of_reads, of_orders, fewer, part, option_few r.it.to, option_few a.it.takes)

  -- all literals
  abbrev accesses : List ℤ
  accesses = flat_map (λ r. of_region paths y formula roots r (own r)) regions

  pub literals_few : length (of_mutex paths y formula roots m regions own)
      ≤ conjuncts + (length regions + (length regions * length regions + all_used * (3 + all_used)))
  literals_few =
      let one : List ℤ = apart paths y formula roots m in
      let two : List ℤ = flat_map (forward paths y) regions in
      let three : List ℤ = flat_map (rise paths y regions) regions in
      let all : length (of_mutex paths y formula roots m regions own) ≡ length one + length (two ++ (three ++ accesses)) =
      length-append one (two ++ (three ++ accesses)) in
      let after : length (two ++ (three ++ accesses)) ≡ length two + length (three ++ accesses) = length-append two (three ++ accesses) in
      let last : length (three ++ accesses) ≡ length three + length accesses = length-append three accesses in
      let n : ℕ = length regions * length regions in
      let k : ℕ = all_used * (3 + all_used) in
      let of_apart : length one ≡ conjuncts = apart_few in
      let of_forward : length two ≤ length regions * 1 = forward_few in
      let of_rise : length three ≤ n = rise_few in
      let of_accesses : length accesses ≤ k =
      flat_twice own (λ r. of_access paths y formula roots r (own r)) (3 + all_used) regions access_few in
      omega (arith, all, after, last, of_apart, of_forward, of_rise, of_accesses)

  -- ---- within the variables

  module _ (n : ℕ) (one : 0 < n) (before : (first second : ℕ) → var_of (before_literal y first second) ≤ n)
      (within : AreWithin n roots) where
    abbrev Within : ℤ → Type 0
    Within l = var_of l ≤ n

    step_within : (t k u j : ℕ) → Within (step_before paths y t k u j)
    step_within t k u j = before (number_of paths t k) (number_of paths u j)

    root_within : (k : ℕ) → Within (root paths y formula roots k)
    root_within k = of_get Within roots k (constant false) within (omega (arith, one))

    -- the images of some elements
    map_within : {X : Type 0} (f : X → ℤ) (xs : List X) → ((x : X) → Within (f x)) → AreWithin n (map f xs)
    map_within f xs each = All-map Within f xs (all_of (λ x. Within (f x)) xs (λ x _. each x))

    access_within : (r : Placed Region) (a : Placed Access) → AreWithin n (of_access paths y formula roots r (own r) a)
    access_within r a =
        let to_end : List ℤ = ends paths y r a in
        let right : List ℤ = reads paths y formula roots a in
        let order : List ℤ = orders paths y (own r) a in
        All-cons Within (step_before paths y r.thread r.it.«from» a.thread a.it.step) (to_end ++ (right ++ order))
        (step_within r.thread r.it.«from» a.thread a.it.step)
        (All-append Within to_end (right ++ order)
        (map_within (λ k. step_before paths y a.thread a.it.step r.thread k) (option_to_list r.it.to)
        (λ k. step_within a.thread a.it.step r.thread k))
        (All-append Within right order
        (map_within (λ _. root paths y formula roots (read_number paths formula a)) (option_to_list a.it.takes)
        (λ _. root_within (read_number paths formula a)))
        (map_within (λ (b : Placed Access). step_before paths y a.thread a.it.step b.thread b.it.step) (filter (matters paths y a) (own r))
        (λ b. step_within a.thread a.it.step b.thread b.it.step))))

    pub literals_within : AreWithin n (of_mutex paths y formula roots m regions own)
    literals_within =
        let one : List ℤ = apart paths y formula roots m in
        let two : List ℤ = flat_map (forward paths y) regions in
        let three : List ℤ = flat_map (rise paths y regions) regions in
        All-append Within one (two ++ (three ++ accesses))
        (map_within (λ (p : ℕ × Conjunct). root paths y formula roots p.0) about (λ p. root_within p.0))
        (All-append Within two (three ++ accesses)
        (all_flat_map Within (forward paths y) regions (λ r _.
        map_within (λ k. step_before paths y r.thread r.it.«from» r.thread k) (option_to_list r.it.to)
        (λ k. step_within r.thread r.it.«from» r.thread k)))
        (All-append Within three accesses
        (all_flat_map Within (rise paths y regions) regions (λ r _.
        map_within (λ (s : Placed Region). step_before paths y r.thread r.it.«from» s.thread s.it.«from»)
        (filter (follows paths y r) regions)
        (λ s. step_within r.thread r.it.«from» s.thread s.it.«from»)))
        (all_flat_map Within (λ r. of_region paths y formula roots r (own r)) regions (λ r _.
        all_flat_map Within (of_access paths y formula roots r (own r)) (own r) (λ a _. access_within r a)))))
