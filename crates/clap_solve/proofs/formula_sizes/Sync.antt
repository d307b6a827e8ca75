-- Bounds on the sizes of the conjuncts of everything that threads wait for.
use Rattle.std.proofs.Common.{◌≡◌, ℕ, suc, ◌+◌, ◌*◌, ◌≤◌, List, [], ◌∷◌, ◌++◌, map, length, Bool, true, false, Option, Some, None, subst, arith, sum_by}
use Rattle.std.specs.Prelude.{filter, option_to_list, if◌then◌else◌}
use Rattle.std.specs.List.{All, flat_map}
use Rattle.std.proofs.lemmas.List.Elements.{All-weaker}
use Rattle.std.proofs.lemmas.List.Sums.{sum_by-append, sum_by-cons}
use Rattle.clap_system.specs.path_walk.Paths.{Walk, Paths}
use Rattle.clap_system.specs.path_walk.declared.event.Event.{Event}
use Rattle.clap_system.specs.path_walk.declared.event.Link.{Link}
use Rattle.clap_system.specs.path_walk.declared.event.Region.{Region}
use Rattle.mutex_states.specs.bit_blast.order_formula.declared.formula.Conjunct.{Conjunct}
use Rattle.mutex_states.specs.bit_blast.order_formula.declared.literal.Literal.{Literal}
use Rattle.clap_system.specs.lawful_order.Events.{Placed, all_events, all_sleeps}
use Rattle.clap_system.specs.sync_order.Children.{is_child, is_exit, created_before, exit_before, exited_before, create_conjuncts, join_conjuncts, links_formula, children_formula}
use Rattle.clap_system.specs.sync_order.Mutexes.{of_pairs, exclude, release_literal, excludes, exclusive, all_regions, mutexes_formula}
use Rattle.mutex_states.specs.bit_blast.Sizes.{literal_size, case_size, size_of}
use Rattle.clap_solve.proofs.formula_sizes.Own.{conjunct_size}
use Rattle.clap_solve.proofs.formula_sizes.Sums.{times_le, each_times, of_map, of_flat, of_all, filter_few, length_all}

-- a case for each of some literals
cases_size : {X : Type 0} (f : X → Literal) (m : ℕ) (xs : List X) → ((x : X) → literal_size (f x) ≤ m)
    → sum_by case_size (map (λ l. l ∷ []) (map f xs)) ≤ length xs * (m + 3)
cases_size f m [] few = omega arith
cases_size f m (x ∷ xs) few =
    omega (arith, sum_by-cons case_size (f x ∷ []) (map (λ l. l ∷ []) (map f xs)), sum_by-cons literal_size (f x) [], few x, cases_size f m xs few)

-- the parts of a walk are at most as many as its events
pub record HasFew (q : Walk) : Type 0 where
  pub creates : length q.creates ≤ length q.events
  pub joins : length q.joins ≤ length q.events
  pub regions : length q.regions ≤ length q.events
  pub sleeps : length q.sleeps ≤ length q.events

module _ (paths : Paths) (few : All HasFew paths.threads) where
  counted : sum_by (λ (q : Walk). length q.events) paths.threads ≡ length (all_events paths)
  counted = let h = length_all (λ (q : Walk). q.events) 0 paths.threads in omega (arith, h)

  -- children
  created_size : (t : ℕ) (p : Walk) (l : Link) → size_of (create_conjuncts (all_events paths) paths.threads t p l) ≤ length (all_events paths) * 7
  created_size t p l =
      let one : (c : ℕ) (q : Walk) → size_of (if is_child p l.child q then map (created_before (all_events paths) t l c) q.events else []) ≤ length q.events * 7 =
      λ c q. here c q (is_child p l.child q) in
      let h = of_all conjunct_size (λ c q. if is_child p l.child q then map (created_before (all_events paths) t l c) q.events else [])
      (λ q. length q.events * 7) paths.threads one in
      let all = each_times (λ (q : Walk). length q.events * 7) (λ q. length q.events) 7 paths.threads (All-weaker HasFew (λ q. length q.events * 7 ≤ length q.events * 7) (λ q _. omega arith) paths.threads few) in
      omega (arith, h, all, counted)
    where
      here : (c : ℕ) (q : Walk) (b : Bool) → size_of (if b then map (created_before (all_events paths) t l c) q.events else []) ≤ length q.events * 7
      here c q true = of_map conjunct_size (created_before (all_events paths) t l c) 7 q.events (λ x. omega arith)
      here c q false = omega arith

  exited_size : (t : ℕ) (l : Link) (c : ℕ) (q : Walk) → conjunct_size (exited_before (all_events paths) t l c q) ≤ length q.events * 6 + 1
  exited_size t l c q =
      let ends = filter (λ (x : Event). is_exit x.kind) q.events in
      let h = cases_size (exit_before (all_events paths) t l c) 3 ends (λ x. omega arith) in
      omega (arith, h, filter_few (λ (x : Event). is_exit x.kind) q.events)

  joined_size : (t : ℕ) (p : Walk) (l : Link) → size_of (join_conjuncts (all_events paths) paths.threads t p l) ≤ length (all_events paths) * 6 + length paths.threads
  joined_size t p l =
      let h = of_all conjunct_size (λ c q. if is_child p l.child q then exited_before (all_events paths) t l c q ∷ [] else [])
      (λ q. length q.events * 6 + 1) paths.threads (λ c q. here c q (is_child p l.child q)) in
      omega (arith, h, all paths.threads, counted)
    where
      here : (c : ℕ) (q : Walk) (b : Bool) → size_of (if b then exited_before (all_events paths) t l c q ∷ [] else []) ≤ length q.events * 6 + 1
      here c q true = omega (arith, exited_size t l c q, sum_by-cons conjunct_size (exited_before (all_events paths) t l c q) [])
      here c q false = omega arith

      all : (ws : List Walk) → sum_by (λ (q : Walk). length q.events * 6 + 1) ws ≤ sum_by (λ (q : Walk). length q.events) ws * 6 + length ws
      all [] = omega arith
      all (w ∷ ws) =
          omega (arith, all ws, sum_by-cons (λ (q : Walk). length q.events * 6 + 1) w ws, sum_by-cons (λ (q : Walk). length q.events) w ws)

  links_size : (t : ℕ) (q : Walk)
      → size_of (links_formula (all_events paths) paths.threads t q)
      ≤ length q.creates * (length (all_events paths) * 7) + length q.joins * (length (all_events paths) * 6 + length paths.threads)
  links_size t q =
      let creates = of_flat conjunct_size (create_conjuncts (all_events paths) paths.threads t q) (length (all_events paths) * 7) q.creates (created_size t q) in
      let joins = of_flat conjunct_size (join_conjuncts (all_events paths) paths.threads t q) (length (all_events paths) * 6 + length paths.threads) q.joins (joined_size t q) in
      let both = sum_by-append conjunct_size (flat_map (create_conjuncts (all_events paths) paths.threads t q) q.creates)
      (flat_map (join_conjuncts (all_events paths) paths.threads t q) q.joins) in
      omega (arith, creates, joins, both)

  pub children_size : size_of (children_formula paths)
      ≤ length (all_events paths) * (length (all_events paths) * 13 + length paths.threads)
  children_size =
      let n : ℕ = length (all_events paths) in
      let k : ℕ = length paths.threads in
      let h = of_all conjunct_size (links_formula (all_events paths) paths.threads) (λ q. length q.creates * (n * 7) + length q.joins * (n * 6 + k)) paths.threads
      links_size in
      let all = each_times (λ (q : Walk). length q.creates * (n * 7) + length q.joins * (n * 6 + k)) (λ q. length q.events) (n * 13 + k) paths.threads
      (All-weaker HasFew (λ q. length q.creates * (n * 7) + length q.joins * (n * 6 + k) ≤ length q.events * (n * 13 + k)) (λ q has. walk q has n k) paths.threads few) in
      let goal = subst (λ m. sum_by (λ (q : Walk). length q.creates * (n * 7) + length q.joins * (n * 6 + k)) paths.threads ≤ m * (n * 13 + k)) counted all in
      omega (arith, h, goal)
    where
      walk : (q : Walk) → HasFew q → (n k : ℕ) → length q.creates * (n * 7) + length q.joins * (n * 6 + k) ≤ length q.events * (n * 13 + k)
      walk q has n k =
          let a = times_le (length q.creates) (n * 7) (length q.events) (n * 7) has.creates (omega arith) in
          let b = times_le (length q.joins) (n * 6 + k) (length q.events) (n * 6 + k) has.joins (omega arith) in
          omega (arith, a, b)

  -- mutexes
  pairs_more : (n m : ℕ) → n * m + n * n * m ≤ suc n * suc n * m
  pairs_more n m = omega arith

  pairs_size : {A : Type 0} (f : A → A → List Conjunct) (m : ℕ) (xs : List A) → ((x y : A) → size_of (f x y) ≤ m) → size_of (of_pairs f xs) ≤ length xs * length xs * m
  pairs_size f m [] small = omega arith
  pairs_size f m (x ∷ xs) small =
      let here = of_flat conjunct_size (f x) m xs (small x) in
      let both = sum_by-append conjunct_size (flat_map (f x) xs) (of_pairs f xs) in
      omega (arith, here, pairs_size f m xs small, both, pairs_more (length xs) m)

  exclusive_size : (r s : Placed Region) → size_of (exclusive (all_events paths) r s) ≤ 13
  exclusive_size r s = by (exclude r s)
    where
      literals : (o p : Option ℕ)
          → sum_by case_size (map (λ l. l ∷ []) (map (release_literal (all_events paths) r s) (option_to_list o) ++ map (release_literal (all_events paths) s r) (option_to_list p))) ≤ 12
      literals None None = omega arith
      literals None (Some k) = omega arith
      literals (Some j) None = omega arith
      literals (Some j) (Some k) = omega arith

      by : (b : Bool) → size_of (if b then excludes (all_events paths) r s ∷ [] else []) ≤ 13
      by true = omega (arith, literals r.it.to s.it.to, sum_by-cons conjunct_size (excludes (all_events paths) r s) [])
      by false = omega arith

  regions_few : length (all_regions paths) ≤ length (all_events paths)
  regions_few =
      let all = length_all (λ (q : Walk). q.regions) 0 paths.threads in
      let h = each_times (λ (q : Walk). length q.regions) (λ (q : Walk). length q.events) 1 paths.threads (All-weaker HasFew (λ q. length q.regions ≤ length q.events * 1) (λ q has. omega (arith, has.regions)) paths.threads few) in
      omega (arith, all, h, counted)

  pub mutexes_size : size_of (mutexes_formula paths) ≤ length (all_events paths) * length (all_events paths) * 13
  mutexes_size =
      let n : ℕ = length (all_regions paths) in
      let m : ℕ = length (all_events paths) in
      let h = pairs_size (exclusive (all_events paths)) 13 (all_regions paths) exclusive_size in
      let more = times_le n n m m regions_few regions_few in
      omega (arith, h, more)

  pub sleeps_few : length (all_sleeps paths) ≤ length (all_events paths)
  sleeps_few =
      let all = length_all (λ (q : Walk). q.sleeps) 0 paths.threads in
      let h = each_times (λ (q : Walk). length q.sleeps) (λ (q : Walk). length q.events) 1 paths.threads (All-weaker HasFew (λ q. length q.sleeps ≤ length q.events * 1) (λ q has. omega (arith, has.sleeps)) paths.threads few) in
      omega (arith, all, h, counted)
