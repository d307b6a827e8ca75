-- Elements of threads, one thread after another, and the numbers of steps.
use Rattle.std.proofs.Common.{◌≡◌, ◌∙◌, ℕ, zero, suc, ◌+◌, ◌<◌, inl, inr, Bool, true, false, not, cond, ◌&&◌, ◌||◌, ◌==◌, List, [], ◌∷◌, ◌++◌}
use Rattle.std.proofs.Common.{length, take, get_or, Some, refl, sym, ap, subst, arith, append_assoc}
use Rattle.std.specs.Prelude.{slice_get}
use Rattle.std.specs.List.{Contains, list_any, position_or_len}
use Rattle.std.proofs.lemmas.Bool.{false≢true, true≢false, and_parts}
use Rattle.std.proofs.lemmas.List.{append-nil, get_or_default, take_more, length-take-le}
use Rattle.std.proofs.lemmas.List.Sums.{passes_at_first}
use Rattle.std.proofs.lemmas.List.Elements.{Contains-append_left, Contains-append_right, Contains-append_cases}
use Rattle.path_walk.specs.Paths.{Paths}
use Rattle.path_walk.specs.declared.event.Event.{Event}
use Rattle.lawful_order.specs.Events.{Placed, placed_in, all_from, all_events, number_of}
use Rattle.lawful_order.specs.Whole.{HasStep}
use Rattle.order_events.proofs.Lists.{of_nil, of_cons, in_map, of_map}

-- one more thread, the last
pub all_from_push : {W X : Type 0} (has : W → List X) (t : ℕ) (ws : List W) (w : W)
    → all_from has t (ws ++ w ∷ []) ≡ all_from has t ws ++ placed_in (t + length ws) (has w)
all_from_push has t [] w =
    append-nil _ ∙ ap (λ n. placed_in n (has w)) (let e : t ≡ t + 0 = omega arith in e)
all_from_push has t (v ∷ ws) w =
    let own = placed_in t (has v) in
    let same : t + 1 + length ws ≡ t + length (v ∷ ws) = omega arith in
    ap (λ zs. own ++ zs) (all_from_push has (t + 1) ws w ∙ ap (λ n. all_from has (t + 1) ws ++ placed_in n (has w)) same)
    ∙ sym (append_assoc own (all_from has (t + 1) ws) (placed_in (t + length (v ∷ ws)) (has w)))

-- a loop over threads goes on by one
pub walks_on : {W X : Type 0} (has : W → List X) (ws : List W) (k : ℕ) (w : W) (old mid new : List (Placed X)) (xs : List X) → k < length ws → w ≡ get_or ws k w
    → xs ≡ has w → mid ≡ old ++ all_from has 0 (take k ws) → new ≡ mid ++ placed_in k xs
    → new ≡ old ++ all_from has 0 (take (k + 1) ws)
walks_on {W} {X} has ws k w old mid new xs within at own front step =
    let before = all_from has 0 (take k ws) in
    let same : 0 + length (take k ws) ≡ k = omega (arith, length-take-le k ws (omega (arith, within))) in
    let more : all_from has 0 (take (k + 1) ws) ≡ before ++ placed_in k (has w) =
    ap (λ vs. all_from has 0 vs) (take_more ws k w within ∙ ap (λ v. take k ws ++ v ∷ []) (sym at)) ∙ all_from_push has 0 (take k ws) w
    ∙ ap (λ n. before ++ placed_in n (has w)) same in
    step ∙ ap (λ zs. zs ++ placed_in k xs) front
    ∙ append_assoc old before (placed_in k xs)
    ∙ ap (λ ys. old ++ (before ++ placed_in k ys)) own ∙ ap (λ zs. old ++ zs) (sym more)

-- an element of a thread is in the list
pub in_all_from : {W X : Type 0} (has : W → List X) (t u n : ℕ) (ws : List W) (w : W) (x : X) → slice_get ws u ≡ Some w → Contains (has w) x → t + u ≡ n
    → Contains (all_from has t ws) (record { thread = n; it = x })
in_all_from has t u n [] w x at i sum = cc
in_all_from {W} {X} has t zero n (v ∷ ws) w x at i sum =
    let same : v ≡ w = cc in
    let here : t ≡ n = omega (arith, sum) in
    let own : Placed X = record { thread = n; it = x } in
    Contains-append_left (placed_in t (has v)) (all_from has (t + 1) ws) own
    (subst (λ (m : ℕ). Contains {X = Placed X} (placed_in t (has v)) (record { thread = m; it = x })) here
    (in_map {Y = Placed X} (λ y. record { thread = t; it = y }) x (has v) (subst (λ z. Contains (has z) x) (sym same) i)))
in_all_from {W} {X} has t (suc u) n (v ∷ ws) w x at i sum =
    let own : Placed X = record { thread = n; it = x } in
    Contains-append_right (placed_in t (has v)) (all_from has (t + 1) ws) own
    (in_all_from has (t + 1) u n ws w x at i (omega (arith, sum)))

-- each element of the list belongs to a thread
pub record IsOfThread {W X : Type 0} (has : W → List X) (t : ℕ) (ws : List W) (x : Placed X) : Type 0 where
  pub place : ℕ
  pub owner : W
  pub at : slice_get ws place ≡ Some owner
  pub thread : t + place ≡ x.thread
  pub among : Contains (has owner) x.it

pub of_all_from : {W X : Type 0} (has : W → List X) (t : ℕ) (ws : List W) (x : Placed X) → Contains (all_from has t ws) x → IsOfThread has t ws x
of_all_from has t [] x i = absurd (of_nil x i)
of_all_from {W} {X} has t (v ∷ ws) x i =
    elim (Contains-append_cases (placed_in t (has v)) (all_from has (t + 1) ws) x i) [
      | inl here ↦ own (of_map (λ y. record { thread = t; it = y }) x (has v) here)
      | inr rest ↦ later (of_all_from has (t + 1) ws x rest)
    ]
  where
    own : ((y : X) × Contains (has v) y × (record { thread = t; it = y } ≡ x)) → IsOfThread has t (v ∷ ws) x
    own o = record {
      place = 0;
      owner = v;
      at = refl;
      thread = omega (arith, ap (λ (z : Placed X). z.thread) o.2);
      among = subst (λ y. Contains (has v) y) (ap (λ (z : Placed X). z.it) o.2) o.1;
    }

    later : IsOfThread has (t + 1) ws x → IsOfThread has t (v ∷ ws) x
    later o = record { place = suc o.place; owner = o.owner; at = o.at; thread = omega (arith, o.thread); among = o.among }

-- if an element passes, a first one does
pub first_within : {X : Type 0} (p : X → Bool) (xs : List X) (x : X) → Contains xs x → p x ≡ true → position_or_len p xs < length xs
first_within p [] x i hit = absurd (of_nil x i)
first_within {X} p (z ∷ zs) x i hit = by (p z) refl (λ rest. first_within p zs x rest hit)
  where
    by : (b : Bool) → p z ≡ b → (Contains zs x → position_or_len p zs < length zs) → cond (not b) (1 + position_or_len p zs) 0 < length (z ∷ zs)
    by true is later = omega arith
    by false is later = elim (of_cons x z zs i) [
      | inl same ↦ absurd (false≢true (sym is ∙ ap p same ∙ hit))
      | inr rest ↦ omega (arith, later rest)
    ]

-- a search stops at the first element that passes, or at the end
pub first_is : {X : Type 0} (p : X → Bool) (xs : List X) (i : ℕ) (x : X) → list_any p (take i xs) ≡ false → i < length xs → x ≡ get_or xs i x → p x ≡ true
    → i ≡ position_or_len p xs
first_is p [] i x none within at hit = absurd (omega (arith, within))
first_is {X} p (z ∷ zs) zero x none within at hit = by (p z) refl
  where
    by : (b : Bool) → p z ≡ b → 0 ≡ cond (not b) (1 + position_or_len p zs) 0
    by true is = refl
    by false is = absurd (false≢true (sym is ∙ ap p (sym at) ∙ hit))
first_is {X} p (z ∷ zs) (suc i) x none within at hit = by (p z) none (λ n. first_is p zs i x n (omega (arith, within)) at hit)
  where
    by : (b : Bool) → (b || list_any p (take i zs)) ≡ false → (list_any p (take i zs) ≡ false → i ≡ position_or_len p zs)
        → suc i ≡ cond (not b) (1 + position_or_len p zs) 0
    by true none later = absurd (true≢false none)
    by false none later = omega (arith, later none)

pub none_is : {X : Type 0} (p : X → Bool) (xs : List X) (i : ℕ) → list_any p (take i xs) ≡ false → i ≡ length xs → i ≡ position_or_len p xs
none_is p [] i none end = end
none_is p (z ∷ zs) zero none end = absurd (omega (arith, end))
none_is {X} p (z ∷ zs) (suc i) none end = by (p z) none (λ n. none_is p zs i n (omega (arith, end)))
  where
    by : (b : Bool) → (b || list_any p (take i zs)) ≡ false → (list_any p (take i zs) ≡ false → i ≡ position_or_len p zs)
        → suc i ≡ cond (not b) (1 + position_or_len p zs) 0
    by true none later = absurd (true≢false none)
    by false none later = omega (arith, later none)

abbrev pub is_step : ℕ → ℕ → Placed Event → Bool
is_step t k e = e.thread == t && e.it.step == k

same_number : (a b : ℕ) → (a == b) ≡ true → a ≡ b
same_number a b e = grind (arith, e)

pub is_own : (t k : ℕ) (e : Placed Event) → e.thread ≡ t → e.it.step ≡ k → is_step t k e ≡ true
is_own t k e one two = grind (arith, one, two)

-- the first event that is a step, in an equal list
pub number_at : (t s : ℕ) (all own : List (Placed Event)) (k : ℕ) (d : Placed Event) → own ≡ all → list_any (is_step t s) (take k all) ≡ false → k < length own
    → (get_or own k d).thread ≡ t → (get_or own k d).it.step ≡ s → k ≡ position_or_len (is_step t s) all
number_at t s all own k d is none within thread step =
    let x : Placed Event = get_or own k d in
    let inside : k < length all = omega (arith, within, ap length is) in
    first_is (is_step t s) all k x none inside (ap (λ es. get_or es k d) is ∙ get_or_default all k d x inside) (is_own t s x thread step)

-- the number of a step that is an event
pub has_number : (paths : Paths) (t k : ℕ) → HasStep paths t k → number_of paths t k < length (all_events paths)
has_number paths t k s =
    let h = s.1 in
    first_within (is_step t k) (all_events paths) (record { thread = t; it = s.0 })
    (in_all_from (λ w. w.events) 0 t t paths.threads h.0 s.0 h.1 h.2 (omega arith)) (is_own t k (record { thread = t; it = s.0 }) refl s.2)

-- the event at the number of a step is that step's event
pub is_step_at : (paths : Paths) (t k : ℕ) (d : Placed Event) → number_of paths t k < length (all_events paths)
    → is_step t k (get_or (all_events paths) (number_of paths t k) d) ≡ true
is_step_at paths t k d within = passes_at_first (is_step t k) (all_events paths) d within

pub one_step : (paths : Paths) (t k u j : ℕ) → HasStep paths t k → number_of paths t k ≡ number_of paths u j → (t ≡ u) × (k ≡ j)
one_step paths t k u j s same =
    let d : Placed Event = record { thread = t; it = s.0 } in
    let e = get_or (all_events paths) (number_of paths t k) d in
    let within = has_number paths t k s in
    let mine : is_step t k e ≡ true = is_step_at paths t k d within in
    let other : is_step u j e ≡ true =
    subst (λ n. is_step u j (get_or (all_events paths) n d) ≡ true) (sym same)
    (is_step_at paths u j d (subst (λ n. n < length (all_events paths)) same within)) in (
      sym (same_number e.thread t (and_parts (e.thread == t) (e.it.step == k) mine).0)
          ∙ same_number e.thread u (and_parts (e.thread == u) (e.it.step == j) other).0,
      sym (same_number e.it.step k (and_parts (e.thread == t) (e.it.step == k) mine).1)
          ∙ same_number e.it.step j (and_parts (e.thread == u) (e.it.step == j) other).1,
    )
