-- The number of an event is its place among all events.
use Rattle.std.proofs.Common.{◌≡◌, ◌∙◌, ◌⊎◌, inl, inr, ℕ, zero, suc, ◌+◌, ◌<◌, ◌≤◌, List, [], ◌∷◌, ◌++◌, map, length, get_or, Option, Some, None, refl, sym, ap, arith}
use Rattle.std.specs.Prelude.{slice_get, option_map}
use Rattle.std.specs.List.{Contains, AllByRecursion as Each, IsDistinct, find}
use Rattle.std.specs.Prelude.{◌==◌, Bool, true, false, cond}
use Rattle.std.proofs.lemmas.Bool.{true≢false, cases_order, eq-eqb, eqb-true, and_parts, false_from_ne_true}
use Rattle.std.proofs.lemmas.Map.Keys.{IsDistinct-head, IsDistinct-tail}
use Rattle.std.proofs.lemmas.Option.{none-some, same_Some, slice_get-get_or, slice_get-map, slice_get_within}
use Rattle.std.proofs.lemmas.List.Sums.{position_or_len_is}
use Rattle.order_events.specs.path_walk.Paths.{Walk, Paths}
use Rattle.order_events.specs.path_walk.declared.event.Event.{Event}
use Rattle.order_events.specs.lawful_order.Events.{Placed, all_from, all_events, number_of}
use Rattle.order_events.specs.lawful_order.Whole.{HasStep, AreWhole}
use Rattle.order_events.proofs.Lists.{of_cons, in_back, at_in, in_at}
use Rattle.order_events.proofs.Numbers.{of_all_from, has_number, is_step, is_step_at, is_own, one_step}

-- an element that is found is in the list and passes
pub of_find : {X : Type 0} (p : X → Bool) (xs : List X) (x : X) → find p xs ≡ Some x → Contains xs x × (p x ≡ true)
of_find p [] x is = absurd (none-some x is)
of_find {X} p (y ∷ ys) x is = by (p y) refl is (of_find p ys x)
  where
    by : (b : Bool) → p y ≡ b → cond b (Some y) (find p ys) ≡ Some x → (find p ys ≡ Some x → Contains ys x × (p x ≡ true))
        → Contains (y ∷ ys) x × (p x ≡ true)
    by true hit is rest = let same = same_Some y x is in ((0, omega arith, same), ap p (sym same) ∙ hit)
    by false miss is rest = let o = rest is in (in_back x y ys o.0, o.1)

pub in_find : {X : Type 0} (p : X → Bool) (xs : List X) (x : X) → Contains xs x → p x ≡ true → (y : X) × (find p xs ≡ Some y)
in_find p [] x i hit = absurd (omega (arith, i.1))
in_find {X} p (z ∷ zs) x i hit = by (p z) refl (λ rest. in_find p zs x rest hit)
  where
    by : (b : Bool) → p z ≡ b → (Contains zs x → (y : X) × (find p zs ≡ Some y)) → (y : X) × (cond b (Some z) (find p zs) ≡ Some y)
    by true is later = (z, refl)
    by false miss later =
        elim (of_cons x z zs i) [
          | inl same ↦ absurd (true≢false (sym hit ∙ ap p (sym same) ∙ miss))
          | inr rest ↦ later rest
        ]

-- numbers of which no two are equal have one place each
differs : (x : ℕ) (xs : List ℕ) (j : ℕ) → Each (λ y. (x == y) ≡ false) xs → j < length xs → x ≡ get_or xs j 0 → ⊥
differs x [] j each within same = omega (arith, within)
differs x (y ∷ ys) zero each within same = true≢false (sym (eq-eqb x y same) ∙ each.0)
differs x (y ∷ ys) (suc j) each within same = differs x ys j each.1 (omega (arith, within)) same

pub one_place : (xs : List ℕ) (i j : ℕ) → IsDistinct (λ p q. p == q) xs → i < length xs → j < length xs → get_or xs i 0 ≡ get_or xs j 0 → i ≡ j
one_place [] i j distinct one two same = absurd (omega (arith, one))
one_place (x ∷ xs) zero zero distinct one two same = refl
one_place (x ∷ xs) zero (suc j) distinct one two same = absurd (differs x xs j (IsDistinct-head (λ p q. p == q) x xs distinct) (omega (arith, two)) same)
one_place (x ∷ xs) (suc i) zero distinct one two same =
    absurd (differs x xs i (IsDistinct-head (λ p q. p == q) x xs distinct) (omega (arith, one)) (sym same))
one_place (x ∷ xs) (suc i) (suc j) distinct one two same =
    ap suc (one_place xs i j (IsDistinct-tail (λ p q. p == q) x xs distinct) (omega (arith, one)) (omega (arith, two)) same)

-- an element of two joined lists is in the first or in the second
pub get_both : {X : Type 0} (xs ys : List X) (k : ℕ) (x : X) → slice_get (xs ++ ys) k ≡ Some x
    → (slice_get xs k ≡ Some x) ⊎ ((j : ℕ) × (k ≡ length xs + j) × (slice_get ys j ≡ Some x))
get_both [] ys k x at = inr (k, omega arith, at)
get_both (z ∷ xs) ys zero x at = inl at
get_both (z ∷ xs) ys (suc k) x at = elim (get_both xs ys k x at) [ inl i ↦ inl i | inr r ↦ inr (r.0, omega (arith, r.1), r.2) ]

pub from_mapped_at : {X Y : Type 0} (f : X → Y) (xs : List X) (k : ℕ) (y : Y) → slice_get (map f xs) k ≡ Some y
    → (x : X) × (slice_get xs k ≡ Some x) × (f x ≡ y)
from_mapped_at {X} {Y} f xs k y at = by (slice_get xs k) refl
  where
    by : (o : Option X) → slice_get xs k ≡ o → (x : X) × (slice_get xs k ≡ Some x) × (f x ≡ y)
    by None none = absurd (none-some y (sym (slice_get-map f xs k ∙ ap (option_map f) none) ∙ at))
    by (Some x) here = (x, here, same_Some (f x) y (sym (slice_get-map f xs k ∙ ap (option_map f) here) ∙ at))

-- What threads with rising steps have, one thread after another: this list is ordered by threads,
-- and within a thread by its steps.
abbrev pub Rise : {W X : Type 0} → (W → List X) → (X → ℕ) → List W → Type 0
Rise {W} {X} has step ws = (u j k : ℕ) (q : W) (x y : X) → slice_get ws u ≡ Some q → slice_get (has q) j ≡ Some x → slice_get (has q) k ≡ Some y → j < k
    → step x < step y

abbrev pub IsEarlier : {X : Type 0} → (X → ℕ) → Placed X → Placed X → Type 0
IsEarlier step a b = (a.thread < b.thread) ⊎ ((a.thread ≡ b.thread) × (step a.it < step b.it))

abbrev the_of : {X : Type 0} → ℕ → X → Placed X
the_of t x = record { thread = t; it = x }

later_thread : {W X : Type 0} (has : W → List X) (t : ℕ) (ws : List W) (k : ℕ) (a : Placed X) → slice_get (all_from has t ws) k ≡ Some a → t ≤ a.thread
later_thread has t ws k a at =
    let o = of_all_from has t ws a (at_in (all_from has t ws) k a at) in
    omega (arith, o.thread)

pub of_rise : {W X : Type 0} (has : W → List X) (step : X → ℕ) (t : ℕ) (ws : List W) → Rise has step ws → (i j : ℕ) (a b : Placed X)
    → slice_get (all_from has t ws) i ≡ Some a → slice_get (all_from has t ws) j ≡ Some b → i < j → IsEarlier step a b
of_rise has step t [] rise i j a b ia jb lt = absurd (none-some a ia)
of_rise {W} {X} has step t (w ∷ ws) rise i j a b ia jb lt =
    by (λ k l ka lb less. of_rise has step (t + 1) ws (λ u. rise (suc u)) k l a b ka lb less) (get_both own rest i a ia) (get_both own rest j b jb)
  where
    own : List (Placed X)
    own = map (λ x. the_of t x) (has w)

    rest : List (Placed X)
    rest = all_from has (t + 1) ws

    by : ((k l : ℕ) → slice_get rest k ≡ Some a → slice_get rest l ≡ Some b → k < l → IsEarlier step a b)
        → (slice_get own i ≡ Some a) ⊎ ((k : ℕ) × (i ≡ length own + k) × (slice_get rest k ≡ Some a))
        → (slice_get own j ≡ Some b) ⊎ ((k : ℕ) × (j ≡ length own + k) × (slice_get rest k ≡ Some b)) → IsEarlier step a b
    by later (inl ai) (inl bj) =
        let e = from_mapped_at (λ x. the_of t x) (has w) i a ai in
        let f = from_mapped_at (λ x. the_of t x) (has w) j b bj in
        let steps = rise 0 i j w e.0 f.0 refl e.1 f.1 lt in
        inr (
          sym (ap (λ (z : Placed X). z.thread) e.2) ∙ ap (λ (z : Placed X). z.thread) f.2,
          omega (arith, steps, ap (λ (z : Placed X). step z.it) e.2, ap (λ (z : Placed X). step z.it) f.2),
        )
    by later (inl ai) (inr r) =
        let e = from_mapped_at (λ x. the_of t x) (has w) i a ai in
        inl (omega (arith, ap (λ (z : Placed X). z.thread) e.2, later_thread has (t + 1) ws r.0 b r.2))
    by later (inr r) (inl bj) = absurd (omega (arith, r.1, lt, slice_get_within own j b bj))
    by later (inr r) (inr s) = later r.0 s.0 r.2 s.2 (omega (arith, r.1, s.1, lt))

module _ (paths : Paths) (whole : AreWhole paths) where
  -- two events of one thread with the same step are equal
  pub one_event : (t : ℕ) (q : Walk) (x y : Event) → slice_get paths.threads t ≡ Some q → Contains q.events x → Contains q.events y
      → x.step ≡ y.step → x ≡ y
  one_event t q x y there i j same =
      let a = in_at q.events x i in
      let b = in_at q.events y j in
      elim (cases_order a.0 b.0) [
        | inl e ↦ same_Some x y (sym a.1 ∙ ap (slice_get q.events) e ∙ b.1)
        | inr more ↦
            elim more [
              | inl lt ↦ absurd (omega (arith, whole.rise t a.0 b.0 q x y there a.1 b.1 lt, same))
              | inr gt ↦ absurd (omega (arith, whole.rise t b.0 a.0 q y x there b.1 a.1 gt, same))
            ]
      ]

  -- the element at a place among all events is an event of a thread
  pub event_numbered : (g : ℕ) (e : Placed Event) → slice_get (all_events paths) g ≡ Some e
      → (q : Walk) × (slice_get paths.threads e.thread ≡ Some q) × Contains q.events e.it
  event_numbered g e at =
      let o = of_all_from (λ (w : Walk). w.events) 0 paths.threads e (at_in (all_events paths) g e at) in
      let same : o.place ≡ e.thread = omega (arith, o.thread) in
      (o.owner, ap (slice_get paths.threads) (sym same) ∙ o.at, o.among)

  -- the place is the number of the event
  pub number_is : (g : ℕ) (e : Placed Event) → slice_get (all_events paths) g ≡ Some e → number_of paths e.thread e.it.step ≡ g
  number_is g e at =
      let within = slice_get_within (all_events paths) g e at in
      position_or_len_is (is_step e.thread e.it.step) (all_events paths) g e (omega (arith, within)) earlier passes
    where
      earlier : (k : ℕ) → k < g → is_step e.thread e.it.step (get_or (all_events paths) k e) ≡ false
      earlier k lt =
          let a = get_or (all_events paths) k e in
          let there = slice_get-get_or (all_events paths) k e (omega (arith, lt, slice_get_within (all_events paths) g e at)) in
          false_from_ne_true (is_step e.thread e.it.step a) (λ yes.
          let parts = and_parts (a.thread == e.thread) (a.it.step == e.it.step) yes in
          let thread = eqb-true a.thread e.thread parts.0 in
          let step = eqb-true a.it.step e.it.step parts.1 in
          elim (of_rise (λ (q : Walk). q.events) (λ (x : Event). x.step) 0 paths.threads (λ u j k q x y. whole.rise u j k q x y) k g a e there at lt) [
            | inl less ↦ omega (arith, less, thread)
            | inr less ↦ omega (arith, less.1, step)
          ])

      passes : g < length (all_events paths) → is_step e.thread e.it.step (get_or (all_events paths) g e) ≡ true
      passes lt =
          let same = same_Some e (get_or (all_events paths) g e) (sym at ∙ slice_get-get_or (all_events paths) g e lt) in
          ap (is_step e.thread e.it.step) (sym same) ∙ is_own e.thread e.it.step e refl refl

-- of two events of a thread, the one with the lesser step has the lesser number
pub numbers_rise : (paths : Paths) → AreWhole paths → (t k j : ℕ) → HasStep paths t k → HasStep paths t j → k < j → number_of paths t k < number_of paths t j
numbers_rise paths whole t k j s u less =
    elim (cases_order (number_of paths t k) (number_of paths t j)) [
      | inl same ↦ absurd (let one = one_step paths t k t j s same in omega (arith, less, one.1))
      | inr (inl lower) ↦ lower
      | inr (inr higher) ↦
          let d : Placed Event = the_of t s.0 in
          let e = get_or (all_events paths) (number_of paths t k) d in
          let f = get_or (all_events paths) (number_of paths t j) d in
          let e_is = and_parts (e.thread == t) (e.it.step == k) (is_step_at paths t k d (has_number paths t k s)) in
          let f_is = and_parts (f.thread == t) (f.it.step == j) (is_step_at paths t j d (has_number paths t j u)) in
          let e_at = slice_get-get_or (all_events paths) (number_of paths t k) d (has_number paths t k s) in
          let f_at = slice_get-get_or (all_events paths) (number_of paths t j) d (has_number paths t j u) in
          elim (of_rise (λ (w : Walk). w.events) (λ (x : Event). x.step) 0 paths.threads (λ v i l q x y. whole.rise v i l q x y) (number_of paths t j)
          (number_of paths t k) f e f_at e_at higher) [
            | inl before ↦ absurd (omega (arith, before, eqb-true e.thread t e_is.0, eqb-true f.thread t f_is.0))
            | inr before ↦ absurd (omega (arith, before.1, less, eqb-true e.it.step k e_is.1, eqb-true f.it.step j f_is.1))
          ]
    ]
