-- Items of threads in the order of their steps.
use Rattle.std.proofs.Common.{◌≡◌, ℕ, zero, suc, ◌+◌, ◌<◌, Bool, true, false, cond, List, [], ◌∷◌, ◌++◌, Some, inl, inr, refl, ap, sym, subst, ◌∙◌, arith}
use Rattle.std.specs.Prelude.{filter, slice_get}
use Rattle.std.specs.List.{Contains}
use Rattle.std.proofs.lemmas.List.Elements.{Contains-append_cases}
use Rattle.std.proofs.lemmas.Option.{none-some, same_Some}
use Rattle.path_walk.specs.Paths.{Paths}
use Rattle.sym_exec.specs.Executed.{Course, Symbolic}
use Rattle.sym_exec.specs.declared.symbolic.Access.{Access}
use Rattle.order_events.specs.lawful_order.Events.{Placed, all_from, placed_in}
use Rattle.order_events.specs.lawful_order.Whole.{IsExecutedBy}
use Rattle.order_events.proofs.Lists.{at_in, in_at, in_back, in_front, of_cons, of_filter, of_map, of_nil}
use Rattle.order_events.proofs.Numbers.{of_all_from}
use Rattle.read_write.specs.Accesses.{all_accesses}

-- of two items of a thread, the one that comes first has the lesser step
abbrev pub Rises : {X : Type 0} → (X → ℕ) → List (Placed X) → Type 0
Rises step [] = Unit {0}
Rises {X} step (x ∷ xs) = ((y : Placed X) → Contains xs y → y.thread ≡ x.thread → step x.it < step y.it) × Rises step xs

abbrev pub StepsRise : {X : Type 0} → (X → ℕ) → List X → Type 0
StepsRise {X} step xs = (j k : ℕ) (a b : X) → slice_get xs j ≡ Some a → slice_get xs k ≡ Some b → j < k → step a < step b

module _ {X : Type 0} (step : X → ℕ) where
  pub rises_filtered : (p : Placed X → Bool) (xs : List (Placed X)) → Rises step xs → Rises step (filter p xs)
  rises_filtered p [] rise = tt
  rises_filtered p (x ∷ xs) rise = by (p x) (rises_filtered p xs rise.1)
    where
      by : (b : Bool) → Rises step (filter p xs) → Rises step (cond b (x ∷ filter p xs) (filter p xs))
      by true rest = ((λ y i same. rise.0 y (of_filter p y xs i).0 same), rest)
      by false rest = rest

  rises_joined : (xs ys : List (Placed X)) → Rises step xs → Rises step ys
      → ((x y : Placed X) → Contains xs x → Contains ys y → y.thread ≡ x.thread → ⊥) → Rises step (xs ++ ys)
  rises_joined [] ys rise more apart = more
  rises_joined (x ∷ xs) ys rise more apart = (
    (λ y i same. elim (Contains-append_cases xs ys y i) [
      | inl own ↦ rise.0 y own same
      | inr other ↦ absurd (apart x y (in_front x xs) other same)
    ]),
    rises_joined xs ys rise.1 more (λ z y i j same. apart z y (in_back z x xs i) j same),
  )

  rises_of_thread : (t : ℕ) (xs : List X) → StepsRise step xs → Rises step (placed_in t xs)
  rises_of_thread t [] rise = tt
  rises_of_thread t (x ∷ xs) rise = (
    (λ y i same.
        let o = of_map {Y = Placed X} (λ (z : X). record { thread = t; it = z }) y xs i in
        let at = in_at xs o.0 o.1 in
        subst (λ (z : Placed X). step x < step z.it) o.2 (rise 0 (suc at.0) x o.0 refl at.1 (omega arith))),
    rises_of_thread t xs (λ j k a b p q less. rise (suc j) (suc k) a b p q (omega (arith, less))),
  )

  pub rises_from : {W : Type 0} (has : W → List X) (t : ℕ) (ws : List W) → ((k : ℕ) (w : W) → slice_get ws k ≡ Some w → StepsRise step (has w))
      → Rises step (all_from has t ws)
  rises_from has t [] rise = tt
  rises_from has t (w ∷ ws) rise =
      rises_joined (placed_in t (has w)) (all_from has (t + 1) ws) (rises_of_thread t (has w) (rise 0 w refl))
      (rises_from has (t + 1) ws (λ k v at. rise (suc k) v at))
      (λ x y i j same.
      let o = of_map {Y = Placed X} (λ (z : X). record { thread = t; it = z }) x (has w) i in
      let p = of_all_from has (t + 1) ws y j in
      omega (arith, p.thread, same, ap (λ (z : Placed X). z.thread) o.2))

  -- items by their places in the list
  pub rises_at : (xs : List (Placed X)) (i j : ℕ) (x y : Placed X) → Rises step xs → slice_get xs i ≡ Some x → slice_get xs j ≡ Some y → i < j
      → y.thread ≡ x.thread → step x.it < step y.it
  rises_at [] i j x y rise at there less same = absurd (none-some x at)
  rises_at (z ∷ zs) zero zero x y rise at there less same = absurd (omega (arith, less))
  rises_at (z ∷ zs) zero (suc j) x y rise at there less same =
      let is : z ≡ x = same_Some z x at in
      subst (λ (k : Placed X). step k.it < step y.it) is (rise.0 y (at_in zs j y there) (same ∙ ap (λ (k : Placed X). k.thread) (sym is)))
  rises_at (z ∷ zs) (suc i) zero x y rise at there less same = absurd (omega (arith, less))
  rises_at (z ∷ zs) (suc i) (suc j) x y rise at there less same = rises_at zs i j x y rise.1 at there (omega (arith, less)) same

  -- no two items of a thread have the same step
  pub one_of_step : (xs : List (Placed X)) (x y : Placed X) → Rises step xs → Contains xs x → Contains xs y → x.thread ≡ y.thread
      → step x.it ≡ step y.it → x ≡ y
  one_of_step [] x y rise i j same equal = absurd (of_nil x i)
  one_of_step (z ∷ zs) x y rise i j same equal = elim (of_cons x z zs i) [
    | inl one ↦ elim (of_cons y z zs j) [
      | inl two ↦ sym one ∙ two
      | inr two ↦
          let less : step z.it < step y.it = rise.0 y two (sym same ∙ ap (λ (k : Placed X). k.thread) (sym one)) in
          absurd (omega (arith, less, ap (λ (k : Placed X). step k.it) one, equal))
    ]
    | inr one ↦ elim (of_cons y z zs j) [
      | inl two ↦
          let less : step z.it < step x.it = rise.0 x one (same ∙ ap (λ (k : Placed X). k.thread) (sym two)) in
          absurd (omega (arith, less, ap (λ (k : Placed X). step k.it) two, equal))
      | inr two ↦ one_of_step zs x y rise.1 one two same equal
    ]
  ]

  -- what comes before an item, and after it
  pub earlier : (done rest : List (Placed X)) (a b : Placed X) → Rises step (done ++ a ∷ rest) → Contains done b → b.thread ≡ a.thread → step b.it < step a.it
  earlier [] rest a b rise i same = absurd (of_nil b i)
  earlier (x ∷ xs) rest a b rise i same = elim (of_cons b x xs i) [
    | inl is ↦
        subst (λ (z : Placed X). step z.it < step a.it) is
        (rise.0 a (in_joined xs) (sym same ∙ ap (λ (z : Placed X). z.thread) (sym is)))
    | inr more ↦ earlier xs rest a b rise.1 more same
  ]
    where
      in_joined : (ys : List (Placed X)) → Contains (ys ++ a ∷ rest) a
      in_joined [] = in_front a rest
      in_joined (y ∷ ys) = in_back a y (ys ++ a ∷ rest) (in_joined ys)

  pub following : (done rest : List (Placed X)) (a b : Placed X) → Rises step (done ++ a ∷ rest) → Contains rest b → b.thread ≡ a.thread → step a.it < step b.it
  following [] rest a b rise i same = rise.0 b i same
  following (x ∷ xs) rest a b rise i same = following xs rest a b rise.1 i same

abbrev pub step_of : Access → ℕ
step_of a = a.step

pub used_rise : (paths : Paths) (symbolic : Symbolic) (p : Placed Access → Bool) → IsExecutedBy paths symbolic → Rises step_of (filter p (all_accesses symbolic))
used_rise paths symbolic p executed =
    rises_filtered step_of p (all_accesses symbolic)
    (rises_from step_of (λ (c : Course). c.accesses) 0 symbolic.threads (λ t c at j k a b here there less. executed.rise t j k c a b at here there less))
