-- A world has fewer switches than there are positions.
use Rattle.std.proofs.Common.{ℕ, zero, suc, ◌+◌, ◌<◌, ◌≤◌, Bool, true, false, cond, List, [], ◌∷◌, length, get_or, Option, Some, None, arith}
use Rattle.std.specs.List.{All, cons_option, filter_map, range_with_len}
use Rattle.std.proofs.lemmas.List.Elements.{All-head, All-tail}
use Rattle.std.proofs.lemmas.List.FromFn.{length-range_with_len}
use Rattle.order_formula.specs.Worlds.{World}
use Rattle.order_switches.specs.Switches.{changes, changes_after, end_at, switches, thread_at}
use Rattle.order_switches.proofs.Changes.{eq}

one_more : (b : Bool) → cond b 0 1 ≤ 1
one_more true = omega arith
one_more false = omega arith

after_few : (x : ℕ) (ys : List ℕ) → changes_after eq x ys ≤ length ys
after_few x [] = omega arith
after_few x (y ∷ ys) = omega (arith, one_more (eq x y), after_few y ys)

-- a list has fewer changes than elements
changes_few : (n : ℕ) (xs : List ℕ) → length xs ≤ n + 1 → changes eq xs ≤ n
changes_few n [] short = omega arith
changes_few n (x ∷ xs) short = omega (arith, short, after_few x xs)

cons_few : {X : Type 0} (o : Option X) (xs : List X) (n : ℕ) → length xs ≤ n → length (cons_option o xs) ≤ suc n
cons_few None xs n few = omega arith
cons_few (Some x) xs n few = omega arith

filtered_few : {X : Type 0} (f : ℕ → Option X) (ns : List ℕ) → length (filter_map f ns) ≤ length ns
filtered_few f [] = omega arith
filtered_few f (n ∷ ns) = cons_few (f n) (filter_map f ns) (length ns) (filtered_few f ns)

small_at : (ps : List ℕ) (e : ℕ) → All (λ p. p < 256) ps → get_or ps e 0 < 256
small_at [] e all = omega arith
small_at (p ∷ ps) zero all = All-head (λ q. q < 256) p ps all
small_at (p ∷ ps) (suc e) all = small_at ps e (All-tail (λ q. q < 256) p ps all)

module _ (threads : List ℕ) (w : World) (small : All (λ p. p < 256) w.positions) where
  end_few : (failing : Option ℕ) → end_at failing w ≤ 256
  end_few None = omega arith
  end_few (Some e) = let at = small_at w.positions e small in omega (arith, at)

  pub few : (failing : Option ℕ) → switches threads failing w ≤ 255
  few failing =
      let end = end_at failing w in
      changes_few 255 (filter_map (thread_at threads w) (range_with_len 0 end))
      (omega (arith, filtered_few (thread_at threads w) (range_with_len 0 end), length-range_with_len 0 end, end_few failing))
