-- The order of paths and of threads.
use Rattle.std.proofs.Common.{◌≡◌, ◌∙◌, ℕ, zero, suc, ◌+◌, ◌-◌, ◌*◌, ◌^◌, ◌<◌, ◌≤◌, inl, inr, Bool, true, false, not, ◌&&◌, ◌||◌, List, [], ◌∷◌, length, Option, Some, None, refl, ap, arith, lit<}
use Rattle.std.specs.Prelude.{◌⊎◌}
use Rattle.std.proofs.Math.Nat.{pow-suc}
use Rattle.std.proofs.lemmas.Bool.{le-leb, leb-true, leb-false, lt-leb}
use Rattle.tc_base.specs.Paths.{Path, ThreadPath}
use Rattle.thread_paths.specs.Order.{is_from, comes_from}
use Rattle.log_walk.specs.Order.{are_from}

-- the position right after a path
abbrev pub after : Path → Path
after p = record { outcomes = p.outcomes; steps = p.steps + 1 }

pub from_same : (o : List Bool) (s t : ℕ) → s ≤ t → is_from o s o t ≡ true
from_same [] s t le = le-leb s t le
from_same (true ∷ o) s t le = from_same o s t le
from_same (false ∷ o) s t le = from_same o s t le

-- each path comes from itself
pub from_itself : (p : Path) → comes_from p p ≡ true
from_itself p = from_same p.outcomes p.steps p.steps (omega arith)

pub from_all : (o : List Bool) (s : ℕ) → is_from [] 0 o s ≡ true
from_all [] s = le-leb 0 s (omega arith)
from_all (b ∷ o) s = refl

-- coming from a path is transitive
pub from_from : (a : List Bool) (s : ℕ) (b : List Bool) (t : ℕ) (c : List Bool) (u : ℕ)
    → is_from a s b t ≡ true → is_from b t c u ≡ true → is_from a s c u ≡ true
from_from [] s [] t [] u one two = le-leb s u (omega (arith, leb-true s t one, leb-true t u two))
from_from [] s [] t (z ∷ c) u one two = refl
from_from [] s (y ∷ b) t [] u one two = absurd cc
from_from [] s (y ∷ b) t (z ∷ c) u one two = refl
from_from (x ∷ a) s [] t c u one two = absurd cc
from_from (x ∷ a) s (y ∷ b) t [] u one two = absurd cc
from_from (false ∷ a) s (y ∷ b) t (true ∷ c) u one two = refl
from_from (true ∷ a) s (false ∷ b) t (z ∷ c) u one two = absurd cc
from_from (true ∷ a) s (true ∷ b) t (false ∷ c) u one two = absurd cc
from_from (true ∷ a) s (true ∷ b) t (true ∷ c) u one two = from_from a s b t c u one two
from_from (false ∷ a) s (true ∷ b) t (false ∷ c) u one two = absurd cc
from_from (false ∷ a) s (false ∷ b) t (false ∷ c) u one two = from_from a s b t c u one two

-- two paths that come from each other are the same
pub one_of_two : (a : List Bool) (s : ℕ) (b : List Bool) (t : ℕ) → is_from a s b t ≡ true → is_from b t a s ≡ true → (a ≡ b) × (s ≡ t)
one_of_two [] s [] t one two = (refl, omega (arith, leb-true s t one, leb-true t s two))
one_of_two [] s (y ∷ b) t one two = absurd cc
one_of_two (x ∷ a) s [] t one two = absurd cc
one_of_two (false ∷ a) s (true ∷ b) t one two = absurd cc
one_of_two (true ∷ a) s (false ∷ b) t one two = absurd cc
one_of_two (true ∷ a) s (true ∷ b) t one two = let both = one_of_two a s b t one two in (ap (λ o. true ∷ o) both.0, both.1)
one_of_two (false ∷ a) s (false ∷ b) t one two = let both = one_of_two a s b t one two in (ap (λ o. false ∷ o) both.0, both.1)

pub same_path : (p q : Path) → comes_from p q ≡ true → comes_from q p ≡ true → p ≡ q
same_path p q one two =
    let both = one_of_two p.outcomes p.steps q.outcomes q.steps one two in
    ap (λ o. record { outcomes = o; steps = p.steps }) both.0 ∙ ap (λ s. record { outcomes = q.outcomes; steps = s }) both.1

-- a path that doesn't come before another comes after it
pub not_before : (a : List Bool) (s : ℕ) (b : List Bool) (t : ℕ) → is_from a s b t ≡ false → is_from b (t + 1) a s ≡ true
not_before [] s [] t isnt = le-leb (t + 1) s (omega (arith, leb-false s t isnt))
not_before [] s (y ∷ b) t isnt = absurd cc
not_before (x ∷ a) s [] t isnt = refl
not_before (false ∷ a) s (true ∷ b) t isnt = absurd cc
not_before (true ∷ a) s (false ∷ b) t isnt = refl
not_before (true ∷ a) s (true ∷ b) t isnt = not_before a s b t isnt
not_before (false ∷ a) s (false ∷ b) t isnt = not_before a s b t isnt

-- a path that comes after another doesn't come before it
pub not_both : (a : List Bool) (s : ℕ) (b : List Bool) (t : ℕ) → is_from b (t + 1) a s ≡ true → is_from a s b t ≡ false
not_both [] s [] t is = lt-leb s t (omega (arith, leb-true (t + 1) s is))
not_both [] s (y ∷ b) t is = absurd cc
not_both (x ∷ a) s [] t is = refl
not_both (false ∷ a) s (true ∷ b) t is = absurd cc
not_both (true ∷ a) s (false ∷ b) t is = refl
not_both (true ∷ a) s (true ∷ b) t is = not_both a s b t is
not_both (false ∷ a) s (false ∷ b) t is = not_both a s b t is

-- a path after another comes from it
pub from_after : (p q : Path) → comes_from (after p) q ≡ true → comes_from p q ≡ true
from_after p q is =
    from_from p.outcomes p.steps p.outcomes (p.steps + 1) q.outcomes q.steps (from_same p.outcomes p.steps (p.steps + 1) (omega arith)) is

-- Threads.

-- threads whose first path comes later come later
pub later_first : (t u : ThreadPath) (ts us : List ThreadPath) → comes_from (after t.path) u.path ≡ true → are_from (t ∷ ts) (u ∷ us) ≡ true
later_first t u ts us is =
    let does : comes_from t.path u.path ≡ true = from_after t.path u.path is in
    let isnt : comes_from u.path t.path ≡ false = not_both u.path.outcomes u.path.steps t.path.outcomes t.path.steps is in
    ap (λ v. v && (not (comes_from u.path t.path) || are_from ts us)) does ∙ ap (λ v. true && (not v || are_from ts us)) isnt

-- threads whose first path comes later don't come before
pub later_last : (t u : ThreadPath) (ts us : List ThreadPath) → comes_from (after t.path) u.path ≡ true → are_from (u ∷ us) (t ∷ ts) ≡ false
later_last t u ts us is =
    let isnt : comes_from u.path t.path ≡ false = not_both u.path.outcomes u.path.steps t.path.outcomes t.path.steps is in
    ap (λ v. v && (not (comes_from t.path u.path) || are_from us ts)) isnt

both_from : (a b r : Bool) → a ≡ true → b ≡ true → (a && (not b || r)) ≡ r
both_from true true r one two = refl
both_from true false r one two = absurd cc
both_from false b r one two = absurd cc

-- threads with the same first path are compared by the others
pub by_others : (t u : ThreadPath) (ts us : List ThreadPath) → comes_from t.path u.path ≡ true → comes_from u.path t.path ≡ true
    → are_from (t ∷ ts) (u ∷ us) ≡ are_from ts us
by_others t u ts us one two = both_from (comes_from t.path u.path) (comes_from u.path t.path) (are_from ts us) one two

-- The rank of a path: a number that grows with each later path.

abbrev pub rank : ℕ → List Bool → ℕ
rank zero o = 0
rank (suc n) [] = 0
rank (suc n) (true ∷ o) = 2 * 3 ^ n + rank n o
rank (suc n) (false ∷ o) = 3 ^ n + rank n o

pub rank_below : (n : ℕ) (o : List Bool) → rank n o < 3 ^ n
rank_below zero o = lit< tt
rank_below (suc n) [] = let below = rank_below n [] in let more = pow-suc 3 n in omega arith
rank_below (suc n) (true ∷ o) = let below = rank_below n o in let more = pow-suc 3 n in omega arith
rank_below (suc n) (false ∷ o) = let below = rank_below n o in let more = pow-suc 3 n in omega arith

-- later outcomes have a greater rank, or the same with more steps
pub rank_later : (n : ℕ) (a : List Bool) (s : ℕ) (b : List Bool) (t : ℕ) → is_from a s b t ≡ true → length a ≤ n → length b ≤ n
    → (rank n a < rank n b) ⊎ ((rank n a ≡ rank n b) × (s ≤ t))
rank_later n [] s [] t is la lb = inr (refl, leb-true s t is)
rank_later zero [] s (y ∷ b) t is la lb = absurd (omega (arith, lb))
rank_later (suc n) [] s (true ∷ b) t is la lb = inl (let below = rank_below n [] in omega arith)
rank_later (suc n) [] s (false ∷ b) t is la lb = inl (let below = rank_below n [] in omega arith)
rank_later n (x ∷ a) s [] t is la lb = absurd cc
rank_later zero (x ∷ a) s (y ∷ b) t is la lb = absurd (omega (arith, la))
rank_later (suc n) (false ∷ a) s (true ∷ b) t is la lb = inl (let below = rank_below n a in omega arith)
rank_later (suc n) (true ∷ a) s (false ∷ b) t is la lb = absurd cc
rank_later (suc n) (true ∷ a) s (true ∷ b) t is la lb = more (rank_later n a s b t is (omega (arith, la)) (omega (arith, lb)))
  where
    more : (rank n a < rank n b) ⊎ ((rank n a ≡ rank n b) × (s ≤ t))
        → (rank (suc n) (true ∷ a) < rank (suc n) (true ∷ b)) ⊎ ((rank (suc n) (true ∷ a) ≡ rank (suc n) (true ∷ b)) × (s ≤ t))
    more (inl less) = inl (omega (arith, less))
    more (inr same) = inr (omega (arith, same.0), same.1)
rank_later (suc n) (false ∷ a) s (false ∷ b) t is la lb = more (rank_later n a s b t is (omega (arith, la)) (omega (arith, lb)))
  where
    more : (rank n a < rank n b) ⊎ ((rank n a ≡ rank n b) × (s ≤ t))
        → (rank (suc n) (false ∷ a) < rank (suc n) (false ∷ b)) ⊎ ((rank (suc n) (false ∷ a) ≡ rank (suc n) (false ∷ b)) × (s ≤ t))
    more (inl less) = inl (omega (arith, less))
    more (inr same) = inr (omega (arith, same.0), same.1)

-- the greatest number of paths that may come from the one found
abbrev pub left_of : ℕ → Option Path → ℕ
left_of n None = 0
left_of n (Some p) = suc (3 ^ n * 65536 - (rank n p.outcomes * 65536 + p.steps))
