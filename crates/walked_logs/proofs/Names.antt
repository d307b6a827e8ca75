-- Names in order: those below a name come before those of its later siblings.
use Rattle.std.proofs.Common.{◌≡◌, ◌∙◌, inl, inr, ℕ, ◌<◌, true, List, [], ◌∷◌, ◌++◌, Option, Some, None, refl, sym, ap}
use Rattle.std.proofs.Common.{arith, append_assoc}
use Rattle.std.specs.Cmp.{tied_itself}
use Rattle.std.specs.Ordering.{nat_cmp, is_lt, ordering_then}
use Rattle.std.specs.declared.cmp.Ordering.TheVariants.{Less, Greater}
use Rattle.std.proofs.lemmas.Bool.{and_parts}
use Rattle.std.proofs.lemmas.Cmp.{nat_cmp_total}
use Rattle.log_walk.specs.tc_base.Names.{Name, by_name, child}
use Rattle.log_walk.specs.tc_base.Paths.{ThreadPath}
use Rattle.log_walk.proofs.tc_base.Names.{less_true, between, not_itself}
use Rattle.log_walk.specs.run_log.Logs.{rises_from}
use Rattle.normal_logs.proofs.run_history.of_pending.In.{In}

-- a name and all below it come before another
abbrev pub Before : Name → Name → Type 0
Before a b = (ks : List ℕ) → by_name (a ++ ks) b ≡ Less

less_numbers : (a b : ℕ) → a < b → nat_cmp a b ≡ Less
less_numbers a b lt = grind (arith, lt)

pub siblings : (n : Name) (a b : ℕ) → a < b → Before (child n a) (child n b)
siblings [] a b lt ks = ap (λ o. ordering_then o (by_name ks [])) (less_numbers a b lt)
siblings (x ∷ n) a b lt ks =
    ap (λ o. ordering_then o (by_name (child n a ++ ks) (child n b))) (tied_itself nat_cmp_total x) ∙ siblings n a b lt ks

pub child_before : (n : Name) (k : ℕ) (b : Name) → Before n b → Before (child n k) b
child_before n k b before ks = ap (λ q. by_name q b) (append_assoc n (k ∷ []) ks) ∙ before (k ∷ ks)

-- no name below another comes before it
pub none_below : (n : Name) (ks : List ℕ) → by_name (n ++ ks) n ≡ Less → ⊥
none_below [] [] e = not_itself [] e
none_below [] (k ∷ ks) e = let never : Greater ≡ Less = e in cc
none_below (x ∷ n) ks e =
    none_below n ks (sym (ap (λ o. ordering_then o (by_name (n ++ ks) n)) (tied_itself nat_cmp_total x)) ∙ e)

parts : (a b : ℕ) (xs ys : List ℕ) → a ∷ xs ≡ b ∷ ys → (a ≡ b) × (xs ≡ ys)
parts a b xs ys e = (cc, cc)

pub child_not_nil : (n : Name) (k : ℕ) → [] ≡ child n k → ⊥
child_not_nil [] k e = absurd cc
child_not_nil (x ∷ n) k e = absurd cc

-- two names of children are of one parent, with one number
pub same_child : (m n : Name) (j k : ℕ) → child m j ≡ child n k → (m ≡ n) × (j ≡ k)
same_child [] [] j k e = (refl, (parts j k [] [] e).0)
same_child [] (y ∷ n) j k e = absurd (child_not_nil n k (parts j y [] (child n k) e).1)
same_child (x ∷ m) [] j k e = absurd (child_not_nil m j (sym (parts x k (child m j) [] e).1))
same_child (x ∷ m) (y ∷ n) j k e =
    let p = parts x y (child m j) (child n k) e in
    let rest = same_child m n j k p.1 in
    (ap (λ a. a ∷ m) p.0 ∙ ap (λ q. y ∷ q) rest.0, rest.1)

-- the names of threads rise
abbrev pub Rise : List ThreadPath → Type 0
Rise [] = Unit {0}
Rise (t ∷ ts) = ((u : ThreadPath) → In u ts → by_name t.name u.name ≡ Less) × Rise ts

all_above : (n : Name) (ts : List ThreadPath) → rises_from (Some n) ts ≡ true → (u : ThreadPath) → In u ts → by_name n u.name ≡ Less
all_above n [] rises u i = absurd i
all_above n (t ∷ ts) rises u i =
    let both = and_parts (is_lt (by_name n t.name)) (rises_from (Some t.name) ts) rises in
    by (less_true (by_name n t.name) both.0) (λ j. all_above t.name ts both.1 u j) i
  where
    by : by_name n t.name ≡ Less → (In u ts → by_name t.name u.name ≡ Less) → In u (t ∷ ts) → by_name n u.name ≡ Less
    by first rest (inl same) = ap (λ (x : ThreadPath). by_name n x.name) (sym same) ∙ first
    by first rest (inr j) = between n t.name u.name first (rest j)

pub rise : (last : Option Name) (ts : List ThreadPath) → rises_from last ts ≡ true → Rise ts
rise last [] rises = tt
rise None (t ∷ ts) rises = let rest = (and_parts true (rises_from (Some t.name) ts) rises).1 in (all_above t.name ts rest, rise (Some t.name) ts rest)
rise (Some n) (t ∷ ts) rises =
    let rest = (and_parts (is_lt (by_name n t.name)) (rises_from (Some t.name) ts) rises).1 in (all_above t.name ts rest, rise (Some t.name) ts rest)
