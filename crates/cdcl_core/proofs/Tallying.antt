-- The numbers of kept and of marked clauses.
use Rattle.std.proofs.Common.{◌≡◌, ℕ, zero, suc, ◌+◌, ◌<◌, ◌≤◌, Bool, true, false, cond, Some, None, List, [], ◌∷◌, ◌++◌, length, take, drop}
use Rattle.std.proofs.Common.{get_or, ℤ, set, replicate, refl, sym, ◌∙◌, ap, subst, arith}
use Rattle.std.specs.Prelude.{count_by, fold, IfSome, slice_get}
use Rattle.std.proofs.lemmas.List.{take-append-drop, length-take-le, length-drop, get_or-drop}
use Rattle.std.proofs.lemmas.List.Sums.{sum_by-cons, sum_by-append, sum_by_push, sum_by-set, count_by-le-length}
use Rattle.cdcl_clauses.specs.Clauses.{Clause, at, no_clause}
use Rattle.cdcl_clauses.specs.Invariants.{AreSame}
use Rattle.cdcl_lines.specs.Literals.{clause_of}
use Rattle.cdcl_lines.specs.Keeping.{KeepsAll, as_kept, CanDrop}
use Rattle.cdcl_clauses.specs.Clauses.{dropped}
use Rattle.cdcl_lines.proofs.Representing.{kept-within, can_drop-tail}
use Rattle.cdcl_core.specs.helpers.States.{kept_in}

-- 1 if true, else 0
abbrev one : Bool → ℕ
one b = cond b 1 0

one-le : (a b : Bool) → (a ≡ true → b ≡ true) → one a ≤ one b
one-le false b h = omega arith
one-le true b h = (let e : one b ≡ 1 = ap one (h refl) in omega (arith, e))

-- a test counts at most as many items as another that passes where it does
pub count-le : {X Y : Type 0} (p : X → Bool) (q : Y → Bool) (xs : List X) (ys : List Y) (d : X) (e : Y) → length xs ≤ length ys
    → ((k : ℕ) → k < length xs → p (get_or xs k d) ≡ true → q (get_or ys k e) ≡ true) → count_by p xs ≤ count_by q ys
count-le p q [] ys d e h f = omega arith
count-le p q (x ∷ xs) [] d e h f = absurd (omega arith)
count-le p q (x ∷ xs) (y ∷ ys) d e h f =
    let i : count_by p xs ≤ count_by q ys = count-le p q xs ys d e (omega (arith, h)) (λ k kl. f (suc k) (omega (arith, kl))) in
    let first : one (p x) ≤ one (q y) = one-le (p x) (q y) (f 0 (omega arith)) in
    omega (arith, i, first, sum_by-cons (λ z. one (p z)) x xs, sum_by-cons (λ z. one (q z)) y ys)

-- the same clauses are kept
pub kept-same : (cs ds : List Clause) → AreSame cs ds → kept_in ds ≡ kept_in cs
kept-same cs ds s =
    let a : kept_in ds ≤ kept_in cs = count-le (λ c. c.kept) (λ c. c.kept) ds cs no_clause no_clause (omega (arith, s.count))
    (λ k kl e. sym (s.kept k) ∙ e) in
    let b : kept_in cs ≤ kept_in ds = count-le (λ c. c.kept) (λ c. c.kept) cs ds no_clause no_clause (omega (arith, s.count)) (λ k kl e. s.kept k ∙ e) in
    omega (arith, a, b)

pub kept-push : (cs : List Clause) (c : Clause) → c.kept ≡ true → kept_in (cs ++ c ∷ []) ≡ kept_in cs + 1
kept-push cs c e = sum_by_push (λ (x : Clause). one x.kept) cs c ∙ ap (λ (b : Bool). kept_in cs + one b) e

kept-dropped_one : (cs : List Clause) (k : ℕ) → (at cs k).kept ≡ true → kept_in (dropped cs k) + 1 ≡ kept_in cs
kept-dropped_one cs k e =
    let c : Clause = record (at cs k) { kept = false } in
    let f : one (at cs k).kept ≡ 1 = ap one e in
    omega (arith, sum_by-set (λ (x : Clause). one x.kept) cs k c no_clause (kept-within cs k e), f)

pub kept-dropped : (ks : List ℕ) (cs : List Clause) → CanDrop cs ks → kept_in (fold dropped cs ks) + length ks ≡ kept_in cs
kept-dropped [] cs c = omega arith
kept-dropped (k ∷ ks) cs c =
    let e : (at cs k).kept ≡ true = c.kept 0 0 (omega arith) in
    omega (arith, kept-dropped ks (dropped cs k) (can_drop-tail cs k ks c), kept-dropped_one cs k e)

-- all are kept
count-all : {X : Type 0} (p : X → Bool) (xs : List X) (d : X) → ((k : ℕ) → k < length xs → p (get_or xs k d) ≡ true) → count_by p xs ≡ length xs
count-all p [] d h = refl
count-all p (x ∷ xs) d h =
    let e : one (p x) ≡ 1 = ap one (h 0 (omega arith)) in
    omega (arith, count-all p xs d (λ k kl. h (suc k) (omega (arith, kl))), sum_by-cons (λ z. one (p z)) x xs, e)

kept-some : (c : Clause) (b : Bool) → c.kept ≡ b → (z : List ℤ) → as_kept c ≡ Some z → c.kept ≡ true
kept-some c true e z f = e
kept-some c false e z f = absurd (let g : None ≡ Some z = sym (ap (λ (b : Bool). cond b (Some (clause_of c.literals)) None) e) ∙ f in cc)

at-some : {X : Type 0} (xs : List X) (k : ℕ) → k < length xs → (x : X) × (slice_get xs k ≡ Some x)
at-some [] k h = absurd (omega arith)
at-some (x ∷ xs) zero h = (x, refl)
at-some (x ∷ xs) (suc k) h = at-some xs k (omega (arith, h))

pub kept-all : (zs : List (List ℤ)) (cs : List Clause) → length cs ≡ length zs → KeepsAll zs cs → kept_in cs ≡ length cs
kept-all zs cs e h = count-all (λ c. c.kept) cs no_clause
    (λ k kl. (
    let (z, f) = at-some zs k (omega (arith, kl, e)) in
    kept-some (at cs k) (at cs k).kept refl z (subst (λ o. IfSome o (λ c. as_kept (at cs k) ≡ Some c)) f (h k))))

pub none-marked : (n : ℕ) → count_by (λ b. b) (replicate n false) ≡ 0
none-marked zero = refl
none-marked (suc n) = omega (arith, none-marked n, sum_by-cons (λ b. one b) false (replicate n false))

pub marked-more : (marks : List Bool) (r : ℕ) → r < length marks → count_by (λ b. b) (set marks r true) ≤ count_by (λ b. b) marks + 1
marked-more marks r h = omega (arith, sum_by-set (λ b. one b) marks r true false h)

-- if each kept clause from a place on is marked, the kept ones are at most the place and the marks
pub kept-le : (cs : List Clause) (marks : List Bool) (g : ℕ) → g ≤ length cs → length marks ≡ length cs
    → ((k : ℕ) → g ≤ k → k < length cs → (at cs k).kept ≡ true → get_or marks k false ≡ true) → kept_in cs ≤ g + count_by (λ b. b) marks
kept-le cs marks g gl e h =
    let split : kept_in (take g cs) + kept_in (drop g cs) ≡ kept_in cs = sym (sum_by-append (λ (x : Clause). one x.kept) (take g cs) (drop g cs))
    ∙ ap kept_in (take-append-drop g cs) in
    let low : kept_in (take g cs) ≤ g = omega (arith, count_by-le-length (λ (x : Clause). x.kept) (take g cs), length-take-le g cs gl) in
    let rest : count_by (λ b. b) (take g marks) + count_by (λ b. b) (drop g marks) ≡ count_by (λ b. b) marks =
    sym (sum_by-append (λ b. one b) (take g marks) (drop g marks)) ∙ ap (count_by (λ b. b)) (take-append-drop g marks) in
    let high : kept_in (drop g cs) ≤ count_by (λ b. b) (drop g marks) =
    count-le (λ (c : Clause). c.kept) (λ b. b) (drop g cs) (drop g marks) no_clause false (omega (arith, length-drop g cs, length-drop g marks, e))
    (λ k kl f. get_or-drop g marks k false ∙ h (g + k) (omega arith) (omega (arith, kl, length-drop g cs))
    (sym (ap (λ (c : Clause). c.kept) (get_or-drop g cs k no_clause)) ∙ f)) in
    omega (arith, split, low, rest, high)
