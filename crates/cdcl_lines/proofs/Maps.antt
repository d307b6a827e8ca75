-- The clauses that a checker keeps after one more and after one less.
use Rattle.std.proofs.Common.{◌≡◌, ◌≢◌, ℕ, List, ℤ, Some, None, ◌∙◌}
use Rattle.std.specs.Ordering.{nat_cmp, eq_by_cmp}
use Rattle.std.specs.Cmp.{nat_cmp_total, unsigned_tied}
use Rattle.std.specs.FinMap.{get, insert, remove, get-insert, get-remove}
use Rattle.std.proofs.lemmas.Bool.{eq-eqb, ne_eqb, cond-true, cond-false}
use Rattle.refute_check.specs.Kept.{KeptClauses}

pub get-new : (kept : KeptClauses) (n : ℕ) (c : List ℤ) (q : ℕ) → q ≡ n → get (insert kept n c) q ≡ Some c
get-new kept n c q e = get-insert nat_cmp_total kept n c q
    ∙ cond-true (eq_by_cmp nat_cmp q n) (Some c) (get kept q) (unsigned_tied q n ∙ eq-eqb q n e)

pub get-old : (kept : KeptClauses) (n : ℕ) (c : List ℤ) (q : ℕ) → q ≢ n → get (insert kept n c) q ≡ get kept q
get-old kept n c q e = get-insert nat_cmp_total kept n c q
    ∙ cond-false (eq_by_cmp nat_cmp q n) (Some c) (get kept q) (unsigned_tied q n ∙ ne_eqb q n e)

pub get-gone : (kept : KeptClauses) (n q : ℕ) → q ≡ n → get (remove kept n) q ≡ None
get-gone kept n q e = get-remove nat_cmp_total kept n q ∙ cond-true (eq_by_cmp nat_cmp q n) None (get kept q) (unsigned_tied q n ∙ eq-eqb q n e)

pub get-left : (kept : KeptClauses) (n q : ℕ) → q ≢ n → get (remove kept n) q ≡ get kept q
get-left kept n q e = get-remove nat_cmp_total kept n q ∙ cond-false (eq_by_cmp nat_cmp q n) None (get kept q) (unsigned_tied q n ∙ ne_eqb q n e)
