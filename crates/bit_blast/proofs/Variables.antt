-- Values of added variables.
use Rattle.std.proofs.Common.{◌≡◌, ℕ, suc, zero, ◌+◌, ◌-◌, ◌<◌, List, pos, refl, ◌∙◌, arith, Bool, true, false, get_or}
use Rattle.std.specs.Prelude.{if◌then◌else◌, nat_le}
use borrow.Author.Tests.{le-leb}
use Rattle.std.proofs.lemmas.Bool.{lt-leb}
use Rattle.cnf_core.specs.Clauses.{Valuation, literal_true}
use Rattle.cnf_core.specs.Gates.{Agree}

-- the values, with those of the variables after the first `n`
abbrev pub with_values : Valuation → ℕ → List Bool → Valuation
with_values w n bs = λ k. if nat_le k n then w k else get_or bs (k - (n + 1)) false

pub agree_with : (w : Valuation) (n : ℕ) (bs : List Bool) → Agree n w (with_values w n bs)
agree_with w n bs k h = let e : nat_le k n ≡ true = le-leb k n h in rw e refl

pub literal_positive : (w : Valuation) (k : ℕ) → 0 < k → literal_true w (pos k) ≡ w k
literal_positive w zero h = absurd (omega (arith, h))
literal_positive w (suc k) h = refl

pub value_with : (w : Valuation) (n : ℕ) (bs : List Bool) (i k : ℕ) → k ≡ n + 1 + i → literal_true (with_values w n bs) (pos k) ≡ get_or bs i false
value_with w n bs i k h =
    let above : n < k = omega (arith, h) in
    let e : nat_le k n ≡ false = lt-leb k n above in
    let place : k - (n + 1) ≡ i = omega (arith, h) in
    literal_positive (with_values w n bs) k (omega (arith, h)) ∙ rw (e, place) refl
