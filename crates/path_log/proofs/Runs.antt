-- Runs of equal outcomes.
use Rattle.std.proofs.Common.{◌≡◌, ◌≤◌, ◌+◌, ℕ, zero, suc, Bool, true, false, not, leb, List, [], ◌∷◌, ◌++◌, length, replicate, refl, sym, ap, ◌∙◌, arith}
use Rattle.std.proofs.Common.{append_assoc, inl, inr}
use Rattle.std.specs.Bool.{beq}
use Rattle.std.specs.Cmp.{booleans_Decides}
use Rattle.std.specs.List.{list_all}
use Rattle.std.proofs.lemmas.Bool.{and_parts, and_from, cases_Bool, le-leb}
use Rattle.std.proofs.lemmas.List.{length-append, length-replicate}
use Rattle.std.proofs.lemmas.Grind.{replicate_next}
use Rattle.path_log.specs.Texts.{runs_behind}
use Rattle.path_log.specs.Fields.{alternating}

-- each run has at least one outcome
abbrev pub are_runs : List ℕ → Bool
are_runs ns = list_all (λ n. leb 1 n) ns

-- the number of outcomes of all runs together
abbrev pub total : List ℕ → ℕ
total [] = 0
total (n ∷ ns) = n + total ns

other : (b : Bool) → beq b (not b) ≡ false
other true = refl
other false = refl

run_goes_on : (b : Bool) (n m : ℕ) (rest : List Bool) → runs_behind b n (replicate m b ++ rest) ≡ runs_behind b (n + m) rest
run_goes_on b n zero rest = ap (λ (k : ℕ). runs_behind b k rest) (omega arith)
run_goes_on b n (suc m) rest =
    rw ((booleans_Decides b b).1 refl) (run_goes_on b (n + 1) m rest ∙ ap (λ (k : ℕ). runs_behind b k rest) (omega arith))

runs_again : (b : Bool) (n : ℕ) (ns : List ℕ) → are_runs ns ≡ true → runs_behind b n (alternating (not b) ns) ≡ n ∷ ns
runs_again b n [] h = refl
runs_again b n (zero ∷ ns) h = absurd (let parts = and_parts (leb 1 0) (are_runs ns) h in cc)
runs_again b n (suc m ∷ ns) h =
    let parts = and_parts (leb 1 (suc m)) (are_runs ns) h in
    rw (other b) (ap (λ (ks : List ℕ). n ∷ ks) (run_goes_on (not b) 1 m (alternating (not (not b)) ns)
    ∙ (runs_again (not b) (1 + m) ns parts.1 ∙ ap (λ (k : ℕ). k ∷ ns) (omega arith))))

-- the runs of alternating outcomes are their lengths
pub runs_of_alternating : (b : Bool) (m : ℕ) (ns : List ℕ) → are_runs ns ≡ true
    → runs_behind b 1 (replicate m b ++ alternating (not b) ns) ≡ suc m ∷ ns
runs_of_alternating b m ns h =
    run_goes_on b 1 m (alternating (not b) ns) ∙ (runs_again b (1 + m) ns h ∙ ap (λ (k : ℕ). k ∷ ns) (omega arith))

not_same : (b c : Bool) → beq b c ≡ false → c ≡ not b
not_same true true h = absurd cc
not_same true false h = refl
not_same false true h = refl
not_same false false h = absurd cc

-- alternating outcomes of the runs are the outcomes
pub alternating_of_runs : (b : Bool) (n : ℕ) (bs : List Bool) → alternating b (runs_behind b n bs) ≡ replicate n b ++ bs
alternating_of_runs b n [] = refl
alternating_of_runs b n (c ∷ bs) = elim (cases_Bool (beq b c)) [
  | inl h ↦
      rw h (alternating_of_runs b (n + 1) bs ∙ (ap (λ (xs : List Bool). xs ++ bs) (replicate_next n b)
      ∙ (append_assoc (replicate n b) (b ∷ []) bs ∙ ap (λ (x : Bool). replicate n b ++ x ∷ bs) ((booleans_Decides b c).0 h))))
  | inr h ↦
      rw h (ap (λ (x : Bool). replicate n b ++ alternating x (runs_behind c 1 bs)) (sym (not_same b c h))
      ∙ ap (λ (xs : List Bool). replicate n b ++ xs) (alternating_of_runs c 1 bs))
]

pub runs_are_runs : (b : Bool) (n : ℕ) (bs : List Bool) → 1 ≤ n → are_runs (runs_behind b n bs) ≡ true
runs_are_runs b n [] le = and_from (leb 1 n) true (le-leb 1 n le) refl
runs_are_runs b n (c ∷ bs) le = elim (cases_Bool (beq b c)) [
  | inl h ↦ rw h (runs_are_runs b (n + 1) bs (omega arith))
  | inr h ↦ rw h (and_from (leb 1 n) _ (le-leb 1 n le) (runs_are_runs c 1 bs (omega arith)))
]

pub total-runs : (b : Bool) (n : ℕ) (bs : List Bool) → total (runs_behind b n bs) ≡ n + length bs
total-runs b n [] = omega arith
total-runs b n (c ∷ bs) = elim (cases_Bool (beq b c)) [
  | inl h ↦ rw h (total-runs b (n + 1) bs ∙ (omega arith))
  | inr h ↦ rw h (ap (λ (k : ℕ). n + k) (total-runs c 1 bs) ∙ (omega arith))
]

pub length-alternating : (b : Bool) (ns : List ℕ) → length (alternating b ns) ≡ total ns
length-alternating b [] = refl
length-alternating b (n ∷ ns) =
    let rest = length-alternating (not b) ns in
    length-append (replicate n b) (alternating (not b) ns) ∙ (omega (arith, length-replicate n b))
