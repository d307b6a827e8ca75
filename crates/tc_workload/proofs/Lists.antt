-- Texts and paths of workers, one after the other.
use Rattle.std.proofs.Common.{◌≡◌, ◌∙◌, ap, sym, arith, append_assoc, append-nil, ℕ, zero, suc, ◌+◌, ◌-◌, ◌<◌, List, [], ◌∷◌, ◌++◌}
use Rattle.tc_base.specs.Paths.{ThreadPath}
use Rattle.tc_workload.specs.Workload.{each, straight, worker_paths}

module _ (text : ℕ → List ℕ) (first count : ℕ) where
  -- the text of the remaining workers, before and after the next one
  pub each_next : (i : ℕ) (front : List ℕ) → i < count
      → (front ++ text (first + i)) ++ each text (first + (i + 1)) (count - (i + 1)) ≡ front ++ each text (first + i) (count - i)
  each_next i front some =
      let one : suc (count - (i + 1)) ≡ count - i = omega (arith, some) in
      let behind : first + (i + 1) ≡ (first + i) + 1 = omega arith in
      append_assoc front (text (first + i)) _ ∙ ap (λ k. front ++ (text (first + i) ++ each text k (count - (i + 1)))) behind
      ∙ ap (λ n. front ++ each text (first + i) n) one

-- the paths of the remaining workers, before and after the next one
pub paths_next : (count i : ℕ) (front : List ThreadPath) → i < count
    → (front ++ straight ((i + 1) ∷ []) 7 ∷ []) ++ worker_paths ((i + 1) + 1) (count - (i + 1)) ≡ front ++ worker_paths (i + 1) (count - i)
paths_next count i front some =
    let one : suc (count - (i + 1)) ≡ count - i = omega (arith, some) in
    append_assoc front (straight ((i + 1) ∷ []) 7 ∷ []) _ ∙ ap (λ n. front ++ worker_paths (i + 1) n) one
