-- The names of the workers rise.
use Rattle.std.proofs.Common.{◌≡◌, ap, ap₂, refl, sym, arith, length, ℕ, zero, suc, ◌+◌, true, [], ◌∷◌, Some, None}
use Rattle.std.specs.Prelude.{◌&&◌}
use Rattle.std.specs.Cmp.{nat_cmp_is}
use Rattle.std.specs.Cmp.Lexicographic.{slice_cmp}
use Rattle.std.specs.Ordering.{is_lt, nat_cmp, ordering_then}
use Rattle.std.specs.Prelude.{IsTrue}
use Rattle.std.proofs.lemmas.Bool.{lt-ltb}
use Rattle.std.specs.declared.cmp.Ordering.TheVariants.{Less, Equal}
use Rattle.run_log.specs.Logs.{is_above, is_log, rises_from}
use Rattle.tc_workload.specs.Workload.{worker_paths, workload_log}

next_above : (worker : ℕ) → is_above (Some (worker ∷ [])) ((worker + 1) ∷ []) ≡ true
next_above worker =
    let less : Less ≡ nat_cmp worker (worker + 1) = nat_cmp_is worker (worker + 1) Less (omega arith) in
    ap (λ o. is_lt (ordering_then o Equal)) (sym less)

rises : (worker count : ℕ) → rises_from (Some (worker ∷ [])) (worker_paths (worker + 1) count) ≡ true
rises worker zero = refl
rises worker (suc n) = ap₂ (λ x y. x && y) (next_above worker) (rises (worker + 1) n)

first_rises : (count : ℕ) → rises_from (Some []) (worker_paths 1 count) ≡ true
first_rises zero = refl
first_rises (suc n) = rises 1 n

-- the paths are those of a log
pub workload_is_log : (workers : ℕ) → IsTrue (is_log (workload_log workers))
workload_is_log workers = ap₂ (λ x y. x && y) (first_rises workers) (lt-ltb 0 (length (workload_log workers).threads) (omega arith))
