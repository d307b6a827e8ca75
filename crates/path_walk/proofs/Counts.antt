-- The operators of a function's instructions.
use Rattle.std.proofs.Common.{◌≡◌, ℕ, zero, suc, List, [], ◌∷◌, map, refl}
use Rattle.std.specs.Prelude.{slice_get, slice_index_or, unwrap_or}
use Rattle.tc_code.specs.declared.instr.Instr.{Instr}
use Rattle.tc_code.specs.declared.instr.Instr.TheVariants.{Exit}
use Rattle.path_walk.specs.Events.{operators_of}
use Rattle.path_walk.specs.Paths.{saturated_count}

-- the number of operators of the instruction at a place, or 0 if there is none
pub count_at : (instrs : List Instr) (k : ℕ)
    → slice_index_or (map (λ i. saturated_count (operators_of i)) instrs) k 0 ≡ saturated_count (operators_of (unwrap_or (slice_get instrs k) Exit))
count_at [] k = refl
count_at (i ∷ instrs) zero = refl
count_at (i ∷ instrs) (suc k) = count_at instrs k
