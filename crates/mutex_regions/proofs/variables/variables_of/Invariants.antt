use Rattle.std.proofs.Common.{◌≡◌, ◌≤◌, [], take}
use Rattle.std.specs.Prelude.{fold}
use Rattle.std.specs.List.{sum_by}
use Rattle.mutex_regions.specs.Variables.{with_variable}
use Rattle.mutex_regions.proofs.variables.variables_of.Given as goal

abbrev pub invariant-loop-access : goal.invariant-loop-access
invariant-loop-access l =
    (l.variables.items ≡ fold (with_variable l.regions l.accesses) [] (take l.access-index l.accesses))
    × (sum_by (λ v. v.cells) l.variables.items ≤ 64)
