use Rattle.std.proofs.Common.{◌≡◌, take}
use Rattle.std.specs.Prelude.{filter, fold}
use Rattle.mutex_regions.specs.Functions.{at_begin, is_used, with_access}
use Rattle.mutex_regions.proofs.functions.function_of.Given as goal

abbrev pub invariant-loop-access : goal.invariant-loop-access
invariant-loop-access l =
    l.doing ≡ fold (with_access l.terms) (at_begin l.variables) (filter (is_used l.variables l.region) (take l.access-index l.accesses))
