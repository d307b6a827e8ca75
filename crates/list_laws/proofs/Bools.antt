-- Truth values.
use Rattle.std.proofs.Common.{◌&&◌, Bool, true, false, T}

-- if a conjunction holds, its first part holds
pub first_T : (a b : Bool) → T (a && b) → T a
first_T true b h = tt
first_T false b h = absurd h

pub second_T : (a b : Bool) → T (a && b) → T b
second_T true b h = h
second_T false b h = absurd h
