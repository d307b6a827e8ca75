-- Groups whose threads exist, and reasons whose numbers have 32 bits.
use Rattle.std.specs.Prelude.{ℕ, ◌<◌, ◌^◌, length}
use Rattle.path_walk.specs.Paths.{Paths}
use Rattle.order_formula.specs.declared.group.Group.{Group}
use Rattle.order_formula.specs.declared.group.Group.TheVariants as group
use Rattle.why_impossible.specs.declared.reason.Reason.{Reason}
use Rattle.why_impossible.specs.declared.reason.Reason.TheVariants.{Own, Child, Read, Mutex, Condition, Test, Stuck, Dead}

-- the thread that a group names, if any, is one of the paths
abbrev pub IsThere : Paths → Group → Type 0
IsThere paths (group.Own t) = t < length paths.threads
IsThere paths (group.Child t) = t < length paths.threads
IsThere paths (group.Read t line) = t < length paths.threads
IsThere paths (group.Mutex m) = Unit {0}
IsThere paths (group.Condition c) = Unit {0}
IsThere paths (group.Test t line) = t < length paths.threads
IsThere paths (group.Stuck t) = t < length paths.threads

-- the line or the number of a reason, or 0 if it has none
abbrev pub number_of : Reason → ℕ
number_of (Own name) = 0
number_of (Child name) = 0
number_of (Read name line) = line
number_of (Mutex m) = m
number_of (Condition c) = c
number_of (Test name line) = line
number_of (Stuck name) = 0
number_of (Dead name line) = line

abbrev pub IsSmall : Reason → Type 0
IsSmall reason = number_of reason < 2 ^ 32
