-- The number of switches that a refutation may name.
use Rattle.std.specs.Prelude.{◌≤◌, Some, ⊤}
use Rattle.least_switch.specs.declared.answer.Least.{Least}
use Rattle.least_switch.specs.declared.answer.Least.TheVariants.{Found, SpentAt}

-- one less than the number of switches found fits in a byte
abbrev pub HasByteBelow : Least → Type 0
HasByteBelow (Found _ count (Some _)) = (1 ≤ count) × (count ≤ 255)
HasByteBelow (SpentAt _ count _) = (1 ≤ count) × (count ≤ 255)
HasByteBelow _ = ⊤
