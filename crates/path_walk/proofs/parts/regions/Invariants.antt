use Rattle.std.proofs.Common.{◌≡◌, ℕ, ◌-◌, length, drop, reverse}
use Rattle.std.specs.BTreeMap as tree
use Rattle.std.specs.Ordering.{nat_cmp}
use Rattle.path_walk.specs.Events.{release_step, regions_of}
use Rattle.path_walk.proofs.parts.regions.Given as goal

abbrev pub invariant-loop-later : goal.invariant-loop-later
invariant-loop-later l = record {
  found : reverse l.found.items ≡ regions_of (drop (length l.events - l.later) l.events);
  left : (m : ℕ) → tree.get nat_cmp l.ends m ≡ release_step m (drop (length l.events - l.later) l.events);
}
