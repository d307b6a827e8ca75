use Rattle.std.proofs.Common.{◌≡◌, ◌≤◌}
use Rattle.std.specs.List.{filter_map, range_with_len}
use Rattle.order_switches.specs.Switches.{changes, thread_at}
use Rattle.order_switches.proofs.Changes.{eq, last_of}
use Rattle.order_switches.proofs.switches.Given as goal

abbrev pub invariant-loop-position : goal.invariant-loop-position
invariant-loop-position l = record {
  count : l.count ≡ changes eq (filter_map (thread_at l.threads l.world) (range_with_len 0 l.position));
  last : l.last ≡ last_of (filter_map (thread_at l.threads l.world) (range_with_len 0 l.position));
  few : l.count ≤ l.position;
}
