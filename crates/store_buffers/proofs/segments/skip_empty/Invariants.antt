use Rattle.std.proofs.Common.{◌≡◌, ◌+◌, deque_len}
use Rattle.store_buffers.specs.helpers.Seen.{after_empty}
use Rattle.store_buffers.proofs.segments.skip_empty.Given as goal

abbrev pub invariant-loop-segments : goal.invariant-loop-segments
invariant-loop-segments l = record {
  same : after_empty l.skipped l.segments.items ≡ after_empty l.fn.skipped l.fn.segments.items;
  len : l.skipped + deque_len l.segments ≡ l.fn.skipped + deque_len l.fn.segments;
}

abbrev pub decreases-loop-segments : goal.decreases-loop-segments
decreases-loop-segments l = deque_len l.segments
