use Rattle.std.proofs.Common.{◌≡◌}
use Rattle.std.specs.Option.{option_or}
use Rattle.std.specs.VecDeque.Iter.{deque_iter_rest}
use Rattle.store_buffers.specs.Buffers.{last_value}
use Rattle.store_buffers.proofs.segments.last_of.Given as goal

-- the last value of all is that of the segments to come, or else the one found so far
abbrev pub invariant-loop-segment : goal.invariant-loop-segment
invariant-loop-segment l = last_value l.segments.items l.cell ≡ option_or (last_value (deque_iter_rest l.segment-iterator) l.cell) l.last
