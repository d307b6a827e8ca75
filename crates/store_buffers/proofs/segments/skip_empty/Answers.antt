use Rattle.std.proofs.Common.{◌∙◌, sym, arith}
use Rattle.store_buffers.proofs.Skips.{skipped_one, skipped_len}
use Rattle.store_buffers.proofs.segments.skip_empty.Goals as goal

pub loop-segments-preserved : goal.loop-segments-preserved
loop-segments-preserved c =
    let begins = sym c.begins_empty.ensures ∙ c.loop-segments-test.true in
    let less = skipped_len c.loop-segments.segments.items c.pop_front.new.self.items begins c.pop_front.ensures.rest in
    record {
      same = skipped_one c.loop-segments.skipped c.loop-segments.segments.items c.pop_front.new.self.items begins c.pop_front.ensures.rest
          ∙ c.loop-segments.invariant.same;
      len = omega (arith, less, c.pop_front.new.self.ok.0, c.loop-segments.segments.ok.0, c.loop-segments.invariant.len);
    }
