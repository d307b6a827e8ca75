use Rattle.std.proofs.Common.{◌<◌, length, arith}
use Rattle.std.proofs.lemmas.Bool.Decides.{nat_tests}
use Rattle.path_log.proofs.Packing.{packed_on}
use Rattle.path_log.proofs.writing.push_packed.Goals as goal

pub loop-rest-preserved : goal.loop-rest-preserved
loop-rest-preserved c =
    let some : 0 < length c.loop-rest.rest.now = grind (arith, nat_tests) in
    packed_on c.loop-rest.text.items c.push.new.self.items _ c.loop-rest.rest.now c.split_at.result.0.now c.split_at.result.1.now c.min.result
    c.bits_value.result some c.min.ensures c.split_at.ensures.front c.split_at.ensures.back c.bits_value.ensures c.in_ok-push.ensures.items
    c.loop-rest.invariant
