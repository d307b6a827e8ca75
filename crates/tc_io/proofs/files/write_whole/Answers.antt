use Rattle.std.proofs.Common.{rules}
use Rattle.tc_io.proofs.Known.{appends_more, appends_front, keeps_unless_taken}
use Rattle.tc_io.proofs.files.write_whole.Goals as goal

pub loop-rest-preserved : goal.loop-rest-preserved
loop-rest-preserved g c =
    let done = c.loop-rest.invariant in
    appends_more _ _ _ c.args.bytes.now done.0 c.loop-rest.rest.now c.in-Ok.n done.1 done.2 c.in-Ok.ensures.bytes

-- the write took no byte
pub returns-in_default-clause-part : goal.returns-in_default-clause-part
returns-in_default-clause-part g c _ =
    let done = c.loop-rest.invariant in
    appends_front _ _ _ c.args.bytes.now done.0 c.loop-rest.rest.now done.1 done.2
    (keeps_unless_taken _ _ _ _ c.write.ensures.bytes (λ n e. search rules))

-- the write failed
pub returns-in_default-2-clause-part : goal.returns-in_default-2-clause-part
returns-in_default-2-clause-part g c _ =
    let done = c.loop-rest.invariant in
    appends_front _ _ _ c.args.bytes.now done.0 c.loop-rest.rest.now done.1 done.2
    (keeps_unless_taken _ _ _ _ c.write.ensures.bytes (λ n e. search rules))
