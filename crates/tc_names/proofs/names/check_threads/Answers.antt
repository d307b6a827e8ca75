use Rattle.std.proofs.Common.{◌≡◌, None, List, map, take, subst}
use Rattle.tc_tree.specs.declared.expression.Name.{Name}
use Rattle.tc_tree.specs.Seen.{thread_of, body_of}
use Rattle.tc_names.specs.Names.{body_fault}
use Rattle.tc_names.proofs.Walks.{threads_on}
use Rattle.tc_names.proofs.names.check_threads.Goals as goal

pub loop-rest-preserved : goal.loop-rest-preserved
loop-rest-preserved c =
    let good = subst (λ (xs : List Name). body_fault c.args.source.now c.args.all.now xs (body_of c.thread-item.result.body) ≡ None)
    c.as_slice.ensures.value c.in_ok-check_body.ensures in
    threads_on c.args.source.now c.args.all.now (take c.args.globals c.args.all.now) (map thread_of c.args.threads.now) c.loop-rest.count c.loop-rest.rest.now
    c.thread-item.result c.loop-rest.invariant c.in-len1-up.len_at_least c.thread-item.is c.in_ok-check_first.ensures good
