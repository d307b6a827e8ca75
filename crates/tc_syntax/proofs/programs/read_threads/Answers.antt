use Rattle.std.proofs.Common.{[], ◌∷◌, map}
use Rattle.std.proofs.lemmas.List.{map-append}
use Rattle.tc_tree.specs.Seen.{thread_of}
use Rattle.tc_syntax.proofs.Chains.{one_more_thread}
use Rattle.tc_syntax.proofs.programs.read_threads.Goals as goal

pub loop-start-preserved : goal.loop-start-preserved
loop-start-preserved c =
    let h = one_more_thread c.args.words.now (map thread_of c.loop-start.found.items) c.loop-start.rest.now c.in-Some.start.now
    (thread_of c.in_ok-thread.thread) c.in_ok-thread.after.now c.loop-start.invariant c.in-Some.ensures c.in_ok-thread.ensures in
    rw (c.in_ok-push.ensures.items, map-append thread_of c.loop-start.found.items (c.in_ok-thread.thread ∷ [])) h
