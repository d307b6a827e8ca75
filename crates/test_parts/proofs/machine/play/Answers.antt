use Rattle.std.proofs.Common.{◌∙◌, ◌++◌, ◌∷◌, [], take, arith, ap, sym}
use Rattle.std.proofs.lemmas.List.{take_more, length-take}
use Rattle.tc_code.specs.Run.{run}
use Rattle.tc_code.specs.Step.{opening}
use Rattle.tc_code.proofs.Facts.{run_from-step}
use Rattle.sym_exec.proofs.run_laws.Counts.{counters_below_last}
use Rattle.test_parts.proofs.machine.play.Goals as goal

pub step-requires-clause-counters : goal.step-requires-clause-counters
step-requires-clause-counters g c =
    counters_below_last g.M.MemoryModel.ops c.args.code.now (take c.loop-k.k c.args.made.now) c.loop-k.state c.loop-k.invariant
    (omega (arith, length-take c.loop-k.k c.args.made.now))

pub loop-k-preserved : goal.loop-k-preserved
loop-k-preserved g c =
    let more = take_more c.args.made.now c.loop-k.k c.index-made-k.result c.loop-k-test.true in
    ap (run g.M.MemoryModel.ops c.args.code.now) (more ∙ ap (λ m. take c.loop-k.k c.args.made.now ++ m ∷ []) (sym c.index-made-k.is))
    ∙ run_from-step g.M.MemoryModel.ops c.args.code.now (opening g.M.MemoryModel.ops c.args.code.now) c.loop-k.state c.step.new.state
    (take c.loop-k.k c.args.made.now) c.index-made-k.result c.loop-k.invariant c.in_ok-step.ensures.ok
