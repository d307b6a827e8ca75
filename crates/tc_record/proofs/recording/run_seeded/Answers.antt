use Rattle.std.proofs.Common.{◌∙◌, ◌-◌, Some, ap, sym, subst, arith, length}
use Rattle.std.specs.Prelude.{IsTrue}
use Rattle.rand_core.specs.Steps.{stream_of}
use Rattle.rand_xoshiro.specs.SplitMix64.{splitmix_steps}
use Rattle.path_log.specs.Texts.{is_of_format}
use Rattle.path_laws.specs.path_walk.Fits.{Fits}
use Rattle.path_laws.proofs.Logs.{reproduced_fits}
use Rattle.tc_code.specs.Run.{Reproduces, run}
use Rattle.tc_record.specs.Logged.{is_small}
use Rattle.tc_record.specs.Seeded.{with_moves_before, seeded_from, seeded_run, IsAnswer}
use Rattle.tc_record.specs.helpers.Turns.{IsTurn}
use Rattle.tc_record.proofs.Ended.{ends_as_told, log_is_of_format, log_is_small, run_reproduces}
use Rattle.tc_record.proofs.Fitting.{on_log}
use Rattle.tc_record.proofs.Runs.{words, begins, goes_on, ends_so}
use Rattle.tc_record.proofs.recording.run_seeded.Goals as goal

pub loop-init : goal.loop-init
loop-init g c =
    let ops = g.M.MemoryModel.ops in
    let code = c.args.code.now in
    let from = seeded_from ops code c.in_ok-state.state (words (c.args.steps - 0) (stream_of splitmix_steps c.seed_from_u64-rng.result)) in
    record {
      leads = ap (run ops code) c.new-made.ensures.items ∙ ap Some (sym c.in_ok-state.ensures);
      few = omega (arith, ap length c.new-made.ensures.items);
      so_far = ap (λ moves. with_moves_before moves from) c.new-made.ensures.items
          ∙ begins ops code c.in_ok-state.state c.seed_from_u64-rng.result c.args.seed c.args.steps c.in_ok-state.ensures c.seed_from_u64-rng.ensures.same;
    }

pub loop-preserved : goal.loop-preserved
loop-preserved g c =
    let ops = g.M.MemoryModel.ops in
    let code = c.args.code.now in
    record {
      leads = c.in_ok-end.ensures.leads;
      few = omega (arith, c.in_ok-end.ensures.counted, c.loop.invariant.few);
      so_far = goes_on ops code c.loop.state c.turn.new.state c.loop.made.items c.turn.new.made.items c.next_u64-word.result
          (stream_of splitmix_steps c.loop.rng) (stream_of splitmix_steps c.next_u64-word.new.self) c.loop.counter c.args.steps
          (seeded_run ops code c.args.seed c.args.steps) c.loop-test.true c.next_u64-word.ensures c.loop.invariant.so_far
          (subst (IsTurn ops code c.loop.state c.turn.new.state c.loop.made.items c.turn.new.made.items c.next_u64-word.result) c.in_default.is
          c.in_ok-end.ensures.turn);
    }

pub answer-requires-clause-ends : goal.answer-requires-clause-ends
answer-requires-clause-ends g c =
    let ops = g.M.MemoryModel.ops in
    let code = c.args.code.now in
    ends_as_told ops _ _ g.met.M.MemoryModel.laws code c.functions.ensures.lawful c.args.seed c.args.steps
    (record { moves = c.turn.new.made.items; state = c.turn.new.state; end = c.in-Some.end })
    (ends_so ops code c.loop.state c.turn.new.state c.loop.made.items c.turn.new.made.items c.next_u64-word.result
    (stream_of splitmix_steps c.loop.rng) (stream_of splitmix_steps c.next_u64-word.new.self) c.loop.counter c.args.steps
    (seeded_run ops code c.args.seed c.args.steps) c.loop-test.true c.next_u64-word.ensures c.loop.invariant.so_far c.in-Some.end
    (subst (IsTurn ops code c.loop.state c.turn.new.state c.loop.made.items c.turn.new.made.items c.next_u64-word.result) c.in-Some.is
    c.in_ok-end.ensures.turn))

pub returns-in-Some-clause-answer : goal.returns-in-Some-clause-answer
returns-in-Some-clause-answer g c =
    let ops = g.M.MemoryModel.ops in
    let code = c.args.code.now in
    subst (λ r. IsAnswer g.M.MemoryModel.MODEL code r c.answer.result)
    (ends_so ops code c.loop.state c.turn.new.state c.loop.made.items c.turn.new.made.items c.next_u64-word.result
    (stream_of splitmix_steps c.loop.rng) (stream_of splitmix_steps c.next_u64-word.new.self) c.loop.counter c.args.steps
    (seeded_run ops code c.args.seed c.args.steps) c.loop-test.true c.next_u64-word.ensures c.loop.invariant.so_far c.in-Some.end
    (subst (IsTurn ops code c.loop.state c.turn.new.state c.loop.made.items c.turn.new.made.items c.next_u64-word.result) c.in-Some.is
    c.in_ok-end.ensures.turn)) c.answer.ensures

pub returns-in-Some-clause-reproduced : goal.returns-in-Some-clause-reproduced
returns-in-Some-clause-reproduced g c =
    let ops = g.M.MemoryModel.ops in
    let code = c.args.code.now in
    on_log g.M.MemoryModel.MODEL code (seeded_run ops code c.args.seed c.args.steps) (λ x moves. Reproduces ops code x.log moves)
    (run_reproduces ops _ _ g.met.M.MemoryModel.laws code c.functions.ensures.lawful c.args.seed c.args.steps)
    c.answer.result (returns-in-Some-clause-answer g c)

pub returns-in-Some-clause-of_format : goal.returns-in-Some-clause-of_format
returns-in-Some-clause-of_format g c =
    let ops = g.M.MemoryModel.ops in
    let code = c.args.code.now in
    on_log g.M.MemoryModel.MODEL code (seeded_run ops code c.args.seed c.args.steps) (λ x moves. IsTrue (is_of_format x.log))
    (log_is_of_format ops _ _ g.met.M.MemoryModel.laws code c.functions.ensures.lawful c.args.seed c.args.steps)
    c.answer.result (returns-in-Some-clause-answer g c)

pub returns-in-Some-clause-small : goal.returns-in-Some-clause-small
returns-in-Some-clause-small g c =
    let ops = g.M.MemoryModel.ops in
    let code = c.args.code.now in
    on_log g.M.MemoryModel.MODEL code (seeded_run ops code c.args.seed c.args.steps) (λ x moves. IsTrue (is_small x.log))
    (log_is_small ops _ _ g.met.M.MemoryModel.laws code c.functions.ensures.lawful c.args.seed c.args.steps)
    c.answer.result (returns-in-Some-clause-answer g c)

pub returns-in-Some-clause-fits : goal.returns-in-Some-clause-fits
returns-in-Some-clause-fits g c =
    let ops = g.M.MemoryModel.ops in
    let code = c.args.code.now in
    let laws = g.met.M.MemoryModel.laws in
    let lawful = c.functions.ensures.lawful in
    on_log g.M.MemoryModel.MODEL code (seeded_run ops code c.args.seed c.args.steps) (λ x moves. Fits code x.log)
    (λ x has is. reproduced_fits (record { ops = ops; model = _; bound = _; laws = laws; code = code; lawful = lawful }) x.log
    (seeded_run ops code c.args.seed c.args.steps).moves
    (run_reproduces ops _ _ laws code lawful c.args.seed c.args.steps x has is)) c.answer.result (returns-in-Some-clause-answer g c)
