use Rattle.std.proofs.Common.{◌≡◌, ◌∙◌, Some, sym, subst}
use Rattle.tc_code.proofs.Facts.{run_from-step}
use Rattle.tc_code.specs.Run.{run}
use Rattle.tc_code.specs.Step.{opening}
use Rattle.tc_machine.proofs.run_laws.Counts.{counters_below_last}
use Rattle.tc_record.specs.declared.end.End.{End}
use Rattle.tc_record.specs.helpers.Turns.{IsTurn}
use Rattle.tc_record.proofs.Runs.{chosen_is_enabled, turn_without_moves, turn_with_move}
use Rattle.tc_record.proofs.recording.turn.Goals as goal

pub step-requires-clause-enabled : goal.step-requires-clause-enabled
step-requires-clause-enabled g c =
    chosen_is_enabled g.M.MemoryModel.ops c.args.code.now c.args.state.now c.args.word c.in-Some.m (sym c.in-Some.is ∙ c.in_ok-m.ensures)

pub step-requires-clause-counters : goal.step-requires-clause-counters
step-requires-clause-counters g c =
    counters_below_last g.M.MemoryModel.ops c.args.code.now c.args.made.now.items c.args.state.now c.requires.leads c.requires.few

pub returns-in_default-clause-turn : goal.returns-in_default-clause-turn
returns-in_default-clause-turn g c =
    subst (λ (e : End). IsTurn g.M.MemoryModel.ops c.args.code.now c.args.state.now c.args.state.now c.args.made.now.items c.args.made.now.items
    c.args.word (Some e)) (sym c.end_without_moves.ensures)
    (turn_without_moves g.M.MemoryModel.ops c.args.code.now c.args.state.now c.args.made.now.items c.args.word (sym c.in_default.is ∙ c.in_ok-m.ensures))

pub returns-clause-turn : goal.returns-clause-turn
returns-clause-turn g c =
    turn_with_move g.M.MemoryModel.ops c.args.code.now c.args.state.now c.step.new.state c.args.made.now.items c.push.new.self.items c.args.word
    c.in-Some.m c.end_at.result (sym (sym c.in-Some.is ∙ c.in_ok-m.ensures)) c.in_ok-step.ensures.ok c.in_ok-push.ensures.items (sym c.end_at.ensures)

pub returns-clause-leads : goal.returns-clause-leads
returns-clause-leads g c =
    subst (λ moves. run g.M.MemoryModel.ops c.args.code.now moves ≡ Some c.step.new.state) (sym c.in_ok-push.ensures.items)
    (run_from-step g.M.MemoryModel.ops c.args.code.now (opening g.M.MemoryModel.ops c.args.code.now) c.args.state.now c.step.new.state
    c.args.made.now.items c.in-Some.m c.requires.leads c.in_ok-step.ensures.ok)
