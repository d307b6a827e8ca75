use Rattle.std.proofs.Common.{◌≡◌, Some, sym, subst}
use Rattle.std.specs.FinMap as fin
use Rattle.std.specs.List.{All}
use Rattle.std.proofs.lemmas.List.Elements.{All-head, All-tail}
use Rattle.tc_base.specs.Names.{Name}
use Rattle.tc_base.specs.States.{Thread, State}
use Rattle.tc_machine.proofs.Can.{can_ask}
use Rattle.show_rows.proofs.told.finish.Goals as goal

-- an entry is that of its thread
abbrev IsEntry : {B : Type 0} → State B → Name × Thread B → Type 0
IsEntry s e = fin.get s.threads e.0 ≡ Some e.1

pub request-requires : goal.request-requires
request-requires g c = (
  c.args.code.now,
  can_ask g.M.MemoryModel.ops c.args.code.now c.args.state.now c.in-Some.name.now c.in-Some.thread.now c.in-Some-instr.instr.now
      c.in-Some-instr.ensures.lawful c.requires
      (All-head (IsEntry c.args.state.now) (c.in-Some.name.now, c.in-Some.thread.now) c.next.new.self
      (subst (All (IsEntry c.args.state.now)) c.in-Some.ensures.steps c.loop-name.invariant))
      (sym c.in-Some-instr.ensures.next),
)

pub loop-name-preserved-in_ok-push : goal.loop-name-preserved-in_ok-push
loop-name-preserved-in_ok-push g c =
    All-tail (IsEntry c.args.state.now) (c.in-Some.name.now, c.in-Some.thread.now) c.next.new.self
    (subst (All (IsEntry c.args.state.now)) c.in-Some.ensures.steps c.loop-name.invariant)

pub loop-name-preserved : goal.loop-name-preserved
loop-name-preserved g c =
    All-tail (IsEntry c.args.state.now) (c.in-Some.name.now, c.in-Some.thread.now) c.next.new.self
    (subst (All (IsEntry c.args.state.now)) c.in-Some.ensures.steps c.loop-name.invariant)
