use Rattle.std.proofs.Common.{inl, rules, subst}
use Rattle.command_frame.specs.Answers.{NoMemory}
use Rattle.command_frame.specs.Causes.{IsCause}
use Rattle.command_frame.specs.Inputs.{AreWithin, GaveAll}
use Rattle.command_frame.proofs.AllRuns.{unkept_cause}
use Rattle.command_frame.proofs.ReadAll.{all_within, given_still}
use Rattle.command_frame.proofs.carry_out.Goals as goal

pub work-requires : goal.work-requires
work-requires g c =
    let tells = g.H.Shelf.tells in
    subst (λ ws. AreWithin ws (g.C.Inputs.Inputs.texts c.in_ok-bytes.bytes)) c.inputs.ensures
    (all_within _ (tells c.args.shelf.now) (tells c.read.new.shelf) _ c.in_ok-bytes.ensures.gave)

pub returns-in_err-outcome : goal.returns-in_err-outcome
returns-in_err-outcome g c =
    let old = g.H.Shelf.tells c.args.shelf.now in
    let new = g.H.Shelf.tells c.read.new.shelf in
    let still = given_still _ old new _ c.in_ok-bytes.ensures.gave in
    let none : IsCause (g.C.Command.meaning c.args.command.now) old new NoMemory = (still.1, inl still.0) in
    search rules

pub returns-in_err-keep_outcome : goal.returns-in_err-keep_outcome
returns-in_err-keep_outcome g c =
    let old = g.H.Shelf.tells c.args.shelf.now in
    let read = g.H.Shelf.tells c.read.new.shelf in
    let new = g.H.Shelf.tells c.keep_outcome.new.shelf in
    let bytes = g.C.Inputs.Inputs.texts c.in_ok-bytes.bytes in
    let gave = subst (λ ws. GaveAll ws old read bytes) c.inputs.ensures c.in_ok-bytes.ensures.gave in
    let why = unkept_cause (g.C.Command.meaning c.args.command.now) old new c.in_err-keep_outcome.field-0.0 read bytes c.in_ok-outcome.outcome gave
    c.in_ok-outcome.ensures c.in_err-keep_outcome.ensures.unkept in
    search rules
