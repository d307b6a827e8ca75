use Rattle.std.proofs.Common.{inl, rules, [], ◌∷◌, ◌++◌}
use Rattle.command_frame.specs.Answers.{NoMemory}
use Rattle.command_frame.specs.Causes.{IsCause}
use Rattle.command_frame.proofs.AllRuns.{unkept_cause}
use Rattle.command_frame.proofs.PieceByPiece.{gave_inputs, missing_before, missing_last, none_before, within_inputs}
use Rattle.command_frame.proofs.ReadAll.{all_within, given_still}
use Rattle.command_frame.proofs.pieces.carry_out_in_pieces.Goals as goal

pub returns-in_err-bytes : goal.returns-in_err-bytes
returns-in_err-bytes g c =
    let why = missing_before (g.C.Command.meaning c.args.command.now) _ _ c.inputs.ensures (g.H.Shelf.tells c.args.shelf.now)
    (g.H.Shelf.tells c.read.new.shelf) c.in_err-bytes.field-0.0 c.in_err-bytes.ensures.missing in
    search rules

pub begin-requires : goal.begin-requires
begin-requires g c =
    let tells = g.H.Shelf.tells in
    within_inputs (g.C.Command.meaning c.args.command.now) _ _ c.inputs.ensures _
    (all_within _ (tells c.args.shelf.now) (tells c.read.new.shelf) _ c.in_ok-bytes.ensures.gave)

pub returns-in_err-state : goal.returns-in_err-state
returns-in_err-state g c =
    let old = g.H.Shelf.tells c.args.shelf.now in
    let new = g.H.Shelf.tells c.read.new.shelf in
    let meaning = g.C.Command.meaning c.args.command.now in
    let none : IsCause meaning old new NoMemory = none_before meaning _ _ c.inputs.ensures old new _ c.in_ok-bytes.ensures.gave in
    search rules

pub returns-in_err-take_all : goal.returns-in_err-take_all
returns-in_err-take_all g c =
    let tells = g.H.Shelf.tells in
    let why = missing_last (g.C.Command.meaning c.args.command.now) _ _ c.inputs.ensures (tells c.args.shelf.now) (tells c.read.new.shelf)
    (tells c.take_all.new.shelf) _ c.in_err-take_all.field-0.0 c.in_ok-bytes.ensures.gave c.in_err-take_all.ensures.missing in
    search rules

pub returns-in_err-outcome : goal.returns-in_err-outcome
returns-in_err-outcome g c =
    let old = g.H.Shelf.tells c.args.shelf.now in
    let new = g.H.Shelf.tells c.take_all.new.shelf in
    let meaning = g.C.Command.meaning c.args.command.now in
    let last = c.in_ok-take_all.ensures.gave in
    let gave = gave_inputs meaning _ _ c.inputs.ensures old (g.H.Shelf.tells c.read.new.shelf) new _ last.0 c.in_ok-bytes.ensures.gave last.1 in
    let still = given_still meaning.inputs old new _ gave in
    let none : IsCause meaning old new NoMemory = (still.1, inl still.0) in
    search rules

pub returns-in_err-keep_outcome : goal.returns-in_err-keep_outcome
returns-in_err-keep_outcome g c =
    let old = g.H.Shelf.tells c.args.shelf.now in
    let given = g.H.Shelf.tells c.take_all.new.shelf in
    let new = g.H.Shelf.tells c.keep_outcome.new.shelf in
    let meaning = g.C.Command.meaning c.args.command.now in
    let t = g.C.Inputs.Inputs.texts c.in_ok-bytes.bytes in
    let last = c.in_ok-take_all.ensures.gave in
    let gave = gave_inputs meaning _ _ c.inputs.ensures old (g.H.Shelf.tells c.read.new.shelf) given t last.0 c.in_ok-bytes.ensures.gave last.1 in
    let why = unkept_cause meaning old new c.in_err-keep_outcome.field-0.0 given (t ++ last.0 ∷ []) c.in_ok-outcome.outcome gave
    (c.in_ok-outcome.ensures t last.0 (last.2 t c.in_ok-state.ensures)) c.in_err-keep_outcome.ensures.unkept in
    search rules

pub returns : goal.returns
returns g c =
    let old = g.H.Shelf.tells c.args.shelf.now in
    let given = g.H.Shelf.tells c.take_all.new.shelf in
    let t = g.C.Inputs.Inputs.texts c.in_ok-bytes.bytes in
    let last = c.in_ok-take_all.ensures.gave in (
      t ++ last.0 ∷ [],
      given,
      gave_inputs (g.C.Command.meaning c.args.command.now) _ _ c.inputs.ensures old (g.H.Shelf.tells c.read.new.shelf) given t last.0
          c.in_ok-bytes.ensures.gave last.1,
      c.in_ok-outcome.ensures t last.0 (last.2 t c.in_ok-state.ensures),
      c.in_ok-keep_outcome.ensures.kept,
    )
