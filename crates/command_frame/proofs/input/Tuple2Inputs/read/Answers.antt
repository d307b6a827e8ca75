use Rattle.std.proofs.Common.{rules}
use Rattle.command_frame.proofs.ReadAll.{gave_both, missing_first, missing_later}
use Rattle.command_frame.proofs.input.Tuple2Inputs.read.Goals as goal

pub returns-in_err-first-clause-missing : goal.returns-in_err-first-clause-missing
returns-in_err-first-clause-missing g c =
    let tells = g.H.Shelf.tells in
    let why = missing_first (g.A.Inputs.wanted c.args.self.now.0) (g.B.Inputs.wanted c.args.self.now.1) (tells c.args.shelf.now)
    (tells c.read.new.shelf) _ c.in_err-first.ensures.missing in
    search rules

pub returns-in_err-second-clause-missing : goal.returns-in_err-second-clause-missing
returns-in_err-second-clause-missing g c =
    let tells = g.H.Shelf.tells in
    let why = missing_later (g.A.Inputs.wanted c.args.self.now.0) (g.B.Inputs.wanted c.args.self.now.1) (tells c.args.shelf.now)
    (tells c.read.new.shelf) (tells c.read-2.new.shelf) (g.A.Inputs.texts c.in_ok-first.first) _ c.in_ok-first.ensures.gave
    c.in_err-second.ensures.missing in
    search rules

pub returns-clause-gave : goal.returns-clause-gave
returns-clause-gave g c =
    let tells = g.H.Shelf.tells in
    gave_both (g.A.Inputs.wanted c.args.self.now.0) (g.B.Inputs.wanted c.args.self.now.1) (tells c.args.shelf.now)
    (tells c.read.new.shelf) (tells c.read-2.new.shelf) (g.A.Inputs.texts c.in_ok-first.first) (g.B.Inputs.texts c.in_ok-second.second)
    c.in_ok-first.ensures.gave c.in_ok-second.ensures.gave
