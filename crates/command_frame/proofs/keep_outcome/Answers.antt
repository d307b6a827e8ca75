use Rattle.std.proofs.Common.{refl, rules}
use Rattle.command_frame.specs.helpers.Failures.{IsWhyUnkept}
use Rattle.command_frame.specs.declared.failure.Failure.TheVariants.{Memory}
use Rattle.command_frame.proofs.KeptAll.{first_none}
use Rattle.command_frame.proofs.keep_outcome.Goals as goal

pub returns-in_err-keeps-clause-unkept : goal.returns-in_err-keeps-clause-unkept
returns-in_err-keeps-clause-unkept g c =
    let shelf = g.H.Shelf.tells c.args.shelf.now in
    let keeps = (g.C.Command.meaning c.args.command.now).keeps_of c.args.outcome.now in
    let none : IsWhyUnkept keeps shelf shelf Memory = (refl, first_none keeps shelf.held) in
    search rules
