use Rattle.std.proofs.Common.{inr}
use Rattle.cdcl_learn.proofs.Turning.{stands_low, false_there, place_low, turn_back}
use Rattle.cdcl_learn.proofs.conflicts.turn.Goals as goal

pub place-requires-clause-within : goal.place-requires-clause-within
place-requires-clause-within c = (stands_low c.args.trail.now c.requires.lawful c.requires.levels c.args.literals.now c.requires.lower
    c.in-Some.beside c.in-Some.ensures.has).in_range

pub place-requires-clause-there : goal.place-requires-clause-there
place-requires-clause-there c = inr (false_there c.args.trail.now c.in-Some.beside
    (stands_low c.args.trail.now c.requires.lawful c.requires.levels c.args.literals.now c.requires.lower c.in-Some.beside c.in-Some.ensures.has))

pub level_after-requires-clause-place : goal.level_after-requires-clause-place
level_after-requires-clause-place c = place_low c.args.trail.now c.requires.lawful c.in-Some.beside c.place.result
    (stands_low c.args.trail.now c.requires.lawful c.requires.levels c.args.literals.now c.requires.lower c.in-Some.beside c.in-Some.ensures.has)
    c.place.ensures.within c.place.ensures.there

pub returns-in-Some : goal.returns-in-Some
returns-in-Some c = turn_back c.args.trail.now c.requires.lawful c.requires.levels c.args.literals.now c.requires.lower c.args.asserted
    c.in-Some.beside c.place.result c.level_after.result c.in-Some.ensures c.place.ensures.within c.place.ensures.there c.level_after.ensures
