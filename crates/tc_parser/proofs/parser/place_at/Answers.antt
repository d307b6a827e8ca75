use Rattle.std.proofs.Common.{sym, ◌∙◌}
use Rattle.std.proofs.lemmas.Bool.{ltb-true, ltb-false}
use Rattle.tc_parser.proofs.Programs.{place_there, place_past}
use Rattle.tc_parser.proofs.parser.place_at.Goals as goal

pub returns-in-Some : goal.returns-in-Some
returns-in-Some c =
    let there = c.in-Some.ensures.lookup in
    place_there c.args.text.now c.args.tokens.now c.args.k c.in-Some.token.now (ltb-true _ _ (sym there.0)) there.1

pub returns-in-None : goal.returns-in-None
returns-in-None c =
    c.place_after.ensures ∙ place_past c.args.text.now c.args.tokens.now c.args.k (ltb-false _ _ (sym c.in-None.ensures.lookup.0))
