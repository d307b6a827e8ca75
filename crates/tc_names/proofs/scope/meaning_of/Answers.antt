use Rattle.std.proofs.Common.{sym, refl, ◌∙◌}
use Rattle.tc_names.proofs.Lists.{found_first, found_second}
use Rattle.tc_names.proofs.scope.meaning_of.Goals as goal

pub returns-in-Some : goal.returns-in-Some
returns-in-Some c = found_first c.args.scope.source.now c.args.scope.own.now c.args.scope.all.now c.args.name.now c.in-Some.meaning (sym c.in-Some.ensures)

pub returns-in-Some-find : goal.returns-in-Some-find
returns-in-Some-find c = found_second c.args.scope.source.now c.args.scope.own.now c.args.scope.all.now c.args.name.now (sym c.in_default.ensures)
    ∙ sym c.in-Some-find.ensures

pub returns-in-None : goal.returns-in-None
returns-in-None c = (
  found_second c.args.scope.source.now c.args.scope.own.now c.args.scope.all.now c.args.name.now (sym c.in_default.ensures)
      ∙ sym c.in-None.ensures,
  refl,
)
