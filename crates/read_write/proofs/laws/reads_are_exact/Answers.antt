use Rattle.read_write.proofs.Exact.{IsAbout}
use Rattle.read_write.proofs.Formulas.{formula_from_rule, rule_from_formula}
use Rattle.read_write.proofs.laws.reads_are_exact.Goals as goal

pub returns : goal.returns
returns c code paths symbolic nodes w t line world of whole executed terms needs =
    let about : IsAbout paths symbolic nodes w = record { world = world; of = of; whole = whole; executed = executed; terms = terms } in
    record {
      to = rule_from_formula code paths symbolic nodes w about needs t line;
      back = formula_from_rule code paths symbolic nodes w about needs t line;
    }
