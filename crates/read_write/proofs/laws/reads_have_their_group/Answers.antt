use Rattle.std.proofs.Common.{sym, ap}
use Rattle.order_formula.specs.declared.formula.Conjunct.{Conjunct}
use Rattle.order_cells.specs.lawful_order.Events.{all_events}
use Rattle.read_write.specs.Reading.{line_in}
use Rattle.read_write.proofs.Formulas.{load_from}
use Rattle.read_write.proofs.laws.reads_have_their_group.Goals as goal

pub returns : goal.returns
returns g code paths symbolic nodes c i =
    let l = load_from code paths symbolic nodes c i in
    (l.load.thread, line_in (all_events paths) l.load.thread l.load.it.step, sym (ap (λ (d : Conjunct). d.group) l.is))
