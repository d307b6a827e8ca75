use Rattle.std.proofs.Common.{◌≡◌}
use Rattle.sym_exec.specs.tc_code.declared.cell.Cell.TheVariants.{Element}
use Rattle.order_cells.specs.Same.{known_same}
use Rattle.order_cells.proofs.cells.known_same.Goals as goal

pub returns-in-Element : goal.returns-in-Element
returns-in-Element c =
    let e = c.known_element.ensures c.in-Element.length in
    let is : c.known_element.result ≡ known_same c.args.terms.now (Element c.in-Element.first c.in-Element.length c.in-Element.index) c.args.b = e in
    cc
