use Rattle.std.proofs.Common.{◌≡◌, ◌∙◌, true, Some, List, fold, sym, subst}
use Rattle.std.specs.Prelude.{option_map}
use Rattle.std.specs.Option.{option_to_list}
use Rattle.sym_terms.specs.Terms.{id_of, with_node}
use Rattle.sym_terms.specs.declared.node.Node.{Node}
use Rattle.sym_exec.specs.Making.{Grows}
use Rattle.order_cells.specs.Same.{same_test}
use Rattle.order_events.specs.Parts.{number_in}
use Rattle.read_write.specs.Reading.{may_be_seen}
use Rattle.read_write.proofs.Steps.{seen}
use Rattle.read_write.proofs.reads.candidate.Goals as goal

pub returns-clause-candidate : goal.returns-clause-candidate
returns-clause-candidate c = λ later g.
    let events = c.args.events.now in
    let nodes = c.args.terms.now in
    let load = c.args.load.now in
    let b = c.args.other.now in
    let test = same_test nodes b.it.cell load.it.cell in
    let may : may_be_seen nodes load b ≡ true = sym c.may_be_seen.ensures ∙ c.if-not-may_be_seen.false in
    let writes : b.it.writes ≡ Some c.in-Some.value = c.in-Some.is in
    let number : c.number.result ≡ number_in events b.thread b.it.step =
    c.number.ensures in
    let name : c.in_ok-same_cell.same_cell ≡ option_map (id_of nodes) test = c.in_ok-same_cell.ensures.test in
    let made : Grows (fold with_node nodes (option_to_list test)) later =
    subst (λ (ns : List Node). Grows ns later) c.in_ok-same_cell.ensures.added g in
    seen events nodes later load b c.number.result c.is_earlier.result c.in_ok-same_cell.same_cell c.in-Some.value c.requires.load.cell c.requires.other.cell
    may writes number c.is_earlier.ensures name made
