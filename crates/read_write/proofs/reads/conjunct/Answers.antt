use Rattle.std.proofs.Common.{◌≡◌, ◌∙◌, ℕ, List, length, slice_get, ap, sym, subst, w32, FitsSigned, rules, refl}
use Rattle.std.specs.List.{Contains}
use Rattle.std.specs.Option.{option_map_or}
use Rattle.std.proofs.lemmas.Int.{to_z-of_z}
use Rattle.std.proofs.lemmas.List.Elements.{All-contains}
use Rattle.path_walk.specs.declared.event.Event.{Event}
use Rattle.sym_terms.specs.Terms.{id_of, with_node}
use Rattle.sym_terms.specs.declared.node.Node.{Node}
use Rattle.sym_terms.specs.declared.node.Node.TheVariants.{Constant, Symbol}
use Rattle.sym_terms.proofs.Growth.{grows}
use Rattle.sym_exec.specs.Making.{Grows}
use Rattle.sym_exec.specs.declared.symbolic.Access.{Access}
use Rattle.sym_exec.proofs.Grown.{grows_both}
use Rattle.order_formula.specs.Reads as plain
use Rattle.order_formula.specs.declared.formula.Body.TheVariants as body
use Rattle.order_formula.specs.declared.formula.Conjunct.{Conjunct}
use Rattle.order_formula.specs.declared.group.Group.TheVariants as group
use Rattle.order_cells.specs.lawful_order.Cells.{value_at_start}
use Rattle.order_cells.specs.lawful_order.Events.{Placed}
use Rattle.order_cells.specs.Terms.{AccessIsOf}
use Rattle.order_events.specs.Parts.{number_in}
use Rattle.read_write.proofs.Steps.{conjunct_from, named, needs_made}
use Rattle.read_write.proofs.reads.conjunct.Goals as goal

abbrev made : ℕ → ℕ → plain.Read → Conjunct
made t l r = record { group = group.Read t l; body = body.Read r }

pub returns-clause-grown : goal.returns-clause-grown
returns-clause-grown c =
    let nodes = c.args.terms.now in
    let one = c.symbol.new.self in
    let two = c.constant.new.self in
    let fits : FitsSigned w32 c.value_at_start.result = search rules in
    let first : Grows nodes one = subst (Grows nodes) (sym c.in_ok-takes.ensures.added) (grows nodes (Symbol c.args.number)) in
    let second : Grows one two =
    subst (Grows one) (sym (c.in_ok-start.ensures.added ∙ ap (λ n. with_node one (Constant n)) (to_z-of_z w32 c.value_at_start.result fits)))
    (grows one (Constant c.value_at_start.result)) in
    grows_both nodes one c.candidates.new.terms first (grows_both one two c.candidates.new.terms second c.in_ok-candidates.ensures.grown)

pub returns-clause-made : goal.returns-clause-made
returns-clause-made c =
    let code = c.args.code.now in
    let all = c.args.accesses.now in
    let nodes = c.args.terms.now in
    let load = c.args.load.now in
    let one = c.symbol.new.self in
    let two = c.constant.new.self in
    let fits : FitsSigned w32 c.value_at_start.result = search rules in
    let start = to_z-of_z w32 c.value_at_start.result fits ∙ c.value_at_start.ensures in
    let is : two ≡ with_node (with_node nodes (Symbol c.args.number)) (Constant (value_at_start code load.it.cell)) =
    c.in_ok-start.ensures.added ∙ ap (λ n. with_node one (Constant n)) start
    ∙ ap (λ ns. with_node ns (Constant (value_at_start code load.it.cell))) c.in_ok-takes.ensures.added in
    let have = λ (a : Placed Access) (i : Contains all a). All-contains (λ (x : Placed Access). AccessIsOf (length nodes) x.it) all a c.requires.accesses i in
    needs_made code all nodes two c.candidates.new.terms load c.args.number have c.requires.load.cell is c.in_ok-candidates.ensures.made

pub returns-clause-conjunct : goal.returns-clause-conjunct
returns-clause-conjunct c = λ later g.
    let code = c.args.code.now in
    let events = c.args.events.now in
    let all = c.args.accesses.now in
    let nodes = c.args.terms.now in
    let load = c.args.load.now in
    let one = c.symbol.new.self in
    let two = c.constant.new.self in
    let symbol = Symbol c.args.number in
    let fits : FitsSigned w32 c.value_at_start.result = search rules in
    let start = to_z-of_z w32 c.value_at_start.result fits ∙ c.value_at_start.ensures in
    let first = Constant (value_at_start code load.it.cell) in
    let after : Grows two later = grows_both two c.candidates.new.terms later c.in_ok-candidates.ensures.grown g in
    let two_is : two ≡ with_node one first = c.in_ok-start.ensures.added ∙ ap (λ n. with_node one (Constant n)) start in
    let from_one : Grows one later = grows_both one two later (subst (Grows one) (sym two_is) (grows one first)) after in
    let event : c.number-event.result ≡ number_in events load.thread load.it.step =
    c.number-event.ensures in
    let read : c.new.result ≡ record {
      event = c.number-event.result;
      takes = c.in_ok-takes.takes;
      start = c.in_ok-start.start;
      candidates = c.in_ok-candidates.candidates.items;
    } = c.new.ensures in
    ap (λ (r : plain.Read). made load.thread c.line_of.result r) read
    ∙ conjunct_from code events all later load c.args.number load.thread c.line_of.result c.number-event.result c.in_ok-takes.takes c.in_ok-start.start
    c.in_ok-candidates.candidates.items refl
    (c.line_of.ensures ∙ ap (λ n. option_map_or (λ (e : Placed Event). e.it.line) (slice_get events n) 0) event) event
    (c.in_ok-takes.ensures.id ∙ named nodes later symbol (subst (λ (ns : List Node). Grows ns later) c.in_ok-takes.ensures.added from_one))
    (c.in_ok-start.ensures.id ∙ ap (λ n. id_of one (Constant n)) start ∙ named one later first (subst (λ (ns : List Node). Grows ns later) two_is after))
    (c.in_ok-candidates.ensures.candidates later g)
