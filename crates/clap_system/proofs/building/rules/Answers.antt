use Rattle.std.proofs.Common.{◌∙◌, ◌++◌, List, sym, ap, subst}
use Rattle.std.specs.List.{All}
use Rattle.order_formula.specs.Orders.{ConjunctIsIn, with_formula}
use Rattle.order_formula.specs.declared.formula.Conjunct.{Conjunct}
use Rattle.memory_order.proofs.order_cells.Stay.{have_later}
use Rattle.clap_system.proofs.Built.{asked_is, ok_weaker, rules_are}
use Rattle.clap_system.proofs.Ready.{tests_in}
use Rattle.clap_system.proofs.building.rules.Goals as goal

pub read_constraints-requires-clause-terms : goal.read_constraints-requires-clause-terms
read_constraints-requires-clause-terms g c =
    have_later c.args.terms.now c.order_constraints.new.terms c.args.symbolic.now c.order_constraints.ensures.more_terms c.requires.terms

pub formula_of-requires : goal.formula_of-requires
formula_of-requires g c =
    let order = c.read_constraints.new.order in
    subst (λ (cs : List Conjunct). All (ConjunctIsIn order) cs) (sym c.in_ok-test_conjuncts.ensures) (tests_in c.args.symbolic.now order)

pub returns-clause-rules : goal.returns-clause-rules
returns-clause-rules g c =
    let own = c.in_ok-own.own in
    let sync = c.in_ok-sync.sync in
    let read = c.in_ok-read.read in
    let tests = c.in_ok-tests.tests in
    ok_weaker c.and-3.result _ _ c.and-3.ensures (λ f is.
    rules_are g.M.MemoryModel.BUFFERED g.M.MemoryModel.bound c.args.code.now c.args.paths.now c.args.symbolic.now c.args.terms.now
    c.order_constraints.new.terms c.read_constraints.new.terms own sync read tests f c.requires.terms c.in_ok-own.ensures.terms c.in_ok-read.ensures.made
    c.in_ok-own.ensures.formula c.in_ok-sync.ensures.formula c.in_ok-read.ensures.formula
    (c.in_ok-tests.ensures.formula ∙ c.in_ok-test_conjuncts.ensures)
    (is ∙ ap (λ fs. fs ++ tests) (c.in_ok-and-2.ensures ∙ ap (λ fs. fs ++ read) c.in_ok-and.ensures)))

pub returns-clause-asked : goal.returns-clause-asked
returns-clause-asked g c =
    let own = c.in_ok-own.own in
    let sync = c.in_ok-sync.sync in
    let read = c.in_ok-read.read in
    let tests = c.in_ok-tests.tests in
    let one = c.order_constraints.new.order in
    let two = c.sync_constraints.new.order in
    let three = c.read_constraints.new.order in
    ok_weaker c.and-3.result _ _ c.and-3.ensures (λ f is.
    asked_is c.args.order.now one two three c.formula_of.new.order own sync read tests f c.in_ok-own.ensures.order
    (c.in_ok-sync.ensures.asked ∙ ap (with_formula one) (sym c.in_ok-sync.ensures.formula))
    (c.in_ok-read.ensures.asked ∙ ap (with_formula two) (sym c.in_ok-read.ensures.formula))
    (c.in_ok-tests.ensures.asked ∙ ap (with_formula three) (sym c.in_ok-tests.ensures.formula))
    (is ∙ ap (λ fs. fs ++ tests) (c.in_ok-and-2.ensures ∙ ap (λ fs. fs ++ read) c.in_ok-and.ensures)))
