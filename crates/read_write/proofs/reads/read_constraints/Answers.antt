use Rattle.std.proofs.Common.{◌≡◌, ◌∙◌, IfOk, OnOk, List, length, ap₂, sym, subst}
use Rattle.std.specs.Prelude.{option_map}
use Rattle.std.specs.List.{All, filter_map}
use Rattle.tc_code.specs.Code.{Code}
use Rattle.path_walk.specs.Paths.{Paths}
use Rattle.path_walk.specs.declared.event.Event.{Event}
use Rattle.sym_terms.specs.declared.node.Node.{Node}
use Rattle.sym_exec.specs.Executed.{Symbolic}
use Rattle.sym_exec.proofs.Grown.{grows_none}
use Rattle.sym_exec.specs.declared.symbolic.Access.{Access}
use Rattle.order_formula.specs.Orders.{ConjunctIsIn, with_formula}
use Rattle.order_formula.specs.declared.formula.Conjunct.{Conjunct}
use Rattle.order_cells.specs.lawful_order.Events.{Placed, all_events}
use Rattle.order_cells.specs.Terms.{AccessIsOf}
use Rattle.order_events.proofs.Parts.{each_in}
use Rattle.read_write.specs.Accesses.{all_accesses}
use Rattle.read_write.specs.Reading.{conjunct_of, read_formula}
use Rattle.read_write.proofs.Numbers.{access_of}
use Rattle.read_write.proofs.Terms.{formula_is_in}
use Rattle.read_write.proofs.reads.read_constraints.Goals as goal

pub conjuncts-requires : goal.conjuncts-requires
conjuncts-requires c =
    let nodes = c.args.terms.now in
    let symbolic = c.args.symbolic.now in
    let is = c.deref.ensures.value ∙ c.in_ok-accesses.ensures in
    subst (All (λ (a : Placed Access). AccessIsOf (length nodes) a.it)) (sym is)
    (each_in (λ (a : Placed Access). AccessIsOf (length nodes) a.it) (all_accesses symbolic)
    (λ a i. c.requires.terms a.thread a.it (access_of symbolic a i)))

-- the conjuncts of all loads are the formula
conjuncts_are : (code : Code) (paths : Paths) (symbolic : Symbolic) (nodes : List Node) (events : List (Placed Event)) (accesses : List (Placed Access))
    (conjuncts : List Conjunct) → events ≡ all_events paths → accesses ≡ all_accesses symbolic
    → conjuncts ≡ filter_map (λ a. option_map (conjunct_of code events accesses nodes a) a.it.takes) accesses
    → conjuncts ≡ read_formula code paths symbolic nodes
conjuncts_are code paths symbolic nodes events accesses conjuncts one two is =
    is ∙ ap₂ (λ es bs. filter_map (λ a. option_map (conjunct_of code es bs nodes a) a.it.takes) bs) one two

pub formula_of-requires : goal.formula_of-requires
formula_of-requires c =
    let code = c.args.code.now in
    let paths = c.args.paths.now in
    let symbolic = c.args.symbolic.now in
    let nodes = c.conjuncts.new.terms in
    let are = conjuncts_are code paths symbolic nodes c.in_ok-events.events c.deref.result.now c.in_ok-conjuncts.conjuncts.items c.in_ok-events.ensures
    (c.deref.ensures.value ∙ c.in_ok-accesses.ensures) (c.in_ok-conjuncts.ensures.conjuncts nodes (grows_none nodes)) in
    subst (All (ConjunctIsIn c.args.order.now)) (sym are)
    (formula_is_in code paths symbolic nodes c.args.order.now c.requires.executed c.requires.events)

pub returns-clause-formula : goal.returns-clause-formula
returns-clause-formula c =
    let code = c.args.code.now in
    let paths = c.args.paths.now in
    let symbolic = c.args.symbolic.now in
    let nodes = c.conjuncts.new.terms in
    let are = conjuncts_are code paths symbolic nodes c.in_ok-events.events c.deref.result.now c.in_ok-conjuncts.conjuncts.items c.in_ok-events.ensures
    (c.deref.ensures.value ∙ c.in_ok-accesses.ensures) (c.in_ok-conjuncts.ensures.conjuncts nodes (grows_none nodes)) in
    subst (λ (cs : List Conjunct). IfOk c.formula_of.result (λ f. f ≡ cs)) are c.formula_of.ensures.formula

pub returns-clause-asked : goal.returns-clause-asked
returns-clause-asked c =
    let code = c.args.code.now in
    let paths = c.args.paths.now in
    let symbolic = c.args.symbolic.now in
    let nodes = c.conjuncts.new.terms in
    let are = conjuncts_are code paths symbolic nodes c.in_ok-events.events c.deref.result.now c.in_ok-conjuncts.conjuncts.items c.in_ok-events.ensures
    (c.deref.ensures.value ∙ c.in_ok-accesses.ensures) (c.in_ok-conjuncts.ensures.conjuncts nodes (grows_none nodes)) in
    subst (λ (cs : List Conjunct). OnOk c.formula_of.result (c.formula_of.new.order ≡ with_formula c.args.order.now cs)) are c.formula_of.ensures.asked
