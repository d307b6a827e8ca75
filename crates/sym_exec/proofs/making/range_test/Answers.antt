use Rattle.std.proofs.Common.{◌≡◌, ◌∙◌, IfOk, subst, ap, w32, FitsSigned, rules}
use Rattle.std.proofs.lemmas.Int.{to_z-of_z}
use Rattle.sym_terms.specs.declared.node.Node.TheVariants.{Constant}
use Rattle.sym_exec.specs.Making.{Made, term_of_node}
use Rattle.sym_exec.proofs.Grown.{grows_both}
use Rattle.sym_exec.proofs.Steps.{range_is}
use Rattle.sym_exec.proofs.making.range_test.Goals as goal

pub returns-clause-term : goal.returns-clause-term
returns-clause-term c =
    let x : Made = record { term = c.args.term; nodes = c.args.terms.now } in
    let zero : Made = record { term = c.in_ok-zero.zero; nodes = c.constant.new.terms } in
    let low : Made = record { term = c.in_ok-low.low; nodes = c.binary.new.terms } in
    let top : Made = record { term = c.in_ok-top.top; nodes = c.constant-2.new.terms } in
    let high : Made = record { term = c.in_ok-high.high; nodes = c.binary-2.new.terms } in
    let fits : FitsSigned w32 c.args.last = search rules in
    subst (λ (m : Made). IfOk c.binary-3.result (λ term. ◌≡◌ {A = Made} (record { term = term; nodes = c.binary-3.new.terms }) m))
    (range_is x zero low top high c.args.last c.in_ok-zero.ensures.made c.in_ok-low.ensures.made
    (c.in_ok-top.ensures.made ∙ ap (λ n. term_of_node low.nodes (Constant n)) (to_z-of_z w32 c.args.last fits)) c.in_ok-high.ensures.made)
    c.binary-3.ensures.made

pub returns-clause-grown : goal.returns-clause-grown
returns-clause-grown c =
    grows_both _ c.constant.new.terms _ c.in_ok-zero.ensures.grown
    (grows_both _ c.binary.new.terms _ c.in_ok-low.ensures.grown
    (grows_both _ c.constant-2.new.terms _ c.in_ok-top.ensures.grown
    (grows_both _ c.binary-2.new.terms _ c.in_ok-high.ensures.grown c.binary-3.ensures.grown)))
