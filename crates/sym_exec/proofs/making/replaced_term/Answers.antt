use Rattle.std.proofs.Common.{◌≡◌, IfOk, subst}
use Rattle.sym_exec.specs.Making.{Made}
use Rattle.sym_exec.proofs.Grown.{grows_both}
use Rattle.sym_exec.proofs.Steps.{replaced_is}
use Rattle.sym_exec.proofs.making.replaced_term.Goals as goal

pub returns-clause-term : goal.returns-clause-term
returns-clause-term c =
    let change : Made = record { term = c.in_ok-change.change; nodes = c.binary.new.terms } in
    let same : Made = record { term = c.in_ok-same.same; nodes = c.binary-2.new.terms } in
    let mask : Made = record { term = c.in_ok-mask.mask; nodes = c.unary.new.terms } in
    let masked : Made = record { term = c.in_ok-masked.masked; nodes = c.binary-3.new.terms } in
    subst (λ (m : Made). IfOk c.binary-4.result (λ term. ◌≡◌ {A = Made} (record { term = term; nodes = c.binary-4.new.terms }) m))
    (replaced_is c.args.terms.now c.args.found c.args.expected c.args.new change same mask masked c.in_ok-change.ensures.made c.in_ok-same.ensures.made
    c.in_ok-mask.ensures.made c.in_ok-masked.ensures.made)
    c.binary-4.ensures.made

pub returns-clause-grown : goal.returns-clause-grown
returns-clause-grown c =
    grows_both _ c.binary.new.terms _ c.in_ok-change.ensures.grown
    (grows_both _ c.binary-2.new.terms _ c.in_ok-same.ensures.grown
    (grows_both _ c.unary.new.terms _ c.in_ok-mask.ensures.grown
    (grows_both _ c.binary-3.new.terms _ c.in_ok-masked.ensures.grown c.binary-4.ensures.grown)))
