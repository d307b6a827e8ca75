use Rattle.std.proofs.Common.{◌∙◌, ◌<◌, ap, get_or, length, pos, arith, FitsSigned, w32, rules}
use Rattle.std.proofs.lemmas.Int.{to_z-of_z}
use Rattle.std.proofs.lemmas.List.{get_or_default}
use Rattle.sym_terms.specs.Values.{value_of}
use Rattle.sym_terms.proofs.Folds.{known_value}
use Rattle.sym_terms.proofs.values.value.Goals as goal

pub returns-clause-value : goal.returns-clause-value
returns-clause-value c =
    let known = c.loop-nodes.values-inside.known.items in
    let loads = c.loop-nodes.values-inside.symbols.items in
    let read = c.index.result.now in
    let fits : FitsSigned w32 read = search rules in
    let within : c.args.id < length known = omega arith in
    to_z-of_z w32 read fits ∙ c.index.ensures
    ∙ ap (λ k. get_or known k read) c.place-2.ensures
    ∙ get_or_default known c.args.id read (pos 0) within
    ∙ known_value c.nodes-nodes.result.now loads known c.args.id c.loop-nodes.invariant.known within
    ∙ ap (λ nodes. value_of nodes loads c.args.id) c.nodes-nodes.ensures.nodes
    ∙ ap (λ symbols. value_of c.args.terms.now symbols c.args.id) (c.loop-nodes.invariant.symbols ∙ ap (λ table. table.symbols) c.values.view_is)
