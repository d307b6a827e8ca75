use Rattle.std.proofs.Common.{◌≡◌, ap, sym, ◌∙◌, rules}
use Rattle.int_ops.specs.declared.arith.BinOp.TheVariants.{Eq, Ne}
use Rattle.sym_terms.specs.declared.node.Node.{Node}
use Rattle.sym_terms.specs.declared.node.Node.TheVariants.{Binary}
use Rattle.bit_terms.specs.Terms.{opposite_for, opposite_of}
use Rattle.bit_terms.proofs.opposite_for.Goals as goal

pub returns-in-Binary-Eq-default-default-clause-place : goal.returns-in-Binary-Eq-default-default-clause-place
returns-in-Binary-Eq-default-default-clause-place c =
    let it = c.in-Binary-Eq-default-default in
    let same : c.args.node.now ≡ Binary Eq it.a it.b = search rules in
    c.opposite_of.ensures.place ∙ ap (λ (node : Node). opposite_of c.args.nodes.now c.args.count node it.a it.b) same
    ∙ ap (opposite_for c.args.nodes.now c.args.count) (sym same)

pub returns-in-Binary-Ne-default-default-clause-place : goal.returns-in-Binary-Ne-default-default-clause-place
returns-in-Binary-Ne-default-default-clause-place c =
    let it = c.in-Binary-Ne-default-default in
    let same : c.args.node.now ≡ Binary Ne it.a it.b = search rules in
    c.opposite_of-in-Binary-Ne-default-default.ensures.place ∙ ap (λ (node : Node). opposite_of c.args.nodes.now c.args.count node it.a it.b) same
    ∙ ap (opposite_for c.args.nodes.now c.args.count) (sym same)
