use Rattle.std.proofs.Common.{◌≡◌, arith, subst, sym}
use Rattle.std.proofs.lemmas.Result.{IfOk-weaker}
use Rattle.order_formula.specs.declared.formula.Conjunct.{Conjunct}
use Rattle.bit_order.specs.Layouts.{Layout}
use Rattle.bit_blast.specs.Blasted.{Blasted}
use Rattle.bit_blast.specs.Drafts.{asserted}
use Rattle.bit_blast.specs.Sizes.{IsUpTo, body_size, whole_size}
use Rattle.bit_blast.proofs.Drafted.{asserted_size}
use Rattle.bit_blast.proofs.Loops.{sum_with_one}
use Rattle.bit_blast.proofs.blasted.blast.Goals as goal

pub new-requires-clause-room : goal.new-requires-clause-room
new-requires-clause-room c =
    let size = sum_with_one (λ (k : Conjunct). body_size k.body) c.args.formula.now in
    omega (arith, size, c.requires.room)

pub asserted-requires-clause-room : goal.asserted-requires-clause-room
asserted-requires-clause-room c =
    let size = sum_with_one (λ (k : Conjunct). body_size k.body) c.args.formula.now in
    omega (arith, size, c.requires.room, c.in_ok-new.ensures.size.1, c.in_ok-new.ensures.count)

pub returns-clause-size : goal.returns-clause-size
returns-clause-size c =
    let y : Layout = record { order = c.args.order; loads = c.args.loads } in
    let most = whole_size y c.args.terms.now c.args.formula.now in
    let few = asserted_size y c.args.terms.now c.args.formula.now c.in_ok-new.field-0 c.in_ok-new.ensures.size c.in_ok-new.ensures.count in
    IfOk-weaker c.asserted.result (λ b. b ≡ asserted c.in_ok-new.field-0) (λ b. IsUpTo most b.clauses)
    (λ b is. subst (λ (k : Blasted). IsUpTo most k.clauses) (sym is) few) c.asserted.ensures
