use Rattle.std.proofs.Common.{◌≡◌, ◌∙◌, [], Some, length, sym, ap, subst, refl, arith}
use Rattle.std.specs.Prelude.{slice_get, slice_index_or}
use Rattle.std.proofs.lemmas.Bool.{ltb-true}
use Rattle.std.proofs.lemmas.List.{get_or_default}
use Rattle.std.proofs.lemmas.Option.{slice_get_read}
use Rattle.slot_liveness.specs.helpers.Closed.{IsClosedIn}
use Rattle.slot_liveness.proofs.Closes.{one-more-element, all-elements, closed-code}
use Rattle.slot_liveness.proofs.check.are_closed.Goals as goal

pub loop-function-preserved : goal.loop-function-preserved
loop-function-preserved c =
    let tables = c.args.tables.now in
    let place = c.loop-function.function in
    let func = c.func-item.result in
    let functions = c.functions-func-items.result.now in
    let here : slice_get c.args.code.now.functions place ≡ Some func =
    ap (λ gs. slice_get gs place) (sym c.functions-func-items.ensures.seen)
    ∙ slice_get_read functions (length functions) place func refl (omega (arith, c.loop-function-test.true)) c.func-item.is in
    let closed : IsClosedIn c.in-Some.table.now func.instrs =
    subst (IsClosedIn c.in-Some.table.now) c.as_slice.ensures (c.is_closed.ensures c.if-not-is_closed.false) in
    let found = c.in-Some.ensures.lookup in
    let own : c.in-Some.table.now ≡ slice_index_or tables place [] =
    found.1 ∙ get_or_default tables place c.in-Some.table.now [] (ltb-true _ _ (sym found.0)) in
    one-more-element (λ f g. IsClosedIn (slice_index_or tables f []) g.instrs) c.args.code.now.functions place c.loop-function.invariant func here
    (subst (λ t. IsClosedIn t func.instrs) own closed)

pub returns : goal.returns
returns c =
    λ _. closed-code c.args.code.now c.args.tables.now
    (all-elements (λ f g. IsClosedIn (slice_index_or c.args.tables.now f []) g.instrs) c.args.code.now.functions c.loop-function.function
    c.loop-function.invariant (omega (arith, c.loop-function-test.false, c.loop-function.auto.function-end, ap length c.functions-func-items.ensures.seen)))
