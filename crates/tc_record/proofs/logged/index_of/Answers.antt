use Rattle.std.proofs.Common.{◌∙◌, ◌≡◌, Some, subst, sym, slice_get}
use Rattle.tc_record.proofs.Paths.{found_at, is_found}
use Rattle.tc_record.proofs.logged.index_of.Goals as goal

pub returns-then-eq : goal.returns-then-eq
returns-then-eq g c =
    subst (λ names. slice_get names c.loop-index.index ≡ Some c.args.thread.now) (c.as_slice-name-items.ensures ∙ c.threads.ensures)
    (found_at c.as_slice-name-items.result.now c.loop-index.index c.args.thread.now c.name-item.result
    c.loop-index-test.true c.name-item.is (sym c.if-eq.ensures))

pub unreachable-requires : goal.unreachable-requires
unreachable-requires g c =
    is_found c.args.state.now c.args.thread.now c.as_slice-name-items.result.now c.loop-index.index c.requires
    (c.as_slice-name-items.ensures ∙ c.threads.ensures) c.loop-index-test.false c.loop-index.invariant
