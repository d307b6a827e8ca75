use Rattle.std.proofs.Common.{◌≡◌, ◌∙◌, Some, true, length, sym, ap, refl, arith}
use Rattle.std.specs.Prelude.{slice_get}
use Rattle.std.proofs.lemmas.Bool.{ltb-true}
use Rattle.std.proofs.lemmas.Option.{slice_get_read}
use Rattle.slot_liveness.proofs.Closes.{one-more, closed-row, kept-live}
use Rattle.slot_liveness.specs.Tables.{is_live_in}
use Rattle.slot_liveness.specs.helpers.Closed.{must_be_live}
use Rattle.slot_liveness.proofs.check.is_closed_at.Goals as goal

pub loop-slot-preserved : goal.loop-slot-preserved
loop-slot-preserved c =
    let rows = c.args.table.now in
    one-more (λ k. must_be_live rows c.args.instr.now c.args.place k ≡ true → is_live_in rows c.args.place k ≡ true) c.loop-slot.slot c.loop-slot.invariant
    (kept-live _ _ (sym c.is_kept.ensures ∙ c.if-not-is_kept.false))

pub returns : goal.returns
returns c =
    let rows = c.deref.result.now in
    let row = c.in-Some.row.now in
    let found = c.in-Some.ensures.lookup in
    let there : slice_get c.args.table.now c.args.place ≡ Some row =
    ap (λ rs. slice_get rs c.args.place) (sym (c.deref.ensures.value ∙ c.table.view_is))
    ∙ slice_get_read rows (length rows) c.args.place row refl (ltb-true _ _ (sym found.0)) found.1 in
    λ _. closed-row c.args.table.now row c.args.instr.now c.args.place there (λ k h. c.loop-slot.invariant k
    (omega (arith, h, c.loop-slot-test.false, c.len-slot-end.ensures, c.row.inside.slots.ok.0, ap length c.row.view_is)))
