use Rattle.std.proofs.Common.{sym, subst}
use Rattle.tc_code.specs.declared.cell.Cell.TheVariants.{Fixed}
use Rattle.tc_code.specs.declared.instr.Instr.TheVariants.{Store}
use Rattle.tc_threads.specs.CanDo.{CanAsk}
use Rattle.show_rows.proofs.Stores.{one_cell, can_store}
use Rattle.show_rows.proofs.slots.slot_of.Goals as goal

pub request-requires : goal.request-requires
request-requires g c =
    let code = c.requires.whole.0 in
    let t = c.args.thread.now.local in (
      one_cell code,
      subst (λ e. CanAsk (one_cell code) t (Store (Fixed 0) e)) (sym c.slot.ensures) (can_store code t c.args.slot c.requires.whole.1 c.requires.there),
    )
