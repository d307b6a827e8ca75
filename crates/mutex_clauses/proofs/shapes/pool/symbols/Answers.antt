use Rattle.std.proofs.Common.{◌≡◌}
use Rattle.mutex_clauses.proofs.shapes.Again.{slot_more, symbol_more, symbol_place}
use Rattle.mutex_clauses.proofs.shapes.pool.symbols.Goals as goal

pub loop-cell-preserved : goal.loop-cell-preserved
loop-cell-preserved c =
    let k = c.loop-cell.cell in
    let before = c.loop-cell.invariant in
    let is : c.in_ok-symbol.field-0 ≡ k = symbol_place k c.in_ok-symbol.field-0 c.loop-cell.terms before.terms c.in_ok-symbol.ensures.id in
    record {
      terms = symbol_more k c.loop-cell.terms c.symbol.new.self before.terms c.in_ok-symbol.ensures.added;
      slots = slot_more k c.in_ok-symbol.field-0 c.loop-cell.slots.items c.push.new.self.items before.slots is c.in_ok-push.ensures.items;
    }
