use Rattle.std.proofs.Common.{◌∙◌, refl, sym, arith}
use Rattle.slot_liveness.specs.Tables.{liveness}
use Rattle.certified_logs.proofs.Places.{all_done, less_than_most, raised}
use Rattle.certified_logs.proofs.place.Place.raise.Goals as goal

pub returns-then-is_last : goal.returns-then-is_last
returns-then-is_last c = λ code at done.
    (at.closed, all_done code (liveness c.args.self.now.live) c.args.header c.args.self.now at.reached c.args.out done (sym c.is_last.ensures ∙ c.if-is_last.true))

pub overflow_add-level : goal.overflow_add-level
overflow_add-level c =
    let r = c.requires in
    let less = less_than_most r.0 (liveness c.args.self.now.live) c.args.header c.args.self.now r.1.reached c.args.out r.2 (sym c.is_last.ensures ∙ c.if-is_last.false) in
    omega (arith, less)

pub returns : goal.returns
returns c = λ code at done.
    record {
      closed = at.closed;
      reached = raised code (liveness c.args.self.now.live) c.args.header c.args.self.now _ at.reached c.args.out done (sym c.is_last.ensures ∙ c.if-is_last.false) refl refl;
    }
