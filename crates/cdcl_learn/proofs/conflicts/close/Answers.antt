use Rattle.std.proofs.Common.{[], reverse, arith}
use Rattle.cdcl_learn.specs.Shown.{Leads}
use Rattle.cdcl_learn.proofs.Starting.{shown-closed}
use Rattle.cdcl_learn.proofs.conflicts.close.Goals as goal

pub returns-clause-lesson : goal.returns-clause-lesson
returns-clause-lesson c =
    let d = c.in_ok-clear_root.ensures in
    let s : Leads c.args.clauses.now [] (reverse c.clear_root.new.self.hints.items) =
    shown-closed c.args.trail.now c.args.clauses.now c.in_ok-analysis.analysis.met.items c.clear_root.new.self.met.items c.clear_root.new.self.pending
    c.len-len.result c.len-len.result c.clear_root.new.self.literals.items c.clear_root.new.self.hints.items d.tallies c.len-len.ensures.len
    d.cleared d.suffices in
    record {
      all_false = rw c.new.ensures.items (λ k x h. absurd (omega arith));
      shown = rw (c.new.ensures.items, c.reverse.ensures.items) s;
      turn = c.new.ensures.items;
    }
