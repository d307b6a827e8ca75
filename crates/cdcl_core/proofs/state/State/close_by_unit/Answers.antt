use Rattle.cdcl_core.proofs.Starting.{conclude-unit}
use Rattle.cdcl_core.proofs.state.State.close_by_unit.Goals as goal

pub conclude-requires : goal.conclude-requires
conclude-requires c =
    let r = conclude-unit c.args.self.now c.requires.loaded c.in_ok-lesson.lesson c.in_ok-lesson.ensures.lesson in
    rw c.as_slice.ensures.value (record { clauses = r.clauses; agree = r.agree; bound = r.bound; shown = r.shown })
