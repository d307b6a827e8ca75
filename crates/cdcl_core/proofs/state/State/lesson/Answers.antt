use Rattle.cdcl_core.proofs.state.State.lesson.Goals as goal

pub returns-clause-lesson : goal.returns-clause-lesson
returns-clause-lesson c =
    let s = c.args.self.now in
    (c.sort_lesson.ensures.lesson s.trail s.clauses c.requires.live.sound.lawful c.in_ok-lesson.ensures.lesson).0
