use Rattle.std.proofs.Common.{ℕ, List, subst}
use Rattle.cdcl_trail.specs.Trail.{Trail}
use Rattle.cdcl_learn.specs.Lessons.{TurnFits, TurnsBack}
use Rattle.cdcl_learn.specs.declared.lesson.Turn.{Turn}
use Rattle.cdcl_core.proofs.Going.{can-assert}
use Rattle.cdcl_core.proofs.state.State.take.Goals as goal

pub learn-requires-clause-can : goal.learn-requires-clause-can
learn-requires-clause-can c =
    let t : Trail = c.args.self.now.trail in
    let ls : List ℕ = c.args.lesson.literals.items in
    let back : TurnsBack t ls c.in-Back.level c.in-Back.asserted c.in-Back.beside = subst (λ (x : Turn). TurnFits t ls x) c.in-Back.is c.requires.lesson.turn in
    rw (c.back.ensures.trail, c.as_slice-in-Back.ensures.value) (can-assert t c.requires.live.sound.lawful ls c.requires.lesson.all_false c.in-Back.level
    c.in-Back.asserted c.in-Back.beside back)
