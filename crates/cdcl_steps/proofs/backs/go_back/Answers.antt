use Rattle.cdcl_trail.specs.Trail.{IsTrail, cut_to}
use Rattle.cdcl_steps.proofs.Backing.{sound-cut}
use Rattle.cdcl_steps.proofs.Rooting.{rooted-cut}
use Rattle.cdcl_steps.proofs.backs.go_back.Goals as goal

pub returns-clause-sound : goal.returns-clause-sound
returns-clause-sound c = λ cs ws s.
    let u : IsTrail (cut_to c.args.trail.now c.args.level) = rw c.cut.ensures.after at c.cut.ensures.lawful in
    rw c.cut.ensures.after (sound-cut c.args.trail.now cs ws s c.args.level c.requires.level u)

pub returns-clause-rooted : goal.returns-clause-rooted
returns-clause-rooted c = λ cs r. rw c.cut.ensures.after (rooted-cut c.args.trail.now cs c.requires.lawful c.args.level c.requires.level r)
