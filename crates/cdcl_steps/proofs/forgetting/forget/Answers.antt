use Rattle.cdcl_steps.proofs.Dropped.{sound-forgotten, rooted-forgotten}
use Rattle.cdcl_steps.proofs.forgetting.forget.Goals as goal

pub returns-clause-sound : goal.returns-clause-sound
returns-clause-sound c = λ t ws n s. rw c.remove.ensures (sound-forgotten t c.args.clauses.now ws s c.args.clause c.requires n)

pub returns-clause-rooted : goal.returns-clause-rooted
returns-clause-rooted c = λ t r. rw c.remove.ensures (rooted-forgotten t c.args.clauses.now c.args.clause c.requires r)
