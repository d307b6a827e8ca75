use Rattle.std.proofs.Common.{◌∙◌, ap, sym}
use Rattle.cdcl_trail.specs.Trail.{Trail}
use Rattle.cdcl_core.proofs.state.State.back.Goals as goal

pub go_back-requires-clause-activity : goal.go_back-requires-clause-activity
go_back-requires-clause-activity c = c.requires.live.activity ∙ sym c.requires.live.variables

pub returns-clause-live : goal.returns-clause-live
returns-clause-live c =
    let s = c.args.self.now in
    record {
      sound = c.go_back.ensures.sound s.clauses s.watches c.requires.live.sound;
      rooted = c.go_back.ensures.rooted s.clauses c.requires.live.rooted;
      variables = ap (λ (t : Trail). t.variables) c.go_back.ensures.trail ∙ c.requires.live.variables;
      activity = c.go_back.ensures.activity ∙ c.requires.live.activity;
      agree = c.requires.live.agree;
    }
