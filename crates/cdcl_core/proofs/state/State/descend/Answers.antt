use Rattle.std.proofs.Common.{◌∙◌}
use Rattle.cdcl_core.proofs.Agreeing.{agree-same}
use Rattle.cdcl_core.proofs.state.State.descend.Goals as goal

pub returns-clause-live : goal.returns-clause-live
returns-clause-live c =
    let s = c.args.self.now in
    let e = c.to_conflict.ensures in
    record {
      sound = e.keeps.sound;
      rooted = e.keeps.rooted c.requires.rooted;
      variables = e.keeps.variables ∙ c.requires.variables;
      activity = e.activity ∙ c.requires.activity;
      agree = agree-same s.formula s.clauses s.derivation s.added s.deleted c.requires.agree c.to_conflict.new.clauses e.keeps.same;
    }
