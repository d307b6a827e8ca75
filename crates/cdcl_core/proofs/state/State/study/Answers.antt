use Rattle.std.proofs.Common.{◌∙◌, sym, arith}
use Rattle.std.proofs.lemmas.List.{nil_from_length}
use Rattle.cdcl_core.proofs.state.State.study.Goals as goal

pub close-requires-clause-conflict : goal.close-requires-clause-conflict
close-requires-clause-conflict c = record { there = c.requires.conflict.there; kept = c.requires.conflict.kept; all_false = c.requires.conflict.all_false }

pub close-requires-clause-levels : goal.close-requires-clause-levels
close-requires-clause-levels c = nil_from_length c.args.self.now.trail.starts (omega arith)

pub close-requires-clause-activity : goal.close-requires-clause-activity
close-requires-clause-activity c = c.requires.live.activity ∙ sym c.requires.live.variables

pub analyze-requires-clause-activity : goal.analyze-requires-clause-activity
analyze-requires-clause-activity c = c.requires.live.activity ∙ sym c.requires.live.variables
