use Rattle.std.proofs.Common.{ap, ◌∙◌}
use Rattle.std.specs.FinMap.{insert}
use Rattle.refute_check.proofs.KeptLemmas.{from_entries-insert}
use Rattle.refute_check.proofs.kept.Kept.insert.Goals as goal

pub returns-clause-ok : goal.returns-clause-ok
returns-clause-ok c = from_entries-insert c.self.inside.clauses.entries c.insert.new.self.entries c.args.number
    c.args.clause c.in_ok-insert.ensures.updates.0 ∙ ap (λ m. insert m c.args.number c.args.clause) c.self.view_is
