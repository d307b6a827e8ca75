use Rattle.std.proofs.Common.{sym, ap, ◌∙◌}
use Rattle.std.specs.Prelude.{is_some}
use Rattle.std.specs.FinMap.{get, remove}
use Rattle.refute_check.proofs.KeptLemmas.{from_entries-remove, get-lookup}
use Rattle.refute_check.proofs.kept.Kept.remove.Goals as goal

pub returns-clause-there : goal.returns-clause-there
returns-clause-there c = c.is_some.ensures ∙ ap is_some (c.remove.ensures.value ∙ sym (get-lookup c.self.inside.clauses.entries c.args.number)
    ∙ ap (λ m. get m c.args.number) c.self.view_is)

pub returns-clause-gone : goal.returns-clause-gone
returns-clause-gone c = from_entries-remove c.self.inside.clauses.entries c.remove.new.self.entries c.args.number c.remove.ensures.updates.0
    ∙ ap (λ m. remove m c.args.number) c.self.view_is
