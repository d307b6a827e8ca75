use Rattle.std.proofs.Common.{sym, ap, ◌∙◌}
use Rattle.std.specs.FinMap.{get}
use Rattle.refute_check.proofs.KeptLemmas.{get-lookup}
use Rattle.refute_check.proofs.kept.Kept.get.Goals as goal

pub returns : goal.returns
returns c = c.get.ensures.value ∙ sym (get-lookup c.self.inside.clauses.entries c.args.number) ∙ ap (λ m. get m c.args.number) c.self.view_is
