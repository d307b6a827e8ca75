use Rattle.std.proofs.Common.{◌∙◌, ap}
use Rattle.cdcl_core.specs.Searches.{Searched}
use Rattle.cdcl_core.specs.helpers.Stages.{searched_of}
use Rattle.cdcl_core.proofs.search.Search.run.Goals as goal

pub returns-clause-answered : goal.returns-clause-answered
returns-clause-answered c = λ p e.
    let r = c.run.ensures.answered p (ap (λ (s : Searched). s.answer) c.self.view_is ∙ e) in
    (ap searched_of r.0 ∙ c.self.view_is, r.1)
