use Rattle.std.proofs.Common.{◌∙◌, refl, sym}
use Rattle.cdcl_core.specs.helpers.Stages.{searched_of}
use Rattle.cdcl_core.proofs.Searching.{answered-already, goes-on-refl, answer-same}
use Rattle.cdcl_core.proofs.stages.StagedSearch.run.Goals as goal

pub returns-in-Some-clause-goes_on : goal.returns-in-Some-clause-goes_on
returns-in-Some-clause-goes_on c = goes-on-refl (searched_of c.args.self.now)

pub returns-in-Some-clause-answers : goal.returns-in-Some-clause-answers
returns-in-Some-clause-answers c = answered-already c.args.self.now c.args.conflicts c.in-Some.answer c.requires.some
    (sym c.in_ok-answer.ensures ∙ c.in-Some.is)

pub returns-in-Some-clause-answered : goal.returns-in-Some-clause-answered
returns-in-Some-clause-answered c = λ p e. (refl, answer-same _ c.in-Some.answer p (sym c.in_ok-answer.ensures ∙ c.in-Some.is) e)
