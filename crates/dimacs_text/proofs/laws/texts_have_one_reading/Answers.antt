use Rattle.dimacs_text.proofs.Breaks.{answer_or_break, answer_or_breaks, one_answer, one_break}
use Rattle.dimacs_text.proofs.laws.texts_have_one_reading.Goals as goal

pub returns-clause-some : goal.returns-clause-some
returns-clause-some c = answer_or_breaks

pub returns-clause-one : goal.returns-clause-one
returns-clause-one c = one_answer

pub returns-clause-one_break : goal.returns-clause-one_break
returns-clause-one_break c = one_break

pub returns-clause-never_both : goal.returns-clause-never_both
returns-clause-never_both c = answer_or_break
