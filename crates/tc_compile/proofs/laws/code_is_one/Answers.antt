use Rattle.tc_compile.proofs.OnePrograms.{one_code, one_refusal, refused_no_code}
use Rattle.tc_compile.proofs.laws.code_is_one.Goals as goal

pub returns-clause-code : goal.returns-clause-code
returns-clause-code c = one_code

pub returns-clause-refusal : goal.returns-clause-refusal
returns-clause-refusal c = one_refusal

pub returns-clause-never_both : goal.returns-clause-never_both
returns-clause-never_both c = refused_no_code
