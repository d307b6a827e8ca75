use Rattle.path_log.proofs.Logs.{has_text, is_log_of, one_log, text_is, whole_text}
use Rattle.path_log.proofs.laws.logs_are_one.Goals as goal

pub returns-clause-text : goal.returns-clause-text
returns-clause-text c text log is = (has_text is, text_is is)

pub returns-clause-written : goal.returns-clause-written
returns-clause-written c = is_log_of

pub returns-clause-one : goal.returns-clause-one
returns-clause-one c = one_log

pub returns-clause-whole : goal.returns-clause-whole
returns-clause-whole c = whole_text
