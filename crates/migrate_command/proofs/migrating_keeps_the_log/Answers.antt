use Rattle.migrate_command.proofs.Laws.{kept_log, read_again, kept_whole, kept_short}
use Rattle.migrate_command.proofs.migrating_keeps_the_log.Goals as goal

pub returns-clause-kept : goal.returns-clause-kept
returns-clause-kept c = λ program log text run m is. kept_log program log text m run is

pub returns-clause-again : goal.returns-clause-again
returns-clause-again c = λ program log text run again m is reads. read_again program log text m run is again reads

pub returns-clause-whole : goal.returns-clause-whole
returns-clause-whole c = λ program log text run m is e. kept_whole program log text m run is e

pub returns-clause-short : goal.returns-clause-short
returns-clause-short c = kept_short
