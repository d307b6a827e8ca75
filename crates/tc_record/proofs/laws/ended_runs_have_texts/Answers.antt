use Rattle.tc_record.proofs.Ended.{log_has_text, log_is_short, log_is_small}
use Rattle.tc_record.proofs.laws.ended_runs_have_texts.Goals as goal

pub returns-clause-text : goal.returns-clause-text
returns-clause-text g c = λ ops model bound code seed steps log digest laws lawful has is d.
    log_has_text ops model bound laws code lawful seed steps log has is digest d

pub returns-clause-short : goal.returns-clause-short
returns-clause-short g c = λ ops model bound code seed steps log digest laws lawful has is d.
    log_is_short ops model bound laws code lawful seed steps log has is digest d

pub returns-clause-small : goal.returns-clause-small
returns-clause-small g c = λ ops model bound code seed steps log laws lawful has is. log_is_small ops model bound laws code lawful seed steps log has is
