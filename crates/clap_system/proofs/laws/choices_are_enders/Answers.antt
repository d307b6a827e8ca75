use Rattle.clap_system.proofs.Choices.{choices_are_enders}
use Rattle.clap_system.proofs.laws.choices_are_enders.Goals as goal

pub returns : goal.returns
returns c = choices_are_enders
