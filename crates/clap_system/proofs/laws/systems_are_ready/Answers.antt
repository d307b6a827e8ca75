use Rattle.clap_system.proofs.Ready.{is_ready}
use Rattle.clap_system.proofs.laws.systems_are_ready.Goals as goal

pub returns : goal.returns
returns c buffered bound code paths lawful are = is_ready buffered bound code paths lawful are
