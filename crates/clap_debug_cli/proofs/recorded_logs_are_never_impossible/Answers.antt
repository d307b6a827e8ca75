use Rattle.tc_io.specs.Outside.{told_under}
use Rattle.clap_debug_cli.specs.Requests.{recorded}
use Rattle.clap_debug_cli.proofs.Recorded.{never_impossible}
use Rattle.clap_debug_cli.proofs.recorded_logs_are_never_impossible.Goals as goal

pub returns : goal.returns
returns c program log out model asked seed steps budget files held end now status answers zero same_held same_program allowed sound =
    never_impossible (recorded program log model seed steps) files held end answers zero same_held same_program asked allowed (told_under now out) status sound
