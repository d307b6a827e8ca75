-- What the values that are commands mean.
use Rattle.std.specs.Prelude.{List, [], ◌∷◌}
use Rattle.command_frame.specs.Inputs.{Wanted}
use Rattle.command_frame.specs.Meaning.{Meaning}
use Rattle.command_frame.specs.helpers.Failures.{plain_whole}
use Rattle.clap_debug_show_cli.specs.Calls.{plain_showing}
use Rattle.clap_debug_show_cli.specs.Commands.{help_over, show_over}
use Rattle.clap_debug_show_cli.specs.declared.asked.Help.{Help}
use Rattle.clap_debug_show_cli.specs.declared.help.Helped.{Helped}
use Rattle.clap_debug_show_cli.specs.declared.asked.Show.{Show}
use Rattle.clap_debug_show_cli.specs.declared.show.Showed.{Showed}

abbrev pub help_meaning : Help → Meaning Helped
help_meaning help = help_over (plain_whole help.program ∷ [])

abbrev pub show_inputs : Show → List Wanted
show_inputs show = plain_whole show.inputs.0 ∷ plain_whole show.inputs.1 ∷ []

abbrev pub show_meaning : Show → Meaning Showed
show_meaning show = show_over (plain_showing show.showing) (show_inputs show)
