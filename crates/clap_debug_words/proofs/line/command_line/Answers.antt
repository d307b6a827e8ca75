use Rattle.std.proofs.Common.{◌∙◌, ap, refl}
use Rattle.clap_debug_words.specs.CommandLine as spec
use Rattle.clap_debug_words.proofs.line.command_line.Goals as goal

pub returns : goal.returns
returns c =
    let top = c.commands.ensures ∙ ap spec.commands c.new.ensures.app in
    let listed = c.add-command.ensures _ _ refl top c.list.ensures in
    let replayed = c.add-command-2.ensures _ _ refl listed c.with_file.ensures in
    let recorded = c.add-command-3.ensures _ _ refl replayed c.recording.ensures in
    let migrated = c.add-command-4.ensures _ _ refl recorded c.with_file-2.ensures in
    let solved = c.add-command-5.ensures _ _ refl migrated c.solving.ensures in
    let checked = c.add-command-6.ensures _ _ refl solved c.with_file-3.ensures in
    let worked = c.add-command-7.ensures _ _ refl checked c.workload.ensures in
    let exported = c.add-command-8.ensures _ _ refl worked c.cnf.ensures in
    let imported = c.add-command-9.ensures _ _ refl exported c.import.ensures in
    c.add.ensures _ _ refl imported c.with_file-4.ensures
