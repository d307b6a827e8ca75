-- The lines of what `import` makes.
use Rattle.std.specs.Prelude.{ℕ, List, ◌++◌, codes}
use Rattle.std.specs.Fmt.{decimal}
use Rattle.command_frame.specs.declared.status.Status.{Status}
use Rattle.command_frame.specs.declared.status.Status.TheVariants.{Done, Fails}
use Rattle.log_tasks.specs.Lines.{moves_line}
use Rattle.import_command.specs.declared.imported.Imported.{Imported}
use Rattle.import_command.specs.declared.imported.Imported.TheVariants.{Found, False}

-- the status and the line of what is made: a schedule, or the number of the first false clause
abbrev pub imported_said : Imported → Status × List ℕ
imported_said (Found schedule text) = (Done, moves_line schedule.moves.items)
imported_said (False number) = (Fails, codes "clause " ++ (decimal number ++ codes " false\n"))
