use Rattle.migrate_command.proofs.command.MigrateWork.work.Goals as goal

pub returns-in-Ok : goal.returns-in-Ok
returns-in-Ok c = rw (c.deref.ensures.value, c.deref-2.ensures.value) at c.in-Ok.ensures.text
