use Rattle.run_lawful.proofs.of_world.Worlds.{is_world, is_world_of}
use Rattle.run_lawful.proofs.world.runs_have_worlds.Goals as goal

pub returns-clause-world : goal.returns-clause-world
returns-clause-world g c = λ setting nodes moves again. is_world setting nodes moves again

pub returns-clause-of : goal.returns-clause-of
returns-clause-of g c = λ setting nodes moves again. is_world_of setting nodes moves again
