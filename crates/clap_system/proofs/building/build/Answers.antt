use Rattle.std.proofs.Common.{◌∙◌, ap}
use Rattle.clap_system.specs.Systems.{system_by}
use Rattle.clap_system.proofs.building.build.Goals as goal

pub returns-clause-system : goal.returns-clause-system
returns-clause-system g c =
    c.in_ok-system.ensures ∙ ap (system_by g.M.MemoryModel.BUFFERED g.M.MemoryModel.bound c.args.code.now) c.in_ok-paths.ensures.paths
