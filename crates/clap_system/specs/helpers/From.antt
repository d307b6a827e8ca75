-- Faults of the walk, as faults of the system.
use Rattle.path_walk.specs.declared.fault.WalkFault.{WalkFault}
use Rattle.path_walk.specs.declared.fault.WalkFault.TheVariants as walk
use Rattle.clap_system.specs.declared.fault.BuildFault.{BuildFault}
use Rattle.clap_system.specs.declared.fault.BuildFault.TheVariants.{Walk, Memory}

abbrev pub from_walk : WalkFault → BuildFault
from_walk (walk.Unfit name misfit) = Walk (walk.Unfit name misfit)
from_walk walk.Memory = Memory
