-- Faults of called functions as faults here.
use Rattle.clap_system.specs.declared.fault.BuildFault.{BuildFault}
use Rattle.clap_system.specs.declared.fault.BuildFault.TheVariants as build
use Rattle.refute_check.specs.declared.verdict.CheckFault.{CheckFault}
use Rattle.refute_check.specs.declared.verdict.CheckFault.TheVariants as check
use Rattle.clap_solve.specs.declared.fault.CheckImpossibleFault.{CheckImpossibleFault}
use Rattle.clap_solve.specs.declared.fault.CheckImpossibleFault.TheVariants.{Build, Check, Memory}

abbrev pub from_build : BuildFault → CheckImpossibleFault
from_build build.Memory = Memory
from_build fault = Build fault

abbrev pub from_check : CheckFault → CheckImpossibleFault
from_check check.Memory = Memory
from_check fault = Check fault
