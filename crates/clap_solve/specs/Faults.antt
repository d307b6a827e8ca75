-- Why a derivation proves nothing about a log.
use Rattle.std.specs.Prelude.{◌≡◌, ◌≢◌, Bool, List, Err}
use Rattle.run_log.specs.Logs.{Log}
use Rattle.tc_code.specs.Code.{Code}
use Rattle.store_buffers.specs.Pending.{Binding}
use Rattle.refute_check.specs.Refutations.{check}
use Rattle.refute_check.specs.declared.line.Line.{Line}
use Rattle.refute_check.specs.declared.verdict.CheckFault.TheVariants as check
use Rattle.clap_system.specs.Faults.{IsBuildFault}
use Rattle.clap_system.specs.declared.fault.BuildFault.TheVariants as build
use Rattle.clap_solve.specs.Clauses.{clauses_of}
use Rattle.clap_solve.specs.Solved.{IsWithin}
use Rattle.clap_solve.specs.declared.fault.CheckImpossibleFault.{CheckImpossibleFault}
use Rattle.clap_solve.specs.declared.fault.CheckImpossibleFault.TheVariants.{Build, Check, Memory}

-- what a fault means: the log has no clauses, or the derivation has a fault over them, or no memory
abbrev pub IsCheckImpossibleFault : Bool → Binding → Code → Log → List Line → CheckImpossibleFault
    → Type 0
IsCheckImpossibleFault buffered bound code log lines (Build fault) =
    (fault ≢ build.Memory) × IsBuildFault code log fault
IsCheckImpossibleFault buffered bound code log lines (Check fault) =
    (fault ≢ check.Memory) × IsWithin code log
    × (check (clauses_of buffered bound code log) lines ≡ Err fault)
IsCheckImpossibleFault buffered bound code log lines Memory = Unit {0}
