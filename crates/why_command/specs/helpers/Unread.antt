-- Why bytes aren't a refutation of all schedules, and what a fault over a log's clauses comes to.
use Rattle.std.specs.Prelude.{ℕ, List, Result, Ok, Err}
use Rattle.clap_solve.specs.Solved.{IsWithin}
use Rattle.refute_check.specs.declared.verdict.CheckFault.{CheckFault}
use Rattle.refute_check.specs.declared.verdict.Checked.{Checked}
use Rattle.run_log.specs.Logs.{Log}
use Rattle.tc_code.specs.Code.{Code}
use Rattle.why_impossible.specs.declared.reason.Reason.{Reason}
use Rattle.command_inputs.specs.Forms.{IsWhy}
use Rattle.command_inputs.specs.declared.refusal.Fault.{Fault}
use Rattle.command_inputs.specs.declared.refusal.Refusal.{Refusal}
use Rattle.command_inputs.specs.declared.refusal.Refusal.TheVariants.{Refutation}
use Rattle.log_tasks.specs.Refused.{HasNoClauses}
use Rattle.refutation_verdicts.specs.Verdicts.{IsRefusedAt}
use Rattle.refutation_verdicts.specs.declared.verdict.Verdict.{Verdict}
use Rattle.refutation_verdicts.specs.declared.verdict.Verdict.TheVariants.{LineRefused}
use Rattle.why_command.specs.Causes.{IsBrokenAt}

-- the bytes break the form of a refutation of all schedules
abbrev pub IsUnreadable : List ℕ → Refusal → Type 0
IsUnreadable bytes (Refutation line) = IsBrokenAt bytes line
IsUnreadable bytes _ = ⊥

-- a fault over clauses, where a checker found this of lines: there are no clauses, or a line
-- doesn't pass
abbrev pub IsOfFault : Code → Log → Result Checked CheckFault → Result (Verdict (List Reason)) Fault
    → Type 0
IsOfFault code log found (Ok (LineRefused line)) = IsWithin code log × IsRefusedAt found line
IsOfFault code log found (Ok _) = ⊥
IsOfFault code log found (Err fault) = IsWhy (HasNoClauses code log) fault
