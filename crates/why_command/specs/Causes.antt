-- What comes of a program, a log and a refutation of all schedules.
use Rattle.std.specs.Prelude.{◌≡◌, ℕ, List, [], ◌∷◌, Option, Some, None, Result, Ok, Err, Bool, false, is_some, if◌then◌else◌}
use Rattle.clap_solve.specs.Clauses.{bound_of}
use Rattle.refute_check.specs.Reading.{ReadsTo, beginning}
use Rattle.refute_check.specs.Refutations.{check}
use Rattle.refute_check.specs.declared.text.Taken.{Taken}
use Rattle.refute_check.specs.declared.text.Taken.TheVariants.{Header}
use Rattle.store_buffers.specs.Buffers.{buffer_of}
use Rattle.why_impossible.specs.Explained.{IsClosedFor}
use Rattle.why_impossible.specs.declared.reason.Reason.{Reason}
use Rattle.command_frame.specs.Inputs.{Texts}
use Rattle.command_inputs.specs.declared.refusal.Refusal.{Refusal}
use Rattle.log_tasks.specs.Tasks.{Task}
use Rattle.refutation_verdicts.specs.Causes.{IsUnjudged}
use Rattle.refutation_verdicts.specs.Refutations.{Refutation, clauses_under}
use Rattle.refutation_verdicts.specs.Verdicts.{IsVerdict}
use Rattle.refutation_verdicts.specs.declared.verdict.Verdict.{Verdict}

-- a refutation of all schedules: its header names no number of switches
pub record Plain (bytes : List ℕ) : Type 0 where
  pub refutation : Refutation bytes
  pub plain : refutation.head.switches ≡ None

-- whether a line is a header that names a number of switches
abbrev pub counts_switches : Taken → Bool
counts_switches (Header head) = is_some head.switches
counts_switches _ = false

-- the first line that breaks the form, if a header may name no number of switches
abbrev pub first_broken : List Taken → Option ℕ → Option ℕ
first_broken (line ∷ _) broken = if counts_switches line then Some 1 else broken
first_broken [] broken = broken

-- this line, from 1, is the first that breaks the form of a refutation of all schedules
abbrev pub IsBrokenAt : List ℕ → ℕ → Type 0
IsBrokenAt bytes line = (taken : List Taken) × (broken : Option ℕ)
    × ReadsTo beginning bytes taken broken × (first_broken taken broken ≡ Some line)

-- the refutation is closed on the log's clauses for these reasons
abbrev pub AreReasons : {program log bytes : List ℕ} → Task program log → Plain bytes
    → List Reason → Type 0
AreReasons t r reasons =
    let model = r.refutation.head.model in
    IsClosedFor (buffer_of model) (bound_of model) t.pair.code t.pair.run.log
    r.refutation.lines reasons

-- the verdict of `why`, or why there is none
abbrev pub IsExplained : (program log refutation : List ℕ) → Result (Verdict (List Reason)) Refusal
    → Type 0
IsExplained program log refutation (Ok v) = (t : Task program log) × (r : Plain refutation)
    × IsVerdict (AreReasons t r) (check (clauses_under t r.refutation) r.refutation.lines) v
IsExplained program log refutation (Err why) =
    IsUnjudged program log (Plain refutation) (IsBrokenAt refutation) why

-- the same of the bytes of inputs
abbrev pub Explains : Texts → Result (Verdict (List Reason)) Refusal → Type 0
Explains (program ∷ log ∷ refutation ∷ []) outcome = IsExplained program log refutation outcome
Explains _ outcome = ⊥
