-- The clauses made of the parts of a log's system, and what a derivation over them proves.
use Rattle.std.proofs.Common.{◌≡◌, ◌≢◌, ◌∙◌, ◌≤◌, Bool, List, [], Result, Err, ap, arith, refl, sym, subst}
use Rattle.std.specs.Prelude.{if◌then◌else◌}
use Rattle.std.specs.List.{All}
use Rattle.run_log.specs.Logs.{Log}
use Rattle.schedule_file.specs.tc_limits.declared.limits.TheConstants.{EVENTS, OPERATORS, STEPS}
use Rattle.tc_code.specs.Code.{Code}
use Rattle.tc_code.specs.Lawful.{IsLawful}
use Rattle.store_buffers.specs.Pending.{Binding}
use Rattle.path_walk.specs.Fits.{Fits}
use Rattle.path_walk.specs.Paths.{ArePaths}
use Rattle.first_run.specs.lawful_order.Whole.{IsExecutedBy}
use Rattle.first_run.proofs.order_events.Whole.{whole}
use Rattle.cnf_core.specs.Clauses.{Formula}
use Rattle.bit_blast.specs.Blasted.{Blasted, impossible}
use Rattle.refute_check.specs.Refutations.{check}
use Rattle.refute_check.specs.declared.line.Line.{Line}
use Rattle.refute_check.specs.declared.verdict.CheckFault.{CheckFault}
use Rattle.refute_check.specs.declared.verdict.CheckFault.TheVariants as fault
use Rattle.refute_check.specs.declared.verdict.Checked.{Checked}
use Rattle.clap_system.specs.Faults.{IsShallow}
use Rattle.clap_system.specs.Ready.{IsSound}
use Rattle.clap_system.specs.Systems.{System, system_of}
use Rattle.clap_system.proofs.read_write.Numbers.{access_of}
use Rattle.clap_system.proofs.sym_events.Whole.{is_executed}
use Rattle.clap_solve.specs.Clauses.{blasted_by, clauses_of}
use Rattle.clap_solve.specs.Faults.{IsCheckImpossibleFault}
use Rattle.clap_solve.specs.Posed.{Posed, posed_of}
use Rattle.clap_solve.specs.Solved.{IsWithin}
use Rattle.clap_solve.specs.helpers.Draftable.{IsDraftable}
use Rattle.clap_solve.specs.helpers.From.{from_check}
use Rattle.clap_solve.proofs.Meaning.{posed}
use Rattle.clap_solve.proofs.Room.{clauses_have_room}

-- the log of a system that was built is within the limits
pub within_by : (buffered : Bool) (bound : Binding) (code : Code) (log : Log) (s : System) → s ≡ system_of buffered bound code log → IsShallow log
    → Fits code log → s.paths.events ≤ EVENTS → s.paths.operators ≤ OPERATORS → IsWithin code log
within_by buffered bound code log s of shallow fits events operators = record {
  shallow = shallow;
  fits = fits;
  events = subst (λ (t : System). t.paths.events ≤ EVENTS) of events;
  operators = subst (λ (t : System). t.paths.operators ≤ OPERATORS) of operators;
}

-- what the code relies on holds for the system of such a log
draftable : (buffered : Bool) (bound : Binding) (code : Code) (log : Log) → IsLawful code → IsWithin code log
    → All (λ t. t.path.steps ≤ STEPS) log.threads → IsSound (system_of buffered bound code log) → IsDraftable (system_of buffered bound code log)
draftable buffered bound code log lawful within steps sound =
    let s : System = system_of buffered bound code log in
    let are : ArePaths code s.paths = record { log = log; fits = within.fits; are = refl } in
    let done : IsExecutedBy s.paths s.symbolic = is_executed code s.paths [] are in
    record {
      sound = sound;
      constants = (posed buffered bound code log lawful within).ints;
      events = omega (arith, (whole code s.paths are).counted, within.events);
      loads = λ a l i takes. done.takes a.thread a.it l (access_of s.symbolic a i) takes;
      room = clauses_have_room buffered bound code log within steps;
    }

-- and so for that of its parts
pub draftable_by : (buffered : Bool) (bound : Binding) (code : Code) (log : Log) (s t : System) → s ≡ t → t ≡ system_of buffered bound code log
    → IsLawful code → IsWithin code log → All (λ t. t.path.steps ≤ STEPS) log.threads → IsSound t → IsDraftable s
draftable_by buffered bound code log s t same of lawful within steps sound =
    subst IsDraftable (sym (same ∙ of)) (draftable buffered bound code log lawful within steps (subst IsSound of sound))

-- a system with its clauses
abbrev with_clauses : System → Blasted → Posed
with_clauses s b = record { paths = s.paths; symbolic = s.symbolic; nodes = s.nodes; formula = s.formula; blasted = b }

pub posed_by : (buffered : Bool) (bound : Binding) (code : Code) (log : Log) (s : System) (b : Blasted) → s ≡ system_of buffered bound code log
    → b ≡ (if s.paths.dead then impossible else blasted_by code s) → with_clauses s b ≡ posed_of buffered bound code log
posed_by buffered bound code log s b of is =
    ap (with_clauses s) is ∙ ap (λ (t : System). with_clauses t (if t.paths.dead then impossible else blasted_by code t)) of

-- the borrowed clauses are the log's
pub own_clauses : (buffered : Bool) (bound : Binding) (code : Code) (log : Log) (p : Posed) (f : Formula) → f ≡ p.blasted.clauses
    → p ≡ posed_of buffered bound code log → f ≡ clauses_of buffered bound code log
own_clauses buffered bound code log p f is of = is ∙ ap (λ (q : Posed). q.blasted.clauses) of

module _ (buffered : Bool) (bound : Binding) (code : Code) (log : Log) (lines : List Line) (f : Formula) (own : f ≡ clauses_of buffered bound code log) where
  -- the verdict on the derivation over these clauses
  abbrev told : Result Checked CheckFault → Type 0
  told verdict = verdict ≢ Err fault.Memory → verdict ≡ check f lines

  told_here : (verdict : Result Checked CheckFault) → told verdict → verdict ≢ Err fault.Memory → check (clauses_of buffered bound code log) lines ≡ verdict
  told_here verdict is not = ap (λ (g : Formula). check g lines) (sym own) ∙ sym (is not)

  -- a fault of the check is a fault here
  pub check_cause : (why : CheckFault) → IsWithin code log → told (Err why) → IsCheckImpossibleFault buffered bound code log lines (from_check why)
  check_cause (fault.NoVariable n) within is = (λ e. cc, within, told_here (Err (fault.NoVariable n)) is (λ e. cc))
  check_cause (fault.NoClause n) within is = (λ e. cc, within, told_here (Err (fault.NoClause n)) is (λ e. cc))
  check_cause (fault.Hint n) within is = (λ e. cc, within, told_here (Err (fault.Hint n)) is (λ e. cc))
  check_cause (fault.NoConflict n) within is = (λ e. cc, within, told_here (Err (fault.NoConflict n)) is (λ e. cc))
  check_cause fault.Memory within is = tt
