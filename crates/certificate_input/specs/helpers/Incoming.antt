-- A certificate while it is read.
use Rattle.std.specs.Prelude.{◌≡◌, ℕ, ◌+◌, Bool, true, false, List, [], length, IfSome, ⊤, IsTrue, ◌&&◌, if◌then◌else◌}
use Rattle.std.specs.List.{fold}
use Rattle.run_log.specs.Logs.{Log}
use Rattle.tc_code.specs.Code.{Code}
use Rattle.refute_check.specs.Refutations.{Checking, IsClosed, start, state_after_line}
use Rattle.refute_check.specs.declared.line.Line.{Line}
use Rattle.certified_logs.specs.find_failures.clap_solve.Clauses.{model_clauses}
use Rattle.certified_logs.specs.find_failures.clap_solve.Solved.{IsWithin}
use Rattle.certified_logs.specs.find_failures.LeftOut.{is_over}
use Rattle.log_walk.specs.declared.bounds.LeftOut.{LeftOut}
use Rattle.none_certificates.specs.Certificates.{is_header}
use Rattle.none_certificates.specs.Texts.{header_text, IsNoHeader, IsNoLogLine}
use Rattle.none_certificates.specs.declared.header.Header.{Header}
use Rattle.certified_logs.specs.Logs.{IsNext}
use Rattle.certified_logs.specs.Places.{IsAt, IsOf}
use Rattle.certified_logs.specs.declared.place.Place.{Place}
use Rattle.certificate_input.specs.Cuts.{cut, HasHeader, IsLine}
use Rattle.certificate_input.specs.Wrong.{IsWrong}
use Rattle.certificate_input.specs.declared.checks.Checks.{Checks}
use Rattle.certificate_input.specs.declared.incoming.Incoming.{Incoming}
use Rattle.certificate_input.specs.declared.incoming.Stage.{Stage}
use Rattle.certificate_input.specs.declared.incoming.Stage.TheVariants.{Begins, Follows, Ends}
use Rattle.certificate_input.specs.declared.verdict.Verdict.{Verdict}
use Rattle.certificate_input.specs.declared.verdict.Verdict.TheVariants as verdict
use Rattle.certificate_input.specs.declared.wrong.Wrong.{Wrong}
use Rattle.certificate_input.specs.declared.wrong.Wrong.TheVariants.{Refused, Form, Limit}

module _ (code : Code) (h : Header) where
  -- a checker after some lines of a refutation of the log at a place
  pub record IsFollowing (p : Place) (c : Checking) : Type 0 where
    pub log : Log
    pub of : IsOf h p log
    pub within : IsWithin code log
    pub lines : List Line
    pub follows : c ≡ fold state_after_line (start (model_clauses h.model code log)) lines

  -- the next log isn't refuted
  pub record IsUnrefuted : Type 0 where
    pub log : Log
    pub next : IsNext code h log
    pub lines : List Line
    pub unclosed : IsClosed (model_clauses h.model code log) lines → ⊥

-- what is known between two lines
pub record IsChecking (code : Code) (c : Checks) : Type 0 where
  pub at : IsAt code c.header c.place
  pub follows : IfSome c.checker (IsFollowing code c.header c.place)

-- what is wrong with a line that isn't the line of the log that is wanted
abbrev pub IsWrongLog : List ℕ → Wrong → Type 0
IsWrongLog line Refused = ⊤
IsWrongLog line Form = IsNoLogLine line
IsWrongLog line (Limit which n limit) = ⊥

-- this is wrong with a line
abbrev pub IsWrongLine : Code → Header → List ℕ → Wrong → Type 0
IsWrongLine code h line wrong =
    (bytes : List ℕ) (number : ℕ) → HasHeader bytes h
    → IsLine bytes number line → IsWrong code bytes number wrong

module _ (code : Code) (bytes : List ℕ) where
  -- what is known between two lines, after these bytes
  pub record IsBetween (rest : List ℕ) (number : ℕ) (c : Checks) : Type 0 where
    pub lines : List (List ℕ)
    pub is_cut : cut bytes ≡ record { lines = lines; rest = rest }
    pub counted : number ≡ length lines + 1
    pub has : HasHeader bytes c.header
    pub checking : IsChecking code c

  -- the stage after these bytes, with this unfinished line
  abbrev pub IsStage : (rest : List ℕ) → ℕ → Stage → Type 0
  IsStage rest number Begins =
      (cut bytes ≡ record { lines = []; rest = rest }) × (number ≡ 1)
  IsStage rest number (Follows c) = IsBetween rest number c
  IsStage rest number (Ends n wrong) = IsWrong code bytes n wrong

-- the stage after the first line
abbrev pub IsBegun : Code → List ℕ → Stage → Type 0
IsBegun code line Begins = ⊥
IsBegun code line (Follows c) =
    (header_text c.header ≡ line) × IsTrue (is_header c.header) × IsChecking code c
IsBegun code line (Ends n wrong) = (n ≡ 1) × (wrong ≡ Form) × IsNoHeader line

-- a stage at which a line may be taken
abbrev pub IsTaking : Code → Stage → Type 0
IsTaking code (Follows c) = IsChecking code c
IsTaking code stage = ⊤

-- the stage after another line, of this number
abbrev pub IsTaken : Code → ℕ → List ℕ → Stage → Stage → Type 0
IsTaken code number line (Follows c) Begins = ⊥
IsTaken code number line (Follows c) (Follows d) = (d.header ≡ c.header) × IsChecking code d
IsTaken code number line (Follows c) (Ends n wrong) =
    (n ≡ number) × IsWrongLine code c.header line wrong
IsTaken code number line old new = new ≡ old

-- the verdict on a certificate with a wrong line
abbrev pub ended : ℕ → Wrong → Verdict
ended n Refused = verdict.LineRefused n
ended n Form = verdict.Form n
ended n (Limit which count limit) = verdict.Limit which count limit

-- the verdict on one whose logs are all refuted, except those left out
abbrev pub judged : Header → LeftOut → Verdict
judged h out = if is_over out then verdict.LeftOut out
    else (if h.whole && out.outcomes then verdict.LineRefused 1 else verdict.Holds h)

-- the state after these bytes
abbrev pub IsRead : Incoming → List ℕ → Type 0
IsRead s bytes = IsStage s.code bytes s.unfinished.items s.line s.stage

-- whether nothing more is read
abbrev pub has_ended : Stage → Bool
has_ended (Ends n wrong) = true
has_ended _ = false

-- whether the header isn't complete
abbrev pub begins : Stage → Bool
begins Begins = true
begins _ = false
