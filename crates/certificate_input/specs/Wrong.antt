-- Lines that a certificate doesn't go on with.
use Rattle.std.specs.Prelude.{◌≡◌, ℕ, List, ◌∷◌, [], ◌++◌, Err}
use Rattle.run_log.specs.Logs.{Log}
use Rattle.tc_code.specs.Code.{Code}
use Rattle.refute_check.specs.Refutations.{IsClosed, check}
use Rattle.refute_check.specs.declared.line.Line.{Line}
use Rattle.refute_check.specs.declared.verdict.CheckFault.{CheckFault}
use Rattle.clap_system.specs.Faults.{IsBuildFault}
use Rattle.clap_system.specs.declared.fault.BuildFault.TheVariants as build
use Rattle.certified_logs.specs.find_failures.clap_solve.Clauses.{model_clauses}
use Rattle.log_walk.specs.declared.bounds.LeftOut.{LeftOut}
use Rattle.none_certificates.specs.Texts.{log_text, IsNoHeader, IsNoLogLine}
use Rattle.none_certificates.specs.declared.header.Header.{Header}
use Rattle.certified_logs.specs.Logs.{line_of, AllAreRefuted, IsNext}
use Rattle.certificate_input.specs.Cuts.{HasHeader, IsLine, IsTextOf}
use Rattle.certificate_input.specs.declared.wrong.Wrong.{Wrong}
use Rattle.certificate_input.specs.declared.wrong.Wrong.TheVariants.{Refused, Form, Limit}

module _ (code : Code) (h : Header) where
  -- why a line is refused, by the next log, of which the lines before don't show that no moves
  -- reproduce it
  pub data IsRefused (line : List ℕ) : Type 0 where
    -- the lines before don't refute that log, and this one isn't of its refutation
    Open : (log : Log) (lines : List Line) → IsNext code h log
        → (IsClosed (model_clauses h.model code log) lines → ⊥) → IsRefused line
    -- it isn't the line of that log
    Other : (log : Log) → IsNext code h log → (log_text (line_of log) ≡ line → ⊥) → IsRefused line
    -- there is no next log
    NoMore : (out : LeftOut) → AllAreRefuted code h out → IsRefused line
    -- it doesn't pass as a line of that log's refutation
    Fails : (log : Log) (lines : List Line) (l : Line) (fault : CheckFault) → IsNext code h log
        → IsTextOf line l → check (model_clauses h.model code log) (lines ++ l ∷ []) ≡ Err fault
        → IsRefused line

-- why a line breaks the form of a certificate
pub data IsMalformed (bytes : List ℕ) (number : ℕ) : Type 0 where
  -- the first one isn't a header
  NoHeader : (line : List ℕ) → IsLine bytes number line → IsNoHeader line
      → IsMalformed bytes number
  -- it isn't the line of a log
  NoLog : (line : List ℕ) → IsLine bytes number line → IsNoLogLine line
      → IsMalformed bytes number
  -- it isn't a line of a refutation, or no log is before it
  NoLine : (line : List ℕ) → IsLine bytes number line → ((l : Line) → IsTextOf line l → ⊥)
      → IsMalformed bytes number

-- what is wrong with the line of this number, the first that is wrong
abbrev pub IsWrong : Code → (bytes : List ℕ) → ℕ → Wrong → Type 0
IsWrong code bytes number Refused =
    (h : Header) × (line : List ℕ) × HasHeader bytes h × IsLine bytes number line
    × IsRefused code h line
IsWrong code bytes number Form = IsMalformed bytes number
IsWrong code bytes number (Limit which n limit) =
    (h : Header) × (log : Log) × HasHeader bytes h × IsNext code h log
    × IsBuildFault code log (build.Limit which n limit)
