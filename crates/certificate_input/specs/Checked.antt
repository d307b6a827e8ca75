-- What comes of a code and a certificate.
use Rattle.std.specs.Prelude.{◌≡◌, ◌⊎◌, ℕ, ◌+◌, true, List, [], length}
use Rattle.run_log.specs.Logs.{Log}
use Rattle.tc_code.specs.Code.{Code}
use Rattle.refute_check.specs.Refutations.{IsClosed}
use Rattle.refute_check.specs.declared.line.Line.{Line}
use Rattle.certified_logs.specs.find_failures.clap_solve.Clauses.{model_clauses}
use Rattle.certified_logs.specs.find_failures.LeftOut.{is_over}
use Rattle.log_walk.specs.declared.bounds.LeftOut.{LeftOut as Left}
use Rattle.none_certificates.specs.declared.header.Header.{Header}
use Rattle.certified_logs.specs.Logs.{AllAreRefuted, IsNext, NoneRuns}
use Rattle.certificate_input.specs.Cuts.{cut, HasHeader}
use Rattle.certificate_input.specs.Wrong.{IsWrong}
use Rattle.certificate_input.specs.declared.verdict.Verdict.{Verdict}
use Rattle.certificate_input.specs.declared.verdict.Verdict.TheVariants.{Holds, Open, LineRefused, Form, Limit, LeftOut}
use Rattle.certificate_input.specs.declared.wrong.Wrong.TheVariants as wrong

-- the header says that nothing was left out for its outcomes, but the search for logs left some out
pub record IsNotWhole (code : Code) (h : Header) : Type 0 where
  pub whole : h.whole ≡ true
  pub out : Left
  pub cut : out.outcomes ≡ true
  pub done : AllAreRefuted code h out

module _ (code : Code) (bytes : List ℕ) where
  -- the next log isn't refuted by the lines so far
  pub record IsOpen : Type 0 where
    pub header : Header
    pub has : HasHeader bytes header
    pub log : Log
    pub next : IsNext code header log
    pub lines : List Line
    pub unclosed : IsClosed (model_clauses header.model code log) lines → ⊥

  -- a line is refused: what it says is wrong, or the header isn't whole
  pub data IsLineRefused (number : ℕ) : Type 0 where
    ByLine : IsWrong code bytes number wrong.Refused → IsLineRefused number
    ByHeader : (h : Header) → number ≡ 1 → HasHeader bytes h → IsNotWhole code h
        → IsLineRefused number

  -- the last line has no end, or there is no line
  pub record IsUnended (number : ℕ) : Type 0 where
    pub counted : number ≡ length (cut bytes).lines + 1
    pub unended : (cut bytes).rest ≡ [] → (cut bytes).lines ≡ []

  -- the verdict on a certificate
  abbrev pub IsChecked : Verdict → Type 0
  IsChecked (Holds h) = HasHeader bytes h × NoneRuns code h
  IsChecked Open = IsOpen
  IsChecked (LineRefused n) = IsLineRefused n
  IsChecked (Form n) = IsWrong code bytes n wrong.Form ⊎ IsUnended n
  IsChecked (Limit which n limit) =
      (number : ℕ) × IsWrong code bytes number (wrong.Limit which n limit)
  IsChecked (LeftOut out) =
      (h : Header) × HasHeader bytes h × (is_over out ≡ true) × AllAreRefuted code h out
