-- The headline: what `--check` answers to files that are known.
use Rattle.std.specs.Prelude.{◌≡◌, ◌⊎◌, ℕ, List}
use Rattle.tc_code.specs.Code.{Code}
use Rattle.tc_compile.specs.Programs.{IsCodeOf}
use Rattle.tc_io.specs.Outside.{Files, bytes_at}
use Rattle.command_inputs.specs.command_ends.Ends.{AreShort, Declines, HasDeclined}
use Rattle.command_frame.specs.Answers.{IsFaultStatus, number_of}
use Rattle.command_frame.specs.End.{End, LeavesNothing}
use Rattle.none_certificates.specs.declared.header.Header.{Header}
use Rattle.refutation_verdicts.specs.Verdicts.{open_line, refused_line}
use Rattle.certificate_input.specs.certified_logs.Logs.{NoneRuns}
use Rattle.certificate_input.specs.Checked.{IsChecked, IsLineRefused, IsOpen}
use Rattle.certificate_input.specs.Cuts.{HasHeader}
use Rattle.certificate_input.specs.declared.verdict.Verdict.{Verdict}
use Rattle.certificate_check.specs.Lines.{holds_line, verdict_line, verdict_status}
use Rattle.certificate_check.specs.Meanings.{Check, IsUnread, inputs_of}

module _ (call : Check) (files : Files) (e : End) where
  abbrev pub program : List ℕ
  program = bytes_at files call.program

  abbrev pub certificate : List ℕ
  certificate = bytes_at files call.certificate

  -- the file is a program, and this holds of its code
  abbrev pub HasCode : (Code → Type 0) → Type 0
  HasCode P = (code : Code) × IsCodeOf program code × P code

  -- the certificate has this header, and no run ends as it says
  abbrev pub HasNone : Code → Type 0
  HasNone code = (h : Header) × HasHeader certificate h × NoneRuns code h
      × LeavesNothing files e (holds_line h)

  -- the first log of which it isn't shown
  abbrev pub HasOpen : Code → Type 0
  HasOpen code = IsOpen code certificate × LeavesNothing files e open_line

  -- the first line that doesn't pass
  abbrev pub HasWrong : Code → Type 0
  HasWrong code =
      (n : ℕ) × IsLineRefused code certificate n × LeavesNothing files e (refused_line n)

  -- this verdict was told
  abbrev pub HasVerdict : Code → Type 0
  HasVerdict code =
      (v : Verdict) × IsChecked code certificate v × (e.status ≡ number_of (verdict_status v))
      × LeavesNothing files e (verdict_line v)

  -- the answers of `--check`
  pub record CheckAnswers : Type 0 where
    -- no run of the program ends as the certificate says
    pub none : e.status ≡ 0 → HasCode HasNone
    -- a line doesn't pass, or the certificate doesn't refute all logs
    pub wrong : e.status ≡ 1 → HasCode HasWrong
    pub incomplete : e.status ≡ 10 → HasCode HasOpen
    -- with a program that isn't too long a verdict is told, but for devices and memory
    pub checked : (code : Code) → IsCodeOf program code → AreShort (inputs_of call) files
        → HasCode HasVerdict ⊎ IsFaultStatus e.status
    -- a text that isn't a program, or is too long, is told, but for devices and memory
    pub declines : Declines (inputs_of call) (IsUnread program) files e
    -- a verdict was told, or one of these
    pub others : HasCode HasVerdict ⊎ HasDeclined (inputs_of call) (IsUnread program) files e
