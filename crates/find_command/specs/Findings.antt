-- What a search finds in a program.
use Rattle.std.specs.Prelude.{◌≡◌, ℕ, ◌+◌, List, length, map, Option, Some, None, IfSome, IsTrue}
use Rattle.store_buffers.specs.Buffers.{buffer_of}
use Rattle.tc_code.specs.Code.{Code}
use Rattle.tc_compile.specs.Programs.{IsCodeOf}
use Rattle.kept_logs.specs.Digests.{with_digest}
use Rattle.kept_logs.specs.path_log.Texts.{IsLog, is_of_format}
use Rattle.kept_logs.specs.run_log.Logs.{StoredLog}
use Rattle.log_walk.specs.declared.bounds.LeftOut.{LeftOut}
use Rattle.find_failures.specs.Found.{IsSearched}
use Rattle.find_failures.specs.clap_solve.Clauses.{bound_of}
use Rattle.find_failures.specs.declared.found.Found.{Found}
use Rattle.find_failures.specs.declared.found.Found.TheVariants as found
use Rattle.find_failures.specs.declared.found.Reach.{Reach}
use Rattle.find_failures.specs.declared.found.Reason.{Reason}
use Rattle.find_failures.specs.declared.found.Reason.TheVariants as reason
use Rattle.find_failures.specs.declared.found.Refuted.{Refuted}
use Rattle.find_failures.specs.declared.found.Searched.{Searched}
use Rattle.find_failures.specs.declared.found.Unknown.{Unknown}
use Rattle.certified_logs.specs.none_certificates.Certificates.{Certificate}
use Rattle.certified_logs.specs.none_certificates.Texts.{certificate_text}
use Rattle.certified_logs.specs.Written.{header_of, refuted_of}
use Rattle.log_limits.specs.Parts.{limit_of, part_left, part_of}
use Rattle.log_limits.specs.declared.part.Part.{Part}
use Rattle.find_command.specs.Calls.{Search}
use Rattle.find_command.specs.declared.finding.Finding.{Finding}
use Rattle.find_command.specs.declared.finding.Finding.TheVariants.{Possible, Never, Spent, TooMany, Over}
use Rattle.find_command.specs.declared.finding.Findings.{Findings}

-- this is the result of a search of the code
abbrev pub IsResult : Search → Code → Searched → Type 0
IsResult call code s =
    IsSearched (buffer_of call.model) (bound_of call.model) code call.model call.asked s

-- the bytes are the text of a log of the program, with its digest
abbrev pub IsLogOf : (program : List ℕ) → StoredLog → (bytes : List ℕ) → Type 0
IsLogOf program log bytes = IsLog bytes (with_digest program log.log)

-- the log that a result has, if any
abbrev pub log_in : Found → Option StoredLog
log_in (found.Possible log) = Some log
log_in (found.Unknown unknown) = Some unknown.log
log_in _ = None

-- it can be written
abbrev pub HasFormat : Found → Type 0
HasFormat f = IfSome (log_in f) (λ log. IsTrue (is_of_format log.log))

-- what is told of logs that were left out
abbrev pub told_left : LeftOut → Finding
told_left out = Over (part_left out) (limit_of (part_left out) + 1)

-- the certificate of a search that ruled out these runs and refuted these logs
abbrev pub certificate_of : Search → Reach → List Refuted → Certificate
certificate_of call reach refuted =
    record { header = header_of call.model call.asked reach; logs = map refuted_of refuted }

-- this is told if runs were ruled out
abbrev pub IsToldNever : Search → List Refuted → Reach → Finding → Type 0
IsToldNever call refuted reach (Never r text) =
    (r ≡ reach) × (text.items ≡ certificate_text (certificate_of call reach refuted))
IsToldNever call refuted reach _ = ⊥

-- the log has this many of these, which are too many
abbrev pub IsOver : Part → (number : ℕ) → Reason → Type 0
IsOver part number (reason.Limit which n limit) = (part ≡ part_of which) × (number ≡ n)
IsOver part number reason.Spent = ⊥

module _ (program : List ℕ) where
  -- this is told of a log of which it isn't known whether it is possible
  abbrev pub IsToldUnknown : Unknown → Finding → Type 0
  IsToldUnknown o (Spent text) =
      (o.reason ≡ reason.Spent) × IsLogOf program o.log text.items
  IsToldUnknown o (Over part number) = IsOver part number o.reason
  IsToldUnknown o _ = ⊥

  -- this is told of a result and the logs that it refuted
  abbrev pub IsToldAs : Search → List Refuted → Found → Finding → Type 0
  IsToldAs call refuted (found.Possible log) (Possible text) = IsLogOf program log text.items
  IsToldAs call refuted (found.Never reach) x = IsToldNever call refuted reach x
  IsToldAs call refuted (found.Unknown unknown) x = IsToldUnknown unknown x
  IsToldAs call refuted found.TooMany x = x ≡ TooMany
  IsToldAs call refuted (found.LeftOut out) x = x ≡ told_left out
  IsToldAs call refuted _ _ = ⊥

  -- these are told of a result
  pub record AreTold (call : Search) (s : Searched) (x : Findings) : Type 0 where
    pub finding : IsToldAs call s.refuted.items s.found x.finding
    pub impossible : x.impossible ≡ length s.refuted.items

  -- a search of the code finds these
  abbrev pub AreFindingsIn : Search → Code → Findings → Type 0
  AreFindingsIn call code x = (s : Searched) × IsResult call code s × AreTold call s x

  -- a search of the program finds these
  abbrev pub AreFindings : Search → Findings → Type 0
  AreFindings call x = (code : Code) × IsCodeOf program code × AreFindingsIn call code x
