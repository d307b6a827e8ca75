-- The text of a certificate.
use Rattle.std.specs.Prelude.{◌≡◌, ℕ, Bool, if◌then◌else◌, IsTrue, List, ◌++◌, map, Option, None, Some, codes}
use Rattle.std.specs.List.{flat_map}
use Rattle.std.specs.Fmt.{decimal}
use Rattle.memory_models.specs.Models.{model_name}
use Rattle.tc_base.specs.Names.{Name, name_text}
use Rattle.tc_base.specs.Paths.{ThreadPath}
use Rattle.log_walk.specs.declared.bounds.Kind.{Kind}
use Rattle.log_walk.specs.declared.bounds.Kind.TheVariants.{Failure, Deadlock}
use Rattle.refute_check.specs.Texts.{ended, line_text}
use Rattle.none_certificates.specs.Certificates.{LogLine, Refuted, Certificate, is_header, is_log_line}
use Rattle.none_certificates.specs.declared.header.Header.{Header}

-- the word for how the runs end
abbrev pub kind_text : Kind → List ℕ
kind_text Failure = codes "failure"
kind_text Deadlock = codes "deadlock"

-- the word that says whether no log was left out for its number of outcomes
abbrev pub extent_text : Bool → List ℕ
extent_text whole = if whole then codes "whole" else codes "cut"

-- the first line, without its line end
abbrev pub header_text : Header → List ℕ
header_text h =
    codes "clap-none 1 " ++ (model_name h.model ++ (codes " " ++ (kind_text h.bounds.kind
    ++ (codes " " ++ (decimal h.bounds.most ++ (codes " " ++ extent_text h.whole))))))

-- the digit of an outcome
abbrev pub outcome_digit : Bool → ℕ
outcome_digit outcome = if outcome then 49 else 48

-- a thread's name, steps and outcomes
abbrev pub thread_text : ThreadPath → List ℕ
thread_text t =
    name_text t.name ++ (codes ":" ++ (decimal t.path.steps
    ++ (codes ":" ++ map outcome_digit t.path.outcomes)))

-- the threads, each after a space
abbrev pub threads_text : List ThreadPath → List ℕ
threads_text ts = flat_map (λ t. codes " " ++ thread_text t) ts

-- the thread that fails
abbrev pub failing_text : Option Name → List ℕ
failing_text None = codes "stuck"
failing_text (Some n) = name_text n

-- the line of a log, without its line end
abbrev pub log_text : LogLine → List ℕ
log_text l = codes "log " ++ (failing_text l.failing ++ threads_text l.threads)

-- a log and the lines of its refutation
abbrev pub refuted_text : Refuted → List ℕ
refuted_text r = ended (log_text r.log) ++ flat_map (λ l. ended (line_text l)) r.lines

-- the text of a certificate
abbrev pub certificate_text : Certificate → List ℕ
certificate_text c = ended (header_text c.header) ++ flat_map refuted_text c.logs

-- the bytes aren't the text of a header
abbrev pub IsNoHeader : List ℕ → Type 0
IsNoHeader bytes = (h : Header) → IsTrue (is_header h) → header_text h ≡ bytes → ⊥

-- the bytes aren't the text of the line of a log
abbrev pub IsNoLogLine : List ℕ → Type 0
IsNoLogLine bytes = (l : LogLine) → IsTrue (is_log_line l) → log_text l ≡ bytes → ⊥
