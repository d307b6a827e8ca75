-- From a run of `workload` to its answers.
use Rattle.std.proofs.Common.{◌≡◌, ◌∙◌, ◌⊎◌, inl, inr, ap, refl, sym, subst, ℕ, [], Bool, true, false, Some, IfSome}
use Rattle.std.specs.Prelude.{if◌then◌else◌}
use Rattle.tc_code.specs.Code.{Code}
use Rattle.tc_compile.specs.Programs.{IsCodeOf, IsRefusal}
use Rattle.tc_compile.proofs.OnePrograms.{one_code, one_refusal, refused_no_code}
use Rattle.tc_io.specs.Outside.{Files, ShelfTells, SinkTells}
use Rattle.tc_compile.specs.tc_parser.declared.fault.TextFault.{TextFault}
use Rattle.command_inputs.specs.command_ends.Ends.{HasDeclined}
use Rattle.command_inputs.proofs.command_ends.Ended.{declines, reported, reported_or_declined, result_at}
use Rattle.command_frame.specs.Answers.{number_of}
use Rattle.command_frame.specs.ByStatus.{IsStatus}
use Rattle.command_frame.specs.End.{End}
use Rattle.command_frame.specs.Run.{Runs}
use Rattle.command_frame.specs.declared.status.Status.TheVariants.{Done, Open}
use Rattle.command_frame.proofs.AllRuns.{if_told}
use Rattle.command_inputs.specs.declared.refusal.Refusal.{Refusal}
use Rattle.command_inputs.specs.declared.refusal.Refusal.TheVariants.{Program, Log, LogOver, Schedule, Refutation, Answer}
use Rattle.log_tasks.specs.Refused.{HasNoClauses}
use Rattle.log_tasks.proofs.Clauses.{one_reason, reason_or_within}
use Rattle.workload_command.specs.Answers.{WorkloadAnswers}
use Rattle.workload_command.specs.Lines.{has_spent}
use Rattle.workload_command.specs.Meanings.{ComesTo, report_of, workload_of}
use Rattle.workload_command.specs.Works.{IsSearched, IsUnworked, Workload, log_of, program_of}

none_spent : (b : Bool) → (if b then Open else Done) ≡ Done → b ≡ false
none_spent true e = cc
none_spent false e = refl

some_spent : (b : Bool) → (if b then Open else Done) ≡ Open → b ≡ true
some_spent true e = refl
some_spent false e = cc

number_in : (b : Bool) (n : ℕ) → n ≡ number_of (if b then Open else Done) → (n ≡ 0) ⊎ (n ≡ 10)
number_in true n e = inr e
number_in false n e = inl e

module _ (call : Workload) where
  abbrev IsClauseless : Refusal → Type 0
  IsClauseless r = (code : Code) × IsCodeOf (program_of call) code × HasNoClauses code (log_of call) r

  abbrev IsNoProgram : Refusal → Type 0
  IsNoProgram r = (fault : TextFault) × (r ≡ Program fault) × IsRefusal (program_of call) fault

  -- the text isn't a program, or the log has no clauses
  split : (r : Refusal) → IsUnworked call r → IsNoProgram r ⊎ IsClauseless r
  split (Program fault) f = inl (fault, refl, f)
  split (Log l) f = inr f
  split (LogOver part n) f = inr f
  split (Schedule n) f = inr f
  split (Refutation n) f = inr f
  split (Answer n) f = inr f

  one_of : (r q : Refusal) → IsNoProgram r ⊎ IsClauseless r → IsNoProgram q ⊎ IsClauseless q → r ≡ q
  one_of r q (inl f) (inl g) = f.1 ∙ ap (λ x. Program x) (one_refusal (program_of call) f.0 g.0 f.2 g.2) ∙ sym g.1
  one_of r q (inl f) (inr g) = absurd (refused_no_code (program_of call) f.0 g.0 f.2 g.1)
  one_of r q (inr f) (inl g) = absurd (refused_no_code (program_of call) g.0 f.0 g.2 f.1)
  one_of r q (inr f) (inr g) =
      one_reason f.0 (log_of call) r q f.2 (subst (λ c. HasNoClauses c (log_of call) q) (one_code (program_of call) g.0 f.0 g.1 f.1) g.2)

  -- there is one reason
  one_unworked : (r q : Refusal) → IsUnworked call r → IsUnworked call q → r ≡ q
  one_unworked r q f g = one_of r q (split r f) (split q g)

  -- and none if the log is searched
  unworked_or_searched : (code : Code) → IsSearched call code → (r : Refusal) → IsUnworked call r → ⊥
  unworked_or_searched code s r f = elim (split r f) [
    | inl w ↦ refused_no_code (program_of call) w.0 code w.2 s.programs
    | inr w ↦
        reason_or_within code (log_of call) r
        (subst (λ c. HasNoClauses c (log_of call) r) (one_code (program_of call) w.0 code w.1 s.programs) w.2) s.within
  ]

module _ (call : Workload) (files : Files) (old new : ShelfTells) (number : ℕ) (j k : SinkTells) (told : old.held ≡ Some files)
    (runs : Runs (workload_of call) old new number j k) where
  abbrev e : End
  e = record { status = number; held = new.held; before = j; after = k }

  complete_at : (code : Code) → IsSearched call code → (number ≡ 0) ⊎ IsStatus number 10
  complete_at code s =
      elim (reported [] (ComesTo call) (report_of call) files old new number j k told runs tt (unworked_or_searched call code s)) [
        | inl x ↦ elim (number_in (has_spent x.0) number x.1.status) [
          | inl zero ↦ inl zero
          | inr ten ↦ inr (inl ten)
        ]
        | inr fault ↦ inr (inr fault)
      ]

  others_at : (number ≡ 0) ⊎ (number ≡ 10) ⊎ HasDeclined [] (IsUnworked call) files e
  others_at = elim (reported_or_declined [] (ComesTo call) (report_of call) files old new number j k told runs) [
    | inl x ↦ elim (number_in (has_spent x.0) number x.1.status) [
      | inl zero ↦ inl zero
      | inr ten ↦ inr (inl ten)
    ]
    | inr declined ↦ inr (inr declined)
  ]

  answers : WorkloadAnswers call files e
  answers = record {
    decided = λ is.
        let x = result_at [] (ComesTo call) (report_of call) files old new number j k told runs Done tt is in
        (x.0, none_spent (has_spent x.0) x.1, (x.2.comes, (x.2.held, x.2.wrote)));
    spent = λ is.
        let x = result_at [] (ComesTo call) (report_of call) files old new number j k told runs Open tt is in
        (x.0, some_spent (has_spent x.0) x.1, (x.2.comes, (x.2.held, x.2.wrote)));
    complete = complete_at;
    declines =
        declines [] (ComesTo call) (report_of call) files old new number j k told runs (one_unworked call)
        (λ r x f w. unworked_or_searched call w.0 w.1 r f);
    others = others_at;
  }

-- where the shelf tells what it holds
pub by_files : (call : Workload) (old new : ShelfTells) (number : ℕ) (j k : SinkTells) → Runs (workload_of call) old new number j k
    → IfSome old.held (λ files. WorkloadAnswers call files (record { status = number; held = new.held; before = j; after = k }))
by_files call old new number j k runs =
    if_told old.held (λ files. WorkloadAnswers call files (record { status = number; held = new.held; before = j; after = k }))
    (λ files is. answers call files old new number j k is runs)
