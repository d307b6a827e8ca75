-- What `import` is asked.
use Rattle.std.specs.Prelude.{ℕ, ℤ, List, ◌∷◌, [], codes}
use Rattle.dimacs_text.specs.Answers.{IsAnswerWith}
use Rattle.dimacs_text.specs.Faults.{BreaksAt}
use Rattle.tc_io.specs.Outside.{Files, bytes_at}
use Rattle.command_frame.specs.Inputs.{Limit, Wanted, Whole}
use Rattle.command_inputs.specs.Forms.{IsUnread}
use Rattle.command_inputs.specs.Limits.{log_limit, program_limit}
use Rattle.command_inputs.specs.declared.refusal.LogRefusal.TheVariants.{Form}
use Rattle.command_inputs.specs.declared.refusal.Refusal.{Refusal}
use Rattle.command_inputs.specs.declared.refusal.Refusal.TheVariants.{Program, Log, Answer}
use Rattle.log_tasks.specs.Asked.{Asked}
use Rattle.log_tasks.specs.Refused.{IsUnsearched}
use Rattle.log_tasks.specs.Tasks.{Pair, Task}
use Rattle.import_command.specs.declared.answer.TheConstants.{ANSWER_BYTES}
use Rattle.import_command.specs.declared.command.Import.{Import as RawImport}

-- `import PROGRAM LOG ANSWER OUT [--model MODEL]`
pub record Import : Type 0 where
  pub asked : Asked
  pub answer : List ℕ

abbrev pub plain_import : RawImport → Import
plain_import import = record {
  asked = record {
    program = import.inputs.0.0.name.now;
    log = import.inputs.0.1.name.now;
    out = import.out.now;
    model = import.model;
  };
  answer = import.inputs.1.name.now;
}

abbrev pub answer_limit : Limit
answer_limit = record { kind = codes "answer"; most = ANSWER_BYTES }

-- the files that it reads
abbrev pub inputs_of : Import → List Wanted
inputs_of call =
    Whole program_limit call.asked.program ∷ Whole log_limit call.asked.log
    ∷ Whole answer_limit call.answer ∷ []

-- a program and a log that has clauses, and the literals that an answer makes true
pub record Answered (program log answer : List ℕ) : Type 0 where
  pub task : Task program log
  pub literals : List ℤ
  pub reads : IsAnswerWith answer literals

-- Why an answer isn't taken, the first test that fails: the form of the program, of the log and of
-- the answer, and then whether the log is of this program and has clauses.
abbrev pub IsUntaken : (program log answer : List ℕ) → Refusal → Type 0
IsUntaken program log answer (Program fault) = IsUnread program log (Program fault)
IsUntaken program log answer (Log (Form offset)) = IsUnread program log (Log (Form offset))
IsUntaken program log answer (Answer line) = Pair program log × BreaksAt answer line
IsUntaken program log answer why =
    ((literals : List ℤ) × IsAnswerWith answer literals) × IsUnsearched program log why

module _ (call : Import) (files : Files) where
  -- they are a program, a log that has clauses, and an answer
  abbrev pub AnsweredIn : Type 0
  AnsweredIn =
      Answered (bytes_at files call.asked.program) (bytes_at files call.asked.log)
      (bytes_at files call.answer)

  -- they are refused for this reason
  abbrev pub IsRefused : Refusal → Type 0
  IsRefused why =
      IsUntaken (bytes_at files call.asked.program) (bytes_at files call.asked.log)
      (bytes_at files call.answer) why
