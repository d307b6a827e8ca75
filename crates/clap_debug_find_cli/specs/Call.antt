-- What a call of the program does and answers.
use Rattle.std.specs.Prelude.{◌≡◌, ℕ, List, ◌++◌, codes, Option, Some, None, IfSome}
use Rattle.tc_io.specs.Outside.{Files, ShelfTells, SinkTells}
use Rattle.command_frame.specs.Answers.{SaysLine}
use Rattle.command_frame.specs.End.{End}
use Rattle.command_frame.specs.Run.{Runs}
use Rattle.command_frame.specs.declared.status.Status.TheVariants.{Usage}
use Rattle.certificate_check.specs.Answers.{CheckAnswers}
use Rattle.certificate_check.specs.Meanings.{check_of}
use Rattle.find_command.specs.Answers.{SearchAnswers}
use Rattle.find_command.specs.Meanings.{search_of}
use Rattle.clap_debug_find_words.specs.Calls.{Called, Searches, Checks, call_of}

abbrev pub usage_text : List ℕ
usage_text =
    codes "usage: clap_debug_find PROGRAM OUT [--model sc|tso|pso] [--deadlock] [--outcomes N] "
    ++ codes "[--logs K] [--budget B]\n"
    ++ codes "usage: clap_debug_find PROGRAM CERTIFICATE --check\n"

-- the command of a call ran
abbrev pub RunsCall : Called → ShelfTells → ShelfTells → (status : ℕ) → SinkTells → SinkTells
    → Type 0
RunsCall (Searches search) = Runs (search_of search)
RunsCall (Checks check) = Runs (check_of check)

-- the command ran that words ask for; if they ask for none, the usage was put, and nothing else
abbrev pub Does : Option Called → ShelfTells → ShelfTells → (status : ℕ) → SinkTells → SinkTells
    → Type 0
Does (Some call) old new status before after = RunsCall call old new status before after
Does None old new status before after = (new ≡ old) × SaysLine usage_text Usage status before after

-- the answers of the command of a call to known files
abbrev pub Answers : Called → Files → End → Type 0
Answers (Searches search) files e = SearchAnswers search files e
Answers (Checks check) files e = CheckAnswers check files e

-- a fact about a call and the files, if the words ask for one and the shelf tells what it holds
abbrev pub IfTold : List (List ℕ) → Option Files → (Called → Files → Type 0) → Type 0
IfTold words held P = IfSome (call_of words) (λ call. IfSome held (λ files. P call files))
