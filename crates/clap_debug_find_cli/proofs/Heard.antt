-- Without memory for the words, the command that they ask for has run as one without memory.
use Rattle.std.proofs.Common.{inl, inr, refl, ℕ, Option, Some, None}
use Rattle.tc_io.specs.Outside.{ShelfTells, SinkTells}
use Rattle.command_frame.specs.Answers.{NoMemory, SaysNoMemory}
use Rattle.command_frame.specs.Meaning.{Meaning}
use Rattle.command_frame.specs.Run.{Runs}
use Rattle.command_frame.proofs.AllRuns.{every_run}
use Rattle.certificate_check.specs.Meanings.{check_of}
use Rattle.find_command.specs.Meanings.{search_of}
use Rattle.clap_debug_find_words.specs.Calls.{Called, Searches, Checks}
use Rattle.clap_debug_find_cli.specs.Call.{Does, RunsCall}

module _ (old : ShelfTells) (status : ℕ) (before after : SinkTells) (says : SaysNoMemory status before after) where
  without_memory : {A : Type 0} (m : Meaning A) → Runs m old old status before after
  without_memory m = every_run m old old NoMemory status before after (refl, inl refl) (inr (inr says))

  unheard_call : (call : Called) → RunsCall call old old status before after
  unheard_call (Searches search) = without_memory (search_of search)
  unheard_call (Checks check) = without_memory (check_of check)

  pub unheard : (asked : Option Called) → Does asked old old status before after
  unheard (Some call) = unheard_call call
  unheard None = (refl, inr (inr says))
