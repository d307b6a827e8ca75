-- From a run of the command that words ask for to its answers to known files.
use Rattle.std.proofs.Common.{ℕ, Option, Some, None, IfSome}
use Rattle.tc_io.specs.Outside.{ShelfTells, SinkTells}
use Rattle.command_frame.specs.End.{End}
use Rattle.certificate_check.proofs.Answered.{by_files as check_answers}
use Rattle.find_command.proofs.Answered.{by_files as search_answers}
use Rattle.clap_debug_find_words.specs.Calls.{Called, Searches, Checks}
use Rattle.clap_debug_find_cli.specs.Call.{Answers, Does, RunsCall}

module _ (old new : ShelfTells) (status : ℕ) (before after : SinkTells) where
  abbrev e : End
  e = record { status = status; held = new.held; before = before; after = after }

  -- the answers of a call, if the shelf tells its files
  abbrev Told : Called → Type 0
  Told call = IfSome old.held (λ files. Answers call files e)

  told_call : (call : Called) → RunsCall call old new status before after → Told call
  told_call (Searches search) runs = search_answers search old new status before after runs
  told_call (Checks check) runs = check_answers check old new status before after runs

  pub told : (asked : Option Called) → Does asked old new status before after → IfSome asked Told
  told (Some call) does = told_call call does
  told None does = tt
