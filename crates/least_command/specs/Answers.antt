-- The headline: what `solve --least` answers to files that are known.
use Rattle.std.specs.Prelude.{◌≡◌, ◌⊎◌, ℕ, List, Option, Some}
use Rattle.least_switch.specs.clap_solve.Clauses.{bound_of}
use Rattle.least_switch.specs.Least.{IsLeastAnswer}
use Rattle.least_switch.specs.declared.answer.Least.{Least as Minimum}
use Rattle.least_switch.specs.declared.answer.Least.TheVariants.{Found, Impossible, Spent, SpentAt}
use Rattle.refute_check.specs.declared.line.Line.{Line}
use Rattle.schedule_file.specs.declared.schedule.Schedule.{Schedule}
use Rattle.store_buffers.specs.Buffers.{buffer_of}
use Rattle.tc_io.specs.Outside.{Files, Wrote}
use Rattle.command_frame.specs.ByStatus.{IsStatus}
use Rattle.command_frame.specs.End.{End}
use Rattle.command_frame.specs.Keeps.{put_all}
use Rattle.command_inputs.specs.command_ends.Ends.{AreShort, Declines, HasDeclined}
use Rattle.log_tasks.specs.Asked.{IsRefused, TaskOf, inputs_of}
use Rattle.log_tasks.specs.Tasks.{model_of}
use Rattle.log_tasks.specs.Texts.{IsTextOf}
use Rattle.least_command.specs.Calls.{Least, keeps_of}
use Rattle.least_command.specs.Meanings.{IsSecond, answer_in, least_said}

module _ (call : Least) (files : Files) (e : End) where
  -- this is a right answer for the log under the memory model that is meant; OUT holds its first
  -- text and REFUTATION the second, if any; all else is as before, and its line was put
  abbrev pub Leaves : TaskOf call.asked files → Minimum → Type 0
  Leaves t x =
      let model = model_of call.asked.model t.pair in
      IsLeastAnswer (buffer_of model) model (bound_of model) t.pair.code t.pair.run.log call.budget
      x
      × (first : List ℕ) × IsTextOf model (answer_in x) first
      × (second : Option (List ℕ)) × IsSecond model x second
      × (e.held ≡ put_all (keeps_of call first second) (Some files))
      × Wrote e.before e.after (least_said call.budget x).1

  -- the answers of `solve --least`
  pub record LeastAnswers : Type 0 where
    -- OUT holds a schedule that reproduces the log with the fewest switches, and REFUTATION shows
    -- that none has fewer
    pub found : e.status ≡ 0
        → (t : TaskOf call.asked files) × (schedule : Schedule) × (count : ℕ)
        × (shown : Option (List Line)) × Leaves t (Found schedule count shown)
    -- no moves reproduce the log; OUT has a refutation, which `check` accepts
    pub impossible : e.status ≡ 1
        → (t : TaskOf call.asked files) × (lines : List Line) × Leaves t (Impossible lines)
    -- the budget of the search for any schedule is spent, and OUT has an open refutation
    pub spent : e.status ≡ 10
        → (t : TaskOf call.asked files)
        × (((lines : List Line) × Leaves t (Spent lines))
        -- or that of one for fewer switches: OUT has a schedule, REFUTATION an open refutation
        ⊎ ((schedule : Schedule) × (count : ℕ) × (lines : List Line)
        × Leaves t (SpentAt schedule count lines)))
    -- a program and a log that go together are searched, but for devices and memory
    pub searched : TaskOf call.asked files → AreShort (inputs_of call.asked) files
        → (e.status ≡ 0) ⊎ (e.status ≡ 1) ⊎ IsStatus e.status 10
    -- the first file that is too long is told, or else why the files aren't searched
    pub declines : Declines (inputs_of call.asked) (IsRefused call.asked files) files e
    -- no others
    pub alone : (e.status ≡ 0) ⊎ (e.status ≡ 1) ⊎ (e.status ≡ 10)
        ⊎ HasDeclined (inputs_of call.asked) (IsRefused call.asked files) files e
