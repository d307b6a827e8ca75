-- The texts of what a search finds.
use Rattle.std.specs.Prelude.{◌≡◌, ℕ, List, None}
use Rattle.schedule_file.specs.declared.schedule.Schedule.{Schedule}
use Rattle.clap_solve.specs.cdcl_core.declared.answer.Answer.{Answer}
use Rattle.clap_solve.specs.cdcl_core.declared.answer.Answer.TheVariants.{Found, Impossible, Spent}
use Rattle.run_log.specs.memory_models.declared.model.Model.{Model}
use Rattle.refute_check.specs.Laws.{IsWhole}
use Rattle.refute_check.specs.Texts.{refutation_text}
use Rattle.refute_check.specs.declared.head.Head.{Head}
use Rattle.refute_check.specs.declared.line.Line.{Line}
use Rattle.command_inputs.specs.Forms.{IsSchedule}

-- the header of a refutation of all schedules, however often they switch threads
abbrev pub head_of : Model → Head
head_of model = record { model = model; switches = None }

-- the bytes are the text of a refutation with this header and these lines
pub record IsRefutation (bytes : List ℕ) (head : Head) (lines : List Line) : Type 0 where
  pub whole : IsWhole head lines
  pub text : bytes ≡ refutation_text head lines

-- the bytes are the text of what a search under this model found: a schedule, or a refutation
abbrev pub IsTextOf : Model → Answer Schedule → List ℕ → Type 0
IsTextOf model (Found schedule) bytes =
    IsSchedule bytes (record { model = schedule.model; moves = schedule.moves.items })
IsTextOf model (Impossible lines) bytes = IsRefutation bytes (head_of model) lines
IsTextOf model (Spent lines) bytes = IsRefutation bytes (head_of model) lines
