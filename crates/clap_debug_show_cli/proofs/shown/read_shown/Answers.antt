use Rattle.std.proofs.Common.{rules}
use Rattle.clap_debug_show_cli.proofs.shown.read_shown.Goals as goal
use Rattle.clap_debug_show_cli.proofs.shown.read_shown.Goals.{then-begins_as_log+in_ok-story, else-begins_as_log+in_ok-story-2}

pub returns-in_err-story-2-clause-fault : goal.returns-in_err-story-2-clause-fault
returns-in_err-story-2-clause-fault c =
    let why = c.in_err-story-2.ensures.fault c.args.program.now in
    search rules

pub returns-clause-shown : goal.returns-clause-shown
returns-clause-shown c = elim c.if-begins_as_log.branch [
  | then-begins_as_log+in_ok-story w ↦
      record { code = c.in_ok-code.ensures.found; story = rw w.story-is w.in_ok-story.ensures.story }
  | else-begins_as_log+in_ok-story-2 w ↦
      record { code = c.in_ok-code.ensures.found; story = rw w.story-is (w.in_ok-story-2.ensures.story c.args.program.now) }
]
