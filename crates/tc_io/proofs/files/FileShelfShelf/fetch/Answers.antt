use Rattle.std.proofs.Common.{rules, length}
use Rattle.tc_io.proofs.files.FileShelfShelf.fetch.Goals as goal
use Rattle.tc_io.proofs.files.FileShelfShelf.fetch.Goals.{in-Ok-open, in-Err}

pub returns-in-Err-Failed-clause-failed : goal.returns-in-Err-Failed-clause-failed
returns-in-Err-Failed-clause-failed g c _ =
    elim c.match-open.branch [
      | in-Ok-open w ↦ (let gave = w.read_up_to-answer.ensures.gave in (length gave.bytes, (gave.most, tt), search rules))
      | in-Err w ↦ (0, (search rules, tt), search rules)
    ]

pub returns-in_default-answer-clause-memory : goal.returns-in_default-answer-clause-memory
returns-in_default-answer-clause-memory g c _ =
    elim c.match-open.branch [
      | in-Ok-open w ↦ (let gave = w.read_up_to-answer.ensures.gave in (length gave.bytes, (gave.most, tt), search rules))
      | in-Err w ↦ (0, (search rules, tt), search rules)
    ]
