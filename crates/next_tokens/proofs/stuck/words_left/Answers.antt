use Rattle.tc_tree.specs.Seen.{program_of}
use Rattle.next_tokens.proofs.stuck.words_left.Goals as goal
use Rattle.next_tokens.proofs.stuck.words_left.Goals.{in-Ok, in-Err-Memory, in-Err-Left}

pub returns : goal.returns
returns c = elim c.match-read_program.branch [
  | in-Ok w ↦ rw w.result-is (program_of w.in-Ok.field-0, w.in-Ok.ensures)
  | in-Err-Memory w ↦ rw w.result-is tt
  | in-Err-Left w ↦ rw w.result-is (rw w.in-Err-Left.field-0-is at w.in-Err-Left.ensures)
]
