use Rattle.tc_tree.specs.Words.{words_of}
use Rattle.next_tokens.proofs.Stops.{begins_by}
use Rattle.next_tokens.proofs.stuck.begins_program.Goals as goal

pub returns : goal.returns
returns c = rw c.unwrap_or.ensures (begins_by (words_of 4 c.args.text.now c.args.tokens.now) c.in_ok-left.left c.in_ok-left.ensures)
