use Rattle.tc_tree.specs.Words.{words_of}
use Rattle.next_tokens.proofs.Stops.{program_by}
use Rattle.next_tokens.proofs.stuck.is_program.Goals as goal

pub returns : goal.returns
returns c = program_by (words_of 4 c.args.text.now c.args.tokens.now) c.in_ok-left.left c.is_none.result c.is_none.ensures c.in_ok-left.ensures
