use Rattle.std.proofs.Common.{false}
use Rattle.tc_tree.specs.Words.{words_after}
use Rattle.tc_tree.proofs.Words.{next, all_found}
use Rattle.tc_tree.proofs.word.words_in_text.Goals as goal

pub loop-word-preserved : goal.loop-word-preserved
loop-word-preserved c =
    let text = c.args.text.now in
    rw (c.is_name-named.ensures, c.is_assigned-assigned.ensures) (next text (words_after text false false c.args.plain.now) c.loop-word.words.items
    c.loop-word.named c.loop-word.assigned c.loop-word.rest.now c.loop-word.invariant c.in-Some.word c.in-Some.after.now c.word_after.result
    c.push.new.self.items c.in-Some.ensures c.word_after.ensures c.in_ok-push.ensures.items)

pub returns : goal.returns
returns c =
    let text = c.args.text.now in
    all_found text (words_after text false false c.args.plain.now) c.loop-word.words.items c.loop-word.named c.loop-word.assigned
    c.loop-word.rest.now c.loop-word.invariant (rw c.in_default.is at c.first_of.ensures)
