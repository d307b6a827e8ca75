use Rattle.std.proofs.Common.{sym, ◌∙◌, arith}
use Rattle.tc_lexer.proofs.Front.{word_shape}
use Rattle.tc_lexer.proofs.piece.word_at.Goals as goal

pub returns : goal.returns
returns c =
    let w = c.word_kind.ensures in
    rw c.token.ensures (word_shape c.args.text.now c.word_len-len.result c.in_ok-kind.kind c.word_len-len.ensures.len
    (omega (arith, c.requires, c.word_len-len.ensures.len)) (sym w ∙ c.in_ok-kind.was))
