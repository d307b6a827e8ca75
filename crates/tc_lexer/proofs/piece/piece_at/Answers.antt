use Rattle.std.proofs.Common.{sym, ◌∙◌, ap}
use Rattle.std.specs.Prelude.{option_map}
use Rattle.tc_lexer.specs.helpers.Reading.{shape_of}
use Rattle.tc_lexer.proofs.Front.{front_word}
use Rattle.tc_lexer.proofs.piece.piece_at.Goals as goal

pub returns-then-is_word : goal.returns-then-is_word
returns-then-is_word c =
    c.word_at.ensures ∙ ap (option_map shape_of)
    (sym (front_word c.args.text.now c.in_ok-first.field-0.now c.in_ok-first.ensures.value (sym c.if-is_space.ensures) (sym c.if-is_word.ensures)))
