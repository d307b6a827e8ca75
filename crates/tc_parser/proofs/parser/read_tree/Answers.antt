use Rattle.std.proofs.Common.{◌∙◌, List, length, ap, subst, arith}
use Rattle.tc_tree.specs.declared.word.Word.{Word}
use Rattle.tc_tree.specs.Grammar.{IsSpelled}
use Rattle.tc_tree.specs.Seen.{program_of}
use Rattle.tc_parser.proofs.Programs.{stop_place}
use Rattle.tc_parser.proofs.Words.{length-words}
use Rattle.tc_parser.proofs.parser.read_tree.Goals as goal

pub overflow_sub-tokens : goal.overflow_sub-tokens
overflow_sub-tokens c =
    let stop = rw c.in-Err-Left.field-0-is at c.in-Err-Left.ensures in
    omega (arith, stop.0, ap length (c.as_slice.ensures.value ∙ c.in_ok-words.ensures), length-words 4 c.args.text.now c.args.tokens.now)

pub returns-in-Ok : goal.returns-in-Ok
returns-in-Ok c =
    subst (λ (ws : List Word). IsSpelled 4 ws (program_of c.in-Ok.program)) (c.as_slice.ensures.value ∙ c.in_ok-words.ensures) c.in-Ok.ensures

pub returns : goal.returns
returns c =
    stop_place c.args.text.now c.args.tokens.now c.as_slice.result.now c.in-Err-Left.left c.place_at-place.result
    (c.as_slice.ensures.value ∙ c.in_ok-words.ensures) (rw c.in-Err-Left.field-0-is at c.in-Err-Left.ensures) c.place_at-place.ensures
