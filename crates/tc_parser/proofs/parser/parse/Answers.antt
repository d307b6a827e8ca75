use Rattle.std.proofs.Common.{arith}
use Rattle.std.proofs.lemmas.Result.{err_from_is_err_and}
use Rattle.tc_tree.specs.Seen.{program_of}
use Rattle.tc_parser.proofs.Programs.{few_globals, text_fault}
use Rattle.tc_parser.proofs.parser.parse.Goals as goal

pub returns-in_err-check_tokens-clause-refused : goal.returns-in_err-check_tokens-clause-refused
returns-in_err-check_tokens-clause-refused c =
    let p = err_from_is_err_and c.from_residual.result c.from_residual.ensures.1 in
    let is = rw c.as_slice-tokens.ensures at (c.in_err-check_tokens.ensures c.args.text.now) in
    rw (p.1, p.2) (λ some. text_fault c.args.text.now c.args.tokens.now c.in_err-check_tokens.field-0.0 c.requires.tokens is)

pub check_globals-requires : goal.check_globals-requires
check_globals-requires c =
    let spelled = rw c.as_slice-tokens.ensures at c.in_ok-program.ensures in
    let few = few_globals 4 c.args.text.now c.args.tokens.now (program_of c.in_ok-program.program) c.requires.tokens spelled in
    rw c.as_slice.ensures.value (omega (arith, few, c.requires.size))
