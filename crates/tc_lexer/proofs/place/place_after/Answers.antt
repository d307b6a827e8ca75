use Rattle.std.proofs.Common.{◌∙◌, sym, []}
use Rattle.tc_lexer.proofs.Places.{place_after-append}
use Rattle.tc_lexer.proofs.place.place_after.Goals as goal

pub returns : goal.returns
returns c = c.place_from.ensures ∙ sym (place_after-append c.args.bytes.now [])
