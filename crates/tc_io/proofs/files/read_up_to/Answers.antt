use Rattle.std.proofs.Common.{rules, ◌+◌, ◌++◌, ◌∙◌, ap, sym, take, length, length-append}
use Rattle.tc_io.proofs.Known.{consumes_more}
use Rattle.tc_io.proofs.files.read_up_to.Goals as goal

pub returns-then-n-room-clause-gave : goal.returns-then-n-room-clause-gave
returns-then-n-room-clause-gave g c =
    let bytes = c.loop-want.bytes.items in
    let piece = take c.in-Ok.n c.read.new.buf in
    let total = length-append bytes piece ∙ ap (λ n. length bytes + n) (sym c.in-Ok.ensures.bound.1) in
    record {
      bytes = bytes ++ piece;
      most = search rules;
      counted = search rules;
      lost = consumes_more _ _ _ bytes piece c.loop-want.invariant.told
          c.in-Ok.ensures.bytes.0;
    }

pub returns-then-is_err-clause-gave : goal.returns-then-is_err-clause-gave
returns-then-is_err-clause-gave g c =
    let bytes = c.loop-want.bytes.items in
    let piece = take c.in-Ok.n c.read.new.buf in
    let total = length-append bytes piece ∙ ap (λ n. length bytes + n) (sym c.in-Ok.ensures.bound.1) in
    record {
      bytes = bytes ++ piece;
      most = search rules;
      counted = search rules;
      lost = consumes_more _ _ _ bytes piece c.loop-want.invariant.told
          c.in-Ok.ensures.bytes.0;
    }
