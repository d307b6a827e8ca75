use Rattle.std.proofs.Common.{◌≡◌, ◌≤◌, subst, arith, take, drop, length, length-drop, Err}
use Rattle.std.proofs.lemmas.Grind.{common_steps}
use Rattle.std.proofs.lemmas.List.{take_rest}
use Rattle.refute_check.specs.Reading.{bodies}
use Rattle.refute_check.specs.helpers.Pieces.{ReadsMore}
use Rattle.refute_check.specs.Broken.{IsFaultFrom}
use Rattle.refute_check.proofs.Pieces.{place-of, fault-on, read-on}
use Rattle.refute_check.proofs.refutation.read_lines.Goals as goal

pub read_more-requires-clause-place : goal.read_more-requires-clause-place
read_more-requires-clause-place c =
    place-of c.args.text c.args.bytes.now c.loop-from.from c.loop-from.lines c.loop-from.text c.requires.second c.loop-from.invariant

pub returns-in_err-from-clause-refused : goal.returns-in_err-from-clause-refused
returns-in_err-from-clause-refused c =
    let is : c.from_residual.result ≡ Err c.in_err-from.field-0.0 = grind (arith, common_steps) in
    rw is
    (fault-on c.loop-from.from c.args.bytes.now c.args.text c.loop-from.text (bodies c.loop-from.lines) c.in_err-from.field-0.0
    c.loop-from.invariant.reads
    (subst (λ bs. IsFaultFrom c.loop-from.text bs c.in_err-from.field-0.0) (take_rest c.args.bytes.now c.loop-from.from) c.in_err-from.ensures.refused))

pub loop-from-preserved : goal.loop-from-preserved
loop-from-preserved c =
    let rest = take_rest c.args.bytes.now c.loop-from.from in
    let n = c.in_ok-from.field-0 in
    let fits : n ≤ length (drop c.loop-from.from c.args.bytes.now) = subst (λ bs. n ≤ length bs) rest c.in_ok-from.ensures.count.1 in
    read-on c.args.text c.args.bytes.now c.loop-from.from n c.loop-from.lines c.read_more.new.lines c.loop-from.text c.read_more.new.text
    c.loop-from.invariant (omega (arith, fits, length-drop c.loop-from.from c.args.bytes.now))
    (subst (λ bs. ReadsMore c.loop-from.text (take n bs) c.loop-from.lines c.read_more.new.lines c.read_more.new.text) rest c.in_ok-from.ensures.read)
