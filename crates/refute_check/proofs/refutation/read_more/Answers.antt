use Rattle.std.proofs.Common.{◌<◌, refl, arith, take}
use Rattle.refute_check.proofs.Pieces.{moved, reads-taken, line-fits, more-bytes, fault-taken}
use Rattle.refute_check.proofs.refutation.read_more.Goals as goal

pub push-requires-clause-line : goal.push-requires-clause-line
push-requires-clause-line c =
    let n = c.in_ok-count.count in
    let some : 0 < n = moved c.in_ok-count.taken n c.args.bytes.now c.in_ok-count.ensures.more (c.in_ok-count.ensures.moves c.requires.free) c.requires.some in
    (line-fits (take n c.args.bytes.now) c.args.text.now c.take.new.self c.in-Line.line
    (reads-taken n c.args.bytes.now c.args.text.now c.take.new.self c.in_ok-count.taken _ c.in-Line.is some c.in_ok-count.ensures.reads)).0

pub push-requires-clause-room : goal.push-requires-clause-room
push-requires-clause-room c =
    let n = c.in_ok-count.count in
    let some : 0 < n = moved c.in_ok-count.taken n c.args.bytes.now c.in_ok-count.ensures.more (c.in_ok-count.ensures.moves c.requires.free) c.requires.some in
    let fits = line-fits (take n c.args.bytes.now) c.args.text.now c.take.new.self c.in-Line.line
    (reads-taken n c.args.bytes.now c.args.text.now c.take.new.self c.in_ok-count.taken _ c.in-Line.is some c.in_ok-count.ensures.reads) in
    omega (arith, fits.1, c.requires.place)

pub returns-in-Form-clause-refused : goal.returns-in-Form-clause-refused
returns-in-Form-clause-refused c =
    let n = c.in_ok-count.count in
    let some : 0 < n = moved c.in_ok-count.taken n c.args.bytes.now c.in_ok-count.ensures.more (c.in_ok-count.ensures.moves c.requires.free) c.requires.some in
    fault-taken n c.args.bytes.now c.args.text.now c.take.new.self c.in_ok-count.taken c.in-Form.line c.in-Form.is some c.in_ok-count.ensures.reads
    c.in_ok-count.ensures.form

pub returns-in-More-clause-read : goal.returns-in-More-clause-read
returns-in-More-clause-read c =
    let n = c.in_ok-count.count in
    let some : 0 < n = moved c.in_ok-count.taken n c.args.bytes.now c.in_ok-count.ensures.more (c.in_ok-count.ensures.moves c.requires.free) c.requires.some in
    more-bytes c.in_ok-count.taken (take n c.args.bytes.now) c.args.text.now c.take.new.self c.args.lines.now c.requires.place c.in-More.is
    c.in_ok-count.ensures.form
    (reads-taken n c.args.bytes.now c.args.text.now c.take.new.self c.in_ok-count.taken c.in_ok-count.taken refl some c.in_ok-count.ensures.reads)
