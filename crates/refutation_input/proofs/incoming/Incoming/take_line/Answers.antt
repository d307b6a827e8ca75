use Rattle.std.proofs.Common.{◌∙◌, Ok, refl, sym}
use Rattle.refutation_input.proofs.Stages.{more_on, header_on, header_kept, line_on, line_room, form_on, stuck_so}
use Rattle.refutation_input.proofs.incoming.Incoming.take_line.Goals as goal

pub take-requires-in-Line : goal.take-requires-in-Line
take-requires-in-Line c =
    let r = c.requires.read in
    let old = c.args.self.now in
    line_room r.0 r.1 old c.args.bytes.now c.in_ok-count.count c.in_ok-count.taken c.take.new.self c.requires.some
    c.in_ok-count.ensures.more c.in_ok-count.ensures.reads
    (stuck_so old.text.fault (Ok (c.in_ok-count.count, c.in_ok-count.taken)) c.in_ok-count.count c.in_ok-count.taken refl c.in_ok-count.ensures.fault)
    c.in_ok-count.ensures.moves c.in_ok-count.ensures.form r.2 r.3 c.in-Line.line c.in-Line.is

pub returns-in-Form-clause-read : goal.returns-in-Form-clause-read
returns-in-Form-clause-read c = λ program log front read.
    let old = c.args.self.now in
    form_on program log old c.args.bytes.now c.in_ok-count.count c.in_ok-count.taken c.take.new.self c.requires.some
    c.in_ok-count.ensures.more c.in_ok-count.ensures.reads
    (stuck_so old.text.fault (Ok (c.in_ok-count.count, c.in_ok-count.taken)) c.in_ok-count.count c.in_ok-count.taken refl c.in_ok-count.ensures.fault)
    c.in_ok-count.ensures.moves c.in_ok-count.ensures.form front read c.in-Form.field-0 c.in-Form.is

pub returns-in-More-clause-read : goal.returns-in-More-clause-read
returns-in-More-clause-read c = λ program log front read.
    let old = c.args.self.now in
    more_on program log old c.args.bytes.now c.in_ok-count.count c.in_ok-count.taken c.take.new.self c.requires.some
    c.in_ok-count.ensures.more c.in_ok-count.ensures.reads
    (stuck_so old.text.fault (Ok (c.in_ok-count.count, c.in_ok-count.taken)) c.in_ok-count.count c.in_ok-count.taken refl c.in_ok-count.ensures.fault)
    c.in_ok-count.ensures.moves c.in_ok-count.ensures.form front read c.in-More.is

pub returns-in_ok-self-in-Header-clause-read : goal.returns-in_ok-self-in-Header-clause-read
returns-in_ok-self-in-Header-clause-read c = λ program log front read.
    let old = c.args.self.now in
    header_on program log old c.args.bytes.now c.in_ok-count.count c.in_ok-count.taken c.take.new.self c.requires.some
    c.in_ok-count.ensures.more c.in_ok-count.ensures.reads
    (stuck_so old.text.fault (Ok (c.in_ok-count.count, c.in_ok-count.taken)) c.in_ok-count.count c.in_ok-count.taken refl c.in_ok-count.ensures.fault)
    c.in_ok-count.ensures.moves c.in_ok-count.ensures.form front read c.in-Header.head c.in-Header.is (sym c.begins.ensures ∙ c.if-begins.true) c.in_ok-self-in-Header.field-0
    c.in_ok-self-in-Header.ensures

pub returns-else-begins-clause-read : goal.returns-else-begins-clause-read
returns-else-begins-clause-read c = λ program log front read.
    let old = c.args.self.now in
    header_kept program log old c.args.bytes.now c.in_ok-count.count c.in_ok-count.taken c.take.new.self c.requires.some
    c.in_ok-count.ensures.more c.in_ok-count.ensures.reads
    (stuck_so old.text.fault (Ok (c.in_ok-count.count, c.in_ok-count.taken)) c.in_ok-count.count c.in_ok-count.taken refl c.in_ok-count.ensures.fault)
    c.in_ok-count.ensures.moves c.in_ok-count.ensures.form front read c.in-Header.head c.in-Header.is (sym c.begins.ensures ∙ c.if-begins.false)

pub returns-in_ok-take-in-Line-clause-read : goal.returns-in_ok-take-in-Line-clause-read
returns-in_ok-take-in-Line-clause-read c = λ program log front read.
    let old = c.args.self.now in
    line_on program log old c.args.bytes.now c.in_ok-count.count c.in_ok-count.taken c.take.new.self c.requires.some
    c.in_ok-count.ensures.more c.in_ok-count.ensures.reads
    (stuck_so old.text.fault (Ok (c.in_ok-count.count, c.in_ok-count.taken)) c.in_ok-count.count c.in_ok-count.taken refl c.in_ok-count.ensures.fault)
    c.in_ok-count.ensures.moves c.in_ok-count.ensures.form front read c.in-Line.line c.in-Line.is c.take-in-Line.new.self c.in_ok-take-in-Line.ensures
