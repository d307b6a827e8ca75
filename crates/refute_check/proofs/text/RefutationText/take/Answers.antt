use Rattle.std.proofs.Common.{◌≡◌, ◌<◌, ◌++◌, ◌∙◌, ap, sym, subst, arith, length, take, None}
use Rattle.refute_check.specs.Reading.{Reading, IsTakenAs, after_taken}
use Rattle.refute_check.specs.helpers.Pieces.{pushed}
use Rattle.refute_check.proofs.Cuts.{take-more, take-line, through-all, through-line}
use Rattle.refute_check.proofs.text.RefutationText.take.Goals as goal

pub returns-then-end-bytes-clause-reads : goal.returns-then-end-bytes-clause-reads
returns-then-end-bytes-clause-reads c =
    let fault : c.args.self.now.fault ≡ None = ap (λ (r : Reading). r.fault) (sym c.self.view_is) ∙ c.in_default.is in
    take-more c.args.bytes.now c.args.self.now _ c.line_end-end.result fault c.line_end-end.ensures.place (omega (arith, c.if-end-bytes.true))
    (ap (λ u. let r : Reading = record { unfinished = u; line = c.self.inside.line; fault = c.self.inside.fault } in r)
    c.in_ok-extend_from_slice.ensures.items ∙ ap (λ r. pushed r c.args.bytes.now) c.self.view_is)

pub returns-clause-reads : goal.returns-clause-reads
returns-clause-reads c =
    let fault : c.args.self.now.fault ≡ None = ap (λ (r : Reading). r.fault) (sym c.self.view_is) ∙ c.in_default.is in
    let inside : c.line_end-end.result < length c.args.bytes.now = omega (arith, c.line_end-end.ensures.bound, c.if-end-bytes.false) in
    let t : IsTakenAs c.args.self.now.line (c.args.self.now.unfinished ++ take c.line_end-end.result c.args.bytes.now) c.in_ok-taken.taken =
    subst (λ z. IsTakenAs c.args.self.now.line (c.args.self.now.unfinished ++ z) c.in_ok-taken.taken) c.first.ensures c.in_ok-taken.ensures.taken in
    let s : c.end_line.new.self ≡ after_taken (pushed c.args.self.now (take c.line_end-end.result c.args.bytes.now)) c.in_ok-taken.taken =
    c.in_ok-taken.ensures.state ∙ ap (λ z. after_taken (pushed c.args.self.now z) c.in_ok-taken.taken) c.first.ensures in
    take-line c.args.bytes.now c.args.self.now c.end_line.new.self c.line_end-end.result c.in_ok-taken.taken fault c.line_end-end.ensures.place inside t s

pub returns-then-end-bytes-clause-through : goal.returns-then-end-bytes-clause-through
returns-then-end-bytes-clause-through c = λ _. through-all c.args.bytes.now c.line_end-end.result c.line_end-end.ensures.place
    (omega (arith, c.if-end-bytes.true))

pub returns-clause-through : goal.returns-clause-through
returns-clause-through c = λ _. through-line c.args.bytes.now c.line_end-end.result c.line_end-end.ensures.place
    (omega (arith, c.line_end-end.ensures.bound, c.if-end-bytes.false))
