use Rattle.std.proofs.Common.{◌∙◌, ◌++◌, ◌∷◌, [], ℕ, List, OnOk, sym, subst}
use Rattle.certificate_input.specs.helpers.Incoming.{IsRead}
use Rattle.certificate_input.proofs.Stages.{ended_stays}
use Rattle.certificate_input.proofs.incoming.Incoming.take_byte.Goals as goal

pub returns-then-has_ended-clause-read : goal.returns-then-has_ended-clause-read
returns-then-has_ended-clause-read c = λ front was.
    let s = c.args.self.now in
    ended_stays s.code front c.args.byte s.unfinished.items s.line s.stage (sym c.has_ended.ensures ∙ c.if-has_ended.true) was

pub returns-then-byte-eq10-clause-read : goal.returns-then-byte-eq10-clause-read
returns-then-byte-eq10-clause-read c =
    subst (λ (b : ℕ). OnOk c.end_line.result ((front : List ℕ) → IsRead c.args.self.now front → IsRead c.end_line.new.self (front ++ b ∷ [])))
    (sym c.if-byte-eq10.true) c.end_line.ensures.read
