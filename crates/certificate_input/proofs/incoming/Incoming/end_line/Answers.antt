use Rattle.std.proofs.Common.{◌≡◌, ◌∙◌, ◌+◌, ◌++◌, ◌∷◌, [], ℕ, List, Vec, Global, ap, sym, subst, rules}
use Rattle.certificate_input.specs.helpers.Incoming.{IsStage}
use Rattle.certificate_input.proofs.Stages.{after_line}
use Rattle.certificate_input.proofs.incoming.Incoming.end_line.Goals as goal

pub returns-clause-read : goal.returns-clause-read
returns-clause-read c = λ front was.
    let s = c.args.self.now in
    let next : c.in-Some.next ≡ s.line + 1 = search rules in
    let line : s.unfinished.items ≡ c.deref.result.now =
    sym (c.deref.ensures.value ∙ ap (λ (v : Vec ℕ Global). v.items) c.replace-line.ensures.value) in
    after_line s.code (front ++ 10 ∷ []) c.replace-line.new.dest.items s.line c.in-Some.next c.end_line.new.self
    (ap (λ (v : Vec ℕ Global). v.items) c.replace-line.ensures.after ∙ c.new.ensures.items) next
    (c.in_ok-end_line.ensures front (subst (λ (xs : List ℕ). IsStage s.code front xs s.line s.stage) line was))
