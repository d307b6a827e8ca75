use Rattle.std.proofs.Common.{Option, Some, refl, subst}
use Rattle.cdcl_core.specs.helpers.Stages.{answer_at}
use Rattle.cdcl_core.specs.helpers.States.{ComesTo}
use Rattle.cdcl_core.specs.declared.turns.Step.{Step}
use Rattle.cdcl_core.specs.declared.turns.Step.TheVariants as steps
use Rattle.cdcl_core.specs.declared.progress.Progress.{Progress}
use Rattle.cdcl_core.specs.declared.progress.Progress.TheVariants as answers
use Rattle.cdcl_core.proofs.Searching.{live, still, counted, goes-on-further, further-added, short-added}
use Rattle.cdcl_core.proofs.stages.StagedSearch.go.Goals as goal

pub go-requires-clause-live : goal.go-requires-clause-live
go-requires-clause-live c = live c.args.self.now c.requires.lawful c.requires.going

pub returns-in-Learnt-clause-lawful : goal.returns-in-Learnt-clause-lawful
returns-in-Learnt-clause-lawful c =
    let o = c.args.self.now in
    let h : ComesTo o.state c.go.new.self c.args.conflicts steps.Learnt = subst (λ (p : Step). ComesTo o.state c.go.new.self c.args.conflicts p) c.in-Learnt.is
    c.in_ok-go.ensures.ok in
    still o.stage o.values.items c.go.new.self c.requires.going h.0

pub returns-in-Learnt-clause-goes_on : goal.returns-in-Learnt-clause-goes_on
returns-in-Learnt-clause-goes_on c =
    let o = c.args.self.now in
    let h : ComesTo o.state c.go.new.self c.args.conflicts steps.Learnt = subst (λ (p : Step). ComesTo o.state c.go.new.self c.args.conflicts p) c.in-Learnt.is
    c.in_ok-go.ensures.ok in
    let a : Option Progress = answer_at o.stage o.values.items in
    goes-on-further o.state c.go.new.self c.args.conflicts a a h.1

pub returns-in-Learnt-clause-answers : goal.returns-in-Learnt-clause-answers
returns-in-Learnt-clause-answers c =
    let o = c.args.self.now in
    let h : ComesTo o.state c.go.new.self c.args.conflicts steps.Learnt = subst (λ (p : Step). ComesTo o.state c.go.new.self c.args.conflicts p) c.in-Learnt.is
    c.in_ok-go.ensures.ok in (
      c.requires.going,
      further-added o.state c.go.new.self c.args.conflicts h.1 (counted o c.requires.lawful)
          h.0.agree.counted,
    )

pub returns-in-Closed-clause-goes_on : goal.returns-in-Closed-clause-goes_on
returns-in-Closed-clause-goes_on c =
    let o = c.args.self.now in
    let h : ComesTo o.state c.go.new.self c.args.conflicts steps.Closed = subst (λ (p : Step). ComesTo o.state c.go.new.self c.args.conflicts p) c.in-Closed.is
    c.in_ok-go.ensures.ok in
    let m = h.1 in
    goes-on-further o.state c.go.new.self m.count (answer_at o.stage o.values.items) (Some answers.Closed) m.further

pub returns-in-Closed-clause-answers : goal.returns-in-Closed-clause-answers
returns-in-Closed-clause-answers c =
    let o = c.args.self.now in
    let h : ComesTo o.state c.go.new.self c.args.conflicts steps.Closed = subst (λ (p : Step). ComesTo o.state c.go.new.self c.args.conflicts p) c.in-Closed.is
    c.in_ok-go.ensures.ok in
    (refl, short-added o.state c.go.new.self c.args.conflicts h.1 (counted o c.requires.lawful) h.0.counted)
