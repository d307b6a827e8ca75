use Rattle.std.proofs.Common.{◌≡◌, ◌<◌, ◌-◌, ◌∙◌, ℕ, Some, None, false, inl, inr, refl, length, take, get_or, set, sym, arith}
use Rattle.cdcl_clauses.specs.Invariants.{IsReason}
use Rattle.cdcl_learn.specs.helpers.Analyses.{IsMet, Suffices, Resolves}
use Rattle.cdcl_learn.proofs.Counting.{met-set}
use Rattle.cdcl_learn.proofs.Meeting.{reason_of, reason_there, resolves-set, suffices-resolve, tallies-resolve}
use Rattle.cdcl_learn.proofs.Counting.{open_some}
use Rattle.cdcl_learn.proofs.analysis.Analysis.resolve.Goals as goal
use Rattle.cdcl_learn.proofs.analysis.Analysis.resolve.Goals.{then-place-bounds, else-place-bounds}

pub meet-requires-clause-there : goal.meet-requires-clause-there
meet-requires-clause-there c =
    let k : ℕ = c.unwrap-reason.result in
    let e : get_or c.args.trail.now.reasons c.args.place None ≡ Some k = sym c.reason.ensures ∙ c.unwrap-reason.ensures in
    reason_there c.args.trail.now c.args.clauses.now c.args.place k c.requires.place
    (reason_of c.args.trail.now c.args.clauses.now c.requires.reasoned c.args.place k c.requires.place e)

pub overflow_sub-self : goal.overflow_sub-self
overflow_sub-self c =
    let m : IsMet c.meet.new.self.met.items c.args.place = c.in_ok-meet.ensures.meets.kept c.args.place c.requires.met in
    let t = c.meet.ensures.tallies in
    omega (arith, open_some c.meet.new.self.met.items c.args.bounds.base c.args.place (omega (arith, t.size, c.requires.place)) (omega arith) m, t.count)

reason : (c : goal.After-self-2-1) → IsReason c.args.clauses.now (take c.args.place c.args.trail.now.literals)
    (get_or c.args.trail.now.literals c.args.place 0) c.unwrap-reason.result
reason c =
    let e : get_or c.args.trail.now.reasons c.args.place None ≡ Some c.unwrap-reason.result = sym c.reason.ensures ∙ c.unwrap-reason.ensures in
    reason_of c.args.trail.now c.args.clauses.now c.requires.reasoned c.args.place c.unwrap-reason.result c.requires.place e

pub returns-clause-tallies : goal.returns-clause-tallies
returns-clause-tallies c =
    let t = c.meet.ensures.tallies in
    let m : IsMet c.meet.new.self.met.items c.args.place = c.in_ok-meet.ensures.meets.kept c.args.place c.requires.met in
    let h : c.args.place < length c.meet.new.self.met.items = omega (arith, t.size, c.requires.place) in
    elim c.if-place-bounds.branch [
      | then-place-bounds w ↦ rw w.self-is (tallies-resolve c.args.trail.now c.meet.new.self.met.items c.meet.new.self.pending c.args.bounds.root
          c.args.bounds.base c.meet.new.self.literals.items t c.args.place h m c.requires.not_between (c.meet.new.self.pending - 1)
          (λ g. omega (arith, open_some c.meet.new.self.met.items c.args.bounds.base c.args.place h g m, t.count))
          (λ g. absurd (omega (arith, g, w.if-place-bounds.true))))
      | else-place-bounds w ↦ rw w.self-is (tallies-resolve c.args.trail.now c.meet.new.self.met.items c.meet.new.self.pending c.args.bounds.root
          c.args.bounds.base c.meet.new.self.literals.items t c.args.place h m c.requires.not_between c.meet.new.self.pending
          (λ g. absurd (omega (arith, g, w.if-place-bounds.false))) (λ g. refl))
    ]

suffices : (c : goal.After-self-2-1) → Suffices c.args.trail.now c.args.clauses.now (set c.meet.new.self.met.items c.args.place false)
    c.meet.new.self.hints.items
suffices c =
    let t = c.meet.ensures.tallies in
    let h : c.args.place < length c.meet.new.self.met.items = omega (arith, t.size, c.requires.place) in
    rw c.in_ok-meet.ensures.hints (
    suffices-resolve c.args.trail.now c.requires.lawful c.args.clauses.now c.args.self.now.met.items c.meet.new.self.met.items
    (set c.meet.new.self.met.items c.args.place false) c.args.self.now.hints.items c.args.place c.unwrap-reason.result c.requires.place
    c.requires.met (reason c) c.in_ok-meet.ensures.meets
    (λ q ne g. elim (met-set c.meet.new.self.met.items c.args.place q false h) [ inl d ↦ absurd (ne d.0) | inr d ↦ d.1 ∙ g ]) c.requires.suffices)

pub returns-clause-suffices : goal.returns-clause-suffices
returns-clause-suffices c = elim c.if-place-bounds.branch [ then-place-bounds w ↦ rw w.self-is (suffices c) | else-place-bounds w ↦ rw w.self-is (suffices c) ]

resolves : (c : goal.After-self-2-1) → Resolves c.args.self.now.met.items (set c.meet.new.self.met.items c.args.place false) c.args.place
resolves c =
    let t = c.meet.ensures.tallies in
    let h : c.args.place < length c.meet.new.self.met.items = omega (arith, t.size, c.requires.place) in
    resolves-set c.args.trail.now c.requires.lawful c.args.clauses.now c.args.self.now.met.items c.meet.new.self.met.items c.args.place
    c.unwrap-reason.result c.requires.place h (reason c) t.size c.in_ok-meet.ensures.meets

pub returns-clause-resolves : goal.returns-clause-resolves
returns-clause-resolves c = elim c.if-place-bounds.branch [ then-place-bounds w ↦ rw w.self-is (resolves c) | else-place-bounds w ↦ rw w.self-is (resolves c) ]
