use Rattle.std.proofs.Common.{◌≡◌, ◌<◌, ◌≤◌, ◌-◌, ◌∙◌, ℕ, true, false, length, get_or, refl, sym, ap, inl, inr, arith}
use Rattle.std.proofs.lemmas.Bool.{cases_eq, cases_lt}
use Rattle.std.proofs.lemmas.List.{get_or_read}
use Rattle.cdcl_learn.specs.helpers.Analyses.{IsMet}
use Rattle.cdcl_learn.proofs.Counting.{open_one, open_none, open_some, open_at_most, open_other}
use Rattle.cdcl_learn.proofs.Meeting.{met_within, reason_some}
use Rattle.cdcl_learn.proofs.analysis.Analysis.uip.Goals as goal

pub returns-then-self-eq1-clause-last : goal.returns-then-self-eq1-clause-last
returns-then-self-eq1-clause-last c =
    let s = c.loop-place.invariant.tallies in
    let p : ℕ = c.loop-place.place - 1 in
    let pl : p < length c.args.trail.now.literals = omega (arith, c.loop-place.auto.place, c.len-place.ensures.len, c.loop-place-test.true) in
    let pm : p < length c.loop-place.self.met.items = omega (arith, s.size, pl) in
    let m : IsMet c.loop-place.self.met.items p = sym (get_or_read c.loop-place.self.met.items p c.index.result.now pm c.index.ensures false)
    ∙ c.if-index.true in
    let low : c.args.bounds.base ≤ p = omega (arith, c.loop-place-test.true) in
    record {
      low = low;
      high = pl;
      met_there = m;
      only = λ q bq mq. open_one c.loop-place.self.met.items c.args.bounds.base p q pm (met_within c.loop-place.self.met.items q mq refl) low bq m mq
          (sym s.count ∙ c.if-self-eq1.true);
    }

pub resolve-requires-clause-reason : goal.resolve-requires-clause-reason
resolve-requires-clause-reason c =
    let s = c.loop-place.invariant.tallies in
    let p : ℕ = c.loop-place.place - 1 in
    let pl : p < length c.args.trail.now.literals = omega (arith, c.loop-place.auto.place, c.len-place.ensures.len, c.loop-place-test.true) in
    let pm : p < length c.loop-place.self.met.items = omega (arith, s.size, pl) in
    let m : IsMet c.loop-place.self.met.items p = sym (get_or_read c.loop-place.self.met.items p c.index.result.now pm c.index.ensures false)
    ∙ c.if-index.true in
    let low : c.args.bounds.base ≤ p = omega (arith, c.loop-place-test.true) in
    reason_some c.args.trail.now c.args.clauses.now c.requires.reasoned p pl (λ b.
    let z : p ≡ c.args.bounds.base = omega (arith, c.requires.begins p b, low) in
    let one = open_at_most c.loop-place.self.met.items c.args.bounds.base p pm low m
    (λ q bq mq. elim (cases_lt q c.loop-place.place) [
      | inl d ↦ omega (arith, d, bq, z, c.loop-place-test.true)
      | inr d ↦ absurd (c.loop-place.invariant.walked q d mq)
    ]) in
    c.if-self-eq1.false (s.count ∙ one))

pub loop-place-preserved-in-Continue-1 : goal.loop-place-preserved-in-Continue-1
loop-place-preserved-in-Continue-1 c =
    let s = c.loop-place.invariant.tallies in
    let r = c.in_ok-resolve.ensures.resolves in
    let t = c.in_ok-resolve.ensures.tallies in
    let p : ℕ = c.loop-place.place - 1 in
    let pl : p < length c.args.trail.now.literals = omega (arith, c.loop-place.auto.place, c.len-place.ensures.len, c.loop-place-test.true) in
    let pm : p < length c.loop-place.self.met.items = omega (arith, s.size, pl) in
    let m : IsMet c.loop-place.self.met.items p = sym (get_or_read c.loop-place.self.met.items p c.index.result.now pm c.index.ensures false)
    ∙ c.if-index.true in
    let low : c.args.bounds.base ≤ p = omega (arith, c.loop-place-test.true) in
    let (q, bq, ne, mq) = open_other c.loop-place.self.met.items c.args.bounds.base p pm low m (λ e. c.if-self-eq1.false (s.count ∙ e)) in
    let mq' : IsMet c.resolve.new.self.met.items q = r.kept q ne mq in
    record {
      activity_same = c.in_ok-resolve.ensures.activity ∙ c.loop-place.invariant.activity_same;
      tallies = t;
      suffices = c.in_ok-resolve.ensures.suffices;
      some = omega (arith, t.count, open_some c.resolve.new.self.met.items c.args.bounds.base q (met_within c.resolve.new.self.met.items q mq' refl) bq mq');
      walked = λ i h mi. elim (r.only i mi) [
        | inl d ↦ elim (cases_eq i p) [
          | inl e ↦ (let g : false ≡ true = sym (ap (λ (n : ℕ). get_or c.resolve.new.self.met.items n false) e ∙ r.gone) ∙ mi in cc)
          | inr e ↦ c.loop-place.invariant.walked i (omega (arith, h, e, c.loop-place-test.true)) d
        ]
        | inr d ↦ absurd (omega (arith, d, h))
      ];
    }

pub unreachable-requires : goal.unreachable-requires
unreachable-requires c =
    let s = c.loop-place.invariant.tallies in
    let none = open_none c.loop-place.self.met.items c.args.bounds.base
    (λ q bq mq. c.loop-place.invariant.walked q (omega (arith, bq, c.loop-place-test.false)) mq) in
    omega (arith, s.count, none, c.loop-place.invariant.some)
