use Rattle.std.proofs.Common.{◌≡◌, ◌∙◌, ℕ, ◌+◌, cond, List, [], ◌++◌, ℤ, length, get_or, ap, ap₂, sym, arith}
use Rattle.std.specs.List.{flat_map, range_with_len}
use Rattle.std.proofs.lemmas.Bool.{eq-eqb, ne_eqb}
use Rattle.std.proofs.lemmas.List.{append-nil}
use Rattle.cnf_core.specs.Clauses.{Formula, var_of}
use Rattle.bit_order.proofs.Ranges.{pieces_step}
use Rattle.switch_order.specs.Levels.{rise, rises}
use Rattle.switch_order.specs.helpers.Within.{rise_of}
use Rattle.switch_order.proofs.Added.{counts_within}
use Rattle.switch_order.proofs.adding.add_rises_from.Goals as goal
use Rattle.switch_order.proofs.adding.add_rises_from.Goals.{then-threads-first+in_ok-add_rises, else-threads-first}

pub add_rises-requires-clause-counts : goal.add_rises-requires-clause-counts
add_rises-requires-clause-counts c =
    let vars = c.loop-second.invariant.vars in
    let within = counts_within c.args.layout.now c.args.threads.now c.args.failing c.loop-second.second c.args.cnf.now.vars
    (omega (arith, c.requires.start, c.requires.levels)) c.requires.befores in
    omega (arith, vars, within, ap var_of (c.counts-counts.ensures c.args.threads.now))

pub loop-second-preserved : goal.loop-second-preserved
loop-second-preserved c =
    let threads = c.args.threads.now in
    let start = c.args.start in
    let most = c.args.most in
    let first = c.args.first in
    let second = c.loop-second.second in
    let f : ℕ → List (List ℤ) = rises c.args.layout.now threads c.args.failing start most first in
    let own = get_or threads first 0 in
    let other = get_or threads second 0 in
    let now = c.loop-second.cnf.clauses in
    let next = c.if-threads-first.cnf.clauses in
    elim c.if-threads-first.branch [
      | then-threads-first+in_ok-add_rises w ↦
          let all : ℤ → ℤ → List (List ℤ) = λ a b. flat_map (rise_of a b start most first second) (range_with_len 0 (most + 1)) in
          let piece : List (List ℤ) = all w.before-before.result w.counts-counts.result in
          let is : piece ≡ f second =
          ap₂ all w.before-before.ensures (w.counts-counts.ensures threads)
          ∙ sym (ap (λ b. cond b [] (flat_map (rise c.args.layout.now threads c.args.failing start most first second) (range_with_len 0 (most + 1))))
          (ne_eqb own other w.if-threads-first.true)) in
          let added : next ≡ now ++ piece = ap (λ (k : Formula). k.clauses) w.cnf-is ∙ w.in_ok-add_rises.ensures.clauses in
          record {
            vars = ap (λ (k : Formula). k.vars) w.cnf-is ∙ w.in_ok-add_rises.ensures.vars ∙ c.loop-second.invariant.vars;
            clauses = pieces_step f 0 second second c.args.cnf.now.clauses now next piece c.loop-second.invariant.clauses added is (omega arith);
            few = omega (arith, ap (λ (k : Formula). length k.clauses) w.cnf-is, w.in_ok-add_rises.ensures.few, c.loop-second.invariant.few);
          }
      | else-threads-first w ↦
          let same : next ≡ now = ap (λ (k : Formula). k.clauses) w.cnf-is in
          record {
            vars = ap (λ (k : Formula). k.vars) w.cnf-is ∙ c.loop-second.invariant.vars;
            clauses = pieces_step f 0 second second c.args.cnf.now.clauses now next [] c.loop-second.invariant.clauses (same ∙ sym (append-nil now))
                (sym (ap (λ b. cond b [] (flat_map (rise c.args.layout.now threads c.args.failing start most first second) (range_with_len 0 (most + 1))))
                (eq-eqb own other w.if-threads-first.false))) (omega arith);
            few = omega (arith, ap length same, c.loop-second.invariant.few);
          }
    ]
