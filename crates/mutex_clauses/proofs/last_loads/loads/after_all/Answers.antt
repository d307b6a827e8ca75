use Rattle.std.proofs.Common.{ℕ, ◌≤◌, ℤ, None, false, ap, sym, ◌∙◌, subst, arith, get_or}
use Rattle.std.specs.Prelude.{fold}
use Rattle.std.proofs.lemmas.List.{take_all}
use Rattle.path_walk.specs.declared.event.Region.{Region}
use Rattle.order_events.specs.lawful_order.Events.{Placed}
use Rattle.cnf_core.specs.Clauses.{Formula, var_of}
use Rattle.bit_gates.specs.Folded.{Made, conjunction, constant, kept}
use Rattle.bit_ops.proofs.bit_words.Loops.{kept_same}
use Rattle.mutex_states.specs.InOrder.{read_number}
use Rattle.mutex_clauses.specs.last_loads.helpers.Listed.{ends_before}
use Rattle.mutex_clauses.proofs.last_loads.Bounds.{ends_within, get_within, state_more}
use Rattle.mutex_clauses.proofs.last_loads.Folds.{fold_next_at}
use Rattle.mutex_clauses.proofs.last_loads.loads.after_all.Goals as goal

-- what stands past the last region
abbrev no_region : Placed Region
no_region = record { thread = 0; it = record { mutex = 0; «from» = 0; to = None } }

pub and-requires-clause-second : goal.and-requires-clause-second
and-requires-clause-second c =
    let t = c.args.last.now.literals in
    let n : ℕ = c.args.circuit.now.vars in
    subst (λ l. var_of l ≤ n) (sym c.read.ensures)
    (get_within n t.roots.now (read_number t.paths.now t.conjuncts.now c.args.access.now) c.requires.within.one c.requires.within.roots_in)

pub loop-region-init : goal.loop-region-init
loop-region-init c =
    let f : Formula = c.args.circuit.now in
    let o : ℤ = c.args.last.now.ordered in
    let now = c.in_ok-all.ensures in
    record {
      all = kept_same (conjunction f o c.read.result) c.and.new.self c.in_ok-all.all now.formula now.literal ∙ ap (conjunction f o) c.read.ensures;
      known = now.within;
      larger = (omega (arith, now.larger.0), omega (arith, now.larger.1), omega (arith, now.larger.2));
    }

pub and-requires-in-loop-region-clause-second : goal.and-requires-in-loop-region-clause-second
and-requires-in-loop-region-clause-second c =
    let s = c.args.last.now in
    let t = s.literals in
    let n : ℕ = c.loop-region.circuit.vars in
    let within = state_more c.args.circuit.now.vars n t.layout.now t.roots.now s.ordered s.words.now c.loop-region.invariant.larger.0 c.requires.within in
    subst (λ l. var_of l ≤ n) (sym c.ends_before.ensures)
    (ends_within n t.paths.now t.layout.now c.args.access.now (get_or s.regions.now c.loop-region.region-index no_region) within.one within.before)

pub and-requires-in-loop-region-clause-room : goal.and-requires-in-loop-region-clause-room
and-requires-in-loop-region-clause-room c =
    let was = c.loop-region.invariant in
    (omega (arith, was.larger.1, c.loop-region-test.true, c.requires.room.0), omega (arith, was.larger.2, c.loop-region-test.true, c.requires.room.1))

pub loop-region-preserved : goal.loop-region-preserved
loop-region-preserved c =
    let s = c.args.last.now in
    let t = s.literals in
    let a = c.args.access.now in
    let step : Made → Placed Region → Made = λ k r. conjunction k.formula k.literal (ends_before t.paths.now t.layout.now a r) in
    let first : Made =
    conjunction c.args.circuit.now s.ordered (get_or t.roots.now (read_number t.paths.now t.conjuncts.now a) (constant false)) in
    let f : Formula = c.loop-region.circuit in
    let all : ℤ = c.loop-region.all in
    let was = c.loop-region.invariant in
    let now = c.in_ok-all-2.ensures in
    record {
      all = fold_next_at step first s.regions.now c.loop-region.region-index no_region (kept f all)
          (kept c.and-in-loop-region.new.self c.in_ok-all-2.all) c.loop-region-test.true was.all
          (kept_same (conjunction f all c.ends_before.result) c.and-in-loop-region.new.self c.in_ok-all-2.all now.formula now.literal
          ∙ ap (conjunction f all) c.ends_before.ensures);
      known = now.within;
      larger = (omega (arith, was.larger.0, now.larger.0), omega (arith, was.larger.1, now.larger.1), omega (arith, was.larger.2, now.larger.2));
    }

pub returns-clause-literal : goal.returns-clause-literal
returns-clause-literal c =
    let s = c.args.last.now in
    let t = s.literals in
    let a = c.args.access.now in
    let step : Made → Placed Region → Made = λ k r. conjunction k.formula k.literal (ends_before t.paths.now t.layout.now a r) in
    let first : Made =
    conjunction c.args.circuit.now s.ordered (get_or t.roots.now (read_number t.paths.now t.conjuncts.now a) (constant false)) in
    ap (λ (k : Made). k.literal)
    (c.loop-region.invariant.all ∙ ap (fold step first) (take_all c.loop-region.region-index s.regions.now c.loop-region-test.false))

pub returns-clause-formula : goal.returns-clause-formula
returns-clause-formula c =
    let s = c.args.last.now in
    let t = s.literals in
    let a = c.args.access.now in
    let step : Made → Placed Region → Made = λ k r. conjunction k.formula k.literal (ends_before t.paths.now t.layout.now a r) in
    let first : Made =
    conjunction c.args.circuit.now s.ordered (get_or t.roots.now (read_number t.paths.now t.conjuncts.now a) (constant false)) in
    ap (λ (k : Made). k.formula)
    (c.loop-region.invariant.all ∙ ap (fold step first) (take_all c.loop-region.region-index s.regions.now c.loop-region-test.false))

pub returns-clause-larger : goal.returns-clause-larger
returns-clause-larger c =
    let was = c.loop-region.invariant in
    let few = c.loop-region.auto.region-index-end in
    (was.larger.0, omega (arith, was.larger.1, few), omega (arith, was.larger.2, few))
