use Rattle.std.proofs.Common.{◌∙◌, ◌<◌, ◌≤◌, ap, refl, sym, subst, arith, true}
use Rattle.std.specs.Prelude.{filter}
use Rattle.std.proofs.lemmas.Result.{IfOk-weaker, on_ok_weaker}
use Rattle.cnf_core.specs.Clauses.{var_of}
use Rattle.bit_gates.specs.Folded.{Made, constant}
use Rattle.bit_words.specs.Words.{AreWithin}
use Rattle.mutex_regions.specs.Functions.{is_used}
use Rattle.mutex_clauses.specs.in_order.Given.{used_in}
use Rattle.mutex_clauses.proofs.in_order.Sizes.{literals_within}
use Rattle.mutex_clauses.proofs.in_order.Whole.{both_larger, first_room, second_room, whole}
use Rattle.mutex_clauses.proofs.in_order.ordered.in_order.Goals as goal

pub and_all-requires-clause-literals : goal.and_all-requires-clause-literals
and_all-requires-clause-literals c =
    let t = c.args.draft.now in
    let n = c.args.circuit.now.vars in
    let here : var_of (constant true) ≤ n = subst (λ l. var_of l ≤ n) c.constant-first.ensures.literal c.constant-first.ensures.within in
    let one : 0 < n = omega (arith, here) in
    subst (AreWithin n) (sym (c.as_slice.ensures.value ∙ c.in_ok-literals.ensures))
    (literals_within t.paths.now t.layout.now t.conjuncts.now t.roots.now c.args.mutex c.args.regions.now
    (λ r. filter (is_used c.args.variables.now r) c.args.accesses.now) n one c.requires.before c.requires.roots)

pub and_all-requires-clause-room : goal.and_all-requires-clause-room
and_all-requires-clause-room c =
    let t = c.args.draft.now in
    first_room t.paths.now t.layout.now t.conjuncts.now t.roots.now c.args.mutex c.args.regions.now c.args.variables.now c.args.accesses.now
    c.as_slice.result.now (used_in c.args.variables.now c.args.accesses.now c.args.regions.now)
    (c.as_slice.ensures.value ∙ c.in_ok-literals.ensures) refl
    c.args.circuit.now c.requires.room

pub and_ranges-requires-clause-room : goal.and_ranges-requires-clause-room
and_ranges-requires-clause-room c =
    let t = c.args.draft.now in
    second_room t.paths.now t.layout.now t.conjuncts.now t.roots.now c.args.mutex c.args.regions.now c.args.variables.now
    c.args.accesses.now c.as_slice.result.now c.as_slice-2.result.now (c.as_slice.ensures.value ∙ c.in_ok-literals.ensures)
    (c.as_slice-2.ensures.value ∙ c.in_ok-used.ensures)
    c.args.circuit.now c.and_all.new.circuit c.requires.room c.in_ok-all.ensures.larger

pub returns-clause-literal : goal.returns-clause-literal
returns-clause-literal c =
    let t = c.args.draft.now in
    let made = whole t.paths.now t.layout.now t.conjuncts.now t.roots.now c.args.mutex c.args.regions.now c.args.variables.now
    c.args.accesses.now c.as_slice.result.now c.as_slice-2.result.now (c.as_slice.ensures.value ∙ c.in_ok-literals.ensures)
    (c.as_slice-2.ensures.value ∙ c.in_ok-used.ensures)
    c.args.circuit.now t.words.now c.and_all.new.circuit c.constant-first.result c.in_ok-all.all c.constant-first.ensures.literal
    c.in_ok-all.ensures.formula c.in_ok-all.ensures.literal in
    IfOk-weaker c.and_ranges.result _ _ (λ l so symbolic d lists parts. so ∙ ap (λ (k : Made). k.literal) (made symbolic d lists parts))
    c.and_ranges.ensures.literal

pub returns-clause-formula : goal.returns-clause-formula
returns-clause-formula c =
    let t = c.args.draft.now in
    let made = whole t.paths.now t.layout.now t.conjuncts.now t.roots.now c.args.mutex c.args.regions.now c.args.variables.now
    c.args.accesses.now c.as_slice.result.now c.as_slice-2.result.now (c.as_slice.ensures.value ∙ c.in_ok-literals.ensures)
    (c.as_slice-2.ensures.value ∙ c.in_ok-used.ensures)
    c.args.circuit.now t.words.now c.and_all.new.circuit c.constant-first.result c.in_ok-all.all c.constant-first.ensures.literal
    c.in_ok-all.ensures.formula c.in_ok-all.ensures.literal in
    on_ok_weaker c.and_ranges.result (λ so symbolic d lists parts. so ∙ ap (λ (k : Made). k.formula) (made symbolic d lists parts))
    c.and_ranges.ensures.formula

pub returns-clause-larger : goal.returns-clause-larger
returns-clause-larger c =
    let t = c.args.draft.now in
    on_ok_weaker c.and_ranges.result
    (both_larger t.paths.now t.layout.now t.conjuncts.now t.roots.now c.args.mutex c.args.regions.now c.args.variables.now
    c.args.accesses.now c.as_slice.result.now c.as_slice-2.result.now (c.as_slice.ensures.value ∙ c.in_ok-literals.ensures)
    (c.as_slice-2.ensures.value ∙ c.in_ok-used.ensures)
    c.args.circuit.now c.and_all.new.circuit c.and_ranges.new.circuit c.in_ok-all.ensures.larger) c.and_ranges.ensures.larger
