use Rattle.std.proofs.Common.{rules, ◌≡◌, ◌<◌, ◌++◌, length, ap, sym, subst, ◌∙◌}
use Rattle.tc_code.proofs.Texts.{row_none, row_added, rows_whole}
use Rattle.tc_code.proofs.list.list_instrs.Goals as goal

pub loop-number-init : goal.loop-number-init
loop-number-init c = row_none c.args.out.now.items c.as_slice-lines.result.now c.as_slice-instr-items.result.now

pub loop-number-preserved : goal.loop-number-preserved
loop-number-preserved c =
    let lines = c.as_slice-lines.result.now in
    let is = c.as_slice-instr-items.result.now in
    let as_many : length is ≡ length lines =
    ap length c.as_slice-instr-items.ensures ∙ sym c.requires ∙ sym (ap length c.as_slice-lines.ensures) in
    let within : c.loop-number.number < length is = search rules in
    let added = row_added c.args.out.now.items c.loop-number.out.items lines is c.loop-number.number c.instr-item.result
    (subst (λ n. c.loop-number.number < n) as_many within) within c.loop-number.invariant in
    search (rules, added)

pub returns : goal.returns
returns c =
    c.loop-number.invariant
    ∙ ap (λ t. c.args.out.now.items ++ t) (search (rows_whole c.args.f.now c.loop-number.number, rules))
