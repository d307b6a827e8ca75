use Rattle.std.proofs.Common.{◌≡◌, ◌∙◌, Some, ap, sym}
use Rattle.std.specs.Prelude.{option_map}
use Rattle.tc_record.proofs.Places.{has_place, has_instr, not_none}
use Rattle.tc_record.proofs.Reached.{fails_at_place}
use Rattle.tc_record.proofs.failing.line_of.Goals as goal

pub unreachable-requires-in_default-place_of : goal.unreachable-requires-in_default-place_of
unreachable-requires-in_default-place_of g c =
    let s = c.args.state.now in
    let failed : s.failed ≡ Some c.in-Some.name.now = sym c.failed.ensures ∙ ap (option_map (λ n. n.now)) c.in-Some.is in
    has_place c.args.code.now s c.in-Some.name.now failed
    (fails_at_place g.M.MemoryModel.ops c.args.code.now s c.requires.reached c.requires.fails) c.place_of.result c.place_of.ensures c.in_default-place_of.is

pub unreachable-requires-in_default-line : goal.unreachable-requires-in_default-line
unreachable-requires-in_default-line g c =
    let s = c.args.state.now in
    let failed : s.failed ≡ Some c.in-Some.name.now = sym c.failed.ensures ∙ ap (option_map (λ n. n.now)) c.in-Some.is in
    let instr = has_instr c.args.code.now s c.in-Some.name.now failed
    (fails_at_place g.M.MemoryModel.ops c.args.code.now s c.requires.reached c.requires.fails) c.place_of.result c.in-Some-place_of.function
    c.in-Some-place_of.instruction c.place_of.ensures c.in-Some-place_of.is in
    not_none c.line.result _ c.line.ensures.there instr c.in_default-line.is
