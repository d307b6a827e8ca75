use Rattle.std.proofs.Common.{◌≤◌, ◌<◌, ◌+◌, length, ap, sym, ◌∙◌, arith, List, ℕ, refl, inl, Bor}
use Rattle.std.specs.Prelude.{option_map}
use Rattle.std.proofs.lemmas.Bool.Decides.{nat_tests}
use Rattle.tc_base.specs.declared.moves.Move.{Move}
use Rattle.schedule_file.specs.Schedules.{most_lines}
use Rattle.schedule_file.proofs.Schedules.{no_schedule_begins, none_begins, begun, read_on, stops_here, shorter}
use Rattle.schedule_file.proofs.reading.read_schedule.Goals as goal

abbrev plain : Move × Bor (List ℕ) → Move × List ℕ
plain x = (x.0, x.1.now)

pub returns-in_default-clause-refused : goal.returns-in_default-clause-refused
returns-in_default-clause-refused c = inl (no_schedule_begins c.args.text.now c.in_default.ensures, refl)

pub loop-rest-init : goal.loop-rest-init
loop-rest-init c = rw c.new-moves.ensures.items (begun c.args.text.now c.in-Some.model c.in-Some.lines.now c.in-Some.ensures)

pub returns-in_default-2-clause-refused : goal.returns-in_default-2-clause-refused
returns-in_default-2-clause-refused c =
    let more : 0 < length c.loop-rest.rest.now = grind (arith, nat_tests) in
    stops_here c.args.text.now c.in-Some.model c.loop-rest.moves.items c.loop-rest.rest.now _ c.loop-rest.invariant more (omega arith)
    (λ n. none_begins c.in-Some.model c.loop-rest.rest.now (ap (option_map plain) (sym c.in_default-2.is) ∙ c.in_ok-next.ensures))

pub loop-rest-smaller : goal.loop-rest-smaller
loop-rest-smaller c = shorter c.in-Some.model c.loop-rest.rest.now c.in-Some-2.next c.in-Some-2.after.now
    (ap (option_map plain) (sym c.in-Some-2.is) ∙ c.in_ok-next.ensures)

pub loop-rest-preserved : goal.loop-rest-preserved
loop-rest-preserved c =
    let few : length c.loop-rest.moves.items + 2 ≤ most_lines = omega arith in
    read_on c.args.text.now c.in-Some.model c.loop-rest.moves.items c.loop-rest.rest.now c.in-Some-2.next c.in-Some-2.after.now c.push.new.self.items
    c.loop-rest.invariant few (ap (option_map plain) (sym c.in-Some-2.is) ∙ c.in_ok-next.ensures) c.in_ok-push.ensures.items
