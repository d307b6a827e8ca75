use Rattle.std.proofs.Common.{◌≡◌, ◌++◌, ◌≤◌, ◌||◌, drop}
use Rattle.std.specs.List.{list_any}
use Rattle.path_walk.specs.Steps.{steps_at}
use Rattle.path_walk.specs.Marks.{marks_at_start, marks_after, marked_from, marked_steps}
use Rattle.path_walk.specs.Events.{events_of, is_impossible}
use Rattle.path_walk.proofs.tell.tell.Given as goal

abbrev pub invariant-loop-step : goal.invariant-loop-step
invariant-loop-step l =
    let rest = marked_from l.fails l.step l.marks (steps_at l.code l.function (drop l.step l.places)) in
    let all = marked_steps l.code l.function l.fails (steps_at l.code l.function l.places) in
    record {
      events : l.events.items ++ events_of l.code l.function rest ≡ events_of l.code l.function all;
      dead : (l.dead || list_any is_impossible rest) ≡ list_any is_impossible all;
      marks : marks_after l.marks (steps_at l.code l.function (drop l.step l.places))
          ≡ marks_after (marks_at_start l.code l.function) (steps_at l.code l.function l.places);
      children : l.marks.children ≤ l.step;
      bars : l.marks.bars ≤ l.step;
    }
