use Rattle.std.proofs.Common.{◌≡◌, ◌∙◌, ◌+◌, ◌-◌, ◌∷◌, ap, ap₂, sym, arith, drop, length}
use Rattle.std.specs.List.{cons_option}
use Rattle.path_walk.specs.Events.{release_step, regions_of}
use Rattle.path_walk.proofs.parts.regions.Goals as goal

pub loop-later-preserved : goal.loop-later-preserved
loop-later-preserved c =
    let es = c.args.events.now in
    let e = c.event_at-event.result in
    let n = length es - (c.loop-later.later + 1) in
    let next : n + 1 ≡ length es - c.loop-later.later = omega arith in
    let now : drop n es ≡ e ∷ drop (length es - c.loop-later.later) es = c.event_at-event.ensures n (omega arith) ∙ ap (λ k. e ∷ drop k es) next in
    record {
      found =
          c.in_ok-push_region.ensures
          ∙ ap₂ cons_option (c.region.ensures (drop (length es - c.loop-later.later) es) c.loop-later.invariant.left) c.loop-later.invariant.found
          ∙ ap regions_of (sym now);
      left = λ m.
          c.in_ok-note_left.ensures (drop (length es - c.loop-later.later) es) c.loop-later.invariant.left m
          ∙ ap (release_step m) (sym now);
    }
