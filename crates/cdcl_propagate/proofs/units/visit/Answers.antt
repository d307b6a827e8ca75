use Rattle.std.proofs.Common.{◌≡◌, ◌<◌, ℕ, List, Some, ◌∙◌, ap, subst, arith, length, set}
use Rattle.cdcl_trail.specs.Trail.{Trail, IsTrail, pushed}
use Rattle.cdcl_clauses.specs.Clauses.{at, listed, without_place}
use Rattle.cdcl_clauses.specs.Invariants.{HasTrue}
use Rattle.cdcl_clauses.specs.declared.watches.Watch.{Watch}
use Rattle.cdcl_propagate.proofs.Links.{rewatched}
use Rattle.cdcl_propagate.proofs.Guarding.{same-trans, extends-pushed, extends-trans}
use Rattle.cdcl_propagate.proofs.Visiting.{
  visited-more,
  visited-without,
  visited-pushed,
  visited-all,
  listed-without,
  length-without_place,
  fallen-now,
  sound-removed,
  sound-forced,
  has_true-forced,
  conflict-found,
  fallen-within,
  Moved,
  moved_lists,
  moved,
  entry-clause,
  found-within,
}
use Rattle.cdcl_propagate.proofs.units.visit.Goals as goal

pub loop-place-preserved-in-Satisfied : goal.loop-place-preserved-in-Satisfied
loop-place-preserved-in-Satisfied c =
    let inv = c.loop-place.invariant in
    let pl : c.loop-place.place < length (listed c.loop-place.watches c.args.fallen) = omega (arith, c.loop-place-test.true, c.count.ensures) in
    record {
      keeps = inv.keeps;
      same = inv.same;
      within = omega (arith, pl);
      visited = visited-more c.loop-place.trail c.loop-place.clauses c.loop-place.watches c.args.fallen c.loop-place.place inv.visited c.get.result pl
          c.get.ensures c.in-Satisfied.ensures;
    }

pub loop-place-preserved-in-Gone : goal.loop-place-preserved-in-Gone
loop-place-preserved-in-Gone c =
    let inv = c.loop-place.invariant in
    let pl : c.loop-place.place < length (listed c.loop-place.watches c.args.fallen) = omega (arith, c.loop-place-test.true, c.count.ensures) in
    let now = fallen-now c.args.trail.now c.loop-place.trail inv.keeps.extends c.args.fallen c.requires.pending c.requires.fallen inv.same in
    let fl : c.args.fallen < length c.loop-place.watches = fallen-within c.loop-place.trail c.loop-place.clauses c.loop-place.watches inv.keeps.sound
    c.args.fallen now.0 now.1 in
    rw c.remove.ensures (record {
      keeps = record {
        sound = sound-removed c.loop-place.trail c.loop-place.clauses c.loop-place.watches inv.keeps.sound c.args.fallen
            c.loop-place.place c.get.result fl pl c.get.ensures c.in-Gone.ensures;
        same = inv.keeps.same;
        extends = inv.keeps.extends;
      };
      same = inv.same;
      within = omega (
        arith,
        length-without_place (listed c.loop-place.watches c.args.fallen) c.loop-place.place pl,
        ap length (listed-without c.loop-place.watches c.args.fallen c.loop-place.place fl),
      );
      visited = visited-without c.loop-place.trail c.loop-place.clauses c.loop-place.watches c.args.fallen c.loop-place.place fl pl inv.visited;
    })

move : (c : goal.After-remove-in-Moves) → Moved c.loop-place.trail c.loop-place.clauses c.loop-place.watches c.args.fallen c.loop-place.place
    c.in-Moves.clause c.in-Moves.other c.in-Moves.next (rewatched c.loop-place.clauses c.in-Moves.clause c.in-Moves.other c.in-Moves.next)
    (moved_lists c.loop-place.watches c.args.fallen c.loop-place.place c.in-Moves.clause c.in-Moves.other c.in-Moves.next)
move c =
    let inv = c.loop-place.invariant in
    let now = fallen-now c.args.trail.now c.loop-place.trail inv.keeps.extends c.args.fallen c.requires.pending c.requires.fallen inv.same in
    let pl : c.loop-place.place < length (listed c.loop-place.watches c.args.fallen) = omega (arith, c.loop-place-test.true, c.count.ensures) in
    let found = c.in-Moves.ensures in
    moved c.loop-place.trail c.loop-place.clauses c.loop-place.watches inv.keeps.sound c.args.fallen c.loop-place.place c.get.result
    c.in-Moves.clause c.in-Moves.other c.in-Moves.next pl c.get.ensures found.0
    (entry-clause c.loop-place.trail.variables c.loop-place.clauses c.loop-place.watches inv.keeps.sound.linked c.args.fallen c.loop-place.place
    c.get.result pl c.get.ensures c.in-Moves.clause found.0)
    (found-within c.loop-place.trail c.loop-place.clauses c.loop-place.watches inv.keeps.sound c.args.fallen c.in-Moves.clause c.in-Moves.other c.in-Moves.next
    (entry-clause c.loop-place.trail.variables c.loop-place.clauses c.loop-place.watches inv.keeps.sound.linked c.args.fallen c.loop-place.place
    c.get.result pl c.get.ensures c.in-Moves.clause found.0) found.1 found.2)
    found.1 found.2 now.0 now.1 inv.visited

lists : (c : goal.After-remove-in-Moves) → c.remove-in-Moves.new.self ≡ moved_lists c.loop-place.watches c.args.fallen c.loop-place.place
    c.in-Moves.clause c.in-Moves.other c.in-Moves.next
lists c = c.remove-in-Moves.ensures ∙ ap (λ (vs : List (List Watch)). set vs c.args.fallen
    (without_place (listed vs c.args.fallen) c.loop-place.place)) c.in_ok-move_watch-in-Moves.ensures.ok_watches

pub loop-place-smaller-in-Moves : goal.loop-place-smaller-in-Moves
loop-place-smaller-in-Moves c =
    let size = (move c).size in
    let e = ap (λ (vs : List (List Watch)). length (listed vs c.args.fallen)) (lists c) in
    let pl : c.loop-place.place < length (listed c.loop-place.watches c.args.fallen) = omega (arith, c.loop-place-test.true, c.count.ensures) in
    omega (arith, size, e, pl)

pub loop-place-preserved-in-Moves : goal.loop-place-preserved-in-Moves
loop-place-preserved-in-Moves c =
    let inv = c.loop-place.invariant in
    let m = move c in
    let pl : c.loop-place.place < length (listed c.loop-place.watches c.args.fallen) = omega (arith, c.loop-place-test.true, c.count.ensures) in
    rw (lists c, c.in_ok-move_watch-in-Moves.ensures.ok_clauses) (record {
      keeps = record {
        sound = m.sound;
        same = same-trans c.args.clauses.now c.loop-place.clauses (rewatched c.loop-place.clauses c.in-Moves.clause c.in-Moves.other c.in-Moves.next)
            inv.keeps.same m.same;
        extends = inv.keeps.extends;
      };
      same = inv.same;
      within = omega (arith, m.size, pl);
      visited = m.visited;
    })

pub loop-place-preserved : goal.loop-place-preserved
loop-place-preserved c =
    let inv = c.loop-place.invariant in
    let pl : c.loop-place.place < length (listed c.loop-place.watches c.args.fallen) = omega (arith, c.loop-place-test.true, c.count.ensures) in
    let found = c.in-Forces.ensures in
    let h = entry-clause c.loop-place.trail.variables c.loop-place.clauses c.loop-place.watches inv.keeps.sound.linked c.args.fallen
    c.loop-place.place c.get.result pl c.get.ensures c.in-Forces.clause found.0 in
    let u : Trail = pushed c.loop-place.trail c.in-Forces.other (Some c.in-Forces.clause) in
    let lawful : IsTrail u = rw c.imply.ensures.after at c.imply.ensures.lawful in
    rw c.imply.ensures.after (record {
      keeps = record {
        sound = sound-forced c.loop-place.trail c.loop-place.clauses c.loop-place.watches inv.keeps.sound c.args.fallen
            c.in-Forces.clause c.in-Forces.other h found.1 found.3 lawful;
        same = inv.keeps.same;
        extends = extends-trans c.args.trail.now c.loop-place.trail u inv.keeps.extends
            (extends-pushed c.loop-place.trail c.in-Forces.other (Some c.in-Forces.clause));
      };
      same = inv.same;
      within = omega (arith, pl);
      visited = visited-more u c.loop-place.clauses c.loop-place.watches c.args.fallen c.loop-place.place
          (visited-pushed c.loop-place.trail c.loop-place.clauses c.loop-place.watches c.args.fallen c.loop-place.place c.in-Forces.other
          (Some c.in-Forces.clause) inv.visited)
          c.get.result pl c.get.ensures
          (λ g. subst (λ (n : ℕ). HasTrue u.literals (at c.loop-place.clauses n)) found.0
          (has_true-forced c.loop-place.trail c.loop-place.clauses c.loop-place.watches inv.keeps.sound c.args.fallen
          c.in-Forces.clause c.in-Forces.other h found.1));
    })

pub returns-in-Conflict-clause-conflict : goal.returns-in-Conflict-clause-conflict
returns-in-Conflict-clause-conflict c =
    let inv = c.loop-place.invariant in
    let now = fallen-now c.args.trail.now c.loop-place.trail inv.keeps.extends c.args.fallen c.requires.pending c.requires.fallen inv.same in
    let found = c.in-Conflict.ensures in
    let pl : c.loop-place.place < length (listed c.loop-place.watches c.args.fallen) = omega (arith, c.loop-place-test.true, c.count.ensures) in
    let h = entry-clause c.loop-place.trail.variables c.loop-place.clauses c.loop-place.watches inv.keeps.sound.linked c.args.fallen
    c.loop-place.place c.get.result pl c.get.ensures c.in-Conflict.clause found.0 in
    conflict-found c.loop-place.trail c.loop-place.clauses c.loop-place.watches inv.keeps.sound c.args.fallen c.in-Conflict.clause h found.1.watching
    found.2 now.0 now.1

pub returns-clause-none : goal.returns-clause-none
returns-clause-none c =
    let inv = c.loop-place.invariant in
    λ none. visited-all c.loop-place.trail.variables c.loop-place.trail c.loop-place.clauses c.loop-place.watches c.args.fallen c.loop-place.place
    inv.keeps.sound.linked (omega (arith, c.loop-place-test.false, c.count.ensures)) inv.visited
