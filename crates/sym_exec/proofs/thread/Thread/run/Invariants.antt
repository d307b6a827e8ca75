use Rattle.std.proofs.Common.{◌≡◌, ◌≤◌, length, drop}
use Rattle.tc_code.specs.Step.{ints_of}
use Rattle.sym_exec.specs.helpers.Threads.{doing_of}
use Rattle.sym_exec.specs.Thread.{HasTerms}
use Rattle.sym_exec.specs.Making.{Grows}
use Rattle.sym_exec.specs.Thread.{route_of, after_all}
use Rattle.sym_exec.proofs.thread.Thread.run.Given as goal

-- the steps done so far and the steps left are all steps
abbrev pub invariant-loop-place : goal.invariant-loop-place
invariant-loop-place l =
    let w = l.fn.walk in
    record {
      all : after_all (route_of l.code w l.fails) (doing_of l.self l.terms) (drop l.place-index l.walk.places)
          ≡ after_all (route_of l.code w l.fails) (doing_of l.fn.self l.fn.terms) w.places;
      sound : HasTerms (doing_of l.self l.terms);
      ints : ints_of l.code w.function ≤ length l.self.slots.items;
      steps : l.self.steps ≤ l.place-index;
      branches : l.self.branches ≤ l.place-index;
      grown : Grows l.fn.terms l.terms;
    }
