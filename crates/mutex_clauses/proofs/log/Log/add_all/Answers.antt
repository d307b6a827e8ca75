use Rattle.std.proofs.Common.{◌≡◌, ◌∙◌, ap, arith}
use Rattle.mutex_states.specs.States.{Added}
use Rattle.mutex_clauses.specs.helpers.Logs.{with_first}
use Rattle.mutex_clauses.proofs.Next.{one_more}
use Rattle.mutex_clauses.proofs.log.Log.add_all.Goals as goal

pub loop-number-preserved : goal.loop-number-preserved
loop-number-preserved c =
    one_more c.args.self.now c.args.circuit.now c.loop-number.number c.loop-number.circuit c.add_next.new.circuit c.loop-number.room
    c.in_ok-room.room
    c.loop-number.invariant c.in_ok-room.ensures

pub returns : goal.returns
returns c =
    let l = c.args.self.now in
    let f = c.args.circuit.now in
    record {
      is = λ mutexes all.
          let same : c.loop-number.number ≡ mutexes = omega (arith, all, c.loop-number-test.false, c.loop-number.auto.number-end) in
          ap (λ (x : Added). x.draft) c.loop-number.invariant.is ∙ ap (λ k. (with_first l f k).draft) same;
      vars = c.loop-number.invariant.larger.0;
    }
