use Rattle.std.proofs.Common.{Bool, ap, arith, subst, sym}
use Rattle.std.proofs.lemmas.Result.{IfOk-weaker}
use Rattle.path_execution.specs.declared.execution.Execution.{Execution}
use Rattle.cnf_core.specs.Clauses.{value_in}
use Rattle.schedule_decode.specs.Decodable.{HaveRoom}
use Rattle.clap_solve.proofs.Room.{have_room}
use Rattle.least_switch.specs.helpers.Bounded.{IsBounded}
use Rattle.least_switch.proofs.Said.{bounded_decodable, bounded_few, bounded_lives, bounded_switches, small_in}
use Rattle.least_switch.proofs.stages.next_best.Goals as goal

pub read_world-requires-clause-few : goal.read_world-requires-clause-few
read_world-requires-clause-few g c =
    let r = c.requires in
    bounded_few g.M.MemoryModel.BUFFERED g.M.MemoryModel.bound c.args.code.now c.args.log.now.log r.given.lawful c.args.most c.args.bounded.now r.bounded
    (value_in c.args.assignment.now) r.satisfies

pub read_world-requires-clause-values : goal.read_world-requires-clause-values
read_world-requires-clause-values g c =
    let r = c.requires in
    omega (
      arith,
      r.all,
      r.bounded.variables (bounded_lives g.M.MemoryModel.BUFFERED g.M.MemoryModel.bound c.args.code.now c.args.log.now.log r.given.lawful c.args.most
          c.args.bounded.now r.bounded (value_in c.args.assignment.now) r.satisfies),
    )

pub best_of-requires-clause-lawful : goal.best_of-requires-clause-lawful
best_of-requires-clause-lawful g c =
    let bound = g.M.MemoryModel.bound in
    let r = c.requires in
    bounded_decodable g.M.MemoryModel.ops g.M.MemoryModel.MODEL bound c.args.code.now c.args.log.now.log g.met.M.MemoryModel.laws r.given c.args.most
    c.args.bounded.now
    (subst (λ (b : Bool). IsBounded b bound c.args.code.now c.args.log.now.log c.args.most c.args.bounded.now) g.met.M.MemoryModel.buffered r.bounded)
    c.args.assignment.now r.satisfies c.in_ok-world.world c.in_ok-world.ensures

pub best_of-requires-clause-room : goal.best_of-requires-clause-room
best_of-requires-clause-room g c =
    let r = c.requires in
    subst HaveRoom (sym (ap (λ (x : Execution). x.paths) r.bounded.execution))
    (have_room c.args.code.now c.args.log.now.log r.given.is_log r.given.within r.given.steps)

pub best_of-requires-clause-small : goal.best_of-requires-clause-small
best_of-requires-clause-small g c =
    let r = c.requires in
    let v = value_in c.args.assignment.now in
    small_in c.args.bounded.now.layout v c.in_ok-world.world c.in_ok-world.ensures
    (bounded_few g.M.MemoryModel.BUFFERED g.M.MemoryModel.bound c.args.code.now c.args.log.now.log r.given.lawful c.args.most c.args.bounded.now r.bounded v
    r.satisfies)

pub returns : goal.returns
returns g c =
    let r = c.requires in
    let v = value_in c.args.assignment.now in
    let few = bounded_switches g.M.MemoryModel.BUFFERED g.M.MemoryModel.bound c.args.code.now c.args.log.now.log r.given.lawful c.args.most
    c.args.bounded.now r.bounded v r.satisfies c.in_ok-world.world c.in_ok-world.ensures in
    IfOk-weaker c.best_of.result _ _
    (λ b of. (
      of.has c.args.log.now.log r.given.is_log r.given.within.fits (sym (ap (λ (x : Execution). x.paths) r.bounded.execution)),
      omega (arith, of.count, few),
    ))
    c.best_of.ensures
