use Rattle.std.proofs.Common.{◌≡◌, ◌∙◌, ◌<◌, Bool, ap, arith, subst, sym}
use Rattle.std.proofs.lemmas.Result.{IfOk-weaker}
use Rattle.path_execution.specs.declared.execution.Execution.{Execution}
use Rattle.cnf_core.specs.Clauses.{value_in}
use Rattle.bit_order.specs.Readings.{world_of}
use Rattle.bit_blast.specs.Blasted.{Blasted}
use Rattle.schedule_decode.specs.Decodable.{HaveRoom, IsDecodable}
use Rattle.clap_solve.specs.Posed.{Posed, posed_of}
use Rattle.clap_solve.proofs.Found.{decodable, lives}
use Rattle.clap_solve.proofs.Room.{have_room}
use Rattle.least_switch.proofs.Said.{posed_few, small_in}
use Rattle.least_switch.proofs.stages.first_best.Goals as goal

pub world-requires-clause-variables : goal.world-requires-clause-variables
world-requires-clause-variables g c =
    let r = c.requires in
    subst (λ (b : Blasted). 0 < b.clauses.vars) (sym c.blasted.ensures)
    (r.variables (lives g.M.MemoryModel.BUFFERED g.M.MemoryModel.bound c.args.code.now c.args.log.now.log r.given.lawful r.given.within c.args.posed.now
    r.posed (value_in c.args.assignment.now) r.satisfies))

pub world-requires-clause-values : goal.world-requires-clause-values
world-requires-clause-values g c = omega (arith, c.requires.all, ap (λ (b : Blasted). b.clauses.vars) c.blasted.ensures)

pub best_of-requires-clause-lawful : goal.best_of-requires-clause-lawful
best_of-requires-clause-lawful g c =
    let ops = g.M.MemoryModel.ops in
    let model = g.M.MemoryModel.MODEL in
    let bound = g.M.MemoryModel.bound in
    let code = c.args.code.now in
    let r = c.requires in
    let posed = c.args.posed.now in
    let world = c.in_ok-world.world in
    let said = c.in_ok-world.ensures ∙ ap (λ (b : Blasted). world_of b.layout (value_in c.args.assignment.now)) c.blasted.ensures in
    let own = decodable ops model bound code c.args.log.now.log g.met.M.MemoryModel.laws r.given.lawful r.given.is_log r.given.within posed
    (subst (λ (b : Bool). posed ≡ posed_of b bound code c.args.log.now.log) g.met.M.MemoryModel.buffered r.posed) c.args.assignment.now r.satisfies world
    said in
    subst (λ (x : Execution). IsDecodable ops model bound code x world) (sym c.execution.ensures) own

pub best_of-requires-clause-room : goal.best_of-requires-clause-room
best_of-requires-clause-room g c =
    let given = c.requires.given in
    subst HaveRoom (sym (ap (λ (x : Execution). x.paths) c.execution.ensures ∙ ap (λ (q : Posed). q.paths) c.requires.posed))
    (have_room c.args.code.now c.args.log.now.log given.is_log given.within given.steps)

pub best_of-requires-clause-small : goal.best_of-requires-clause-small
best_of-requires-clause-small g c =
    let r = c.requires in
    let v = value_in c.args.assignment.now in
    let posed = c.args.posed.now in
    let buffered = g.M.MemoryModel.BUFFERED in
    let bound = g.M.MemoryModel.bound in
    let alive = lives buffered bound c.args.code.now c.args.log.now.log r.given.lawful r.given.within posed r.posed v r.satisfies in
    small_in posed.blasted.layout v c.in_ok-world.world
    (c.in_ok-world.ensures ∙ ap (λ (b : Blasted). world_of b.layout v) c.blasted.ensures)
    (posed_few buffered bound c.args.code.now c.args.log.now.log r.given.lawful r.given.within posed r.posed alive)

pub returns : goal.returns
returns g c =
    let given = c.requires.given in
    IfOk-weaker c.best_of.result _ _
    (λ b of.
    of.has c.args.log.now.log given.is_log given.within.fits
    (sym (ap (λ (x : Execution). x.paths) c.execution.ensures ∙ ap (λ (q : Posed). q.paths) c.requires.posed)))
    c.best_of.ensures
