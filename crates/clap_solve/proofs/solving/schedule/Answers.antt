use Rattle.std.proofs.Common.{◌≡◌, ◌∙◌, ◌<◌, Bool, true, ap, arith, subst, sym}
use Rattle.std.specs.Prelude.{IfOk}
use Rattle.run_log.specs.Logs.{Log}
use Rattle.tc_code.specs.Run.{Reproduces}
use Rattle.run_log.specs.Logs.{is_log}
use Rattle.path_walk.specs.Fits.{Fits}
use Rattle.path_walk.specs.Paths.{paths_of}
use Rattle.path_execution.specs.declared.execution.Execution.{Execution}
use Rattle.bit_blast.specs.bit_order.Readings.{world_of}
use Rattle.bit_blast.specs.Blasted.{Blasted}
use Rattle.cnf_core.specs.Clauses.{value_in}
use Rattle.schedule_decode.specs.Decodable.{HaveRoom, IsDecodable}
use Rattle.clap_solve.specs.Posed.{Posed, posed_of}
use Rattle.clap_solve.proofs.Found.{decodable, lives}
use Rattle.clap_solve.proofs.Room.{have_room}
use Rattle.clap_solve.proofs.solving.schedule.Goals as goal

pub world-requires-clause-variables : goal.world-requires-clause-variables
world-requires-clause-variables g c =
    let r = c.requires.posed in
    subst (λ (b : Blasted). 0 < b.clauses.vars) (sym c.blasted.ensures)
    (r.variables (lives g.M.MemoryModel.BUFFERED g.M.MemoryModel.bound c.args.code.now r.log r.given.lawful r.given.within c.args.posed.now r.posed
    (value_in c.args.assignment.now) c.requires.satisfies))

pub world-requires-clause-values : goal.world-requires-clause-values
world-requires-clause-values g c = omega (arith, c.requires.all, ap (λ (b : Blasted). b.clauses.vars) c.blasted.ensures)

pub decode-requires-clause-lawful : goal.decode-requires-clause-lawful
decode-requires-clause-lawful g c =
    let ops = g.M.MemoryModel.ops in
    let model = g.M.MemoryModel.MODEL in
    let bound = g.M.MemoryModel.bound in
    let code = c.args.code.now in
    let r = c.requires.posed in
    let posed = c.args.posed.now in
    let world = c.in_ok-world.world in
    let said = c.in_ok-world.ensures ∙ ap (λ (b : Blasted). world_of b.layout (value_in c.args.assignment.now)) c.blasted.ensures in
    let own = decodable ops model bound code r.log g.met.M.MemoryModel.laws r.given.lawful r.given.is_log r.given.within posed
    (subst (λ (b : Bool). posed ≡ posed_of b bound code r.log) g.met.M.MemoryModel.buffered r.posed) c.args.assignment.now c.requires.satisfies world said in
    subst (λ (x : Execution). IsDecodable ops model bound code x world) (sym c.execution.ensures) own

pub decode-requires-clause-room : goal.decode-requires-clause-room
decode-requires-clause-room g c =
    let r = c.requires.posed in
    subst HaveRoom (sym (ap (λ (x : Execution). x.paths) c.execution.ensures ∙ ap (λ (q : Posed). q.paths) r.posed))
    (have_room c.args.code.now r.log r.given.is_log r.given.within r.given.steps)

pub returns-clause-reproduces : goal.returns-clause-reproduces
returns-clause-reproduces g c =
    let ops = g.M.MemoryModel.ops in
    let code = c.args.code.now in
    subst (λ (x : Execution). IfOk c.decode.result (λ schedule. (log : Log) → is_log log ≡ true → Fits code log → paths_of code log ≡ x.paths
    → Reproduces ops code log schedule.moves.items))
    c.execution.ensures c.decode.ensures.reproduces
