use Rattle.std.proofs.Common.{◌∙◌, sym}
use Rattle.std.proofs.lemmas.Result.{IfOk-weaker}
use Rattle.slot_liveness.specs.Tables.{liveness}
use Rattle.find_failures.specs.Runs.{AreExcluded, AreImpossible}
use Rattle.find_failures.specs.helpers.Gone.{IsTried}
use Rattle.find_failures.proofs.Below.{one_in_more, old_is_below}
use Rattle.find_failures.proofs.Tried.{tried_so}
use Rattle.find_failures.proofs.round.try_new.Goals as goal

pub returns-then-not-is_new : goal.returns-then-not-is_new
returns-then-not-is_new g c =
    let old = old_is_below c.args.program.code.now c.args.asked.kind c.args.level c.args.threads.now c.requires.one (sym c.is_new.ensures ∙ c.if-not-is_new.true) in
    (c.requires.gone, λ none. (none, c.requires.settled none old.0 c.args.threads.now old.1 old.2))

pub try_threads-requires-clause-one : goal.try_threads-requires-clause-one
try_threads-requires-clause-one g c =
    one_in_more c.args.program.code.now c.args.asked.kind c.args.level c.args.asked.outcomes c.args.threads.now c.requires.level c.requires.one

pub returns : goal.returns
returns g c =
    let one : Type 0 = AreImpossible g.M.MemoryModel.ops g.M.MemoryModel.MODEL c.args.program.code.now c.args.asked.kind c.args.threads.now in
    let other : Type 0 =
    AreExcluded g.M.MemoryModel.ops g.M.MemoryModel.MODEL c.args.program.code.now (liveness c.args.program.live.now) c.args.asked.kind c.args.threads.now in
    IfOk-weaker c.try_threads.result
    (IsTried g.M.MemoryModel.ops g.M.MemoryModel.MODEL g.M.MemoryModel.bound c.args.program.code.now c.args.asked c.args.gone.now c.try_threads.new.self one)
    (IsTried g.M.MemoryModel.ops g.M.MemoryModel.MODEL g.M.MemoryModel.bound c.args.program.code.now c.args.asked c.args.gone.now c.try_threads.new.self other)
    (tried_so g.M.MemoryModel.ops g.M.MemoryModel.MODEL g.M.MemoryModel.bound c.args.program.code.now c.args.asked c.args.gone.now c.try_threads.new.self
    one other (λ impossible needed. impossible))
    c.try_threads.ensures
