use Rattle.std.proofs.Common.{◌∙◌}
use Rattle.clap_solve.proofs.Posing.{draftable_by, posed_by, within_by}
use Rattle.clap_solve.proofs.posed.pose.Goals as goal

pub blasted-requires : goal.blasted-requires
blasted-requires g c =
    let build = c.in_ok-build.ensures in
    let parts = c.into_parts-execution.ensures in
    let buffered = g.M.MemoryModel.BUFFERED in
    let bound = g.M.MemoryModel.bound in
    let within = within_by buffered bound c.args.code.now c.args.log.now.log c.in_ok-build.field-0 build.system build.shallow build.fits build.events
    build.operators in
    draftable_by buffered bound c.args.code.now c.args.log.now.log _ c.in_ok-build.field-0 parts.parts build.system c.functions-functions.ensures.lawful
    within build.steps parts.sound

pub returns-clause-posed : goal.returns-clause-posed
returns-clause-posed g c =
    posed_by g.M.MemoryModel.BUFFERED g.M.MemoryModel.bound c.args.code.now c.args.log.now.log _ c.in_ok-blasted.blasted
    (c.into_parts-execution.ensures.parts ∙ c.in_ok-build.ensures.system) c.in_ok-blasted.ensures.blasted

pub returns-clause-given : goal.returns-clause-given
returns-clause-given g c =
    let build = c.in_ok-build.ensures in
    record {
      lawful = c.functions-functions.ensures.lawful;
      is_log = c.threads-threads.ensures.is_log;
      steps = build.steps;
      within = within_by g.M.MemoryModel.BUFFERED g.M.MemoryModel.bound c.args.code.now c.args.log.now.log c.in_ok-build.field-0 build.system build.shallow
          build.fits build.events build.operators;
    }
