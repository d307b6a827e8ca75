use Rattle.least_switch.proofs.Told.{of_world}
use Rattle.least_switch.proofs.best.best_of.Goals as goal

pub returns : goal.returns
returns g c =
    of_world g.M.MemoryModel.ops g.M.MemoryModel.MODEL g.M.MemoryModel.bound c.args.code.now c.args.execution.now c.args.world
    c.requires.lawful c.requires.small g.M.MemoryModel.BUFFERED g.met.M.MemoryModel.buffered c.in_ok-schedule.schedule
    c.in_ok-switches.switches c.args.world c.in_ok-schedule.ensures.model c.in_ok-schedule.ensures.moves c.in_ok-schedule.ensures.reproduces
    c.in_ok-switches.ensures.switches c.in_ok-switches.ensures.few
