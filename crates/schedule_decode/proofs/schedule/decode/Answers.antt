use Rattle.schedule_decode.proofs.Told.{tellable, planned, text, reproduces}
use Rattle.schedule_decode.proofs.schedule.decode.Goals as goal

pub moves_of-requires-clause-tellable : goal.moves_of-requires-clause-tellable
moves_of-requires-clause-tellable g c =
    tellable g.M.MemoryModel.ops g.M.MemoryModel.MODEL g.M.MemoryModel.bound c.args.code.now c.args.execution.now c.args.world.now
    c.requires.lawful g.M.MemoryModel.BUFFERED g.met.M.MemoryModel.buffered c.requires.room

pub invariant_of-result : goal.invariant_of-result
invariant_of-result g c = record {
  has_text = text g.M.MemoryModel.ops g.M.MemoryModel.MODEL g.M.MemoryModel.bound c.args.code.now c.args.execution.now c.args.world.now
      c.requires.lawful g.M.MemoryModel.BUFFERED g.met.M.MemoryModel.buffered c.in_ok-moves_of.field-0.items c.in_ok-moves_of.ensures
      c.requires.room c.MODEL.result c.MODEL.ensures;
}

pub returns-clause-moves : goal.returns-clause-moves
returns-clause-moves g c =
    planned g.M.MemoryModel.ops g.M.MemoryModel.MODEL g.M.MemoryModel.bound c.args.code.now c.args.execution.now c.args.world.now
    c.requires.lawful g.M.MemoryModel.BUFFERED g.met.M.MemoryModel.buffered c.in_ok-moves_of.field-0.items c.in_ok-moves_of.ensures

pub returns-clause-reproduces : goal.returns-clause-reproduces
returns-clause-reproduces g c =
    reproduces g.M.MemoryModel.ops g.M.MemoryModel.MODEL g.M.MemoryModel.bound c.args.code.now c.args.execution.now c.args.world.now
    c.requires.lawful g.M.MemoryModel.BUFFERED g.met.M.MemoryModel.buffered c.in_ok-moves_of.field-0.items c.in_ok-moves_of.ensures
