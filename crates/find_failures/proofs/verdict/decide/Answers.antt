use Rattle.find_failures.proofs.Tried.{unfit_by}
use Rattle.find_failures.proofs.verdict.decide.Goals as goal

pub returns-in-Err-Walk : goal.returns-in-Err-Walk
returns-in-Err-Walk g c =
    unfit_by
    (record {
      ops = g.M.MemoryModel.ops;
      model = g.M.MemoryModel.MODEL;
      bound = g.M.MemoryModel.bound;
      laws = g.met.M.MemoryModel.laws;
      code = c.args.code.now;
      lawful = c.functions-functions.ensures.lawful;
    })
    c.args.log.now.log c.in-Err-Walk.field-0-0 (rw c.in-Err-Walk.field-0-is at c.in-Err-Walk.ensures.err)
