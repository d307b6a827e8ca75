use Rattle.std.proofs.Common.{sym, subst}
use Rattle.slot_liveness.specs.Tables.{liveness}
use Rattle.find_failures.specs.Found.{IsSearched}
use Rattle.find_failures.proofs.Runs.{searched_right}
use Rattle.find_failures.proofs.levels.find.Goals as goal

pub returns : goal.returns
returns g c =
    subst (IsSearched g.M.MemoryModel.ops g.M.MemoryModel.bound c.args.code.now g.M.MemoryModel.MODEL c.args.asked) (sym c.searched.ensures)
    (searched_right
    (record {
      ops = g.M.MemoryModel.ops;
      model = g.M.MemoryModel.MODEL;
      bound = g.M.MemoryModel.bound;
      laws = g.met.M.MemoryModel.laws;
      code = c.args.code.now;
      lawful = c.functions-functions.ensures.lawful;
    })
    (liveness c.in_ok-live.live) c.in_ok-live.ensures c.args.asked c.levels.new.gone c.in_ok-ended.ended c.in_ok-ended.ensures)
