use Rattle.std.proofs.Common.{◌≡◌, None}
use Rattle.find_failures.specs.helpers.Gone.{AreGone}
use Rattle.find_failures.proofs.Tried.{AreRuledOut}
use Rattle.find_failures.proofs.gone.Gone.try_failures.Given as goal

abbrev pub invariant-loop-index : goal.invariant-loop-index
invariant-loop-index g l = record {
  gone : AreGone g.M.MemoryModel.ops g.M.MemoryModel.MODEL g.M.MemoryModel.bound l.code l.asked l.self;
  so_far : l.self.unknown ≡ None → (l.fn.self.unknown ≡ None) × AreRuledOut g.M.MemoryModel.ops g.M.MemoryModel.MODEL l.code l.threads l.index;
}
