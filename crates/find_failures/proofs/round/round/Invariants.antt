use Rattle.std.proofs.Common.{◌≡◌, None}
use Rattle.std.specs.Prelude.{IfSome, option_map}
use Rattle.slot_liveness.specs.Tables.{liveness}
use Rattle.log_walk.specs.Given.{IsOne}
use Rattle.find_failures.specs.Runs.{AreExcluded}
use Rattle.find_failures.specs.helpers.Gone.{AreGone}
use Rattle.find_failures.proofs.Many.{AreManyTo}
use Rattle.find_failures.proofs.Through.{IsThrough}
use Rattle.find_failures.proofs.round.round.Given as goal

abbrev pub invariant-logs : goal.invariant-logs
invariant-logs g l = record {
  gone : AreGone g.M.MemoryModel.ops g.M.MemoryModel.MODEL g.M.MemoryModel.bound l.program.code.now l.asked l.gone;
  kept : l.gone.unknown ≡ None → l.fn.gone.unknown ≡ None;
  one : IfSome (option_map (λ v. v.items) l.last) (IsOne l.program.code.now (record { kind = l.asked.kind; most = l.level }));
  through : l.gone.unknown ≡ None
      → IsThrough l.program.code.now (record { kind = l.asked.kind; most = l.level }) (AreExcluded g.M.MemoryModel.ops g.M.MemoryModel.MODEL l.program.code.now (liveness l.program.live.now) l.asked.kind) (option_map (λ v. v.items) l.last) l.out;
  many : AreManyTo l.program.code.now l.asked l.count (option_map (λ v. v.items) l.last);
}
