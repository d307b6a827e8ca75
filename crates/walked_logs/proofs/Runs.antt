-- Where some run fails or deadlocks, some run reproduces a log whose threads make up a log.
use Rattle.std.proofs.Common.{IsSome}
use Rattle.log_walk.specs.tc_code.Run.{IsStuck}
use Rattle.normal_logs.specs.run_follows.Machine.{Machine}
use Rattle.normal_logs.specs.Within.{Allowed, HasBeginnings, ComesTo, ReproducesSome}
use Rattle.normal_logs.proofs.Logs.{fails_to, stuck_to}
use Rattle.walked_logs.specs.Walked.{IsWalked, IsWalkedDeadlock}
use Rattle.walked_logs.proofs.Failures.{failure_made_up}
use Rattle.walked_logs.proofs.Deadlocks.{deadlock_made_up}

module _ {B : Type 0} (m : Machine B) (allowed : Allowed) where
  pub fails_walked : HasBeginnings allowed → ComesTo m.ops m.code allowed (λ s. IsSome s.failed)
      → ReproducesSome m.ops m.code allowed m.model (IsWalked m.code)
  fails_walked begins c =
      let r = fails_to m allowed begins c in
      record {
        log = r.log;
        is = record { fails = r.is.fails; makes_up = failure_made_up m.code r.log r.is };
        under = r.under;
        within = r.within;
        moves = r.moves;
        again = r.again;
      }

  pub stuck_walked : ComesTo m.ops m.code allowed (IsStuck m.ops m.code) → ReproducesSome m.ops m.code allowed m.model (IsWalkedDeadlock m.code)
  stuck_walked c =
      let r = stuck_to m allowed c in
      record {
        log = r.log;
        is = record { ends = r.is.ends; makes_up = deadlock_made_up m.code r.log m.lawful r.is };
        under = r.under;
        within = r.within;
        moves = r.moves;
        again = r.again;
      }
