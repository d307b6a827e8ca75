use Rattle.std.proofs.Common.{◌≡◌, drop, fold}
use Rattle.sym_exec.specs.helpers.Threads.{HaveTerms}
use Rattle.sym_exec.specs.Making.{Grows}
use Rattle.sym_exec.specs.Executed.{with_thread, executed}
use Rattle.sym_exec.proofs.threads.execute.Given as goal

-- the threads done so far and the threads left are all threads
abbrev pub invariant-loop-walk : goal.invariant-loop-walk
invariant-loop-walk l = record {
  all : fold (with_thread l.code l.paths) (record { symbolic = l.symbolic; nodes = l.terms }) (drop l.walk-index l.paths.threads)
      ≡ executed l.code l.paths l.fn.terms;
  sound : HaveTerms (record { symbolic = l.symbolic; nodes = l.terms });
  grown : Grows l.fn.terms l.terms;
}
