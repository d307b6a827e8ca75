-- The counters of a thread are at most the number of moves.
use Rattle.std.proofs.Common.{◌≡◌, ℕ, ◌+◌, ◌<◌, ◌≤◌, ◌^◌, length, List, [], ◌∷◌, Some, refl, sym, subst, arith, ℤ}
use Rattle.std.proofs.lemmas.Option.{same_Some, option_and_then_some}
use Rattle.tc_code.specs.tc_base.Buffers.{BufferOps}
use Rattle.tc_code.specs.tc_base.States.{Local, State}
use Rattle.tc_code.specs.tc_base.declared.moves.Move.{Move}
use Rattle.tc_code.specs.declared.instr.Instr.{Instr}
use Rattle.tc_code.specs.declared.instr.Instr.TheVariants.{Branch}
use Rattle.tc_code.specs.Code.{Code}
use Rattle.tc_code.specs.Step.{local_after, step, opening}
use Rattle.tc_code.specs.Run.{run, run_from}
use Rattle.run_laws.specs.Counters.{CountersAreBelowLast}
use Rattle.run_laws.specs.Whole.{AllThreads}
use Rattle.run_laws.proofs.After.{branch_is}
use Rattle.run_laws.proofs.AllThreads.{Keeps, all_after_step, all_at_opening}

-- a thread counts one step, and at most one child
pub record CountsOne (old new : Local) : Type 0 where
  pub steps : new.steps ≡ old.steps + 1
  pub children : new.children ≤ old.children + 1

-- each instruction counts one step, and at most one child
pub after_counts : (t : Local) (i : Instr) (v : ℤ) → CountsOne t (local_after t i v)
after_counts t (Branch e to) v = subst (CountsOne t) (sym (branch_is t _ to)) (record { steps = refl; children = omega arith })
after_counts t _ v = record { steps = refl; children = omega arith }

-- the counters of a thread are at most `k`
pub record CountsUpTo (k : ℕ) (t : Local) : Type 0 where
  pub steps : t.steps ≤ k
  pub children : t.children ≤ k

-- one step later they are at most `k + 1`
counted_on : (k : ℕ) (old new : Local) → CountsOne old new → CountsUpTo k old → CountsUpTo (k + 1) new
counted_on k old new one c = record { steps = omega (arith, one.steps, c.steps); children = omega (arith, one.children, c.children) }

module _ {B : Type 0} (ops : BufferOps B) (code : Code) where
  -- what each move raises by one, a run raises by the number of its moves
  counted_by_run : (P : ℕ → State B → Type 0) → ((k : ℕ) (s u : State B) (m : Move) → step ops code s m ≡ Some u → P k s → P (k + 1) u)
      → (k : ℕ) (s u : State B) (ms : List Move) → run_from ops code s ms ≡ Some u → P k s → P (k + length ms) u
  counted_by_run P counts k s u [] h p = let e : k ≡ k + 0 = omega arith in subst (λ j. P j u) e (subst (P k) (same_Some s u h) p)
  counted_by_run P counts k s u (m ∷ ms) h p =
      option_and_then_some (λ v. run_from ops code v ms) (step ops code s m) u h
      (λ v one rest.
      let e : (k + 1) + length ms ≡ k + length (m ∷ ms) = omega arith in
      subst (λ j. P j u) e (counted_by_run P counts (k + 1) v u ms rest (counts k s v m one p)))

  -- each move keeps that
  keeps_counts : (k : ℕ) (s : State B) → Keeps ops code s (CountsUpTo k) (CountsUpTo (k + 1))
  keeps_counts k s = record {
    stays = λ t steps few c. record { steps = omega (arith, few, c.steps); children = omega (arith, c.children) };
    does = λ u n i g c. counted_on k g.before.local (local_after g.before.local i g.value) (after_counts g.before.local i g.value) c;
    bears = λ u n h f es g c. record { steps = omega arith; children = omega arith };
  }

  -- the counters of a thread are at most the number of moves
  pub counts_of_run : (moves : List Move) (s : State B) → run ops code moves ≡ Some s → AllThreads (CountsUpTo (length moves)) s.threads
  counts_of_run moves s leads =
      let e : 0 + length moves ≡ length moves = omega arith in
      subst (λ k. AllThreads (CountsUpTo k) s.threads) e
      (counted_by_run (λ k (u : State B). AllThreads (CountsUpTo k) u.threads)
      (λ k v u m h all. all_after_step ops code v u m (CountsUpTo k) (CountsUpTo (k + 1)) (keeps_counts k v) h all)
      0 (opening ops code) s moves leads
      (all_at_opening ops code (CountsUpTo 0) (record { steps = omega arith; children = omega arith })))

  -- if the moves are few, each counter of a thread has room
  pub counters_below_last : (moves : List Move) (s : State B) → run ops code moves ≡ Some s → length moves + 1 < 2 ^ 32 → CountersAreBelowLast s
  counters_below_last moves s leads few n t there =
      let c = counts_of_run moves s leads n t there in
      record { steps = omega (arith, c.steps, few); children = omega (arith, c.children, few) }
