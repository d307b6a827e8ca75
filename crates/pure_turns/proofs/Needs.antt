-- If no run without pure turns fails, no run fails.
use Rattle.std.proofs.Common.{◌≡◌, ◌∙◌, inl, inr, ℕ, List, length, Option, Some, None, IsSome, sym, ap, subst, arith}
use Rattle.std.specs.FinMap as fin
use Rattle.std.proofs.lemmas.Option.{none-some, same_Some}
use Rattle.run_laws.specs.tc_base.Names.{Name}
use Rattle.run_laws.specs.tc_base.Buffers.{BufferOps}
use Rattle.run_laws.specs.tc_base.States.{Local, Thread, State}
use Rattle.run_laws.specs.tc_base.declared.moves.Move.{Move}
use Rattle.run_laws.specs.tc_code.Code.{Code}
use Rattle.run_laws.specs.tc_code.Lawful.{IsLawful}
use Rattle.run_laws.specs.tc_code.Run.{run, IsStuck}
use Rattle.run_laws.proofs.Basics.{some_value, none_unless}
use Rattle.run_laws.proofs.Names.{same_or_apart}
use Rattle.pure_turns.specs.Live.{Liveness, IsClosed}
use Rattle.pure_turns.specs.Turn.{HasOutcomesUpTo, IsSameBut, HasNoPureTurn}
use Rattle.pure_turns.proofs.Out.{stays_stuck, none_at_all}

module _ {B : Type 0} (ops : BufferOps B) (code : Code) (lawful : IsLawful code) (live : Liveness) (closed : IsClosed code live) where
  -- without the turn's steps a thread has no more outcomes than with them
  pub up_to_same : (k : ℕ) (n : Name) (v w : State B) → IsSameBut live n v w → HasOutcomesUpTo k w → HasOutcomesUpTo k v
  up_to_same k n v w same few q t there =
      elim (same_or_apart q n) [
        | inl own ↦
            let one : same.less ≡ t.local =
            ap (λ (x : Thread B). x.local) (same_Some (record { local = same.less; buffer = same.buffer }) t (sym same.before ∙ ap (fin.get v.threads) (sym own) ∙ there)) in
            let more = few n (record { local = same.more; buffer = same.buffer }) same.after in
            omega (arith, same.behind.outcomes, more, ap (λ (x : Local). length x.outcomes) one)
        | inr other ↦ few q t (sym (same.others q other) ∙ there)
      ]

  fails_same : (n : Name) (v w : State B) → IsSameBut live n v w → IsSome w.failed → IsSome v.failed
  fails_same n v w same some = subst (λ (x : State B). IsSome x.failed) (sym same.shared) some

  unless_none : (o : Option Name) → o ≡ None → IsSome o → ⊥
  unless_none o none some = let x = some_value o some in none-some x.0 (sym none ∙ x.1)

  pub no_failure : ((moves : List Move) (s : State B) → run ops code moves ≡ Some s → HasNoPureTurn ops code live moves → s.failed ≡ None)
      → (moves : List Move) (s : State B) → run ops code moves ≡ Some s → s.failed ≡ None
  no_failure none moves s leads =
      none_unless s.failed (none_at_all ops code lawful live closed (λ x. IsSome x.failed) (λ n v w reached same some. fails_same n v w same some)
      (λ ms x to pureless some. unless_none x.failed (none ms x to pureless) some) moves s leads)

  pub no_failure_within : (k : ℕ)
      → ((moves : List Move) (s : State B) → run ops code moves ≡ Some s → HasNoPureTurn ops code live moves → HasOutcomesUpTo k s → s.failed ≡ None)
      → (moves : List Move) (s : State B) → run ops code moves ≡ Some s → HasOutcomesUpTo k s → s.failed ≡ None
  no_failure_within k none moves s leads few =
      none_unless s.failed (λ some. none_at_all ops code lawful live closed (λ x. HasOutcomesUpTo k x × IsSome x.failed)
      (λ n v w reached same is. (up_to_same k n v w same is.0, fails_same n v w same is.1))
      (λ ms x to pureless is. unless_none x.failed (none ms x to pureless is.0) is.1) moves s leads (few, some))

  pub no_deadlock : ((moves : List Move) (s : State B) → run ops code moves ≡ Some s → HasNoPureTurn ops code live moves → IsStuck ops code s → ⊥)
      → (moves : List Move) (s : State B) → run ops code moves ≡ Some s → IsStuck ops code s → ⊥
  no_deadlock none = none_at_all ops code lawful live closed (IsStuck ops code) (λ n v w reached same stuck. stays_stuck ops code live closed n v w reached same stuck) none

  pub no_deadlock_within : (k : ℕ)
      → ((moves : List Move) (s : State B) → run ops code moves ≡ Some s → HasNoPureTurn ops code live moves → HasOutcomesUpTo k s → IsStuck ops code s
      → ⊥)
      → (moves : List Move) (s : State B) → run ops code moves ≡ Some s → HasOutcomesUpTo k s → IsStuck ops code s → ⊥
  no_deadlock_within k none moves s leads few stuck =
      none_at_all ops code lawful live closed (λ x. HasOutcomesUpTo k x × IsStuck ops code x)
      (λ n v w reached same is. (up_to_same k n v w same is.0, stays_stuck ops code live closed n v w reached same is.1))
      (λ ms x to pureless is. none ms x to pureless is.0 is.1) moves s leads (few, stuck)
