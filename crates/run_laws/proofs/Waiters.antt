-- A waiter is a thread at a wake of the condition.
use Rattle.std.proofs.Common.{◌≡◌, ◌≢◌, ◌∙◌, inl, inr, ℕ, ◌+◌, IsTrue, IsSome}
use Rattle.std.proofs.Common.{Some, None, ap, sym, subst, slice_get, true≢false}
use Rattle.std.specs.Prelude.{if◌then◌else◌}
use Rattle.std.specs.Option.{option_and_then}
use Rattle.std.specs.FinMap as fin
use Rattle.std.specs.FinSet as set
use Rattle.std.proofs.lemmas.Bool.{and_parts, not_from_true}
use Rattle.std.proofs.lemmas.Option.{same_Some}
use Rattle.tc_code.specs.tc_base.Names.{Name, by_name}
use Rattle.tc_code.specs.tc_base.Buffers.{BufferOps}
use Rattle.tc_code.specs.tc_base.States.{Local, Thread, State}
use Rattle.tc_code.specs.tc_base.declared.moves.Move.{Move}
use Rattle.tc_code.specs.declared.instr.Instr.{Instr}
use Rattle.tc_code.specs.declared.instr.Instr.TheVariants.{Sleep, Wake, Create}
use Rattle.tc_code.specs.Code.{Code, instr_at}
use Rattle.tc_code.specs.Lawful.{IsLawful}
use Rattle.tc_code.specs.Step.{is_free, request, instr_of, opening, step}
use Rattle.tc_code.specs.Run.{IsReached}
use Rattle.tc_code.proofs.Facts.{placed_next}
use Rattle.run_laws.specs.Laws.{IsAtWake, WaitersAreAtWake}
use Rattle.run_laws.proofs.Basics.{unless, index_or-replicate, some_is}
use Rattle.run_laws.proofs.Main.{thread_stays}
use Rattle.run_laws.proofs.Names.{same_or_apart, one_under, get_put, get_put_apart}
use Rattle.run_laws.proofs.Steps.{holds_in_reached}
use Rattle.run_laws.proofs.Changes.{Goes, Stays, Went_on, Stayed, SleepsOn, Waits, lets, step_changes}
use Rattle.run_laws.proofs.Created.{not_next_child}

-- each waiter is a thread
abbrev pub WaitersAreThere : {B : Type 0} → State B → Type 0
WaitersAreThere s = (q : Name) (d : ℕ) → Waits s.waiters d q → IsSome (fin.get s.threads q)

-- after a sleep a thread is at the wake
at_wake_after : (code : Code) (t : Local) (c m : ℕ) → IsLawful code → instr_of code t ≡ Some (Sleep c m)
    → instr_at code t.function (t.instruction + 1) ≡ Some (Wake c m)
at_wake_after code t c m lawful at =
    let here = placed_next code t (Sleep c m) lawful at in
    ap (option_and_then (λ f. slice_get f.instrs (t.instruction + 1))) here.there ∙ here.lawful.wait t.instruction c m here.at

module _ {B : Type 0} (ops : BufferOps B) (code : Code) where
  -- a waiter can't go on
  waiter_stays : (s : State B) (n : Name) (t : Local) (i : Instr) (c m : ℕ) → i ≡ Wake c m → Waits s.waiters c n → IsTrue (lets s n (request t i)) → ⊥
  waiter_stays s n t i c m is waits may =
      true≢false (sym (and_parts _ (is_free s m) (subst (λ j. IsTrue (lets s n (request t j))) is may)).0 ∙ not_from_true _ waits)

  module _ (s u : State B) (n : Name) (lawful : IsLawful code) (r : IsReached ops code s) (all : WaitersAreAtWake code s) where
    -- the other threads stay as they are
    others_stay : (i : Instr) → Goes ops code s u n i → (q : Name) (t : Thread B) → q ≢ n → fin.get s.threads q ≡ Some t → fin.get u.threads q ≡ Some t
    others_stay (Create h f es) g q t apart there =
        ap (λ m. fin.get m q) g.threads
        ∙ get_put_apart _ _ _ q (not_next_child ops code s n q g.before t r g.there there)
        ∙ get_put_apart s.threads n g.after q apart ∙ there
    others_stay _ g q t apart there = ap (λ m. fin.get m q) g.threads ∙ get_put_apart s.threads n g.after q apart ∙ there

    -- a thread that sleeps is at the wake
    slept : (i : Instr) (d : ℕ) → Goes ops code s u n i → SleepsOn i d → IsAtWake code u d n
    slept (Sleep c m) d g on = record {
      thread = g.after;
      there = ap (λ m. fin.get m n) g.threads ∙ get_put s.threads n g.after;
      mutex = m;
      at =
          ap (instr_of code) g.local
          ∙ ap (λ b. if b then None else instr_at code g.before.local.function (g.before.local.instruction + 1))
          (unless g.before.local.has_exited _ (Sleep c m) g.at).0
          ∙ at_wake_after code g.before.local c m lawful g.at
          ∙ ap (λ k. Some (Wake k m)) (sym on);
    }
    slept _ d g on = absurd on

    -- a thread that waited is still at its wake
    still_at_wake : (i : Instr) → Goes ops code s u n i → (q : Name) (d : ℕ) → Waits s.waiters d q → IsAtWake code u d q
    still_at_wake i g q d waits =
        let w = all q d waits in
        elim (same_or_apart q n) [
          | inl same ↦
              let is = one_under s.threads q n w.thread g.before same w.there g.there in
              let asks : i ≡ Wake d w.mutex = same_Some _ _ (sym g.at ∙ ap (λ t. instr_of code t.local) (sym is) ∙ w.at) in
              absurd (waiter_stays s n g.before.local i d w.mutex asks (subst (Waits s.waiters d) same waits) g.allowed)
          | inr apart ↦ record { thread = w.thread; there = others_stay i g q w.thread apart w.there; mutex = w.mutex; at = w.at }
        ]

    -- all waiters are at a wake after an instruction
    waiters_went : (i : Instr) → Goes ops code s u n i → WaitersAreAtWake code u
    waiters_went i g q d waits =
        elim (g.waiters q d waits) [
          | inl before ↦ still_at_wake i g q d before
          | inr new ↦ subst (IsAtWake code u d) (sym new.1) (slept i d g new.0)
        ]

    -- all waiters are at a wake after a move that leaves its thread at its place
    waiters_stayed : Stays ops code s u n → WaitersAreAtWake code u
    waiters_stayed g q d waits =
        let w = all q d (subst (λ ws. Waits ws d q) g.waiters waits) in
        elim (same_or_apart q n) [
          | inl same ↦
              let is = one_under s.threads q n w.thread g.before same w.there g.there in
              record {
                thread = g.after;
                there = ap (λ m. fin.get m q) g.threads ∙ ap (fin.get (fin.insert s.threads n g.after)) same ∙ get_put s.threads n g.after;
                mutex = w.mutex;
                at = ap (instr_of code) g.local ∙ ap (λ t. instr_of code t.local) (sym is) ∙ w.at;
              }
          | inr apart ↦ record {
            thread = w.thread;
            there = ap (λ m. fin.get m q) g.threads ∙ get_put_apart s.threads n g.after q apart
                ∙ w.there;
            mutex = w.mutex;
            at = w.at;
          }
        ]

  -- each move from a reached state keeps that
  at_wake_after_step : IsLawful code → (s u : State B) (m : Move) → IsReached ops code s → step ops code s m ≡ Some u → WaitersAreAtWake code s
      → WaitersAreAtWake code u
  at_wake_after_step lawful s u m r one all =
      elim (step_changes ops code s u m one) [
        | Went_on n i g ↦ waiters_went s u n lawful r all i g
        | Stayed n g ↦ waiters_stayed s u n lawful r all g
      ]

  -- nobody waits at the start
  nobody_waits : (q : Name) (d : ℕ) → Waits (opening ops code).waiters d q → ⊥
  nobody_waits q d waits =
      true≢false (sym waits ∙ ap (λ ns. set.contains ns q) (index_or-replicate code.conditions d set.empty) ∙ set.contains-empty by_name q)

  -- in each reached state of lawful code a waiter is a thread at a wake of that condition
  pub waiters_are_at_wake : (s : State B) → IsLawful code → IsReached ops code s → WaitersAreAtWake code s
  waiters_are_at_wake s lawful = holds_in_reached ops code (WaitersAreAtWake code) (λ q d waits. absurd (nobody_waits q d waits)) (at_wake_after_step lawful) s

  -- each waiter after a move is a thread, if each waiter before it was
  there_after_step : (s u : State B) (m : Move) → IsReached ops code s → step ops code s m ≡ Some u → WaitersAreThere s → WaitersAreThere u
  there_after_step s u m r one all q d waits =
      elim (step_changes ops code s u m one) [
        | Went_on n i g ↦ elim (g.waiters q d waits) [
          | inl before ↦ thread_stays ops code q s u m one (all q d before)
          | inr new ↦ thread_stays ops code q s u m one (subst (λ p. IsSome (fin.get s.threads p)) (sym new.1) (some_is _ _ g.there))
        ]
        | Stayed n g ↦ thread_stays ops code q s u m one (all q d (subst (λ ws. Waits ws d q) g.waiters waits))
      ]

  -- in each reached state of any code a waiter is a thread
  pub waiters_are_threads : (s : State B) → IsReached ops code s → WaitersAreThere s
  waiters_are_threads = holds_in_reached ops code WaitersAreThere (λ q d waits. absurd (nobody_waits q d waits)) there_after_step
