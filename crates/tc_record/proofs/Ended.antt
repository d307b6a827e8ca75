-- The end of a seeded run, and facts on its log.
use Rattle.std.proofs.Common.{◌≡◌, ◌∙◌, ◌≤◌, ◌%◌, inl, inr, ℕ, List, [], ◌∷◌, length, Option, Some, None, IsSome, refl, ap, sym, subst, arith, true≢false}
use Rattle.std.specs.Prelude.{IsTrue, is_some}
use Rattle.std.specs.Option.{option_map_or}
use Rattle.std.proofs.lemmas.Nat.{mod_below}
use Rattle.std.proofs.lemmas.Option.{none-some, slice_get_cases}
use Rattle.tc_base.specs.Buffers.{BufferOps}
use Rattle.tc_base.specs.States.{State}
use Rattle.run_log.specs.memory_models.declared.model.Model.{Model}
use Rattle.tc_base.specs.declared.moves.Move.{Move}
use Rattle.store_buffers.specs.Laws.{Laws}
use Rattle.store_buffers.specs.Pending.{Binding}
use Rattle.tc_code.specs.Code.{Code}
use Rattle.tc_code.specs.Lawful.{IsLawful}
use Rattle.tc_code.specs.Run.{IsReached, IsStuck, Reproduces}
use Rattle.tc_code.specs.Step.{step, opening}
use Rattle.tc_code.proofs.Facts.{opening_is_reached, step_is_reached}
use Rattle.tc_machine.proofs.run_laws.Basics.{none_unless}
use Rattle.run_log.specs.Logs.{StoredLog, is_digest}
use Rattle.path_log.specs.Texts.{HasText, is_of_format, log_text}
use Rattle.tc_machine.specs.Moves.{enabled_moves}
use Rattle.tc_machine.proofs.Listing.{every_enabled_move_is_listed}
use Rattle.tc_record.specs.declared.end.End.{End}
use Rattle.tc_record.specs.declared.end.End.TheVariants as end
use Rattle.tc_record.specs.Ends.{end_at, end_without_moves, told_end}
use Rattle.tc_record.specs.Logged.{IsLogOf, is_small, most_log_bytes}
use Rattle.tc_record.specs.Seeded.{Ended, run_ended_at, with_moves_before, chosen_move, run_by_move, seeded_from, seeded_run, HasLog}
use Rattle.tc_record.specs.helpers.Paths.{IsWithin}
use Rattle.tc_record.specs.helpers.Turns.{IsEndAt}
use Rattle.tc_record.proofs.Ends.{goes_on_from_opening, told, told_still}
use Rattle.tc_record.proofs.Format.{of_format, small}
use Rattle.tc_record.proofs.Leads.{run_leads}
use Rattle.tc_record.proofs.OneLog.{some_log, tells_deadlock, tells_failure, threads_are}
use Rattle.tc_record.proofs.Paths.{reproduced}
use Rattle.tc_record.proofs.Reached.{has_threads}
use Rattle.tc_record.proofs.Sizes.{recorded_size}

module _ {B : Type 0} (ops : BufferOps B) (model : Model) (bound : Binding) (laws : Laws ops model bound) (code : Code) (lawful : IsLawful code) where
  -- if a word chooses no move, none is enabled
  still : (s : State B) → IsReached ops code s → (word : ℕ) → chosen_move ops code s word ≡ None → (m : Move) → step ops code s m ≡ None
  still s r word none m =
      none_unless (step ops code s m) (λ enabled.
      let some = every_enabled_move_is_listed ops model bound laws code lawful s r m enabled in
      let all = enabled_moves ops code s in
      elim (slice_get_cases all (word % length all)).1 [
        | inl found ↦ none-some found.0 (sym none ∙ found.2)
        | inr past ↦ omega (arith, mod_below word (length all) (omega (arith, some.1)), past.0)
      ])

  -- A run has the end that its state has.

  abbrev EndsWell : Ended B → Type 0
  EndsWell run = IsEndAt ops code run.state (Some run.end)

  module _ (words : List ℕ) (later : (u : State B) → IsReached ops code u → IsEndAt ops code u None → EndsWell (seeded_from ops code u words)) where
    after_test : (m : Move) (u : State B) → IsReached ops code u → (e : Option End) → IsEndAt ops code u e
        → EndsWell (with_moves_before (m ∷ []) (option_map_or (run_ended_at u) e (seeded_from ops code u words)))
    after_test m u r None at = later u r at
    after_test m u r (Some e) at = at

    after_step : (s : State B) (m : Move) → IsReached ops code s → (o : Option (State B)) → step ops code s m ≡ o
        → EndsWell (option_map_or (λ u. with_moves_before (m ∷ []) (option_map_or (run_ended_at u) (end_at u) (seeded_from ops code u words))) o (run_ended_at s end.StepLimit))
    after_step s m r None is = tt
    after_step s m r (Some u) is = after_test m u (step_is_reached ops code s u m is r) (end_at u) (told ops code u)

    after_choice : (s : State B) → IsReached ops code s → IsEndAt ops code s None → (word : ℕ) (o : Option Move) → chosen_move ops code s word ≡ o
        → EndsWell (option_map_or (run_by_move ops code s (λ u. seeded_from ops code u words)) o (run_ended_at s (end_without_moves s)))
    after_choice s r going word None is = told_still ops code s going (still s r word is)
    after_choice s r going word (Some m) is = after_step s m r (step ops code s m) refl

  ends_from : (words : List ℕ) (s : State B) → IsReached ops code s → IsEndAt ops code s None → EndsWell (seeded_from ops code s words)
  ends_from [] s r going = tt
  ends_from (word ∷ words) s r going = after_choice words (ends_from words) s r going word (chosen_move ops code s word) refl

  run_ends : (seed steps : ℕ) → EndsWell (seeded_run ops code seed steps)
  run_ends seed steps = ends_from _ (opening ops code) (opening_is_reached ops code) (goes_on_from_opening ops code (opening ops code) refl)

  pub ends_as_told : (seed steps : ℕ) (run : Ended B) → run ≡ seeded_run ops code seed steps → IsEndAt ops code run.state (Some run.end)
  ends_as_told seed steps run is = subst EndsWell (sym is) (run_ends seed steps)

  module _ (seed steps : ℕ) where
    abbrev run : Ended B
    run = seeded_run ops code seed steps

    reached : IsReached ops code run.state
    reached = record { moves = run.moves; leads = run_leads ops code seed steps }

    at_failure : run.end ≡ end.Failed → IsWithin run.state × IsSome run.state.failed
    at_failure e = subst (λ x. IsEndAt ops code run.state (Some x)) e (run_ends seed steps)

    at_deadlock : run.end ≡ end.Deadlock → IsWithin run.state × IsStuck ops code run.state
    at_deadlock e = subst (λ x. IsEndAt ops code run.state (Some x)) e (run_ends seed steps)

    within : HasLog run → IsWithin run.state
    within (inl e) = (at_failure e).0
    within (inr e) = (at_deadlock e).0

    stuck : HasLog run → run.state.failed ≡ None → IsStuck ops code run.state
    stuck (inl e) none = absurd (true≢false (sym (at_failure e).1 ∙ ap is_some none))
    stuck (inr e) none = (at_deadlock e).1

    -- a run that fails or comes to a deadlock has a log
    pub run_has_log : HasLog run → (x : StoredLog) × IsLogOf model run.state x
    run_has_log has = some_log model run.state (has_threads ops code run.state reached)

    module _ (x : StoredLog) (has : HasLog run) (is : IsLogOf model run.state x) where
      -- its moves reproduce the log
      pub run_reproduces : Reproduces ops code x.log run.moves
      run_reproduces = reproduced ops code run.state model x run.moves (run_leads ops code seed steps) (stuck has) is

      told_by : HasLog run → run.end ≡ told_end x.log.failing
      told_by (inl e) = e ∙ tells_failure model run.state x is (at_failure e).1
      told_by (inr e) = e ∙ tells_deadlock model run.state x is (at_deadlock e).1.unfailed

      -- the log says which of the two ends it was
      pub run_is_told : run.end ≡ told_end x.log.failing
      run_is_told = told_by has

      -- the log has a text, which isn't too long
      pub log_is_of_format : IsTrue (is_of_format x.log)
      log_is_of_format = of_format ops code run.state reached (within has) x.log.threads (threads_are model run.state x is)

      pub log_is_small : IsTrue (is_small x.log)
      log_is_small = small ops code run.state reached (within has) x.log.threads (threads_are model run.state x is)

      module _ (digest : List ℕ) (d : IsTrue (is_digest digest)) where
        pub log_has_text : HasText (record { digest = Some digest; log = x.log })
        log_has_text = record { is_log = is.is_log; is_of_format = log_is_of_format; has_ending = refl; is_digest = d }

        pub log_is_short : length (log_text (record { digest = Some digest; log = x.log })) ≤ most_log_bytes
        log_is_short = recorded_size digest x.log d log_is_of_format log_is_small
