-- What statuses 0 and 1 of `solve` mean, by its answers.
use Rattle.std.proofs.Common.{◌≡◌, ◌∙◌, ℕ, List, Option, Some, None, IfSome, IsSomeAnd, unwrap_or, [], ap, subst, sym}
use Rattle.std.proofs.lemmas.Bool.{cond-true}
use Rattle.std.proofs.lemmas.Cmp.{eq_by_cmp_equiv, nat_list_cmp_total}
use Rattle.std.specs.Cmp.Lexicographic.{slice_cmp}
use Rattle.std.specs.FinMap.{get, get-insert}
use Rattle.std.specs.Ordering.{eq_by_cmp, nat_cmp}
use Rattle.log_tasks.specs.Tasks.{model_of}
use Rattle.tc_io.specs.Outside.{Files, bytes_at, put_under, told_under}
use Rattle.clap_debug_cli.specs.command_inputs.Forms.{IsSchedule, Schedule}
use Rattle.command_frame.specs.End.{End}
use Rattle.solve_command.specs.Answers.{SolveAnswers}
use Rattle.solve_command.specs.Calls.{Solve}
use Rattle.clap_debug_words.specs.Calls.{Called, Solves}
use Rattle.clap_debug_cli.specs.Call.{Answers}
use Rattle.clap_debug_cli.specs.Requests.{solved}
use Rattle.clap_debug_cli.specs.Sound.{IsSound, SoundOf}

-- a name that was kept holds what was kept
pub holds : (files : Files) (held : Option Files) (name text : List ℕ) → held ≡ put_under name text (Some files) → told_under held name ≡ Some text
holds files held name text e =
    ap (λ h. told_under h name) e
    ∙ ap (λ bytes. Some (unwrap_or bytes [])) (get-insert nat_list_cmp_total files name text name
    ∙ cond-true (eq_by_cmp (slice_cmp nat_cmp) name name) (Some text) (get files name) ((eq_by_cmp_equiv nat_list_cmp_total).refl name))

sound_solve : (call : Solve) (files : Files) (e : End) → SolveAnswers call files e
    → IsSound (bytes_at files call.asked.program) (bytes_at files call.asked.log) call.asked.model (told_under e.held call.asked.out) e.status
sound_solve call files e a = record {
  reproduced = λ zero.
      let found = a.found zero in
      let left = found.3 in
      let plan : Schedule = record { model = model_of call.asked.model found.0.pair; moves = found.1 } in
      (found.0.pair, found.1, found.2, subst (λ o. IsSomeAnd o (λ text. IsSchedule text plan)) (sym (holds files e.held call.asked.out left.0 left.2.0)) left.1);
  impossible = λ one. let none = a.impossible one in (none.0.pair, none.1);
}

sound : (call : Called) (files : Files) (e : End) → Answers call files e → SoundOf call files e.held e.status
sound (Solves program log out model budget None) files e a = sound_solve (solved program log out model budget) files e a
sound _ files e a = tt

pub told_sound : (held : Option Files) (e : End) (heard : Option Called) → IfSome heard (λ call. IfSome held (λ files. Answers call files e))
    → IfSome heard (λ call. IfSome held (λ files. SoundOf call files e.held e.status))
told_sound held e None a = tt
told_sound None e (Some call) a = tt
told_sound (Some files) e (Some call) a = sound call files e a
