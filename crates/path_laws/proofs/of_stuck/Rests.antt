-- The next request of a thread that has done its whole path in the log of a deadlock.
use Rattle.std.proofs.Common.{◌≡◌, ◌↔◌, ◌∙◌, inl, inr, ℕ, Bool, true, false, ◌==◌, ◌&&◌, cond, List}
use Rattle.std.proofs.Common.{IsSome, Option, Some, None, Result, Ok, Err, refl, sym, ap, ap₂, subst, slice_index_or, true≢false}
use Rattle.std.specs.Prelude.{slice_get, option_map, option_and_then, if◌then◌else◌}
use Rattle.std.specs.Option.{option_map_or}
use Rattle.std.specs.FinMap as fin
use Rattle.std.proofs.lemmas.Bool.{cases_Bool}
use Rattle.std.proofs.lemmas.Option.{none-some, same_Some}
use Rattle.path_walk.specs.run_log.Logs.{Log}
use Rattle.path_walk.specs.tc_base.Paths.{Path, ThreadPath, place_in}
use Rattle.path_walk.specs.tc_base.Names.{Name}
use Rattle.path_walk.specs.tc_base.States.{Local, Thread}
use Rattle.path_walk.specs.tc_base.declared.failing.Failing.TheVariants.{Deadlock}
use Rattle.path_walk.specs.tc_base.declared.handle.Handle.TheVariants.{Unset}
use Rattle.path_walk.specs.tc_base.declared.request.Request.TheVariants.{Await}
use Rattle.path_walk.specs.tc_code.Code.{Code, instr_at}
use Rattle.path_walk.specs.tc_code.Step.{request, child_number, instr_of}
use Rattle.path_walk.specs.tc_code.declared.instr.Instr.{Instr}
use Rattle.path_walk.specs.tc_code.declared.instr.Instr.TheVariants.{Lock, Wake, Join}
use Rattle.path_walk.proofs.tc_code.Facts.{at_its_place}
use Rattle.run_follows.proofs.run_laws.Basics.{unless, some_is, some_value}
use Rattle.run_follows.proofs.run_laws.Exits.{exited_past_exit, has_next}
use Rattle.run_follows.specs.run_history.Locals.{asks_next}
use Rattle.run_follows.specs.run_history.Told.{has_exited_in, is_thread_in}
use Rattle.run_follows.specs.Logged.{path_by}
use Rattle.path_walk.specs.Events.{blocked_at}
use Rattle.path_walk.specs.Fits.{ending_by, ending_of}
use Rattle.path_walk.specs.Marks.{Marks, marks_at_start, marks_after}
use Rattle.path_walk.specs.Paths.{blocked_after}
use Rattle.path_walk.specs.Steps.{is_failing, can_block, places_if_well_ended, standing, steps_at}
use Rattle.path_walk.specs.declared.ending.Ending.TheVariants.{Rests}
use Rattle.path_walk.specs.declared.event.Sleep.{Sleep as Wait}
use Rattle.path_walk.specs.declared.fault.Misfit.{Misfit}
use Rattle.path_walk.specs.declared.fault.Misfit.TheVariants.{NotBlocked}
use Rattle.path_laws.specs.Setting.{Setting}
use Rattle.path_laws.specs.Along.{HasMarks, IsAlong}
use Rattle.path_laws.specs.Prefixes.{fails_by}
use Rattle.path_laws.proofs.Blocked.{none_behind_exit}
use Rattle.path_laws.proofs.States.{Stands}
use Rattle.path_laws.specs.history.Along.{HasDoneAll, HistoryAlong, PathThread}
use Rattle.path_laws.proofs.of_history.Told.{RunOf, reached, its_run, thread_of}
use Rattle.path_laws.proofs.of_history.Walks.{IsWalking, walking}
use Rattle.path_laws.proofs.of_history.Whole.{stands_all, went_all}
use Rattle.path_laws.specs.stuck.Blocked.{asked_at}

-- a mapped option with a value comes from an option with one
pub mapped_from : {X Y : Type 0} (f : X → Y) (o : Option X) (y : Y) → option_map f o ≡ Some y → (x : X) × (o ≡ Some x) × (f x ≡ y)
mapped_from f None y e = absurd (none-some y e)
mapped_from f (Some x) y e = (x, refl, same_Some (f x) y e)

abbrev the_ok : List ℕ → Result (List ℕ) Misfit
the_ok ps = Ok ps

-- in the log of a deadlock all paths rest
rests_in : (log : Log) (n : Name) → log.failing ≡ Deadlock → ending_of log n ≡ Rests
rests_in log n dead = ap (λ f. ending_by (option_and_then (λ k. option_map (λ (t : ThreadPath). t.name) (slice_get log.threads k)) (place_in f)) n) dead

-- an instruction that can block a thread has the request that blocks it
asks_there : (t : Local) (m : Marks) (ss : List Wait) (i : Instr) → HasMarks t m → can_block i ≡ true
    → Some (request t i) ≡ option_map asked_at (blocked_at m ss i)
asks_there t m ss (Lock l) marks can = refl
asks_there t m ss (Wake c l) marks can = refl
asks_there t m ss (Join v) marks can = ap (λ hs. Some (Await (child_number (slice_index_or hs v Unset)))) (sym marks.handles)
asks_there t m ss i marks can = absurd (true≢false (sym can))

-- a thread that rests is at an instruction that can block
can_be_blocked : (code : Code) (f : ℕ) (p : Path) (ps : List ℕ) (i : Instr) → places_if_well_ended code f Rests p (Ok ps) ≡ Ok ps → standing code f p ≡ Some i
    → can_block i ≡ true
can_be_blocked code f p ps i told at = by (can_block i) (ap (λ o. cond (option_map_or can_block o true) (the_ok ps) (Err NotBlocked)) (sym at) ∙ told)
  where
    by : (b : Bool) → cond b (the_ok ps) (Err NotBlocked) ≡ the_ok ps → b ≡ true
    by true e = refl
    by false e = absurd cc

module _ {B : Type 0} (setting : Setting B) (history : HistoryAlong setting) (thread : PathThread setting.code setting.log)
    (there : is_thread_in history.deeds thread.name ≡ true) (done : HasDoneAll history.deeds thread.walk) (dead : setting.log.failing ≡ Deadlock) where
  open setting use {machine, ops, code, lawful, log}
  open history use {deeds as h}
  open thread use {walk as w}

  abbrev r : RunOf machine log h
  r = its_run setting history

  abbrev t : Thread B
  t = (thread_of machine log h r w.name there).0

  here : fin.get r.state.threads w.name ≡ Some t
  here = (thread_of machine log h r w.name there).1

  abbrev k : IsWalking setting history thread t
  k = walking setting history thread t here

  rests : ending_of log w.name ≡ Rests
  rests = rests_in log w.name dead

  -- the thread hasn't failed
  stands : IsAlong code t.local w.places
  stands =
      let not_fails : fails_by r.state.failed w.name ≡ false =
      k.so.on.fails ∙ ap (λ e. is_failing e && t.local.steps == k.so.on.path.steps) rests in
      subst (λ b. Stands code b t.local w.places) not_fails (stands_all setting history thread done t here)

  path : path_by t.local ≡ k.walk.path
  path = went_all setting history thread done t here

  -- the thread is at the instruction where its path ends
  standing_there : standing code w.function k.walk.path ≡ instr_at code t.local.function t.local.instruction
  standing_there =
      ap₂ (standing code) (sym k.function) (sym path) ∙ ap (instr_at code t.local.function) stands.end

  abbrev marks : Marks
  marks = marks_after (marks_at_start code w.function) (steps_at code w.function w.places)

  has_marks : HasMarks t.local marks
  has_marks = subst (λ f. HasMarks t.local (marks_after (marks_at_start code f) (steps_at code f w.places))) k.function stands.marks

  blocked_is : w.blocked ≡ option_and_then (blocked_at marks w.sleeps) (instr_at code t.local.function t.local.instruction)
  blocked_is = k.walk.blocked ∙ ap₂ (λ e o. blocked_after e marks w.sleeps o) rests standing_there

  asks_is : asks_next code h w.name ≡ option_map (request t.local) (instr_of code t.local)
  asks_is =
      ap (option_and_then (λ (l : Local). option_map (request l) (instr_of code l)))
      (r.told.tells.locals w.name ∙ ap (option_map (λ (x : Thread B). x.local)) here)

  pub asks_blocked : asks_next code h w.name ≡ option_map asked_at w.blocked
  asks_blocked =
      asks_is
      ∙ elim (cases_Bool t.local.has_exited) [
        | inl gone ↦
            let none = none_behind_exit code t.local lawful ((exited_past_exit ops code r.state lawful
            (reached machine log h r) w.name t here).0 gone) in
            ap (λ b. option_map (request t.local) (if b then None else instr_at code t.local.function t.local.instruction)) gone
            ∙ sym (ap (option_map asked_at) (blocked_is ∙ ap (option_and_then (blocked_at marks w.sleeps)) none))
        | inr going ↦
            let i = has_next ops code r.state lawful (reached machine log h r) w.name t here going in
            let at = at_its_place code t.local i.0 i.1 in
            let fit : places_if_well_ended code w.function Rests k.walk.path (Ok w.places) ≡ Ok w.places =
            ap (λ e. places_if_well_ended code w.function e k.walk.path (Ok w.places)) (sym rests)
            ∙ ap (places_if_well_ended code w.function (ending_of log w.name) k.walk.path) (sym k.walk.places)
            ∙ k.walk.fits in
            ap (option_map (request t.local)) i.1
            ∙ asks_there t.local marks w.sleeps i.0 has_marks (can_be_blocked code w.function k.walk.path w.places i.0 fit (standing_there ∙ at))
            ∙ sym (ap (option_map asked_at) (blocked_is ∙ ap (option_and_then (blocked_at marks w.sleeps)) at))
      ]

  -- the thread hasn't exited exactly if its path is blocked
  pub left_blocked : (has_exited_in h w.name ≡ false) ↔ IsSome w.blocked
  left_blocked = (
    λ going.
        let i = has_next ops code r.state lawful (reached machine log h r) w.name t here
        (ap (λ o. option_map_or (λ (x : Thread B). x.local.has_exited) o false) (sym here) ∙ r.told.tells.deeds.buffers.threads.exits w.name ∙ going) in
        let b = mapped_from asked_at w.blocked _ (sym asks_blocked ∙ asks_is ∙ ap (option_map (request t.local)) i.1) in
        some_is w.blocked b.0 b.1,
    λ blocked.
        let b = some_value w.blocked blocked in
        let i = mapped_from (request t.local) (instr_of code t.local) _ (sym asks_is ∙ asks_blocked ∙ ap (option_map asked_at) b.1) in
        sym (r.told.tells.deeds.buffers.threads.exits w.name)
        ∙ ap (λ o. option_map_or (λ (x : Thread B). x.local.has_exited) o false) here
        ∙ (unless t.local.has_exited (instr_at code t.local.function t.local.instruction) i.0 i.1).0,
  )
