-- The next step of a thread on its path.
use Rattle.std.proofs.Common.{◌≡◌, ◌∙◌, ℕ, suc, ◌+◌, ◌<◌, Bool, true, false, not, ◌==◌, ◌&&◌, List, ◌++◌, length, take, drop}
use Rattle.std.proofs.Common.{Option, Some, None, Ok, refl, sym, ap, ap₂, subst, arith, slice_index_or, true≢false}
use Rattle.std.specs.Prelude.{slice_get, option_map, option_and_then, unwrap_or, if◌then◌else◌}
use Rattle.std.specs.FinMap as fin
use Rattle.std.specs.Bool.{beq}
use Rattle.std.proofs.lemmas.Bool.{false_from_ne_true}
use Rattle.std.proofs.lemmas.List.{append_cancel_left, length-drop, length-map, take-map}
use Rattle.std.proofs.lemmas.Option.{none-some, same_Some, slice_get-map, slice_get_within}
use Rattle.path_walk.specs.tc_base.Paths.{Path}
use Rattle.path_walk.specs.tc_base.States.{Local, Thread}
use Rattle.path_walk.specs.tc_base.declared.handle.Handle.TheVariants.{Unset}
use Rattle.path_walk.specs.tc_code.Code.{Code, instr_at}
use Rattle.path_walk.specs.tc_code.Step.{request, can_be_joined, instr_of}
use Rattle.path_walk.specs.tc_code.declared.instr.Instr.{Instr}
use Rattle.path_walk.specs.tc_code.declared.instr.Instr.TheVariants.{Holds, Lock, Ready, Exit}
use Rattle.run_follows.proofs.run_laws.Exits.{exited_past_exit}
use Rattle.run_follows.specs.run_history.History.{Deed}
use Rattle.run_follows.specs.run_history.Locals.{asks_next}
use Rattle.run_follows.specs.run_history.Told.{is_thread_in, steps_in, failed_in}
use Rattle.path_walk.specs.Events.{excludes, is_impossible}
use Rattle.path_walk.specs.Fits.{fails_in, places_in}
use Rattle.path_walk.specs.Marks.{Marks, marks_at_start, marks_after, marked_steps}
use Rattle.path_walk.specs.Paths.{Walk, paths_of}
use Rattle.path_walk.specs.Steps.{Step, Onward, onward, places_from, end_from, step_at, steps_at}
use Rattle.path_laws.specs.Setting.{Setting}
use Rattle.path_laws.specs.Along.{HasMarks, IsAlong}
use Rattle.path_laws.specs.Prefixes.{fails_by}
use Rattle.path_laws.proofs.Blocked.{none_behind_exit}
use Rattle.path_laws.proofs.Deeds.{same_test}
use Rattle.path_laws.proofs.States.{Stands}
use Rattle.path_laws.specs.history.Next.{fails_next, IsNextOnPath, IsAsWanted}
use Rattle.path_laws.proofs.of_history.Told.{RunOf, reached, thread_of, steps_of, local_is, its_run}
use Rattle.path_laws.proofs.of_history.Walks.{IsWalking, walking, walk_is, no_element}
use Rattle.path_laws.proofs.of_history.Places.{IsNextPlace, next_place, marked_at}
use Rattle.path_laws.specs.history.Along.{HistoryAlong, PathThread}

-- paths that aren't dead exclude no step
beq_not : (b fails : Bool) → beq b fails ≡ false → b ≡ not fails
beq_not true true e = absurd (true≢false e)
beq_not true false e = refl
beq_not false true e = refl
beq_not false false e = absurd (true≢false e)

wanted_by : (t : Local) (m : Marks) (i : Instr) (fails : Bool) → HasMarks t m → excludes m i fails ≡ false → IsAsWanted fails t i
wanted_by t m (Holds k) fails marks e = beq_not _ fails (ap (λ xs. beq (slice_index_or xs k false) fails) (sym marks.held) ∙ e)
wanted_by t m (Ready v) fails marks e = beq_not _ fails (ap (λ xs. beq (can_be_joined (slice_index_or xs v Unset)) fails) (sym marks.handles) ∙ e)
wanted_by t m (Lock k) fails marks e = ap (λ xs. slice_index_or xs k false) (sym marks.held) ∙ e
wanted_by t m i fails marks e = tt

-- the history determines the thread's next request
pub asks_told : (code : Code) (h : List Deed) (w : Walk) (x : IsNextOnPath code h w) → asks_next code h w.name ≡ Some (request x.local x.instr)
asks_told code h w x =
    ap (option_and_then (λ (l : Local). option_map (request l) (instr_of code l))) x.there ∙ ap (option_map (request x.local)) x.next

abbrev the_step : Step → Step
the_step s = s

module _ (code : Code) (w : Walk) (k : ℕ) where
  -- the step of a path at a place
  pub path_step : (place : ℕ) (i : Instr) → slice_get w.places k ≡ Some place → instr_at code w.function place ≡ Some i
      → slice_get (steps_at code w.function w.places) k ≡ Some (record { place = place; instr = i })
  path_step place i at instr =
      slice_get-map (step_at code w.function) w.places k
      ∙ ap (option_map (step_at code w.function)) at
      ∙ ap (λ o. Some (the_step (record { place = place; instr = unwrap_or o Exit }))) instr

  -- whether a step is the last one
  pub last_step : k < length w.places → (length (drop (suc k) (steps_at code w.function w.places)) == 0) ≡ (k + 1 == length w.places)
  last_step few =
      let rest = length-drop (suc k) (steps_at code w.function w.places) in
      let all = length-map w.places (step_at code w.function) in
      same_test (length (drop (suc k) (steps_at code w.function w.places))) 0 (k + 1) (length w.places)
      (λ none. omega (arith, rest, all, none, few)) (λ same. omega (arith, rest, all, same))

module _ {B : Type 0} (setting : Setting B) (history : HistoryAlong setting) (thread : PathThread setting.code setting.log)
    (going : failed_in history.deeds ≡ None) where
  open setting use {machine, ops, code, lawful, log, log_is as is}
  open history use {deeds as h, fits}
  open thread use {walk as w}

  abbrev r : RunOf machine log h
  r = its_run setting history

  none_failed : r.state.failed ≡ None
  none_failed = r.told.tells.failure ∙ going

  -- each thread of the state is where the first places of its path lead
  module _ (t : Thread B) (here : fin.get r.state.threads w.name ≡ Some t) where
    abbrev k : IsWalking setting history thread t
    k = walking setting history thread t here

    pub stands : IsAlong code t.local (take t.local.steps w.places)
    stands =
        subst (λ ps. IsAlong code t.local (take t.local.steps ps)) k.places
        (subst (λ o. Stands code (fails_by o w.name) t.local (take t.local.steps (places_in code log w.name t.local.function))) none_failed k.so.stands)

    -- a thread has steps left if the history says so
    goes_on : t.local.has_exited ≡ true → (i : Instr) → instr_at code t.local.function t.local.instruction ≡ Some i → ⊥
    goes_on gone i at =
        none-some i
        (sym (none_behind_exit code t.local lawful
        ((exited_past_exit ops code r.state lawful (reached machine log h r) w.name t here).0 gone)) ∙ at)

    -- the thread's place is the next one of the path
    next_there : t.local.steps < length w.places → IsNextPlace code w.function t.local.steps 0 t.local.outcomes k.so.on.later w.places
    next_there left =
        let f = w.function in
        let told : places_from code f t.local.steps 0 t.local.outcomes ≡ Ok (take t.local.steps w.places) =
        ap (λ g. places_from code g t.local.steps 0 t.local.outcomes) (sym k.function) ∙ stands.told in
        let outcomes : k.walk.path.outcomes ≡ t.local.outcomes ++ k.so.on.later = ap (λ (p : Path). p.outcomes) (sym k.path) ∙ k.so.on.outcomes in
        let whole : places_from code f k.walk.path.steps 0 (t.local.outcomes ++ k.so.on.later) ≡ Ok w.places =
        ap (places_from code f k.walk.path.steps 0) (sym outcomes) ∙ k.walk.places in
        next_place code f t.local.steps k.walk.path.steps 0 t.local.outcomes k.so.on.later _ w.places (omega (arith, left, k.walk.long)) told whole

    end_there : end_from code w.function t.local.steps 0 t.local.outcomes ≡ t.local.instruction
    end_there = ap (λ g. end_from code g t.local.steps 0 t.local.outcomes) (sym k.function) ∙ stands.end

    outcomes_there : w.outcomes ≡ t.local.outcomes ++ k.so.on.later
    outcomes_there = k.walk.outcomes ∙ ap (λ (p : Path). p.outcomes) (sym k.path) ∙ k.so.on.outcomes

    next_of : t.local.steps < length w.places → IsNextOnPath code h w
    next_of left =
        let n = next_there left in
        let steps = steps_of machine log h r w.name t here in
        let at : instr_at code w.function t.local.instruction ≡ Some n.instr = ap (instr_at code w.function) (sym end_there) ∙ n.at in
        let placed : instr_at code t.local.function t.local.instruction ≡ Some n.instr = ap (λ g. instr_at code g t.local.instruction) k.function ∙ at in
        let stays : t.local.has_exited ≡ false = false_from_ne_true t.local.has_exited (λ gone. goes_on gone n.instr placed) in
        record {
          local = t.local;
          there = local_is machine log h r w.name t here;
          steps = steps;
          function = k.function;
          place = ap (slice_get w.places) (sym steps) ∙ n.place ∙ ap (λ e. Some e) end_there;
          instr = n.instr;
          at = at;
          next = ap (λ b. if b then None else instr_at code t.local.function t.local.instruction) stays ∙ placed;
          later = k.so.on.later;
          outcomes = outcomes_there;
        }

  pub next_on_path : is_thread_in h w.name ≡ true → steps_in h w.name < length w.places → IsNextOnPath code h w
  next_on_path is_there left =
      let t = thread_of machine log h r w.name is_there in
      let steps = steps_of machine log h r w.name t.0 t.1 in
      next_of t.0 t.1 (omega (arith, steps, left))

  -- the thread of a next step
  pub thread_next : (x : IsNextOnPath code h w) → (t : Thread B) × (fin.get r.state.threads w.name ≡ Some t) × (t.local ≡ x.local)
  thread_next x = by (fin.get r.state.threads w.name) refl
    where
      by : (o : Option (Thread B)) → fin.get r.state.threads w.name ≡ o → (t : Thread B) × (fin.get r.state.threads w.name ≡ Some t) × (t.local ≡ x.local)
      by None none = absurd (none-some x.local (sym (r.told.tells.locals w.name ∙ ap (option_map (λ (t : Thread B). t.local)) none) ∙ x.there))
      by (Some t) here =
          (t, here, same_Some t.local x.local (sym (r.told.tells.locals w.name ∙ ap (option_map (λ (t : Thread B). t.local)) here) ∙ x.there))

  -- a thread with a next step on its path has steps left
  pub steps_left : (x : IsNextOnPath code h w) → steps_in h w.name < length w.places
  steps_left x = slice_get_within w.places (steps_in h w.name) x.local.instruction x.place

  -- the next step goes on with the outcomes that are left
  pub next_leads : (x : IsNextOnPath code h w) → (on : Onward) × (onward x.local.instruction x.instr x.later ≡ Some on)
  next_leads x =
      let t = thread_next x in
      let y = t.0 in
      let steps = steps_of machine log h r w.name y t.1 in
      let n = next_there y t.1 (omega (arith, steps, steps_left x)) in
      let end : end_from code w.function y.local.steps 0 y.local.outcomes ≡ x.local.instruction = end_there y t.1 ∙ ap (λ (l : Local). l.instruction) t.2 in
      let instr : n.instr ≡ x.instr = same_Some n.instr x.instr (sym n.at ∙ ap (instr_at code w.function) end ∙ x.at) in
      let later : (k y t.1).so.on.later ≡ x.later =
      append_cancel_left x.local.outcomes (k y t.1).so.on.later x.later
      (ap (λ (l : Local). l.outcomes ++ (k y t.1).so.on.later) (sym t.2) ∙ sym (outcomes_there y t.1) ∙ x.outcomes) in
      (n.next, sym (ap (λ e. onward e n.instr (k y t.1).so.on.later) end ∙ ap₂ (onward x.local.instruction) instr later) ∙ n.leads)

  pub along_next : (x : IsNextOnPath code h w) → IsAlong code x.local (take x.local.steps w.places)
  along_next x = let t = thread_next x in subst (λ (l : Local). IsAlong code l (take l.steps w.places)) t.2 (stands t.0 t.1)

  -- the marks after the steps before it
  abbrev marks_now : Local → Marks
  marks_now l = marks_after (marks_at_start code w.function) (take l.steps (steps_at code w.function w.places))

  pub has_marks : (x : IsNextOnPath code h w) → HasMarks x.local (marks_now x.local)
  has_marks x =
      subst (λ ss. HasMarks x.local (marks_after (marks_at_start code w.function) ss)) (sym (take-map (step_at code w.function) x.local.steps w.places))
      (subst (λ f. HasMarks x.local (marks_after (marks_at_start code f) (steps_at code f (take x.local.steps w.places)))) x.function (along_next x).marks)

  -- whether the next step is the one that fails
  pub fails_there : (x : IsNextOnPath code h w)
      → (fails_in log w.name && length (drop (suc x.local.steps) (steps_at code w.function w.places)) == 0) ≡ fails_next log h w
  fails_there x =
      ap (λ b. fails_in log w.name && b) (last_step code w x.local.steps (omega (arith, x.steps, steps_left x)))
      ∙ ap (λ m. fails_in log w.name && m + 1 == length w.places) x.steps

  pub as_wanted : (x : IsNextOnPath code h w) → (paths_of code log).dead ≡ false → IsAsWanted (fails_next log h w) x.local x.instr
  as_wanted x dead =
      let k = walk_is code log is fits thread in
      let n = x.local.steps in
      let ss = steps_at code w.function w.places in
      let fails = fails_in log w.name in
      let place = ap (slice_get w.places) x.steps ∙ x.place in
      let step = path_step code w n x.local.instruction x.instr place x.at in
      let marked = marked_at fails 0 (marks_at_start code w.function) ss n (record { place = x.local.instruction; instr = x.instr }) step in
      let possible = no_element is_impossible (marked_steps code w.function fails ss) n _ (k.alive dead) marked in
      wanted_by x.local (marks_now x.local) x.instr (fails_next log h w) (has_marks x)
      (ap (excludes (marks_now x.local) x.instr) (sym (fails_there x)) ∙ possible)
