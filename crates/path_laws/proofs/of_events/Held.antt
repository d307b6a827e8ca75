-- The events of a thread's path so far determine what it holds in a run.
use Rattle.std.proofs.Common.{◌≡◌, ◌∙◌, ℕ, ◌+◌, ◌≤◌, ◌<◌, Bool, true, false, List, [], ◌∷◌, ◌++◌, length, take}
use Rattle.std.proofs.Common.{Option, sym, ap, subst, arith, slice_index_or}
use Rattle.std.specs.Prelude.{unwrap_or}
use Rattle.std.proofs.lemmas.List.{length-map, length-replicate, take-map}
use Rattle.path_walk.specs.tc_base.Paths.{Path}
use Rattle.path_walk.specs.tc_base.Names.{Name}
use Rattle.path_walk.specs.tc_base.States.{Local, Thread}
use Rattle.path_walk.specs.tc_code.Code.{Code}
use Rattle.path_walk.specs.tc_code.Step.{holds, step_in_place}
use Rattle.path_walk.proofs.tc_code.Facts.{at_its_place}
use Rattle.run_follows.proofs.run_laws.Basics.{index_or-replicate}
use Rattle.path_walk.specs.Fits.{fails_in}
use Rattle.path_walk.specs.Marks.{marks_at_start, marks_after, has_mutex}
use Rattle.path_walk.specs.Steps.{step_at, steps_at}
use Rattle.path_laws.specs.Setting.{Setting}
use Rattle.path_laws.specs.Along.{HasMarks}
use Rattle.path_laws.specs.Prefixes.{fails_by}
use Rattle.path_laws.proofs.Local.{marks-append, steps_push, now}
use Rattle.path_laws.proofs.States.{Stands, fail_is_site}
use Rattle.path_laws.proofs.of_history.Walks.{IsWalking}
use Rattle.path_laws.proofs.of_events.Marked.{events_from}
use Rattle.path_laws.proofs.of_events.Regions.{held_upto, held_is, site_marks}
use Rattle.path_laws.proofs.of_events.Sites.{walk_fails_at_site}
use Rattle.path_laws.specs.history.Along.{HistoryAlong, PathThread}
use Rattle.path_laws.proofs.of_history.Told.{its_run}

-- a thread, also one that has failed, has the marks of its path so far
stands_marks : (code : Code) (b : Bool) (t : Local) (ps : List ℕ) → Stands code b t ps
    → HasMarks t (marks_after (marks_at_start code t.function) (steps_at code t.function ps))
stands_marks code false t ps h = h.marks
stands_marks code true t ps h =
    let a = h.before in
    let f = a.function in
    let at = at_its_place code a h.instr h.at in
    let site = fail_is_site a h.instr h.asks in
    let same : marks_after (marks_at_start code f) (steps_at code f (h.front ++ a.instruction ∷ [])) ≡ marks_after (marks_at_start code f) (steps_at code f h.front) =
    ap (marks_after (marks_at_start code f)) (steps_push code a a h.instr h.front h.along at)
    ∙ marks-append (marks_at_start code f) (steps_at code f h.front) (now code a a h.instr h.front h.along at ∷ [])
    ∙ site_marks (marks_after (marks_at_start code f) (steps_at code f h.front)) h.instr site in
    let m = h.along.marks in
    subst (λ (x : Local). HasMarks x (marks_after (marks_at_start code x.function) (steps_at code x.function ps))) (sym h.is)
    (subst (λ xs. HasMarks (step_in_place a) (marks_after (marks_at_start code f) (steps_at code f xs))) (sym h.all)
    (subst (HasMarks (step_in_place a)) (sym same) (record { held = m.held; handles = m.handles; children = m.children })))

module _ {B : Type 0} (setting : Setting B) (history : HistoryAlong setting) (thread : PathThread setting.code setting.log) (t : Thread B)
    (k : IsWalking setting history thread t) where
  open setting use {code, log}
  open thread use {walk as w}

  abbrev failed : Option Name
  failed = (its_run setting history).state.failed

  pub thread_marks : HasMarks t.local (marks_after (marks_at_start code w.function) (take t.local.steps (steps_at code w.function w.places)))
  thread_marks =
      let n = t.local.steps in
      subst (λ ss. HasMarks t.local (marks_after (marks_at_start code w.function) ss)) (sym (take-map (step_at code w.function) n w.places))
      (subst (λ f. HasMarks t.local (marks_after (marks_at_start code f) (steps_at code f (take n w.places)))) k.function
      (subst (λ ps. HasMarks t.local (marks_after (marks_at_start code t.local.function) (steps_at code t.local.function (take n ps)))) k.places
      (stands_marks code (fails_by failed w.name) t.local _ k.so.stands)))

  -- a thread holds a mutex if the last of these events on the mutex acquires it
  pub holds_told : (m : ℕ) → m < code.mutexes → holds t.local m ≡ unwrap_or (held_upto m t.local.steps w.events) false
  holds_told m within =
      let n = t.local.steps in
      let ss = steps_at code w.function w.places in
      let start = marks_at_start code w.function in
      let number : 0 + n ≡ n = omega arith in
      let few : n ≤ length ss =
      omega (arith, k.so.on.steps, ap (λ (p : Path). p.steps) k.path, k.walk.long, length-map w.places (step_at code w.function)) in
      let none : has_mutex start m ≡ false = index_or-replicate code.mutexes m false in
      ap (λ xs. slice_index_or xs m false) (sym thread_marks.held)
      ∙ held_is m code w.function (fails_in log w.name) 0 start ss n (omega (arith, within, length-replicate code.mutexes false)) few
      (walk_fails_at_site code log w k.walk)
      ∙ ap (λ i. unwrap_or (held_upto m i (events_from code w.function (fails_in log w.name) 0 start ss)) (has_mutex start m)) number
      ∙ ap (λ es. unwrap_or (held_upto m n es) (has_mutex start m)) (sym k.walk.events)
      ∙ ap (unwrap_or (held_upto m n w.events)) none
