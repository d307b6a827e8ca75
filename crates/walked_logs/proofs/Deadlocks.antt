-- The threads of the normal log of a deadlock make up a log.
use Rattle.std.proofs.Common.{◌≡◌, ◌∙◌, inl, inr, ℕ, Bool, true, false, cond, ◌||◌, ◌&&◌, List, [], ◌∷◌, map, Option, Some, None, IsSome, Result, Ok, Err, refl, sym, ap, ap₂, subst, ◌⊎◌, slice_index_or}
use Rattle.std.specs.Prelude.{slice_get, option_map, option_and_then, is_some, is_none}
use Rattle.std.specs.List.{list_all, list_any}
use Rattle.std.specs.Option.{option_map_or}
use Rattle.std.proofs.lemmas.Bool.{false≢true, true_from_ne_false, eqb-true}
use Rattle.std.proofs.lemmas.Option.{same_Some}
use Rattle.log_walk.specs.run_log.Logs.{Log, failing_of}
use Rattle.log_walk.specs.tc_base.Names.{Name, child}
use Rattle.log_walk.specs.tc_base.Paths.{Path, ThreadPath, place_in, path_under}
use Rattle.log_walk.specs.tc_code.Code.{Code, instr_at}
use Rattle.log_walk.specs.tc_code.declared.instr.Instr.{Instr}
use Rattle.log_walk.specs.tc_code.Lawful.{IsLawful}
use Rattle.log_walk.specs.tc_code.Step.{child_number}
use Rattle.log_walk.specs.tc_code.declared.instr.Instr.TheVariants.{Lock, Join}
use Rattle.normal_logs.proofs.run_laws.Basics.{index_or-set_cases}
use Rattle.log_walk.specs.path_walk.declared.event.Blocked.TheVariants as blocked
use Rattle.walked_logs.proofs.Told.{number_at}
use Rattle.walked_logs.proofs.Stands.{ends_exit as ends_by_exit, first_instr, function_there}
use Rattle.normal_logs.proofs.run_history.of_pending.In.{In}
use Rattle.log_walk.specs.path_walk.Events.{is_impossible, blocked_at}
use Rattle.log_walk.specs.path_walk.Fits.{ending_by, ending_of}
use Rattle.log_walk.specs.path_walk.Marks.{Marks, marked_steps, marks_after, marks_at_start, handle_in}
use Rattle.log_walk.specs.path_walk.Paths.{Walk, blocked_after, have_exited, is_dead, walk_of}
use Rattle.log_walk.specs.path_walk.Steps.{steps_at, is_failing, places_if_well_ended, can_block, standing, end_from}
use Rattle.log_walk.specs.path_walk.declared.ending.Ending.{Ending}
use Rattle.log_walk.specs.path_walk.declared.ending.Ending.TheVariants.{Fails, Rests, Open}
use Rattle.log_walk.specs.path_walk.declared.event.Sleep.{Sleep}
use Rattle.log_walk.specs.path_walk.declared.fault.Misfit.{Misfit}
use Rattle.log_walk.specs.path_walk.declared.fault.Misfit.TheVariants.{NotBlocked}
use Rattle.normal_logs.specs.path_laws.history.Along.{IsThread, path_thread}
use Rattle.normal_logs.proofs.path_laws.of_history.Walks.{IsWalk, walk_is}
use Rattle.normal_logs.proofs.path_laws.of_events.Lists.{from_map}
use Rattle.log_walk.specs.thread_paths.Ends.{MayTake, has_end, is_exit}
use Rattle.log_walk.specs.thread_paths.declared.aim.End.{End}
use Rattle.log_walk.specs.thread_paths.declared.aim.End.TheVariants as end
use Rattle.log_walk.specs.Rest.{MakeUp, all, aim_of, waits_for, waits}
use Rattle.log_walk.specs.declared.bounds.Kind.TheVariants.{Deadlock}
use Rattle.normal_logs.specs.Ends.{IsJoined, IsHeldAtEnd, NeverExits}
use Rattle.normal_logs.specs.Normal.{IsNormalDeadlock}
use Rattle.walked_logs.proofs.Ends.{says, says_so, ends_exit, last_place, exit_event}
use Rattle.walked_logs.proofs.Takes.{same_places}
use Rattle.walked_logs.proofs.Known.{in_get}
use Rattle.walked_logs.proofs.Logs.{Facts, threads_make_up}

abbrev the_ok : List ℕ → Result (List ℕ) Misfit
the_ok ps = Ok ps

-- a path that rests has exited or stands before an instruction that can block
rests_so : (code : Code) (f : ℕ) (p : Path) (ps : List ℕ) → places_if_well_ended code f Rests p (Ok ps) ≡ Ok ps → option_map_or can_block (standing code f p) true ≡ true
rests_so code f p ps is = by (option_map_or can_block (standing code f p) true) is
  where
    by : (b : Bool) → cond b (the_ok ps) (Err NotBlocked) ≡ the_ok ps → b ≡ true
    by true e = refl
    by false e = absurd cc

-- nothing blocks a thread that stands before no instruction
none_blocked : (e : Ending) (m : Marks) (sleeps : List Sleep) (o : Option Instr) → is_some o ≡ false → is_some (blocked_after e m sleeps o) ≡ false
none_blocked Rests m sleeps None none = refl
none_blocked Rests m sleeps (Some i) none = absurd (false≢true (sym none))
none_blocked Fails m sleeps o none = refl
none_blocked Open m sleeps o none = refl

second_false : (a b : Bool) → (a || b) ≡ false → b ≡ false
second_false true b e = absurd (false≢true (sym e))
second_false false b e = e

abbrev IsNot : {X : Type 0} → (X → Bool) → List X → Type 0
IsNot {X} p xs = (x : X) × In x xs × (p x ≡ false)

some_not : {X : Type 0} (p : X → Bool) (xs : List X) → list_all p xs ≡ false → IsNot p xs
some_not p [] e = absurd (false≢true (sym e))
some_not p (x ∷ xs) e = by (p x) refl e (λ later. some_not p xs later)
  where
    by : (b : Bool) → p x ≡ b → (b && list_all p xs) ≡ false → (list_all p xs ≡ false → IsNot p xs) → IsNot p (x ∷ xs)
    by true is e rest = let r = rest e in (r.0, inr r.1, r.2)
    by false is e rest = (x, inl refl, is)

some_of : {X : Type 0} (o : Option X) → is_none o ≡ false → IsSome o
some_of None e = absurd (false≢true (sym e))
some_of (Some x) e = refl

none_of : {X : Type 0} (o : Option X) → is_some o ≡ false → o ≡ None
none_of None e = refl
none_of (Some x) e = absurd (false≢true (sym e))

module _ (code : Code) (log : Log) (lawful : IsLawful code) (normal : IsNormalDeadlock code log) where
  none_fails : failing_of log ≡ None
  none_fails =
      ap (λ f. option_and_then (λ n. option_map (λ (t : ThreadPath). t.name) (slice_get log.threads n)) (place_in f)) normal.ends

  resting : (n : Name) → ending_of log n ≡ Rests
  resting n = ap (λ o. ending_by o n) none_fails

  -- what is asked of the end of a thread
  data Asked (n : Name) (e : End) : Type 0 where
    Joined : e ≡ end.Exit → IsJoined code log n → Asked n e
    Free : (IsJoined code log n → ⊥) → e ≡ end.Rest → Asked n e

  -- a thread that hasn't exited
  record IsLeftOver (n : Name) : Type 0 where
    place : ℕ
    walk : Walk
    there : IsThread code log place walk
    name : walk.name ≡ n
    blocked : IsSome walk.blocked

  module _ (j : ℕ) (w : Walk) (there : IsThread code log j w) where
    abbrev k : IsWalk code log w
    k = walk_is code log normal.paths.is_log normal.paths.fits (path_thread j w there)

    rests : option_map_or can_block (standing code w.function k.path) true ≡ true
    rests =
        rests_so code w.function k.path w.places
        (ap (λ x. places_if_well_ended code w.function x k.path (the_ok w.places)) (sym (resting w.name))
        ∙ ap (places_if_well_ended code w.function (ending_of log w.name) k.path) (sym k.places) ∙ k.fits)

    has_its_end : (e : End) → Asked w.name e → has_end code w.function e k.path w.places ≡ true
    has_its_end e (Joined is joined) =
        ap (λ x. has_end code w.function x k.path w.places) is
        ∙ last_place code w.function is_exit w.places ∙ ends_exit code log w k (normal.paths.joined j w there joined)
    has_its_end e (Free free is) = ap (λ x. has_end code w.function x k.path w.places) is ∙ rests

    takes : (e : End) (ends : Bool) → Asked w.name e → MayTake code w.function (aim_of Deadlock ends e) k.path
    takes e ends asked = record {
      places = w.places;
      along = k.places;
      possible = subst (λ c. list_any is_impossible (marked_steps code w.function c (steps_at code w.function w.places)) ≡ false)
          (ap is_failing (resting w.name)) (k.alive normal.paths.possible);
      ends = has_its_end e asked;
    }

    -- a thread that stands before no instruction isn't left over
    not_left : is_some (instr_at code w.function (says code log w k).place) ≡ false → IsLeftOver w.name → ⊥
    not_left none left =
        let v = left.walk in
        let own = walk_is code log normal.paths.is_log normal.paths.fits (path_thread left.place v left.there) in
        let same = same_places code log v w own k left.name in
        let path : own.path ≡ k.path =
        same_Some own.path k.path (sym own.under ∙ ap (λ n. path_under n log.threads) left.name ∙ k.under) in
        let stands : standing code v.function own.path ≡ instr_at code w.function (says code log w k).place =
        ap₂ (standing code) same.0 path ∙ ap (instr_at code w.function) (sym (says_so code log w k).place) in
        let no_block =
        none_blocked (ending_of log v.name) (marks_after (marks_at_start code v.function) (steps_at code v.function v.places)) v.sleeps
        (standing code v.function own.path) (ap is_some stands ∙ none) in
        false≢true (sym no_block ∙ ap is_some (sym own.blocked) ∙ left.blocked)

  module _ (j : ℕ) (w : Walk) (there : IsThread code log j w) where
    abbrev own : IsWalk code log w
    own = walk_is code log normal.paths.is_log normal.paths.fits (path_thread j w there)

    abbrev at : Option Instr
    at = instr_at code w.function (says code log w own).place

    abbrev marks : Marks
    marks = marks_after (marks_at_start code w.function) (steps_at code w.function w.places)

    -- what blocks it, by the instruction it stands before
    blocked_is : w.blocked ≡ option_and_then (blocked_at marks w.sleeps) at
    blocked_is =
        own.blocked
        ∙ ap₂ (λ e o. blocked_after e marks w.sleeps o) (resting w.name) (ap (instr_at code w.function) (sym (says_so code log w own).place))

    never_exits : NeverExits code log w.name → is_some at ≡ true
    never_exits never =
        true_from_ne_false (is_some at) (λ none.
        let first = first_instr code w.function lawful (function_there code log w.name w.function lawful own.function) in
        let over : instr_at code w.function (end_from code w.function own.path.steps 0 own.path.outcomes) ≡ None =
        ap (instr_at code w.function) (sym (says_so code log w own).place) ∙ none_of at none in
        never j w there refl
        (exit_event code log w own (ap is_failing (resting w.name))
        (ends_by_exit code lawful w.function own.path.steps 0 own.path.outcomes w.places false first.0 own.places first.1 over)))

    child_stays : (q : ℕ) → waits_for Deadlock at (says code log w own) q ≡ true → NeverExits code log (child w.name q)
    child_stays q does = by at refl does
      where
        by : (o : Option Instr) → at ≡ o → waits_for Deadlock o (says code log w own) q ≡ true → NeverExits code log (child w.name q)
        by None here e = absurd (false≢true e)
        by (Some (Join h)) here e =
            let s = says code log w own in
            let number : child_number (handle_in marks h) ≡ q =
            number_at s.children marks.handles h (says_so code log w own).alike.numbers
            ∙ eqb-true (slice_index_or s.children h 0) q e in
            subst (λ n. NeverExits code log (child w.name n)) number
            (normal.caused j w (blocked.Join (child_number (handle_in marks h))) there
            (blocked_is ∙ ap (option_and_then (blocked_at marks w.sleeps)) here))
        by (Some i) here e = absurd (false≢true e)

    mutex_held : (waited : List Bool) (m : ℕ) → slice_index_or (waits Deadlock at waited) m false ≡ true
        → (slice_index_or waited m false ≡ true) ⊎ IsHeldAtEnd code log m
    mutex_held waited m e = by at refl e
      where
        by : (o : Option Instr) → at ≡ o → slice_index_or (waits Deadlock o waited) m false ≡ true
            → (slice_index_or waited m false ≡ true) ⊎ IsHeldAtEnd code log m
        by None here e = inl e
        by (Some (Lock l)) here e =
            elim (index_or-set_cases waited l m true false) [
              | inl is ↦
                  inr (subst (IsHeldAtEnd code log) (sym is.0)
                  (normal.caused j w (blocked.Lock l) there (blocked_is ∙ ap (option_and_then (blocked_at marks w.sleeps)) here)))
              | inr was ↦ inl (sym was ∙ e)
            ]
        by (Some i) here e = inl e

  some_left : (t : ThreadPath) × In t log.threads × IsLeftOver t.name
  some_left =
      let walks = map (walk_of code log) log.threads in
      let left : have_exited log.failing walks ≡ false =
      second_false (list_any (is_dead code log) log.threads) (have_exited log.failing walks) normal.paths.possible in
      let x = some_not (λ (w : Walk). is_none w.blocked) walks (ap (λ f. have_exited f walks) (sym normal.ends) ∙ left) in
      let t = from_map (walk_of code log) x.0 log.threads x.1 in
      let at = in_get x.0 walks x.1 in
      (t.0, t.1, record { place = at.0; walk = x.0; there = at.1; name = ap (λ (w : Walk). w.name) (sym t.2); blocked = some_of x.0.blocked x.2 })

  abbrev facts : Facts code log Deadlock
  facts = record {
    paths = normal.paths;
    Asked = Asked;
    Spared = λ n. Unit {0};
    EndsIt = IsLeftOver;
    takes = λ j w there e ends asked once. takes j w there e ends asked;
    spares = λ j w there e ends asked once does n less. tt;
    ends_it = λ j w there e ends asked once none left. not_left j w there none left;
    joined = λ n joined. Joined refl joined;
    free = λ n free. Free free refl;
    last = λ j w there at free. Free free refl;
    Stays = NeverExits code log;
    Wanted = IsHeldAtEnd code log;
    stays = never_exits;
    waits_child = child_stays;
    waits_mutex = mutex_held;
    wanted = λ m held. held;
    some_ends = some_left;
  }

  pub deadlock_made_up : MakeUp code Deadlock (all code Deadlock) log.threads
  deadlock_made_up = threads_make_up code log Deadlock facts
