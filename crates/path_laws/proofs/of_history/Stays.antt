-- A step leaves all threads on their paths.
use Rattle.std.proofs.Common.{◌≡◌, ◌≢◌, ◌∙◌, inl, inr, ℕ, suc, ◌+◌, ◌-◌, ℤ, Bool, true, false, ◌==◌, ◌&&◌, List, [], ◌∷◌, ◌++◌, length, take, drop}
use Rattle.std.proofs.Common.{Option, Some, None, Ok, refl, sym, ap, ap₂, subst, arith, append_assoc}
use Rattle.std.specs.Prelude.{slice_get, unwrap_or, option_and_then, if◌then◌else◌}
use Rattle.std.specs.FinMap as fin
use Rattle.std.specs.List.{cons_option}
use Rattle.std.specs.Option.{option_map_or, option_or}
use Rattle.std.proofs.lemmas.Bool.{eqb-true}
use Rattle.std.proofs.lemmas.List.{map-append}
use Rattle.std.proofs.lemmas.List.Elements.{filter_map-append}
use Rattle.std.proofs.lemmas.List.Sums.{fold-append}
use Rattle.std.proofs.lemmas.Option.{none-some, same_Some}
use Rattle.path_walk.specs.run_log.Logs.{Log}
use Rattle.path_walk.specs.tc_base.Paths.{Path, path_under}
use Rattle.path_walk.specs.tc_base.Names.{Name, ByName, child, by_name}
use Rattle.path_walk.specs.tc_base.States.{Local}
use Rattle.path_walk.specs.tc_base.declared.request.Request.{Request}
use Rattle.path_walk.specs.tc_base.declared.request.Request.TheVariants.{Silent, Start, Fail}
use Rattle.path_walk.proofs.tc_base.Names.{same_refl}
use Rattle.path_walk.specs.tc_code.Code.{Code}
use Rattle.path_walk.specs.tc_code.Step.{request, instr_of, arguments_of, local_after, step_by_branch, is_nonzero, value_in}
use Rattle.path_walk.specs.tc_code.declared.instr.Instr.{Instr}
use Rattle.path_walk.specs.tc_code.declared.instr.Instr.TheVariants.{Branch, Exit}
use Rattle.run_follows.proofs.run_laws.Names.{get_put_cases}
use Rattle.run_follows.specs.run_history.History.{Deed, Did, Drained}
use Rattle.run_follows.specs.run_history.Locals.{born_local, after_step, with_child, after_deed, locals_in}
use Rattle.run_follows.specs.run_history.Told.{steps_in, fails, failed_in}
use Rattle.run_follows.proofs.run_history.Lists.{last_of-push}
use Rattle.run_follows.proofs.run_history.Threads.{steps_by}
use Rattle.run_follows.specs.Machine.{Machine}
use Rattle.run_follows.specs.Follow.{MayFollow}
use Rattle.run_follows.proofs.Follows.{nothing_follows, follow_push}
use Rattle.path_walk.proofs.list_laws.Lists.{split_at, get_seam}
use Rattle.path_walk.specs.Fits.{starts, started, ending_of, fails_in, child_function, function_of, Fits}
use Rattle.path_walk.specs.Paths.{Walk}
use Rattle.path_walk.specs.Steps.{Step, is_failing, places_if_well_ended, places_from, places_of, step_at, steps_at}
use Rattle.path_walk.specs.declared.ending.Ending.{Ending}
use Rattle.path_walk.specs.declared.ending.Ending.TheVariants.{Fails, Rests, Open}
use Rattle.path_walk.specs.declared.fault.Misfit.TheVariants as misfit
use Rattle.path_walk.proofs.Faults.{option_is, function_of_child, missing, by_path}
use Rattle.path_laws.specs.Setting.{Setting}
use Rattle.path_laws.specs.Prefixes.{fails_by, IsOnPath}
use Rattle.path_laws.proofs.Does.{bytes_other}
use Rattle.path_laws.proofs.States.{create_is}
use Rattle.path_laws.proofs.Prefixes.{is_ok}
use Rattle.path_laws.specs.history.Along.{AreOnPathsIn, IsAlongPaths, HistoryAlong, PathThread}
use Rattle.path_laws.specs.history.Next.{fails_next, failing_next, IsNextOnPath, BranchesAlong}
use Rattle.path_laws.proofs.of_history.Walks.{IsWalk, walk_is}
use Rattle.path_laws.proofs.of_history.Next.{asks_told, steps_left, along_next}

-- The failure after a deed.

failed-push : (h : List Deed) (d : Deed) → failed_in h ≡ None → failed_in (h ++ d ∷ []) ≡ fails d
failed-push h d none = last_of-push fails h d ∙ ap (option_or (fails d)) none ∙ or_nothing (fails d)
  where
    or_nothing : (o : Option Name) → option_or o None ≡ o
    or_nothing None = refl
    or_nothing (Some n) = refl

-- A thread that begins.

module _ (code : Code) (log : Log) (fits : Fits code log) where
  -- a path without steps doesn't fail
  no_failing_start : (f : ℕ) (e : Ending) (p : Path) (ps : List ℕ) → places_of code f e p ≡ Ok ps → (is_failing e && 0 == p.steps) ≡ false
  no_failing_start f Open p ps told = refl
  no_failing_start f Rests p ps told = refl
  no_failing_start f Fails p ps told = by (0 == p.steps) refl
    where
      fails_nowhere : (os : List Bool) → places_if_well_ended code f Fails p (places_from code f 0 0 os) ≡ Ok ps → ⊥
      fails_nowhere [] e = cc
      fails_nowhere (o ∷ os) e = cc

      by : (b : Bool) → (0 == p.steps) ≡ b → b ≡ false
      by false e = refl
      by true e =
          let none : p.steps ≡ 0 = sym (eqb-true 0 p.steps e) in
          absurd (fails_nowhere p.outcomes (ap (λ n. places_if_well_ended code f Fails p (places_from code f n 0 p.outcomes)) (sym none) ∙ told))

  -- a thread whose function is known is on its path at its beginning
  pub born_on : (n : Name) (f : ℕ) (vs : List ℤ) → function_of code log n ≡ Some f → IsOnPath log None n (born_local code f vs)
  born_on n f vs function =
      elim (option_is (path_under n log.threads)) [
        | inl none ↦ absurd (none-some misfit.Missing (sym (fits n) ∙ missing code log n f function none))
        | inr is ↦
            let p = is.0 in
            let fine = is_ok (places_of code f (ending_of log n) p) [] (sym (by_path code log n f p function is.1) ∙ fits n) in
            record {
              path = p;
              there = is.1;
              steps = omega arith;
              later = p.outcomes;
              outcomes = refl;
              fails = sym (no_failing_start f (ending_of log n) p _ fine);
            }
      ]

  -- only main exists at the start
  pub start_on : AreOnPathsIn code log []
  start_on n t at =
      elim (get_put_cases fin.empty [] (born_local code (length code.functions - 1) []) n t at) [
        | inl own ↦
            subst (λ m. IsOnPath log None m t) (sym own.0)
            (subst (IsOnPath log None []) own.1 (born_on [] (length code.functions - 1) [] refl))
        | inr old ↦ absurd (none-some t (sym (fin.get-empty by_name n) ∙ old.1))
      ]

-- A step.

branch_adds : (t : Local) (b : Bool) (to : ℕ) → (step_by_branch t b to).outcomes ≡ t.outcomes ++ b ∷ []
branch_adds t true to = refl
branch_adds t false to = refl

-- the outcome after the first ones begins the later ones
head_of : (os later : List Bool) (b : Bool) → slice_get (os ++ later) (length os) ≡ Some b → (rest : List Bool) × (later ≡ b ∷ rest)
head_of [] [] b at = absurd (none-some b at)
head_of [] (o ∷ later) b at = (later, ap (λ x. x ∷ later) (same_Some o b at))
head_of (o ∷ os) later b at = head_of os later b at

-- a branch uses the next outcome, and no other instruction uses one
outcomes_moved : (w : Walk) (t : Local) (i : Instr) (v : ℤ) (later : List Bool) → w.outcomes ≡ t.outcomes ++ later → BranchesAlong w t i
    → (rest : List Bool) × (w.outcomes ≡ (local_after t i v).outcomes ++ rest)
outcomes_moved w t (Branch e to) v later is branch =
    let b = is_nonzero (value_in t e) in
    let head = head_of t.outcomes later b (ap (λ os. slice_get os (length t.outcomes)) (sym is) ∙ branch e to refl) in (
      head.0,
      is ∙ ap (λ os. t.outcomes ++ os) head.1 ∙ sym (append_assoc t.outcomes (b ∷ []) head.0) ∙ ap (λ os. os ++ head.0) (sym (branch_adds t b to)),
    )
outcomes_moved w t i v later is branch = (later, is)

outcomes_left : (w : Walk) (t : Local) (i : Instr) (r : Request) (v : ℤ) (later : List Bool) → w.outcomes ≡ t.outcomes ++ later → BranchesAlong w t i
    → (rest : List Bool) × (w.outcomes ≡ (after_step t i r v).outcomes ++ rest)
outcomes_left w t i Fail v later is branch = (later, is)
outcomes_left w t i r v later is branch = outcomes_moved w t i v later is branch

-- the threads after a thread's step
after_its_step : (code : Code) (ls : ByName Local) (n : Name) (t : Local) (i : Instr) (k : ℕ) (r : Request) (v : ℤ) (o : Option Name)
    → fin.get ls n ≡ Some t → instr_of code t ≡ Some i
    → after_deed code ls (Did n k r v o) ≡ with_child code n t i r (fin.insert ls n (after_step t i r v))
after_its_step code ls n t i k r v o here at =
    ap (λ x. option_map_or (λ (l : Local). option_map_or (λ a. with_child code n l a r (fin.insert ls n (after_step l a r v))) (instr_of code l) ls) x ls) here
    ∙ ap (λ x. option_map_or (λ a. with_child code n t a r (fin.insert ls n (after_step t a r v))) x ls) at

-- the thread under a name after the step
data Which (code : Code) (ls : ByName Local) (n : Name) (t u : Local) (i : Instr) (r : Request) (q : Name) (l : Local) : Type 0 where
  Own : q ≡ n → l ≡ u → Which code ls n t u i r q l
  Born : (f : ℕ) → r ≡ Start f → q ≡ child n (t.children + 1) → l ≡ born_local code f (arguments_of t i) → Which code ls n t u i r q l
  Other : q ≢ n → fin.get ls q ≡ Some l → Which code ls n t u i r q l

which_old : (code : Code) (ls : ByName Local) (n : Name) (t u : Local) (i : Instr) (r : Request) (q : Name) (l : Local)
    → fin.get (fin.insert ls n u) q ≡ Some l → Which code ls n t u i r q l
which_old code ls n t u i r q l at =
    elim (get_put_cases ls n u q l at) [
      | inl own ↦ Own own.0 (sym own.1)
      | inr old ↦ Other old.0 old.1
    ]

which : (code : Code) (ls : ByName Local) (n : Name) (t u : Local) (i : Instr) (r : Request) (q : Name) (l : Local)
    → fin.get (with_child code n t i r (fin.insert ls n u)) q ≡ Some l → Which code ls n t u i r q l
which code ls n t u i (Start f) q l at =
    elim (get_put_cases (fin.insert ls n u) (child n (t.children + 1)) (born_local code f (arguments_of t i)) q l at) [
      | inl new ↦ Born f refl new.0 (sym new.1)
      | inr old ↦ which_old code ls n t u i (Start f) q l old.1
    ]
which code ls n t u i Silent q l at = which_old code ls n t u i Silent q l at
which code ls n t u i r q l at = which_old code ls n t u i r q l at

-- the named thread fails exactly if the flag is true
fails_itself : (b : Bool) (n : Name) → fails_by (if b then Some n else None) n ≡ b
fails_itself true n = same_refl n
fails_itself false n = refl

no_other_fails : (b : Bool) (n q : Name) → q ≢ n → fails_by (if b then Some n else None) q ≡ false
no_other_fails true n q apart = bytes_other q n apart
no_other_fails false n q apart = refl

module _ {B : Type 0} (machine : Machine B) (log : Log) where
  open machine use {ops, bound, code}

  pub start_along : Fits code log → IsAlongPaths machine log []
  start_along fits = record { follow = nothing_follows ops.buffered bound code; on = start_on code log fits }

  pub drain_stays : (h : List Deed) (n : Name) (k c : ℕ) (v : ℤ) → IsAlongPaths machine log h → failed_in h ≡ None
      → MayFollow ops.buffered bound code h (Drained n k c v) → IsAlongPaths machine log (h ++ Drained n k c v ∷ [])
  drain_stays h n k c v along going may =
      let d = Drained n k c v in
      record {
        follow = follow_push ops.buffered bound code h d along.follow going may;
        on = λ q l at.
            subst (λ o. IsOnPath log o q l) (going ∙ sym (failed-push h d going))
            (along.on q l (ap (λ ls. fin.get ls q) (sym (fold-append (after_deed code) _ h (d ∷ []))) ∙ at));
      }

module _ {B : Type 0} (setting : Setting B) (history : HistoryAlong setting) (thread : PathThread setting.code setting.log)
    (going : failed_in history.deeds ≡ None) (x : IsNextOnPath setting.code history.deeds thread.walk) where
  open setting use {machine, ops, bound, code, lawful, log, log_is as is}
  open history use {deeds as h, fits, along}
  open thread use {walk as w}

  abbrev t : Local
  t = x.local

  abbrev walk : IsWalk code log w
  walk = walk_is code log is fits thread

  -- the path creates the child that the step creates
  created_next : (f : ℕ) → request t x.instr ≡ Start f → function_of code log (child w.name (t.children + 1)) ≡ Some f
  created_next f asks =
      let g = w.function in
      let n = t.steps in
      let front = started (steps_at code g (take n w.places)) in
      let rest = drop (suc n) w.places in
      let place : slice_get w.places n ≡ Some t.instruction = ap (slice_get w.places) x.steps ∙ x.place in
      let count : length front ≡ t.children =
      ap (λ a. length (started (steps_at code a (take n w.places)))) (sym x.function)
      ∙ (along_next setting history thread going x).children in
      let starts_it : starts (step_at code g t.instruction).instr ≡ Some f =
      ap (λ o. starts (unwrap_or o Exit)) x.at ∙ create_is ops code lawful t x.instr f asks in
      let all : started (steps_at code g w.places) ≡ front ++ f ∷ started (steps_at code g rest) =
      ap (λ ps. started (steps_at code g ps)) (split_at w.places n t.instruction place)
      ∙ ap started (map-append (step_at code g) (take n w.places) (t.instruction ∷ rest))
      ∙ filter_map-append (λ (s : Step). starts s.instr) (steps_at code g (take n w.places)) (step_at code g t.instruction ∷ steps_at code g rest)
      ∙ ap (λ o. front ++ cons_option o (started (steps_at code g rest))) starts_it in
      let number : t.children + 1 ≡ suc (length front) = omega (arith, count) in
      ap (λ k. function_of code log (child w.name k)) number
      ∙ function_of_child code log w.name (suc (length front))
      ∙ ap (option_and_then (λ a. child_function code log w.name a (suc (length front)))) walk.function
      ∙ ap (λ ps. slice_get (started (steps_at code g ps)) (length front)) walk.told
      ∙ ap (λ fs. slice_get fs (length front)) all
      ∙ get_seam front f (started (steps_at code g rest))

  module _ (k : ℕ) (r : Request) (took : ℤ) (other : Option Name) (may : MayFollow ops.buffered bound code h (Did w.name k r took other))
      (branch : BranchesAlong w x.local x.instr) (fails_so : fails (Did w.name k r took other) ≡ failing_next log h w) where
    abbrev d : Deed
    d = Did w.name k r took other

    abbrev u : Local
    u = after_step t x.instr r took

    asks : request t x.instr ≡ r
    asks = same_Some (request t x.instr) r (sym (asks_told code h w x) ∙ may.asks)

    failed : failed_in (h ++ d ∷ []) ≡ failing_next log h w
    failed = failed-push h d going ∙ fails_so

    own_on : IsOnPath log (failing_next log h w) w.name u
    own_on =
        let left = steps_left setting history thread going x in
        let one : u.steps ≡ t.steps + 1 = steps_by t x.instr r took in
        let goes = outcomes_left w t x.instr r took x.later x.outcomes branch in
        let next : steps_in h w.name + 1 ≡ u.steps = omega (arith, one, x.steps) in
        record {
          path = walk.path;
          there = walk.under;
          steps = omega (arith, next, left, walk.long);
          later = goes.0;
          outcomes = sym walk.outcomes ∙ goes.1;
          fails = fails_itself (fails_next log h w) w.name ∙ ap₂ (λ a b. fails_in log w.name && a == b) next walk.long;
        }

    starts_unfailed : (f : ℕ) → r ≡ Start f → failing_next log h w ≡ None
    starts_unfailed f is = sym fails_so ∙ ap (λ a. fails (Did w.name k a took other)) is

    -- each thread is on its path after the step
    on_by : (q : Name) (l : Local) → Which code (locals_in code h) w.name t u x.instr r q l → IsOnPath log (failing_next log h w) q l
    on_by q l (Own name same) = subst (λ m. IsOnPath log (failing_next log h w) m l) (sym name) (subst (IsOnPath log (failing_next log h w) w.name) (sym same) own_on)
    on_by q l (Born f is name same) =
        subst (λ o. IsOnPath log o q l) (sym (starts_unfailed f is))
        (subst (λ m. IsOnPath log None m l) (sym name)
        (subst (IsOnPath log None (child w.name (t.children + 1))) (sym same)
        (born_on code log fits (child w.name (t.children + 1)) f (arguments_of t x.instr) (created_next f (asks ∙ is)))))
    on_by q l (Other apart old) =
        let on = along.on q l old in
        record {
          path = on.path;
          there = on.there;
          steps = on.steps;
          later = on.later;
          outcomes = on.outcomes;
          fails = no_other_fails (fails_next log h w) w.name q apart ∙ sym (ap (λ o. fails_by o q) going) ∙ on.fails;
        }

    pub step_stays : IsAlongPaths machine log (h ++ d ∷ [])
    step_stays = record {
      follow = follow_push ops.buffered bound code h d along.follow going may;
      on = λ q l at.
          let ls = locals_in code h in
          let all : locals_in code (h ++ d ∷ []) ≡ with_child code w.name t x.instr r (fin.insert ls w.name u) =
          fold-append (after_deed code) _ h (d ∷ []) ∙ after_its_step code ls w.name t x.instr k r took other x.there x.next in
          subst (λ o. IsOnPath log o q l) (sym failed)
          (on_by q l (which code ls w.name t u x.instr r q l (ap (λ ms. fin.get ms q) (sym all) ∙ at)));
    }
