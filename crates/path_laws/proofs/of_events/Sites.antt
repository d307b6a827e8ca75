-- The failing step of a path is a site, and the mutexes of its steps exist.
use Rattle.std.proofs.Common.{◌≡◌, ◌∙◌, ℕ, ◌+◌, ◌-◌, ◌<◌, ◌==◌, ◌&&◌, Bool, true, false, cond, List, length, Option, Some, None, Result, Ok, Err}
use Rattle.std.proofs.Common.{refl, sym, ap, subst, arith, true≢false}
use Rattle.std.specs.Prelude.{slice_get, unwrap_or, option_map, nat_lt}
use Rattle.std.specs.Option.{option_map_or}
use Rattle.std.proofs.lemmas.Bool.{and_parts, eqb-true, ltb-true}
use Rattle.std.proofs.lemmas.List.{length-map}
use Rattle.std.proofs.lemmas.Option.{none-some, same_Some, slice_get-map}
use Rattle.path_walk.specs.run_log.Logs.{Log}
use Rattle.path_walk.specs.tc_base.Paths.{Path}
use Rattle.path_walk.specs.tc_code.Code.{Code, instr_at}
use Rattle.path_walk.specs.tc_code.Lawful.{IsLawful}
use Rattle.path_walk.specs.tc_code.declared.instr.Instr.{Instr}
use Rattle.path_walk.specs.tc_code.declared.instr.Instr.TheVariants.{Lock, Wake, Exit}
use Rattle.path_walk.proofs.tc_code.Facts.{placed}
use Rattle.path_walk.specs.Events.{kind_with, acquired_mutex}
use Rattle.path_walk.specs.Fits.{ending_of, fails_in}
use Rattle.path_walk.specs.Marks.{Marks}
use Rattle.path_walk.specs.Paths.{Walk}
use Rattle.path_walk.specs.Steps.{Step, is_failing, is_site, places_if_well_ended, ends_at_site, step_at, steps_at}
use Rattle.path_walk.specs.declared.ending.Ending.{Ending}
use Rattle.path_walk.specs.declared.ending.Ending.TheVariants.{Fails, Rests, Open}
use Rattle.path_walk.specs.declared.event.EventKind.{EventKind}
use Rattle.path_walk.specs.declared.fault.Misfit.{Misfit}
use Rattle.path_walk.specs.declared.fault.Misfit.TheVariants.{NotASite}
use Rattle.path_laws.proofs.of_history.Walks.{IsWalk}
use Rattle.path_laws.proofs.of_history.Next.{path_step}
use Rattle.path_laws.proofs.of_events.Regions.{FailsAtSite, fails_at_site}

abbrev the_ok : List ℕ → Result (List ℕ) Misfit
the_ok ps = Ok ps

-- a path that fails ends at a site
ends_so : (code : Code) (f : ℕ) (e : Ending) (p : Path) (ps : List ℕ) → places_if_well_ended code f e p (Ok ps) ≡ Ok ps → is_failing e ≡ true → ends_at_site code f ps ≡ true
ends_so code f Open p ps told fails = absurd (true≢false (sym fails))
ends_so code f Rests p ps told fails = absurd (true≢false (sym fails))
ends_so code f Fails p ps told fails = by (ends_at_site code f ps) told
  where
    by : (b : Bool) → cond b (the_ok ps) (Err NotASite) ≡ the_ok ps → b ≡ true
    by true e = refl
    by false e = absurd cc

-- an instruction acquires this mutex
pub data TakesMutex (i : Instr) (m : ℕ) : Type 0 where
  By_lock : i ≡ Lock m → TakesMutex i m
  By_wake : (c : ℕ) → i ≡ Wake c m → TakesMutex i m

pub takes_by : (t : Marks) (i : Instr) (fails : Bool) (k : EventKind) (m : ℕ) → kind_with t i fails ≡ Some k → acquired_mutex k ≡ Some m → TakesMutex i m
takes_by t i true k m is takes_it = let none : None ≡ acquired_mutex k = ap (λ x. option_map_or acquired_mutex x None) is in absurd (none-some m (none ∙ takes_it))
takes_by t (Lock l) false k m is takes_it =
    let same : Some l ≡ acquired_mutex k = ap (λ x. option_map_or acquired_mutex x None) is in By_lock (ap Lock (same_Some l m (same ∙ takes_it)))
takes_by t (Wake c l) false k m is takes_it =
    let same : Some l ≡ acquired_mutex k = ap (λ x. option_map_or acquired_mutex x None) is in By_wake c (ap (Wake c) (same_Some l m (same ∙ takes_it)))
takes_by t i false k m is takes_it = let none : None ≡ acquired_mutex k = ap (λ x. option_map_or acquired_mutex x None) is in absurd (none-some m (none ∙ takes_it))

-- the mutex that an instruction acquires exists
instr_within : (code : Code) (f p : ℕ) (i : Instr) (m : ℕ) → IsLawful code → instr_at code f p ≡ Some i → TakesMutex i m → m < code.mutexes
instr_within code f p i m lawful at (By_lock is) =
    let at_lock = at ∙ ap (λ x. Some x) is in
    let g = placed code f p (Lock m) lawful at_lock in
    ltb-true m code.mutexes (g.lawful.names p (Lock m) g.at)
instr_within code f p i m lawful at (By_wake c is) =
    let at_wake = at ∙ ap (λ x. Some x) is in
    let g = placed code f p (Wake c m) lawful at_wake in
    ltb-true m code.mutexes (and_parts (nat_lt c code.conditions) (nat_lt m code.mutexes) (g.lawful.names p (Wake c m) g.at)).1

exit_takes_none : (m : ℕ) → TakesMutex Exit m → ⊥
exit_takes_none m (By_lock is) = cc
exit_takes_none m (By_wake c is) = cc

module _ (code : Code) (log : Log) (w : Walk) (k : IsWalk code log w) where
  abbrev pub walk_steps : List Step
  walk_steps = steps_at code w.function w.places

  site_by : (o : Option ℕ) (s : Step) → option_map (step_at code w.function) o ≡ Some s
      → option_map_or (λ p. is_site (step_at code w.function p).instr) o false ≡ true → is_site s.instr ≡ true
  site_by None s at ends = absurd (none-some s at)
  site_by (Some p) s at ends = ap (λ (x : Step). is_site x.instr) (sym (same_Some (step_at code w.function p) s at)) ∙ ends

  -- the last step of a thread that fails is at a site
  last_site : (s : Step) → slice_get walk_steps (length walk_steps - 1) ≡ Some s → fails_in log w.name ≡ true → is_site s.instr ≡ true
  last_site s at fails =
      let long = length-map w.places (step_at code w.function) in
      let ends = ends_so code w.function (ending_of log w.name) k.path w.places
      (ap (places_if_well_ended code w.function (ending_of log w.name) k.path) (sym k.places) ∙ k.fits) fails in
      site_by (slice_get w.places (length w.places - 1)) s
      (sym (slice_get-map (step_at code w.function) w.places (length w.places - 1))
      ∙ ap (λ n. slice_get walk_steps (n - 1)) (sym long) ∙ at) ends

  pub walk_fails_at_site : FailsAtSite (fails_in log w.name) walk_steps
  walk_fails_at_site = fails_at_site (fails_in log w.name) walk_steps last_site

  -- the instruction at the place of that step is a site
  pub last_is_site : (n p : ℕ) (i : Instr) → slice_get w.places n ≡ Some p → instr_at code w.function p ≡ Some i
      → (fails_in log w.name && n + 1 == length w.places) ≡ true → is_site i ≡ true
  last_is_site n p i at instr fails =
      let both = and_parts (fails_in log w.name) (n + 1 == length w.places) fails in
      let last : length walk_steps - 1 ≡ n =
      omega (arith, eqb-true (n + 1) (length w.places) both.1, length-map w.places (step_at code w.function)) in
      last_site (record { place = p; instr = i }) (ap (slice_get walk_steps) last ∙ path_step code w n p i at instr) both.0

  -- the mutex that a step acquires exists
  pub taken_within : IsLawful code → (m place : ℕ) (s : Step) → slice_get walk_steps place ≡ Some s → TakesMutex s.instr m → m < code.mutexes
  taken_within lawful m place s at takes_it = by (slice_get w.places place) (sym (slice_get-map (step_at code w.function) w.places place) ∙ at)
    where
      by_instr : (p : ℕ) (o : Option Instr) → instr_at code w.function p ≡ o → TakesMutex (unwrap_or o Exit) m → m < code.mutexes
      by_instr p None e t = absurd (exit_takes_none m t)
      by_instr p (Some i) e t = instr_within code w.function p i m lawful e t

      by : (o : Option ℕ) → option_map (step_at code w.function) o ≡ Some s → m < code.mutexes
      by None e = absurd (none-some s e)
      by (Some p) e =
          by_instr p (instr_at code w.function p) refl
          (subst (λ (x : Step). TakesMutex x.instr m) (sym (same_Some (step_at code w.function p) s e)) takes_it)
