-- The threads of a log that fits: there is an instruction at each of their places, and they fail at a site.
use Rattle.std.proofs.Common.{◌≡◌, ◌∙◌, ℕ, zero, suc, ◌-◌, Bool, true, false, cond, List, [], ◌∷◌, map, length}
use Rattle.std.proofs.Common.{Some, None, Result, Ok, Err, refl, sym, ap, subst, arith, bytes_eq}
use Rattle.std.specs.Prelude.{unwrap_or, slice_get}
use Rattle.std.specs.List.{All}
use Rattle.std.specs.Option.{option_map_or}
use Rattle.std.specs.Result.{result_err, result_unwrap_or}
use Rattle.std.proofs.lemmas.List.Elements.{All-nil, All-cons, All-head, All-tail, All-weaker}
use Rattle.std.proofs.lemmas.Bool.{false≢true}
use Rattle.std.proofs.lemmas.Option.{none-some}
use Rattle.order_cells.specs.run_log.Logs.{Log}
use Rattle.order_cells.specs.tc_base.Paths.{Path, ThreadPath, path_under}
use Rattle.order_cells.proofs.tc_base.Names.{same_refl}
use Rattle.order_cells.specs.tc_code.Code.{Code}
use Rattle.order_events.specs.path_walk.Steps.{is_failing, is_site, step_at, steps_at, ends_at_site, places_from, places_of, places_if_well_ended}
use Rattle.order_events.specs.path_walk.Fits.{ending_of, places_in, function_of, Fits}
use Rattle.order_events.specs.path_walk.Marks.{marked_steps}
use Rattle.order_events.specs.path_walk.Events.{events_of}
use Rattle.order_events.specs.path_walk.Paths.{Walk, walk_of}
use Rattle.order_events.specs.path_walk.declared.ending.Ending.{Ending}
use Rattle.order_events.specs.path_walk.declared.ending.Ending.TheVariants.{Fails, Rests, Open}
use Rattle.order_events.specs.path_walk.declared.fault.Misfit.{Misfit}
use Rattle.order_events.specs.path_walk.declared.fault.Misfit.TheVariants.{NotASite}
use Rattle.order_events.proofs.path_walk.Faults.{walked_there, by_path, fitting}
use Rattle.order_events.proofs.path_walk.Places.{unrolled, fits_from}
use Rattle.sym_events.proofs.Found.{AreThere, EndsAtSite}

-- a walk with its instructions, whose last step may be at a site
pub record IsWalked (code : Code) (w : Walk) : Type 0 where
  pub last : Bool
  pub events : w.events ≡ events_of code w.function (marked_steps code w.function last (steps_at code w.function w.places))
  pub there : AreThere code w.function w.places
  pub site : last ≡ true → EndsAtSite code w.function w.places

abbrev the_ok : List ℕ → Result (List ℕ) Misfit
the_ok places = Ok places

module _ (code : Code) (f : ℕ) where
  instrs_there : (n k : ℕ) (outcomes : List Bool) (places : List ℕ) → places_from code f n k outcomes ≡ Ok places → AreThere code f places
  instrs_there zero k [] places told = let none : [] ≡ places = cc in subst (AreThere code f) none tt
  instrs_there zero k (o ∷ outcomes) places told = absurd cc
  instrs_there (suc n) k outcomes places told =
      let u = unrolled code f n k outcomes places told in
      subst (AreThere code f) (sym u.all) ((u.instr, u.at), instrs_there n u.next.place u.next.outcomes u.rest u.told)

  ends_well : (places : List ℕ) → ends_at_site code f places ≡ true → EndsAtSite code f places
  ends_well [] ends = tt
  ends_well (place ∷ []) ends = (λ none. ends, tt)
  ends_well (place ∷ next ∷ places) ends =
      let e : length (place ∷ next ∷ places) - 1 ≡ suc (length (next ∷ places) - 1) = omega arith in (
        λ none. absurd (omega (arith, none)),
        ends_well (next ∷ places)
            (ap (λ n. option_map_or (λ k. is_site (step_at code f k).instr) (slice_get (place ∷ next ∷ places) n) false) (sym e) ∙ ends),
      )

  ended_well : (ending : Ending) (path : Path) (r : Result (List ℕ) Misfit) (places : List ℕ) → places_if_well_ended code f ending path r ≡ Ok places
      → is_failing ending ≡ true → EndsAtSite code f places
  ended_well Fails path (Ok found) places fits fails = by (ends_at_site code f found) refl fits
    where
      by : (b : Bool) → ends_at_site code f found ≡ b → cond b (the_ok found) (Err NotASite) ≡ Ok places → EndsAtSite code f places
      by true ends is = let same : found ≡ places = cc in subst (EndsAtSite code f) same (ends_well found ends)
      by false ends is = absurd cc
  ended_well Fails path (Err e) places fits fails = absurd cc
  ended_well Rests path r places fits fails = absurd (false≢true fails)
  ended_well Open path r places fits fails = absurd (false≢true fails)

is_ok : {X E : Type 0} (r : Result X E) (d : X) → result_err r ≡ None → r ≡ Ok (result_unwrap_or r d)
is_ok (Ok x) d none = refl
is_ok (Err e) d none = absurd (none-some e (sym none))

-- the name of a thread has a path
abbrev IsUnder : List ThreadPath → ThreadPath → Type 0
IsUnder ts t = (p : Path) × (path_under t.name ts ≡ Some p)

under_more : (t u : ThreadPath) (ts : List ThreadPath) → IsUnder ts u → IsUnder (t ∷ ts) u
under_more t u ts is = by (bytes_eq u.name t.name)
  where
    by : (b : Bool) → (p : Path) × (cond b (Some t.path) (path_under u.name ts) ≡ Some p)
    by true = (t.path, refl)
    by false = is

all_under : (ts : List ThreadPath) → All (IsUnder ts) ts
all_under [] = All-nil (IsUnder [])
all_under (t ∷ ts) =
    All-cons (IsUnder (t ∷ ts)) t ts (t.path, ap (λ b. cond b (Some t.path) (path_under t.name ts)) (same_refl t.name))
    (All-weaker (IsUnder ts) (IsUnder (t ∷ ts)) (λ u is. under_more t u ts is) ts (all_under ts))

module _ (code : Code) (log : Log) (fits : Fits code log) where
  walked_so : (t : ThreadPath) → IsUnder log.threads t → IsWalked code (walk_of code log t)
  walked_so t under =
      let n = t.name in
      let p = under.0 in
      let is = fitting code log n p under.1 (fits n) in
      let f = is.0 in
      let fine : places_of code f (ending_of log n) p ≡ Ok (places_in code log n f) =
      is_ok (places_of code f (ending_of log n) p) [] (sym (by_path code log n f p is.1 under.1) ∙ fits n)
      ∙ ap (λ r. Ok (result_unwrap_or r [])) (sym (walked_there code log n f p under.1)) in
      let from = places_from code f p.steps 0 p.outcomes in
      let same : f ≡ unwrap_or (function_of code log n) 0 = sym (ap (λ o. unwrap_or o 0) is.1) in
      record {
        last = is_failing (ending_of log n);
        events = refl;
        there = subst (λ g. AreThere code g (places_in code log n g)) same
            (instrs_there code f p.steps 0 p.outcomes (places_in code log n f) (fits_from code f (ending_of log n) p from (places_in code log n f) fine));
        site = λ fails. subst (λ g. EndsAtSite code g (places_in code log n g)) same
            (ended_well code f (ending_of log n) p from (places_in code log n f) fine fails);
      }

  walks_from : (ts : List ThreadPath) → All (IsUnder log.threads) ts → All (IsWalked code) (map (walk_of code log) ts)
  walks_from [] are = All-nil (IsWalked code)
  walks_from (t ∷ ts) are =
      All-cons (IsWalked code) (walk_of code log t) (map (walk_of code log) ts) (walked_so t (All-head (IsUnder log.threads) t ts are))
      (walks_from ts (All-tail (IsUnder log.threads) t ts are))

  pub all_walked : All (IsWalked code) (map (walk_of code log) log.threads)
  all_walked = walks_from log.threads (all_under log.threads)
