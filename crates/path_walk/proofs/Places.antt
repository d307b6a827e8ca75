-- The places of a path, step by step.
use Rattle.std.proofs.Common.{◌≡◌, ◌∙◌, ℕ, zero, suc, ◌+◌, ◌<◌, ◌≤◌, Bool, true, false, cond, List, [], ◌∷◌, ◌++◌, length, drop}
use Rattle.std.proofs.Common.{Option, Some, None, Result, Ok, Err}
use Rattle.std.proofs.Common.{IsSome, refl, sym, ap, subst, arith, append_assoc, append-nil, slice_index_or}
use Rattle.std.specs.List.{filter_map, cons_option}
use Rattle.std.specs.Option.{option_map_or}
use Rattle.std.proofs.lemmas.List.{length-drop, length-map}
use Rattle.tc_base.specs.Paths.{Path}
use Rattle.tc_code.specs.Code.{Code, instr_at}
use Rattle.tc_code.specs.declared.instr.Instr.{Instr}
use Rattle.path_walk.specs.Steps.{Onward, onward, with_place, places_from, end_from, standing, Step, step_at, steps_at}
use Rattle.path_walk.specs.Steps.{ends_at_site, can_block, places_if_well_ended}
use Rattle.path_walk.specs.Fits.{starts, started}
use Rattle.path_walk.specs.Marks.{Marks, marks_at_start, marks_after_instr, marked_from, marked_steps}
use Rattle.path_walk.specs.Events.{event_of, events_of}
use Rattle.path_walk.specs.declared.ending.Ending.{Ending}
use Rattle.path_walk.specs.declared.ending.Ending.TheVariants.{Fails, Rests, Open}
use Rattle.path_walk.specs.declared.event.Event.{Event}
use Rattle.path_walk.specs.helpers.Accounts.{prefixed}
use Rattle.path_walk.specs.declared.fault.Misfit.{Misfit}
use Rattle.path_walk.specs.declared.fault.Misfit.TheVariants.{OutcomesShort, OutcomesLeft, PastExit, NotASite, NotBlocked}

-- the places from an instruction on, if there is one
abbrev from_instr : Code → ℕ → ℕ → ℕ → List Bool → Option Instr → Result (List ℕ) Misfit
from_instr code f n k os o =
    option_map_or (λ i. option_map_or (λ (on : Onward). with_place k (places_from code f n on.place on.outcomes)) (onward k i os) (Err OutcomesShort)) o
    (Err PastExit)

-- the places from the position to which an instruction leads
abbrev from_onward : Code → ℕ → ℕ → ℕ → Option Onward → Result (List ℕ) Misfit
from_onward code f n k o = option_map_or (λ (on : Onward). with_place k (places_from code f n on.place on.outcomes)) o (Err OutcomesShort)

pub past_exit : (code : Code) (f n k : ℕ) (os : List Bool) → 0 < n → instr_at code f k ≡ None → places_from code f n k os ≡ Err PastExit
past_exit code f zero k os lt e = absurd (omega arith)
past_exit code f (suc n) k os lt e = ap (from_instr code f n k os) e

pub short : (code : Code) (f n k : ℕ) (os : List Bool) (i : Instr) → 0 < n → instr_at code f k ≡ Some i → onward k i os ≡ None
    → places_from code f n k os ≡ Err OutcomesShort
short code f zero k os i lt e on = absurd (omega arith)
short code f (suc n) k os i lt e on = ap (from_instr code f n k os) e ∙ ap (from_onward code f n k) on

pub step_more : (code : Code) (f n m k : ℕ) (os : List Bool) (i : Instr) (on : Onward) → n ≡ m + 1 → instr_at code f k ≡ Some i → onward k i os ≡ Some on
    → places_from code f n k os ≡ with_place k (places_from code f m on.place on.outcomes)
step_more code f zero m k os i on less e leads = absurd (omega arith)
step_more code f (suc n) m k os i on less e leads =
    let same : n ≡ m = omega arith in
    ap (from_instr code f n k os) e ∙ ap (from_onward code f n k) leads ∙ ap (λ x. with_place k (places_from code f x on.place on.outcomes)) same

-- the place to which the remaining steps lead
pub end_more : (code : Code) (f n m k : ℕ) (os : List Bool) (i : Instr) (on : Onward) → n ≡ m + 1 → instr_at code f k ≡ Some i → onward k i os ≡ Some on
    → end_from code f n k os ≡ end_from code f m on.place on.outcomes
end_more code f zero m k os i on less at leads = absurd (omega arith)
end_more code f (suc n) m k os i on less at leads =
    let same : n ≡ m = omega arith in
    ap (λ o. option_map_or (λ j. option_map_or (λ (w : Onward). end_from code f n w.place w.outcomes) (onward k j os) k) o k) at
    ∙ ap (λ o. option_map_or (λ (w : Onward). end_from code f n w.place w.outcomes) o k) leads
    ∙ ap (λ x. end_from code f x on.place on.outcomes) same

pub end_here : (code : Code) (f n k : ℕ) (os : List Bool) → n ≡ 0 → end_from code f n k os ≡ k
end_here code f zero k os e = refl
end_here code f (suc n) k os e = absurd (omega arith)

pub prefixed_before : (front : List ℕ) (k : ℕ) (r : Result (List ℕ) Misfit) → prefixed front (with_place k r) ≡ prefixed (front ++ k ∷ []) r
prefixed_before front k (Ok places) = ap Ok (sym (append_assoc front (k ∷ []) places))
prefixed_before front k (Err e) = refl

left_by : (code : Code) (f n k : ℕ) (os : List Bool) → n ≡ 0 → 0 < length os → places_from code f n k os ≡ Err OutcomesLeft
left_by code f zero k [] e lt = absurd (omega arith)
left_by code f zero k (o ∷ os) e lt = refl
left_by code f (suc n) k os e lt = absurd (omega arith)

pub left_over : (code : Code) (f n k used : ℕ) (os : List Bool) → n ≡ 0 → used < length os → places_from code f n k (drop used os) ≡ Err OutcomesLeft
left_over code f n k used os e lt = left_by code f n k (drop used os) e (omega (arith, length-drop used os))

done_by : (code : Code) (f n k : ℕ) (os : List Bool) (front : List ℕ) → n ≡ 0 → length os ≡ 0 → prefixed front (places_from code f n k os) ≡ Ok front
done_by code f zero k [] front e none = ap Ok (append-nil front)
done_by code f zero k (o ∷ os) front e none = absurd (omega arith)
done_by code f (suc n) k os front e none = absurd (omega arith)

pub all_done : (code : Code) (f n k used : ℕ) (os : List Bool) (front : List ℕ) → n ≡ 0 → length os ≤ used
    → prefixed front (places_from code f n k (drop used os)) ≡ Ok front
all_done code f n k used os front e le = done_by code f n k (drop used os) front e (omega (arith, length-drop used os))

-- a path of one step and more, unrolled
pub record Unrolled (code : Code) (f n k : ℕ) (os : List Bool) (ps : List ℕ) : Type 0 where
  pub instr : Instr
  pub at : instr_at code f k ≡ Some instr
  pub next : Onward
  pub leads : onward k instr os ≡ Some next
  pub rest : List ℕ
  pub told : places_from code f n next.place next.outcomes ≡ Ok rest
  pub all : ps ≡ k ∷ rest

pub unrolled : (code : Code) (f n k : ℕ) (os : List Bool) (ps : List ℕ) → places_from code f (suc n) k os ≡ Ok ps → Unrolled code f n k os ps
unrolled code f n k os ps h = by_instr (instr_at code f k) refl h
  where
    by_rest : (i : Instr) → instr_at code f k ≡ Some i → (on : Onward) → onward k i os ≡ Some on → (r : Result (List ℕ) Misfit)
        → places_from code f n on.place on.outcomes ≡ r → with_place k r ≡ Ok ps → Unrolled code f n k os ps
    by_rest i at on leads (Ok rest) told h = record { instr = i; at = at; next = on; leads = leads; rest = rest; told = told; all = cc }
    by_rest i at on leads (Err e) told h = absurd cc

    by_onward : (i : Instr) → instr_at code f k ≡ Some i → (o : Option Onward) → onward k i os ≡ o → from_onward code f n k o ≡ Ok ps
        → Unrolled code f n k os ps
    by_onward i at (Some on) leads h = by_rest i at on leads (places_from code f n on.place on.outcomes) refl h
    by_onward i at None leads h = absurd cc

    by_instr : (o : Option Instr) → instr_at code f k ≡ o → from_instr code f n k os o ≡ Ok ps → Unrolled code f n k os ps
    by_instr (Some i) at h = by_onward i at (onward k i os) refl h
    by_instr None at h = absurd cc

-- each place of a path has an instruction
pub all_there : (code : Code) (f n k : ℕ) (os : List Bool) (ps : List ℕ) → places_from code f n k os ≡ Ok ps → (j d : ℕ) → j < length ps
    → IsSome (instr_at code f (slice_index_or ps j d))
all_there code f zero k [] ps h j d lt = let none : [] ≡ ps = cc in absurd (omega (arith, ap length none))
all_there code f zero k (o ∷ os) ps h j d lt = absurd cc
all_there code f (suc n) k os ps h j d lt =
    let u = unrolled code f n k os ps h in
    subst (λ xs. j < length xs → IsSome (instr_at code f (slice_index_or xs j d))) (sym u.all)
    (by u (λ i few. all_there code f n u.next.place u.next.outcomes u.rest u.told i d few) j) lt
  where
    by : (u : Unrolled code f n k os ps) → ((i : ℕ) → i < length u.rest → IsSome (instr_at code f (slice_index_or u.rest i d)))
        → (j : ℕ) → j < length (k ∷ u.rest) → IsSome (instr_at code f (slice_index_or (k ∷ u.rest) j d))
    by u rest zero lt = subst IsSome (sym u.at) refl
    by u rest (suc j) lt = rest j (omega arith)

-- a path has as many places as steps
pub count : (code : Code) (f n k : ℕ) (os : List Bool) (ps : List ℕ) → places_from code f n k os ≡ Ok ps → length ps ≡ n
count code f zero k [] ps h = let none : [] ≡ ps = cc in omega (arith, ap length none)
count code f zero k (o ∷ os) ps h = absurd cc
count code f (suc n) k os ps h =
    let u = unrolled code f n k os ps h in
    let rest = count code f n u.next.place u.next.outcomes u.rest u.told in
    omega (arith, rest, ap length u.all)

-- a path that fits has the places of its steps, however it ends
abbrev the_ok : List ℕ → Result (List ℕ) Misfit
the_ok places = Ok places

if_kept : (b : Bool) (places ps : List ℕ) (m : Misfit) → cond b (the_ok places) (Err m) ≡ Ok ps → the_ok places ≡ Ok ps
if_kept true places ps m h = h
if_kept false places ps m h = absurd cc

pub fits_from : (code : Code) (f : ℕ) (ending : Ending) (path : Path) (r : Result (List ℕ) Misfit) (ps : List ℕ) → places_if_well_ended code f ending path r ≡ Ok ps
    → r ≡ Ok ps
fits_from code f Fails path (Ok places) ps h = if_kept (ends_at_site code f places) places ps NotASite h
fits_from code f Rests path (Ok places) ps h = if_kept (option_map_or can_block (standing code f path) true) places ps NotBlocked h
fits_from code f Fails path (Err e) ps h = absurd cc
fits_from code f Rests path (Err e) ps h = absurd cc
fits_from code f Open path r ps h = h

-- A list with at most one entry for each step isn't longer than the steps.

cons_short : {X : Type 0} (o : Option X) (ys : List X) (n : ℕ) → length ys ≤ n → length (cons_option o ys) ≤ suc n
cons_short None ys n le = omega arith
cons_short (Some x) ys n le = omega arith

filter_short : {X Y : Type 0} (f : X → Option Y) (xs : List X) → length (filter_map f xs) ≤ length xs
filter_short f [] = omega arith
filter_short f (x ∷ xs) = cons_short (f x) (filter_map f xs) (length xs) (filter_short f xs)

marked_long : (fails : Bool) (k : ℕ) (m : Marks) (ss : List Step) → length (marked_from fails k m ss) ≡ length ss
marked_long fails k m [] = refl
marked_long fails k m (s ∷ ss) = ap suc (marked_long fails (k + 1) (marks_after_instr m s.instr) ss)

pub started_few : (code : Code) (f : ℕ) (ps qs xs : List ℕ) → xs ≡ started (steps_at code f ps) → ps ≡ qs → length qs < 65536 → length xs < 65536
started_few code f ps qs xs is same few =
    omega (arith, ap length is, ap length same, few, filter_short (λ (s : Step). starts s.instr) (steps_at code f ps), length-map ps (step_at code f))

pub events_few : (code : Code) (f : ℕ) (fails : Bool) (ps qs : List ℕ) (es : List Event)
    → es ≡ events_of code f (marked_steps code f fails (steps_at code f ps)) → ps ≡ qs → length qs < 65536 → length es < 65536
events_few code f fails ps qs es is same few =
    omega (
      arith,
      ap length is,
      ap length same,
      few,
      filter_short (event_of code f) (marked_steps code f fails (steps_at code f ps)),
      marked_long fails 0 (marks_at_start code f) (steps_at code f ps),
      length-map ps (step_at code f),
    )
