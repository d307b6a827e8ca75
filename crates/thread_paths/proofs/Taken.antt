-- The search by steps and the search by places find the same paths that a thread may take.
use Rattle.std.proofs.Common.{◌≡◌, ◌∙◌, ℕ, zero, suc, ◌+◌, ◌-◌, ◌==◌, Bool, true, false, not, ◌&&◌, ◌||◌, List, [], ◌∷◌, length}
use Rattle.std.proofs.Common.{Option, Some, None, Result, Ok, Err, refl, ap, sym, arith, unwrap_or}
use Rattle.std.specs.Prelude.{slice_get, if◌then◌else◌}
use Rattle.std.specs.List.{list_any}
use Rattle.std.specs.Option.{option_map_or}
use Rattle.std.proofs.lemmas.Bool.{and_parts, ne_eqb, not-true}
use Rattle.thread_marks.specs.list_laws.Lists.{is_nil}
use Rattle.tc_code.specs.tc_base.Paths.{Path}
use Rattle.tc_code.specs.Code.{Code, instr_at}
use Rattle.tc_code.specs.declared.instr.Instr.{Instr}
use Rattle.tc_code.specs.declared.instr.Instr.TheVariants as instr
use Rattle.thread_marks.specs.path_walk.Events.{excludes, is_impossible}
use Rattle.thread_marks.specs.path_walk.Marks.{Marks, marks_at_start, marks_after_instr, marked_from, marked_steps}
use Rattle.thread_marks.specs.path_walk.Steps.{Onward, onward, with_place, places_from, end_from, step_at, steps_at, is_site}
use Rattle.thread_marks.specs.path_walk.declared.fault.Misfit.{Misfit}
use Rattle.thread_marks.proofs.path_walk.Places.{past_exit, short, step_more, end_more, count}
use Rattle.thread_paths.specs.Ends.{is_exit, is_used, last_is, has_end, fails_at_end, MayTake}
use Rattle.thread_paths.specs.declared.aim.Aim.{Aim}
use Rattle.thread_paths.specs.declared.aim.End.{End}
use Rattle.thread_paths.specs.declared.aim.End.TheVariants.{Exit, Used, Open, Rest}
use Rattle.thread_paths.specs.declared.aim.Scope.{Scope}
use Rattle.thread_paths.specs.helpers.Descents.{ends_with, is_last, goes, stays, takes}
use Rattle.thread_paths.proofs.Nodes.{goes_nowhere, goes_short, goes_last, goes_more}

-- the last of one place and the places after it
abbrev last_of : ℕ → List ℕ → ℕ
last_of k [] = k
last_of k (p ∷ ps) = last_of p ps

pub get_last : (k : ℕ) (ps : List ℕ) → slice_get (k ∷ ps) (length (k ∷ ps) - 1) ≡ Some (last_of k ps)
get_last k [] = refl
get_last k (p ∷ ps) =
    let far : length (k ∷ p ∷ ps) - 1 ≡ suc (length (p ∷ ps) - 1) = omega arith in
    ap (slice_get (k ∷ p ∷ ps)) far ∙ get_last p ps

-- Truth values.

not_one : (fails mf site : Bool) (one two ends : Bool) → fails ≡ (mf && site)
    → (if mf && site then not one else (not two && ends))
    ≡ (not ((if fails then one else two) || false) && (fails || ends))
not_one fails true true true two ends e = rw e refl
not_one fails true true false two ends e = rw e refl
not_one fails true false one true ends e = rw e refl
not_one fails true false one false ends e = rw e refl
not_one fails false site one true ends e = rw e refl
not_one fails false site one false ends e = rw e refl

not_more : (now later ends : Bool) → (not now && (not later && ends)) ≡ (not (now || later) && ends)
not_more true later ends = refl
not_more false later ends = refl

pub and_none : (b : Bool) → (b && false) ≡ false
and_none true = refl
and_none false = refl

module _ (code : Code) (f : ℕ) (aim : Aim) where
  abbrev last_instr : ℕ → List ℕ → Instr
  last_instr k ps = (step_at code f (last_of k ps)).instr

  abbrev fails_by : ℕ → List ℕ → Bool
  fails_by k ps = aim.may_fail && is_site (last_instr k ps)

  -- whether a thread may take a path with these places, of which k is the first, to its proper end
  abbrev judged : Marks → ℕ → ℕ → Result (List ℕ) Misfit → Bool
  judged t number to (Ok []) = false
  judged t number to (Ok (k ∷ ps)) =
      not (list_any is_impossible (marked_from (fails_by k ps) number t (steps_at code f (k ∷ ps))))
      && (fails_by k ps || ends_with code f aim.end (last_instr k ps) to)
  judged t number to (Err e) = false

  abbrev Told : ℕ → Marks → ℕ → List Bool → ℕ → Type 0
  Told n t k o number = goes code f aim n t k o ≡ judged t number (end_from code f (suc n) k o) (places_from code f (suc n) k o)

  module _ (t : Marks) (k : ℕ) (o : List Bool) (number : ℕ) (i : Instr) (at : instr_at code f k ≡ Some i) where
    instr_is : (step_at code f k).instr ≡ i
    instr_is = ap (λ x. unwrap_or x instr.Exit) at

    -- the last step
    one_place : (last : List Bool) (place : ℕ) → (is_nil last && is_last code f aim t i place)
        ≡ judged t number (end_from code f 0 place last) (with_place k (places_from code f 0 place last))
    one_place [] place =
        not_one (fails_by k []) aim.may_fail (is_site i) (excludes t i true) (excludes t i false) (ends_with code f aim.end i place)
        (ap (λ x. aim.may_fail && is_site x) instr_is)
        ∙ one_by (fails_by k [])
      where
        one_by : (v : Bool) → (not ((if v then excludes t i true else excludes t i false) || false) && (v || ends_with code f aim.end i place))
            ≡ (not (excludes t (step_at code f k).instr (v && true) || false) && (v || ends_with code f aim.end (step_at code f k).instr place))
        one_by true = ap (λ x. not (excludes t x true || false) && true) (sym instr_is)
        one_by false = ap (λ x. not (excludes t x false || false) && ends_with code f aim.end x place) (sym instr_is)
    one_place (b ∷ last) place = refl

    -- one more step
    more_places : (n : ℕ) (on : Onward) (r : Result (List ℕ) Misfit) (to : ℕ) → places_from code f (suc n) on.place on.outcomes ≡ r
        → (not (excludes t i false) && judged (marks_after_instr t i) (number + 1) to r) ≡ judged t number to (with_place k r)
    more_places n on (Err e) to is = and_none (not (excludes t i false))
    more_places n on (Ok []) to is = absurd (omega (arith, count code f (suc n) on.place on.outcomes [] is))
    more_places n on (Ok (p ∷ ps)) to is =
        not_more (excludes t i false) (list_any is_impossible (marked_from (fails_by p ps) (number + 1) (marks_after_instr t i) (steps_at code f (p ∷ ps))))
        (fails_by p ps || ends_with code f aim.end (last_instr p ps) to)
        ∙ ap (λ x. not (excludes t x false || list_any is_impossible (marked_from (fails_by p ps) (number + 1) (marks_after_instr t x) (steps_at code f (p ∷ ps))))
        && (fails_by p ps || ends_with code f aim.end (last_instr p ps) to)) (sym instr_is)
        ∙ ap (λ v. not (excludes t (step_at code f k).instr v
        || list_any is_impossible (marked_from (fails_by p ps) (number + 1) (marks_after_instr t (step_at code f k).instr) (steps_at code f (p ∷ ps))))
        && (fails_by p ps || ends_with code f aim.end (last_instr p ps) to)) (sym not_the_last)
      where
        not_the_last : (fails_by p ps && (length (steps_at code f (p ∷ ps)) == 0)) ≡ false
        not_the_last =
            ap (λ v. fails_by p ps && v) (ne_eqb (length (steps_at code f (p ∷ ps))) 0 (λ e. absurd (omega (arith, e)))) ∙ and_none (fails_by p ps)

  module _ (t : Marks) (k : ℕ) (o : List Bool) (number : ℕ) where
    -- without an instruction
    told_past : (n : ℕ) → instr_at code f k ≡ None → Told n t k o number
    told_past n at =
        goes_nowhere code f aim n t k o at ∙ sym (ap (judged t number (end_from code f (suc n) k o)) (past_exit code f (suc n) k o (omega arith) at))

    told_short : (n : ℕ) (i : Instr) → instr_at code f k ≡ Some i → onward k i o ≡ None → Told n t k o number
    told_short n i at leads =
        goes_short code f aim t k o i at n leads
        ∙ sym (ap (judged t number (end_from code f (suc n) k o)) (short code f (suc n) k o i (omega arith) at leads))

    module _ (i : Instr) (at : instr_at code f k ≡ Some i) (on : Onward) (leads : onward k i o ≡ Some on) where
      places_are : (n : ℕ) → places_from code f (suc n) k o ≡ with_place k (places_from code f n on.place on.outcomes)
      places_are n = step_more code f (suc n) n k o i on (omega arith) at leads

      end_is : (n : ℕ) → end_from code f (suc n) k o ≡ end_from code f n on.place on.outcomes
      end_is n = end_more code f (suc n) n k o i on (omega arith) at leads

      judged_is : (n : ℕ) → judged t number (end_from code f (suc n) k o) (places_from code f (suc n) k o)
          ≡ judged t number (end_from code f n on.place on.outcomes) (with_place k (places_from code f n on.place on.outcomes))
      judged_is n =
          ap (λ x. judged t number x (places_from code f (suc n) k o)) (end_is n)
          ∙ ap (judged t number (end_from code f n on.place on.outcomes)) (places_are n)

      told_last : Told 0 t k o number
      told_last = goes_last code f aim t k o i at on leads ∙ one_place t k o number i at on.outcomes on.place ∙ sym (judged_is 0)

      told_more : (n : ℕ) → Told n (marks_after_instr t i) on.place on.outcomes (number + 1) → Told (suc n) t k o number
      told_more n later =
          goes_more code f aim t k o i at on leads n
          ∙ ap (λ v. not (excludes t i false) && v) later
          ∙ more_places t k o number i at n on (places_from code f (suc n) on.place on.outcomes) (end_from code f (suc n) on.place on.outcomes) refl
          ∙ sym (judged_is (suc n))

    first_by : (i : Instr) → instr_at code f k ≡ Some i → (x : Option Onward) → onward k i o ≡ x → Told 0 t k o number
    first_by i at None leads = told_short 0 i at leads
    first_by i at (Some on) leads = told_last i at on leads

    first_of : (x : Option Instr) → instr_at code f k ≡ x → Told 0 t k o number
    first_of None at = told_past 0 at
    first_of (Some i) at = first_by i at (onward k i o) refl

    module _ (n : ℕ) (rest : (u : Marks) (j : ℕ) (later : List Bool) (m : ℕ) → Told n u j later m) where
      next_by : (i : Instr) → instr_at code f k ≡ Some i → (x : Option Onward) → onward k i o ≡ x → Told (suc n) t k o number
      next_by i at None leads = told_short (suc n) i at leads
      next_by i at (Some on) leads = told_more i at on leads n (rest (marks_after_instr t i) on.place on.outcomes (number + 1))

      next_of : (x : Option Instr) → instr_at code f k ≡ x → Told (suc n) t k o number
      next_of None at = told_past (suc n) at
      next_of (Some i) at = next_by i at (onward k i o) refl

  -- the search by steps finds a path if and only if the search by places does
  pub told : (n : ℕ) (t : Marks) (k : ℕ) (o : List Bool) (number : ℕ) → Told n t k o number
  told zero t k o number = first_of t k o number (instr_at code f k) refl
  told (suc n) t k o number = next_of t k o number n (told n) (instr_at code f k) refl

  -- The end of a path, by its places.

  fails_is : (k : ℕ) (ps : List ℕ) → fails_at_end code f aim (k ∷ ps) ≡ fails_by k ps
  fails_is k ps = ap (λ x. aim.may_fail && option_map_or (λ j. is_site (step_at code f j).instr) x false) (get_last k ps)

  last_kind : (kind : Instr → Bool) (k : ℕ) (ps : List ℕ) → last_is code f kind (k ∷ ps) ≡ kind (last_instr k ps)
  last_kind kind k ps = ap (λ x. option_map_or (λ j. kind (step_at code f j).instr) x false) (get_last k ps)

  end_by : (end : End) (n : ℕ) (o : List Bool) (k : ℕ) (ps : List ℕ)
      → has_end code f end (record { outcomes = o; steps = suc n }) (k ∷ ps) ≡ ends_with code f end (last_instr k ps) (end_from code f (suc n) 0 o)
  end_by Exit n o k ps = last_kind is_exit k ps
  end_by Used n o k ps = last_kind is_used k ps
  end_by Open n o k ps =
      ap (λ v. v || last_is code f is_used (k ∷ ps)) (ne_eqb (suc n) 0 (λ e. absurd (omega (arith, e)))) ∙ last_kind is_used k ps
  end_by Rest n o k ps = refl

module _ (code : Code) (scope : Scope) where
  abbrev f : ℕ
  f = scope.function

  abbrev aim : Aim
  aim = scope.aim

  abbrev path : List Bool → ℕ → Path
  path o s = record { outcomes = o; steps = s }

  module _ (n : ℕ) (o : List Bool) where
    abbrev there : Result (List ℕ) Misfit → Type 0
    there r = places_from code f (suc n) 0 o ≡ r

    judged_by : (r : Result (List ℕ) Misfit) → there r → takes code scope o (suc n) ≡ judged code f aim (marks_at_start code f) 0 (end_from code f (suc n) 0 o) r
    judged_by r is = told code f aim n (marks_at_start code f) 0 o 0 ∙ ap (judged code f aim (marks_at_start code f) 0 (end_from code f (suc n) 0 o)) is

    to_places : (r : Result (List ℕ) Misfit) → there r → takes code scope o (suc n) ≡ true → MayTake code f aim (path o (suc n))
    to_places (Err e) is may = absurd (let never = judged_by (Err e) is in cc)
    to_places (Ok []) is may = absurd (let never = judged_by (Ok []) is in cc)
    to_places (Ok (k ∷ ps)) is may =
        let parts = and_parts
        (not (list_any is_impossible (marked_from (fails_by code f aim k ps) 0 (marks_at_start code f) (steps_at code f (k ∷ ps)))))
        (fails_by code f aim k ps || ends_with code f aim.end (last_instr code f aim k ps) (end_from code f (suc n) 0 o))
        (sym (judged_by (Ok (k ∷ ps)) is) ∙ may) in
        record {
          places = k ∷ ps;
          along = is;
          possible = ap (λ v. list_any is_impossible (marked_steps code f v (steps_at code f (k ∷ ps)))) (fails_is code f aim k ps)
              ∙ not-true (list_any is_impossible (marked_from (fails_by code f aim k ps) 0 (marks_at_start code f) (steps_at code f (k ∷ ps)))) parts.0;
          ends = ap (λ v. v || has_end code f aim.end (path o (suc n)) (k ∷ ps)) (fails_is code f aim k ps)
              ∙ ap (λ v. fails_by code f aim k ps || v) (end_by code f aim aim.end n o k ps) ∙ parts.1;
        }

    from_places : (m : MayTake code f aim (path o (suc n))) (ps : List ℕ) → m.places ≡ ps → takes code scope o (suc n) ≡ true
    from_places m [] is = absurd (omega (arith, count code f (suc n) 0 o m.places m.along, ap length is))
    from_places m (k ∷ ps) is =
        let along : there (Ok (k ∷ ps)) = m.along ∙ ap (λ xs. let ok : Result (List ℕ) Misfit = Ok xs in ok) is in
        let possible : list_any is_impossible (marked_steps code f (fails_by code f aim k ps) (steps_at code f (k ∷ ps))) ≡ false =
        ap (λ v. list_any is_impossible (marked_steps code f v (steps_at code f (k ∷ ps)))) (sym (fails_is code f aim k ps))
        ∙ ap (λ xs. list_any is_impossible (marked_steps code f (fails_at_end code f aim xs) (steps_at code f xs))) (sym is) ∙ m.possible in
        let ends : (fails_by code f aim k ps || ends_with code f aim.end (last_instr code f aim k ps) (end_from code f (suc n) 0 o)) ≡ true =
        ap (λ v. fails_by code f aim k ps || v) (sym (end_by code f aim aim.end n o k ps))
        ∙ ap (λ v. v || has_end code f aim.end (path o (suc n)) (k ∷ ps)) (sym (fails_is code f aim k ps))
        ∙ ap (λ xs. fails_at_end code f aim xs || has_end code f aim.end (path o (suc n)) xs) (sym is) ∙ m.ends in
        judged_by (Ok (k ∷ ps)) along ∙ ap (λ v. not v && (fails_by code f aim k ps
        || ends_with code f aim.end (last_instr code f aim k ps) (end_from code f (suc n) 0 o))) possible ∙ ends

  -- a path without steps
  stays_is : (end : End) → stays code f end ≡ has_end code f end (path [] 0) []
  stays_is Exit = refl
  stays_is Used = refl
  stays_is Open = refl
  stays_is Rest = refl

  no_failure : fails_at_end code f aim [] ≡ false
  no_failure = and_none aim.may_fail

  none_taken : (o : List Bool) → takes code scope o 0 ≡ true → MayTake code f aim (path o 0)
  none_taken [] may = record {
    places = [];
    along = refl;
    possible = refl;
    ends = ap (λ v. v || has_end code f aim.end (path [] 0) []) no_failure ∙ sym (stays_is aim.end) ∙ may;
  }
  none_taken (b ∷ o) may = absurd (cc)

  none_from : (o : List Bool) (m : MayTake code f aim (path o 0)) (ps : List ℕ) → m.places ≡ ps → takes code scope o 0 ≡ true
  none_from [] m [] is =
      stays_is aim.end ∙ sym (ap (λ v. v || has_end code f aim.end (path [] 0) []) no_failure)
      ∙ ap (λ xs. fails_at_end code f aim xs || has_end code f aim.end (path [] 0) xs) (sym is) ∙ m.ends
  none_from [] m (k ∷ ps) is = absurd (omega (arith, count code f 0 0 [] m.places m.along, ap length is))
  none_from (b ∷ o) m ps is = absurd (let along = m.along in cc)

  pub may_take : (o : List Bool) (s : ℕ) → takes code scope o s ≡ true → MayTake code f aim (path o s)
  may_take o zero may = none_taken o may
  may_take o (suc n) may = to_places n o (places_from code f (suc n) 0 o) refl may

  pub is_taken : (o : List Bool) (s : ℕ) → MayTake code f aim (path o s) → takes code scope o s ≡ true
  is_taken o zero m = none_from o m m.places refl
  is_taken o (suc n) m = from_places n o m m.places refl
