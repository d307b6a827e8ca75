-- Each thread of a normal log takes a path that it may take.
use Rattle.std.proofs.Common.{◌≡◌, ◌∙◌, inl, inr, ℕ, ◌==◌, ◌&&◌, ◌||◌, Bool, true, false, not, List, [], length, refl, sym, ap, ap₂, subst, arith}
use Rattle.std.specs.List.{list_any}
use Rattle.std.proofs.Math.Bool.{and-false, or-true}
use Rattle.std.proofs.lemmas.Bool.{false≢true, eq-eqb, false_from_ne_true}
use Rattle.std.proofs.lemmas.Option.{same_Some}
use Rattle.log_walk.specs.run_log.Logs.{Log}
use Rattle.log_walk.specs.tc_base.Names.{Name}
use Rattle.log_walk.specs.tc_code.Code.{Code}
use Rattle.log_walk.specs.path_walk.Events.{is_impossible, events_of, joins_of}
use Rattle.log_walk.specs.path_walk.declared.event.Event.{Event}
use Rattle.log_walk.specs.path_walk.Fits.{fails_in, places_in, function_of}
use Rattle.log_walk.specs.path_walk.Marks.{marked_steps}
use Rattle.log_walk.specs.path_walk.Paths.{Walk}
use Rattle.log_walk.specs.path_walk.Steps.{steps_at, is_site, ends_at_site}
use Rattle.normal_logs.specs.path_laws.history.Along.{IsThread, path_thread}
use Rattle.normal_logs.proofs.path_laws.of_history.Walks.{IsWalk, walk_is}
use Rattle.log_walk.specs.thread_paths.Ends.{MayTake, has_end, is_exit, is_used}
use Rattle.log_walk.specs.thread_paths.declared.aim.End.{End}
use Rattle.log_walk.specs.thread_paths.declared.aim.End.TheVariants as end
use Rattle.log_walk.specs.Rest.{may_fail, aim_of, ends_log}
use Rattle.log_walk.specs.declared.bounds.Kind.TheVariants.{Failure}
use Rattle.normal_logs.specs.Ends.{IsJoined, Acts, EndsUsed}
use Rattle.normal_logs.specs.Normal.{IsNormal}
use Rattle.walked_logs.proofs.Ends.{says, says_so, site_fails, ends_exit, exit_site, used_kind, ends_used, used_site, last_place, joins_are}

-- two walks of one name have the same places
pub same_places : (code : Code) (log : Log) (v w : Walk) → IsWalk code log v → IsWalk code log w → v.name ≡ w.name
    → (v.function ≡ w.function) × (v.places ≡ w.places)
same_places code log v w i j name =
    let function : v.function ≡ w.function =
    same_Some v.function w.function (sym i.function ∙ ap (function_of code log) name ∙ j.function) in
    (function, sym i.told ∙ ap₂ (places_in code log) name function ∙ j.told)

abbrev told_events : Code → Log → Name → ℕ → List ℕ → List Event
told_events code log n f ps = events_of code f (marked_steps code f (fails_in log n) (steps_at code f ps))

-- and the same joins
pub same_joins : (code : Code) (log : Log) (v w : Walk) → IsWalk code log v → IsWalk code log w → v.name ≡ w.name → v.joins ≡ w.joins
same_joins code log v w i j name =
    let same = same_places code log v w i j name in
    joins_are code log v i ∙ ap joins_of i.events
    ∙ ap (λ n. joins_of (told_events code log n v.function v.places)) name
    ∙ ap₂ (λ f ps. joins_of (told_events code log w.name f ps)) same.0 same.1
    ∙ sym (joins_are code log w j ∙ ap joins_of j.events)

module _ (code : Code) (log : Log) where
  -- what is asked of the end of a thread in the log of a failure
  pub data Asked (n : Name) (e : End) : Type 0 where
    Joined : e ≡ end.Exit → IsJoined code log n → Asked n e
    Free : (IsJoined code log n → ⊥) → e ≡ end.Open → Asked n e
    Acting : (IsJoined code log n → ⊥) → e ≡ end.Used → Acts code log n → Asked n e

  module _ (normal : IsNormal code log) (j : ℕ) (w : Walk) (there : IsThread code log j w) (e : End) (ends : Bool) (asked : Asked w.name e)
      (once : ends ≡ true → fails_in log w.name ≡ false) where
    abbrev k : IsWalk code log w
    k = walk_is code log normal.paths.is_log normal.paths.fits (path_thread j w there)

    abbrev b : Bool
    b = fails_in log w.name

    abbrev site : Bool
    site = ends_at_site code w.function w.places

    abbrev fails : Bool
    fails = may_fail Failure ends e && site

    -- how the path ends
    record EndsWell : Type 0 where
      same : fails ≡ b
      ends_well : (fails || has_end code w.function e k.path w.places) ≡ true

    well_by_failure : fails ≡ true → b ≡ true → EndsWell
    well_by_failure f e' = record {
      same = f ∙ sym e';
      ends_well = ap (λ c. c || has_end code w.function e k.path w.places) f;
    }

    well_by_end : fails ≡ false → b ≡ false → has_end code w.function e k.path w.places ≡ true → EndsWell
    well_by_end f e' h = record {
      same = f ∙ sym e';
      ends_well = ap (λ c. fails || c) h ∙ or-true fails;
    }

    open_may : ends ≡ false → may_fail Failure ends end.Open ≡ true
    open_may none = ap not none

    used_may : ends ≡ false → may_fail Failure ends end.Used ≡ true
    used_may none = ap not none

    -- none has failed before the one that fails
    first : b ≡ true → ends ≡ false
    first e' = false_from_ne_true ends (λ yes. false≢true (sym (once yes) ∙ e'))

    no_site : site ≡ false → fails ≡ false
    no_site s = ap (λ c. may_fail Failure ends e && c) s ∙ and-false (may_fail Failure ends e)

    failing : b ≡ true → Asked w.name e → EndsWell
    failing e' (Joined is joined) =
        absurd (false≢true (sym (exit_site code log w k (normal.paths.joined j w there joined)) ∙ site_fails code log w k e'))
    failing e' (Free free is) =
        well_by_failure
        (ap₂ (λ x y. x && y) (ap (may_fail Failure ends) is ∙ open_may (first e')) (site_fails code log w k e')) e'
    failing e' (Acting free is acts) =
        well_by_failure
        (ap₂ (λ x y. x && y) (ap (may_fail Failure ends) is ∙ used_may (first e')) (site_fails code log w k e')) e'

    -- a path without steps ends where nothing is asked of it
    empty_open : w.places ≡ [] → has_end code w.function end.Open k.path w.places ≡ true
    empty_open none =
        ap (λ c. c || has_end code w.function end.Used k.path w.places)
        (eq-eqb k.path.steps 0 (sym k.long ∙ ap length none))

    used_end : EndsUsed code log w → (IsJoined code log w.name → ⊥)
        → (site ≡ false) × (has_end code w.function end.Used k.path w.places ≡ true)
    used_end u free =
        elim (used_kind code log w.name u.asked u.used) [
          | inl used ↦ (
            used_site code log w k u.asked used u.ends,
            last_place code w.function is_used w.places ∙ ends_used code log w k u.asked used u.ends,
          )
          | inr joined ↦ absurd (free joined)
        ]

    resting : b ≡ false → Asked w.name e → EndsWell
    resting e' (Joined is joined) =
        let ends_so = normal.paths.joined j w there joined in
        well_by_end (no_site (exit_site code log w k ends_so)) e'
        (ap (λ x. has_end code w.function x k.path w.places) is
        ∙ last_place code w.function is_exit w.places ∙ ends_exit code log w k ends_so)
    resting e' (Free free is) =
        elim (normal.used j w there e') [
          | inl none ↦
              well_by_end (no_site (ap (ends_at_site code w.function) none)) e'
              (ap (λ x. has_end code w.function x k.path w.places) is ∙ empty_open none)
          | inr u ↦
              let both = used_end u free in
              well_by_end (no_site both.0) e'
              (ap (λ x. has_end code w.function x k.path w.places) is
              ∙ ap (λ c. k.path.steps == 0 || c) both.1 ∙ or-true (k.path.steps == 0))
        ]
    resting e' (Acting free is acts) =
        elim (normal.used j w there e') [
          | inl none ↦
              let own = walk_is code log normal.paths.is_log normal.paths.fits (path_thread acts.place acts.walk acts.there) in
              let same = same_places code log acts.walk w own k acts.name in
              absurd (omega (arith, acts.steps, ap length (same.1 ∙ none)))
          | inr u ↦
              let both = used_end u free in
              well_by_end (no_site both.0) e' (ap (λ x. has_end code w.function x k.path w.places) is ∙ both.1)
        ]

    well : EndsWell
    well = by b refl
      where
        by : (c : Bool) → b ≡ c → EndsWell
        by true e' = failing e' asked
        by false e' = resting e' asked

    pub may_take : MayTake code w.function (aim_of Failure ends e) k.path
    may_take = record {
      places = w.places;
      along = k.places;
      possible = subst (λ c. list_any is_impossible (marked_steps code w.function c (steps_at code w.function w.places)) ≡ false)
          (sym well.same) (k.alive normal.paths.possible);
      ends = well.ends_well;
    }

    pub ends_so : ends_log code Failure (may_fail Failure ends e) w.function (says code log w k) ≡ fails_in log w.name
    ends_so =
        ap (λ c. may_fail Failure ends e && c)
        ((says_so code log w k).at_site ∙ sym (last_place code w.function is_site w.places)) ∙ well.same
