-- If no step can be removed from a run, each thread except the failing one ends with a step that
-- another may use.
use Rattle.std.proofs.Common.{◌≡◌, ◌∙◌, ◌⊎◌, inl, inr, ℕ, zero, suc, ◌+◌, ◌<◌, ◌==◌, ℤ, Bool, true, false, not, ◌&&◌, List, [], ◌∷◌, ◌++◌, length, cond}
use Rattle.std.proofs.Common.{Option, Some, None, refl, sym, ap, subst, arith, append_assoc, true≢false}
use Rattle.std.specs.Prelude.{option_map, option_and_then}
use Rattle.std.specs.List.{list_any, last_or}
use Rattle.std.specs.Option.{option_map_or}
use Rattle.std.proofs.lemmas.Bool.{false≢true, true_from_ne_false}
use Rattle.std.proofs.lemmas.Map.Text.{is_eq-slice_cmp}
use Rattle.std.proofs.lemmas.Option.{none-some, same_Some}
use Rattle.tc_record.specs.tc_base.Names.{Name, child}
use Rattle.tc_record.specs.tc_base.declared.moves.Move.{Move}
use Rattle.tc_record.specs.tc_base.declared.request.Request.{Request}
use Rattle.tc_record.specs.tc_base.declared.request.Request.TheVariants.{Silent, Write, Exchange, Release, BeginWait, WakeOne, WakeAll}
use Rattle.tc_record.specs.tc_base.declared.request.Request.TheVariants.{Start, Await, Finish, Fail}
use Rattle.tc_record.specs.tc_code.Code.{Code}
use Rattle.tc_record.specs.tc_code.Run.{Reproduces}
use Rattle.tc_record.specs.store_buffers.Pending.{Binding}
use Rattle.least_runs.proofs.run_laws.Names.{same_self}
use Rattle.least_runs.specs.run_history.History.{Deed, Did, same, history}
use Rattle.least_runs.specs.run_history.Told.{children_in, steps_in, fails, failed_in}
use Rattle.least_runs.proofs.run_history.Last.{last_is}
use Rattle.least_runs.proofs.run_history.Lists.{last_or-push}
use Rattle.least_runs.proofs.run_history.of_pending.In.{in_split, any_in}
use Rattle.least_runs.specs.run_follows.Follow.{AllFollow, OtherIs}
use Rattle.tc_record.specs.path_walk.Fits.{fails_in}
use Rattle.tc_record.specs.path_walk.declared.event.EventKind.{EventKind}
use Rattle.tc_record.specs.path_walk.declared.event.EventKind.TheVariants as kind
use Rattle.tc_record.specs.path_laws.Setting.{Setting}
use Rattle.tc_record.specs.path_laws.Deeds.{kind_of}
use Rattle.tc_record.specs.path_laws.Prefixes.{fails_by}
use Rattle.tc_record.proofs.path_laws.Prefixes.{fails_as}
use Rattle.tc_record.proofs.path_laws.of_events.Lists.{contains_in}
use Rattle.tc_record.proofs.path_laws.of_events.Steps.{steps_both, steps_first, deed_of}
use Rattle.least_runs.specs.Least.{IsLeast}
use Rattle.least_runs.specs.Unused.{is_await_of, is_unused}
use Rattle.normal_logs.specs.Ends.{EndsWith, IsJoined, EndsUsed}
use Rattle.normal_logs.proofs.Deeds.{joins_thread}
use Rattle.normal_logs.proofs.Reproduced.{run, follow, step_named, acts, done, ends_with, join_there}
use Rattle.tc_record.specs.path_laws.history.Along.{PathThread}
use Rattle.tc_record.proofs.path_laws.of_history.Logged.{history_again}

-- nothing comes after a failure
fails_last : (buffered : Bool) (bound : Binding) (code : Code) (h older newer : List Deed) (n : Name) (k : ℕ) (v : ℤ) (o : Option Name)
    → AllFollow buffered bound code h → h ≡ older ++ Did n k Fail v o ∷ newer → failed_in h ≡ Some n
fails_last buffered bound code h older newer n k v o all at = by newer at
  where
    deed : Deed
    deed = Did n k Fail v o

    here : failed_in (older ++ Did n k Fail v o ∷ []) ≡ Some n
    here =
        last_is fails (older ++ deed ∷ []) n
        (record { older = older; deed = deed; newer = []; there = refl; gives = refl; last = refl })

    by : (newer : List Deed) → h ≡ older ++ Did n k Fail v o ∷ newer → failed_in h ≡ Some n
    by [] at = ap failed_in at ∙ here
    by (d ∷ rest) at =
        let going = (all (older ++ deed ∷ []) rest d (at ∙ sym (append_assoc older (deed ∷ []) (d ∷ rest)))).0 in
        absurd (none-some n (sym going ∙ here))

positive : (n : ℕ) → (n == 0) ≡ false → 0 < n
positive zero e = absurd (true≢false e)
positive (suc n) e = omega arith

module _ {B : Type 0} (setting : Setting B) (moves : List Move) (again : Reproduces setting.ops setting.code setting.log moves) (f : Name)
    (failed : failed_in (history setting.ops setting.code moves) ≡ Some f) (least : IsLeast f (history setting.ops setting.code moves)) where
  open setting use {ops, bound, code, log}

  abbrev h : List Deed
  h = history ops code moves

  -- a thread that doesn't fail in the log isn't the one that failed
  apart : (n : Name) → fails_in log n ≡ false → same n f ≡ false
  apart n other =
      let state_failed : again.state.failed ≡ Some f = (run setting moves again).told.tells.failure ∙ failed in
      is_eq-slice_cmp n f ∙ sym (ap (λ o. fails_by o n) state_failed) ∙ sym (fails_as ops code log moves again n) ∙ other

  module _ (thread : PathThread code log) (other_thread : fails_in log thread.name ≡ false) where
    open thread use {walk as w}

    module _ (older newer : List Deed) (k : ℕ) (took : ℤ) (other : Option Name) (last : k + 1 ≡ length w.places) where
      ends : (r : Request) (asked : EventKind) → h ≡ older ++ Did w.name k r took other ∷ newer → kind_of r other ≡ Some asked → EndsWith w asked
      ends r asked at asks = ends_with setting moves again thread older newer k r took other asked at last asks

      -- an exit for which some thread waits
      joined : h ≡ older ++ Did w.name k Finish took other ∷ newer → list_any (is_await_of w.name) newer ≡ true → IsJoined code log w.name
      joined at any =
          let deed = Did w.name k Finish took other in
          let p = any_in (is_await_of w.name) newer any in
          let a = joins_thread w.name p.one p.passes in
          let s = in_split p.one newer p.there in
          let front = older ++ deed ∷ s.older in
          let whole : h ≡ front ++ Did a.thread a.number (Await a.join) a.took a.other ∷ s.newer =
          at ∙ ap (λ g. older ++ deed ∷ g) (s.there ∙ ap (λ d. s.older ++ d ∷ s.newer) a.is)
          ∙ sym (append_assoc older (deed ∷ s.older) (Did a.thread a.number (Await a.join) a.took a.other ∷ s.newer)) in
          let t =
          step_named setting moves again front s.newer a.thread a.number (Await a.join) a.took a.other whole in
          let l =
          join_there setting moves again t.thread front s.newer a.number a.join a.took a.other
          (whole ∙ ap (λ q. front ++ Did q a.number (Await a.join) a.took a.other ∷ s.newer) (sym t.name_is)) in
          record {
            place = t.index;
            walk = t.walk;
            there = t.there;
            join = l.0;
            joins = contains_in l.0 t.walk.joins l.1;
            name = a.name ∙ ap (λ q. child q a.join) (sym t.name_is) ∙ ap (child t.walk.name) (sym l.2);
          }

      -- a create whose child does a step
      created : (g : ℕ) → h ≡ older ++ Did w.name k (Start g) took other ∷ newer → other ≡ Some (child w.name (children_in older w.name + 1))
          → is_unused (Start g) w.name other newer ≡ false → EndsUsed code log w
      created g at made used =
          let deed = Did w.name k (Start g) took other in
          let number = children_in older w.name + 1 in
          let some : 0 < steps_in newer (child w.name number) =
          positive (steps_in newer (child w.name number)) (sym (ap (λ o. option_map_or (λ u. steps_in newer u == 0) o true) made) ∙ used) in
          let asks : kind_of (Start g) other ≡ Some (kind.Create number) =
          ap (λ o. option_map kind.Create (option_and_then (last_or None) o)) made ∙ ap (option_map kind.Create) (last_or-push None w.name number) in
          record {
            asked = kind.Create number;
            ends = ends (Start g) (kind.Create number) at asks;
            used = acts setting moves again (older ++ deed ∷ []) newer (child w.name number)
                (at ∙ sym (append_assoc older (deed ∷ []) newer)) some;
          }

      used_by : (r : Request) → h ≡ older ++ Did w.name k r took other ∷ newer → OtherIs older w.name r other → is_unused r w.name other newer ≡ false
          → EndsUsed code log w
      used_by (Write c v) at made used = record { asked = kind.Store; ends = ends (Write c v) kind.Store at refl; used = tt }
      used_by (Exchange c v) at made used = record { asked = kind.Exchange; ends = ends (Exchange c v) kind.Exchange at refl; used = tt }
      used_by (Release m) at made used = record { asked = kind.Unlock m; ends = ends (Release m) (kind.Unlock m) at refl; used = tt }
      used_by (BeginWait c m) at made used = record { asked = kind.Sleep c m; ends = ends (BeginWait c m) (kind.Sleep c m) at refl; used = tt }
      used_by (WakeOne c) at made used = record { asked = kind.Signal c; ends = ends (WakeOne c) (kind.Signal c) at refl; used = tt }
      used_by (WakeAll c) at made used = record { asked = kind.Broadcast c; ends = ends (WakeAll c) (kind.Broadcast c) at refl; used = tt }
      used_by (Start g) at made used = created g at made used
      used_by Finish at made used =
          let any =
          true_from_ne_false (list_any (is_await_of w.name) newer) (λ none. true≢false (sym (ap not none) ∙ used)) in
          record { asked = kind.Exit; ends = ends Finish kind.Exit at refl; used = joined at any }
      used_by Fail at made used =
          let own =
          fails_last ops.buffered bound code h older newer w.name k took other (follow setting moves again) at in
          absurd (false≢true (sym (apart w.name other_thread) ∙ same_self w.name f (same_Some w.name f (sym own ∙ failed))))
      used_by Silent at made used = absurd (true≢false used)
      used_by r at made used = absurd (true≢false used)

    pub used : (places : List ℕ) → w.places ≡ places → (w.places ≡ []) ⊎ EndsUsed code log w
    used [] e = inl e
    used (p ∷ ps) e =
        let every : steps_in h w.name ≡ length w.places = done setting moves again thread in
        let long : length w.places ≡ length ps + 1 = ap length e ∙ omega arith in
        let d = deed_of setting (history_again setting moves again) thread (length ps) (omega (arith, every, long)) in
        let deed = Did w.name (length ps) d.request d.took d.other in
        let count : steps_in h w.name ≡ steps_in d.older w.name + (1 + steps_in d.newer w.name) =
        ap (λ g. steps_in g w.name) d.at ∙ steps_both d.older (deed ∷ d.newer) w.name
        ∙ ap (λ m. steps_in d.older w.name + m)
        (steps_first deed d.newer w.name ∙ ap (λ b. cond b 1 0 + steps_in d.newer w.name) (same_self w.name w.name refl)) in
        let number : length ps ≡ steps_in d.older w.name = d.step.may.number in
        let none : steps_in d.newer w.name ≡ 0 = omega (arith, every, long, count, number) in
        let needed : is_unused d.request w.name d.other d.newer ≡ false =
        subst (λ c. (c == 0 && is_unused d.request w.name d.other d.newer) ≡ false) none
        (least d.older d.newer deed d.at (apart w.name other_thread)) in
        inr (used_by d.older d.newer (length ps) d.took d.other (sym long) d.request d.at d.step.may.other_is needed)
