-- What stays the same without a step that nothing needs.
use Rattle.std.proofs.Common.{◌≡◌, ◌≢◌, ◌∙◌, ◌⊎◌, inl, inr, ℕ, ◌==◌, ℤ, Bool, true, false, not, ◌&&◌, cond, List, ◌∷◌, ◌++◌}
use Rattle.std.proofs.Common.{Option, Some, None, refl, sym, ap, map, pos, slice_index_or}
use Rattle.std.specs.Prelude.{unwrap_or, filter}
use Rattle.std.specs.List.{filter_map, cons_option, last_or}
use Rattle.std.proofs.Math.Bool.{and-false}
use Rattle.std.proofs.lemmas.Bool.{false≢true}
use Rattle.std.proofs.lemmas.List.Elements.{filter_map-append, filter_agree}
use Rattle.run_follows.specs.tc_base.Names.{Name}
use Rattle.run_follows.specs.store_buffers.Buffers.{newest}
use Rattle.run_follows.specs.tc_base.declared.request.Request.{Request}
use Rattle.run_follows.specs.tc_base.declared.request.Request.TheVariants.{Silent, Write, Exchange, Bar, Acquire, Release, BeginWait, EndWait}
use Rattle.run_follows.specs.tc_base.declared.request.Request.TheVariants.{WakeOne, WakeAll, Start, Finish, Fail}
use Rattle.run_follows.specs.tc_code.Code.{Code}
use Rattle.run_follows.specs.tc_code.Step.{NameSet}
use Rattle.run_follows.proofs.run_laws.Names.{same_other}
use Rattle.run_follows.specs.run_history.History.{Deed, Did, same, issue_of, drains, has_drained, pending}
use Rattle.run_follows.specs.run_history.Told.{reaches, value_in, owner_by, owner_in, waiting_after, waiting_in, is_step_of, steps_in, is_start_of, children_in}
use Rattle.run_follows.specs.run_history.Told.{is_exit_of, has_exited_in, fails, failed_in}
use Rattle.least_runs.proofs.Used.{IsUnused}
use Rattle.least_runs.proofs.Skips.{skip_map, skip_any, skip_count, skip_fold, last_of_skips}

none_by : {A : Type 0} (b : Bool) (x : A) → b ≡ false → cond b (Some x) None ≡ None
none_by true x e = absurd (false≢true (sym e))
none_by false x e = refl

module _ (n : Name) (k : ℕ) (took : ℤ) (other : Option Name) (later : List Deed) where
  -- the step stores nothing in memory
  reaches_none : (buffered : Bool) (r : Request) → IsUnused n r other later → reaches buffered (Did n k r took other) ≡ None
  reaches_none buffered (Write c v) unused = absurd unused
  reaches_none buffered (Exchange c v) unused = absurd unused
  reaches_none buffered Silent unused = refl
  reaches_none buffered r unused = refl

  -- the step begins no sleep and wakes no thread
  waits_still : (c : ℕ) (r : Request) → IsUnused n r other later → (ns : NameSet) → waiting_after c ns (Did n k r took other) ≡ ns
  waits_still c (BeginWait d m) unused ns = absurd unused
  waits_still c (WakeOne d) unused ns = absurd unused
  waits_still c (WakeAll d) unused ns = absurd unused
  waits_still c Silent unused ns = refl
  waits_still c r unused ns = refl

  fails_not : (r : Request) → IsUnused n r other later → fails (Did n k r took other) ≡ None
  fails_not Fail unused = absurd unused
  fails_not Silent unused = refl
  fails_not r unused = refl

  issues_none : (buffered : Bool) (q : Name) (r : Request) → q ≢ n → issue_of buffered q (Did n k r took other) ≡ None
  issues_none buffered q (Write c v) apart = none_by (buffered && same q n) _ (ap (λ b. buffered && b) (same_other q n apart) ∙ and-false buffered)
  issues_none buffered q Bar apart = none_by (same q n) _ (same_other q n apart)
  issues_none buffered q Silent apart = refl
  issues_none buffered q r apart = refl

  starts_not : (q : Name) (r : Request) → q ≢ n → is_start_of q (Did n k r took other) ≡ false
  starts_not q (Start f) apart = same_other q n apart
  starts_not q Silent apart = refl
  starts_not q r apart = refl

  exits_not : (w : Name) (r : Request) → (r ≡ Finish → w ≢ n) → is_exit_of w (Did n k r took other) ≡ false
  exits_not w Finish apart = same_other w n (apart refl)
  exits_not w Silent apart = refl
  exits_not w r apart = refl

  module _ (older newer : List Deed) (r : Request) where
    -- the deeds with the step and without it
    abbrev whole : List Deed
    whole = older ++ Did n k r took other ∷ newer

    abbrev left : List Deed
    left = older ++ newer

    module _ (unused : IsUnused n r other later) where
      pub value_still : (buffered : Bool) (code : Code) (c : ℕ) → value_in buffered code whole c ≡ value_in buffered code left c
      value_still buffered code c =
          ap (λ es. unwrap_or (newest es c) (slice_index_or code.memory c (pos 0))) (skip_map (reaches buffered) older (Did n k r took other) newer (reaches_none buffered r unused))

      pub waiting_still : (c : ℕ) → waiting_in whole c ≡ waiting_in left c
      waiting_still c = skip_fold (waiting_after c) _ older (Did n k r took other) newer (waits_still c r unused)

      pub failed_still : failed_in whole ≡ failed_in left
      failed_still = ap (last_or None) (skip_map fails older (Did n k r took other) newer (fails_not r unused))

      -- each mutex has the same owner, unless the step's thread owned it
      taken_by : (m l : ℕ) (b : Bool) → (l == m) ≡ b → owner_by m (Did n k r took other) ≡ cond b (Some (Some n)) None
          → (owner_in whole m ≡ owner_in left m) ⊎ (owner_in whole m ≡ Some n)
      taken_by m l false e by = inl (ap (λ os. unwrap_or (last_or None os) None) (skip_map (owner_by m) older (Did n k r took other) newer by))
      taken_by m l true e by = elim (last_of_skips (filter_map (owner_by m) older) n (filter_map (owner_by m) newer)) [
        | inl same_last ↦ inl (whole_is ∙ same_last ∙ sym left_is)
        | inr own ↦ inr (whole_is ∙ own)
      ]
        where
          whole_is : owner_in whole m ≡ unwrap_or (last_or None (filter_map (owner_by m) older ++ Some n ∷ filter_map (owner_by m) newer)) None
          whole_is =
              ap (λ os. unwrap_or (last_or None os) None) (filter_map-append (owner_by m) older (Did n k r took other ∷ newer))
              ∙ ap (λ o. unwrap_or (last_or None (filter_map (owner_by m) older ++ cons_option o (filter_map (owner_by m) newer))) None) by

          left_is : owner_in left m ≡ unwrap_or (last_or None (filter_map (owner_by m) older ++ filter_map (owner_by m) newer)) None
          left_is = ap (λ os. unwrap_or (last_or None os) None) (filter_map-append (owner_by m) older newer)

    -- what another thread does
    module _ (q : Name) (apart : q ≢ n) where
      pub steps_still : steps_in whole q ≡ steps_in left q
      steps_still = skip_count (is_step_of q) older (Did n k r took other) newer (same_other q n apart)

      pub children_still : children_in whole q ≡ children_in left q
      children_still = skip_count (is_start_of q) older (Did n k r took other) newer (starts_not q r apart)

      pub pending_still : (buffered : Bool) → pending buffered whole q ≡ pending buffered left q
      pending_still buffered =
          ap (map (λ i. i.what))
          (filter_agree (λ i. not (has_drained whole q i.number)) (λ i. not (has_drained left q i.number))
          (λ i. ap not (skip_any (drains q i.number) older (Did n k r took other) newer refl)) (filter_map (issue_of buffered q) whole)
          ∙ ap (filter (λ i. not (has_drained left q i.number)))
          (skip_map (issue_of buffered q) older (Did n k r took other) newer (issues_none buffered q r apart)))

    pub exited_still : (w : Name) → (r ≡ Finish → w ≢ n) → has_exited_in whole w ≡ has_exited_in left w
    exited_still w apart = skip_any (is_exit_of w) older (Did n k r took other) newer (exits_not w r apart)

  pub owner_still : (older newer : List Deed) (r : Request) → IsUnused n r other later → (m : ℕ)
      → (owner_in (older ++ Did n k r took other ∷ newer) m ≡ owner_in (older ++ newer) m) ⊎ (owner_in (older ++ Did n k r took other ∷ newer) m ≡ Some n)
  owner_still older newer (Acquire l) unused m = taken_by older newer (Acquire l) unused m l (l == m) refl refl
  owner_still older newer (EndWait c l) unused m = taken_by older newer (EndWait c l) unused m l (l == m) refl refl
  owner_still older newer (Release l) unused m = absurd unused
  owner_still older newer (BeginWait c l) unused m = absurd unused
  owner_still older newer Silent unused m = inl (ap (λ os. unwrap_or (last_or None os) None) (skip_map (owner_by m) older (Did n k Silent took other) newer refl))
  owner_still older newer r unused m = inl (ap (λ os. unwrap_or (last_or None os) None) (skip_map (owner_by m) older (Did n k r took other) newer refl))
