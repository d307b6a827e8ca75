-- Without its last step a thread has gone a first part of its path, and the others have gone
-- theirs.
use Rattle.std.proofs.Common.{◌≡◌, ◌≢◌, ◌∙◌, ◌⊎◌, inl, inr, ℕ, ◌+◌, ◌<◌, ◌≤◌, ℤ, Bool, cond, List, [], ◌∷◌, ◌++◌, append-nil, append_assoc}
use Rattle.std.proofs.Common.{Option, Some, None, refl, sym, ap, subst, arith}
use Rattle.std.specs.Prelude.{option_map, option_and_then}
use Rattle.std.specs.Option.{option_map_or}
use Rattle.std.specs.FinMap as fin
use Rattle.std.proofs.lemmas.List.{same_from_push}
use Rattle.std.proofs.lemmas.List.Sums.{fold-append, sum_by-append}
use Rattle.std.proofs.lemmas.Option.{none-some, same_Some}
use Rattle.run_follows.specs.tc_base.Paths.{Path}
use Rattle.run_follows.specs.tc_base.Names.{Name, ByName, child}
use Rattle.run_follows.specs.tc_base.States.{Local, Thread}
use Rattle.run_follows.specs.tc_base.declared.request.Request.{Request}
use Rattle.run_follows.specs.tc_base.declared.request.Request.TheVariants.{Silent, WakeOne, Start, Fail}
use Rattle.run_follows.specs.tc_code.Code.{Code}
use Rattle.run_follows.specs.tc_code.Step.{request, instr_of, local_after}
use Rattle.run_follows.specs.tc_code.declared.instr.Instr.{Instr}
use Rattle.run_follows.specs.tc_code.declared.instr.Instr.TheVariants.{Branch, Exit}
use Rattle.run_follows.proofs.run_laws.After.{branch_is}
use Rattle.run_follows.proofs.run_laws.Basics.{none_unless}
use Rattle.run_follows.proofs.run_laws.Created.{reached_is_created}
use Rattle.run_follows.proofs.run_laws.Names.{same_or_apart, get_put, get_put_apart, child_apart, child_not_main}
use Rattle.run_follows.specs.run_history.History.{Deed, Did, Drained}
use Rattle.run_follows.specs.run_history.Locals.{after_step, with_child, after_deed, locals_in}
use Rattle.run_follows.specs.run_history.Told.{is_step_of, steps_in, is_start_of, children_in, fails, failed_in}
use Rattle.run_follows.proofs.run_history.Last.{is_last}
use Rattle.run_follows.proofs.run_history.Threads.{children_are, none_done}
use Rattle.run_follows.proofs.run_history.of_pending.In.{In, in_at}
use Rattle.run_follows.specs.Machine.{Machine}
use Rattle.run_follows.specs.Follow.{AllFollow, OtherIs, moves_for}
use Rattle.run_follows.specs.Logged.{path_by, path_told}
use Rattle.least_runs.specs.Least.{Begins, IsPart}
use Rattle.least_runs.proofs.Used.{IsUnused}
use Rattle.least_runs.proofs.Reached.{Reaches, reaches, still}
use Rattle.least_runs.proofs.Follows.{done_in, next_step, left_follows, paths_stay}

-- a step adds at most one outcome
outcomes_after : (t : Local) (i : Instr) (v : ℤ) → (later : List Bool) × ((local_after t i v).outcomes ≡ t.outcomes ++ later)
outcomes_after t (Branch e to) v = (_ ∷ [], ap (λ l. l.outcomes) (branch_is t _ to))
outcomes_after t Exit v = ([], sym (append-nil t.outcomes))
outcomes_after t i v = ([], sym (append-nil t.outcomes))

outcomes_by : (t : Local) (i : Instr) (r : Request) (v : ℤ) → (later : List Bool) × ((after_step t i r v).outcomes ≡ t.outcomes ++ later)
outcomes_by t i Fail v = ([], sym (append-nil t.outcomes))
outcomes_by t i Silent v = outcomes_after t i v
outcomes_by t i r v = outcomes_after t i v

-- a create is a step
starts_step : (n : Name) (d : Deed) → cond (is_start_of n d) 1 0 ≤ cond (is_step_of n d) 1 0
starts_step n (Drained q k c v) = omega arith
starts_step n (Did q k (Start f) v o) = omega arith
starts_step n (Did q k Silent v o) = omega arith
starts_step n (Did q k r v o) = omega arith

starts_within : (n : Name) (h : List Deed) → children_in h n ≤ steps_in h n
starts_within n [] = omega arith
starts_within n (d ∷ h) =
    let rest = starts_within n h in
    let first = starts_step n d in
    let starts = sum_by-append (λ x. cond (is_start_of n x) 1 0) (d ∷ []) h in
    let steps = sum_by-append (λ x. cond (is_step_of n x) 1 0) (d ∷ []) h in
    omega (arith, rest, first, starts, steps)

-- the local state of a thread after a step
pub record Steps (code : Code) (ts : ByName Local) (n : Name) (r : Request) : Type 0 where
  pub before : Local
  pub here : fin.get ts n ≡ Some before
  pub instr : Instr
  pub at : instr_of code before ≡ Some instr

steps_at : (code : Code) (ts : ByName Local) (n : Name) (r : Request) (t : Local) → fin.get ts n ≡ Some t → (o : Option Instr) → instr_of code t ≡ o
    → option_map (request t) o ≡ Some r → Steps code ts n r
steps_at code ts n r t here None at e = absurd (none-some r e)
steps_at code ts n r t here (Some i) at e = record { before = t; here = here; instr = i; at = at }

steps_by : (code : Code) (ts : ByName Local) (n : Name) (r : Request) (o : Option Local) → fin.get ts n ≡ o
    → option_and_then (λ (t : Local). option_map (request t) (instr_of code t)) o ≡ Some r → Steps code ts n r
steps_by code ts n r None here e = absurd (none-some r e)
steps_by code ts n r (Some t) here e = steps_at code ts n r t here (instr_of code t) refl e

child_put : (code : Code) (n : Name) (t x : Local) (i : Instr) (r : Request) (ts : ByName Local) → fin.get ts n ≡ Some x
    → fin.get (with_child code n t i r ts) n ≡ Some x
child_put code n t x i (Start f) ts here = get_put_apart ts (child n (t.children + 1)) _ n (λ e. child_apart n (t.children + 1) (sym e)) ∙ here
child_put code n t x i Silent ts here = here
child_put code n t x i r ts here = here

pub after_own : (code : Code) (ts : ByName Local) (n : Name) (k : ℕ) (r : Request) (v : ℤ) (o : Option Name) (s : Steps code ts n r)
    → fin.get (after_deed code ts (Did n k r v o)) n ≡ Some (after_step s.before s.instr r v)
after_own code ts n k r v o s =
    ap (λ p. fin.get (option_map_or (λ t. option_map_or (λ i. with_child code n t i r (fin.insert ts n (after_step t i r v))) (instr_of code t) ts) p ts) n) s.here
    ∙ ap (λ p. fin.get (option_map_or (λ i. with_child code n s.before i r (fin.insert ts n (after_step s.before i r v))) p ts) n) s.at
    ∙ child_put code n s.before _ s.instr r _ (get_put ts n _)

-- whether the deed created this thread
made_or_not : (other : Option Name) (q : Name) → (other ≡ Some q) ⊎ (other ≢ Some q)
made_or_not None q = inr (λ e. none-some q e)
made_or_not (Some u) q = elim (same_or_apart u q) [
  | inl e ↦ inl (ap Some e)
  | inr apart ↦ inr (λ e. apart (same_Some u q e))
]

-- the thread that failed did a step
failed_step : (d : Deed) (f : Name) (h : List Deed) → In d h → fails d ≡ Some f → 0 < steps_in h f
failed_step (Did n k Fail v o) f h i e = subst (λ m. 0 < steps_in h m) (same_Some n f e) (done_in h n k Fail v o i)
failed_step (Did n k Silent v o) f h i e = absurd (none-some f e)
failed_step (Did n k r v o) f h i e = absurd (none-some f e)
failed_step (Drained n k c v) f h i e = absurd (none-some f e)

pub failed_stepped : (h : List Deed) (f : Name) → failed_in h ≡ Some f → 0 < steps_in h f
failed_stepped h f e =
    let l = is_last fails h f e in
    failed_step l.deed f h (subst (In l.deed) (sym l.there) (in_at l.older l.deed l.newer)) l.gives

module _ {B : Type 0} (machine : Machine B) (older newer : List Deed) (n : Name) (k : ℕ) (r : Request) (took : ℤ) (other : Option Name)
    (all : AllFollow machine.ops.buffered machine.bound machine.code (older ++ Did n k r took other ∷ newer)) (last : steps_in newer n ≡ 0)
    (unused : IsUnused n r other newer) where
  open machine use {ops, bound, code}

  left_all : AllFollow ops.buffered bound code (older ++ newer)
  left_all = left_follows machine older newer n k r took other all last unused

  own : Steps code (locals_in code older) n r
  own = steps_by code (locals_in code older) n r (fin.get (locals_in code older) n) refl
      (next_step machine older newer n k r took other all last unused).asks

  own_left : path_told code (older ++ newer) n ≡ Some (path_by own.before)
  own_left = ap (option_map path_by) (still machine older newer n own.before left_all last own.here)

  joined : (older ++ Did n k r took other ∷ []) ++ newer ≡ older ++ Did n k r took other ∷ newer
  joined = append_assoc older (Did n k r took other ∷ []) newer

  own_whole : path_told code (older ++ Did n k r took other ∷ newer) n ≡ Some (path_by (after_step own.before own.instr r took))
  own_whole =
      ap (λ h. path_told code h n) (sym joined)
      ∙ ap (option_map path_by) (still machine (older ++ Did n k r took other ∷ []) newer n (after_step own.before own.instr r took)
      (subst (AllFollow ops.buffered bound code) (sym joined) all) last
      (ap (λ ts. fin.get ts n) (fold-append (after_deed code) _ older (Did n k r took other ∷ []))
      ∙ after_own code (locals_in code older) n k r took other own))

  own_begins : (p : Path) → path_told code (older ++ newer) n ≡ Some p → Begins code (older ++ Did n k r took other ∷ newer) n p
  own_begins p is =
      let more = outcomes_by own.before own.instr r took in
      let same_path : path_by own.before ≡ p = same_Some (path_by own.before) p (sym own_left ∙ is) in
      record {
        path = path_by (after_step own.before own.instr r took);
        there = own_whole;
        later = more.0;
        outcomes = more.1 ∙ ap (λ (x : Path). x.outcomes ++ more.0) same_path;
      }

  -- the child that the step creates doesn't exist without it
  child_number : (s : Request) (u : Name) → OtherIs older n s other → IsUnused n s other newer → other ≡ Some u → u ≡ child n (children_in older n + 1)
  child_number (Start f) u is idle e = same_Some u (child n (children_in older n + 1)) (sym e ∙ is)
  child_number (WakeOne c) u is idle e = absurd idle
  child_number Silent u is idle e = absurd (none-some u (sym is ∙ e))
  child_number s u is idle e = absurd (none-some u (sym is ∙ e))

  count_left : children_in (older ++ newer) n ≡ children_in older n
  count_left =
      let count : children_in (older ++ newer) n ≡ children_in older n + children_in newer n = sum_by-append (λ x. cond (is_start_of n x) 1 0) older newer in
      let within = starts_within n newer in
      omega (arith, count, within, last)

  reached : Reaches machine (older ++ newer)
  reached = reaches machine (older ++ newer) left_all

  child_absent : (u : Name) → other ≡ Some u → fin.get reached.state.threads u ≡ None
  child_absent u e =
      let name = child_number r u (next_step machine older newer n k r took other all last unused).other_is unused e in
      let created = reached_is_created ops code reached.state (record { moves = moves_for bound (older ++ newer); leads = reached.leads }) in
      none_unless (fin.get reached.state.threads u) (λ some.
      let c = created.is_created u some (λ is_main. child_not_main n (children_in older n + 1) (sym name ∙ is_main)) in
      let same_child = same_from_push n c.parent (children_in older n + 1) c.number (sym name ∙ c.name) in
      let count = children_are ops code reached.state (older ++ newer) c.parent reached.tells.deeds.buffers.threads c.thread c.there in
      let count_own : children_in (older ++ newer) c.parent ≡ children_in older n = ap (children_in (older ++ newer)) (sym same_child.0) ∙ count_left in
      omega (arith, same_child.1, c.created.last, count, count_own))

  child_untold : (u : Name) → other ≡ Some u → path_told code (older ++ newer) u ≡ None
  child_untold u e = ap (option_map path_by) (reached.tells.locals u ∙ ap (option_map (λ (x : Thread B). x.local)) (child_absent u e))

  other_begins : (q : Name) (p : Path) → q ≢ n → (other ≡ Some q) ⊎ (other ≢ Some q) → path_told code (older ++ newer) q ≡ Some p
      → Begins code (older ++ Did n k r took other ∷ newer) q p
  other_begins q p apart (inl made) is = absurd (none-some p (sym (child_untold q made) ∙ is))
  other_begins q p apart (inr not_made) is = record {
    path = p;
    there = sym (paths_stay machine older newer n k r took other all last unused q apart not_made) ∙ is;
    later = [];
    outcomes = sym (append-nil p.outcomes);
  }

  pub is_part : IsPart code (older ++ newer) (older ++ Did n k r took other ∷ newer)
  is_part q p is = elim (same_or_apart q n) [
    | inl e ↦
        subst (λ m. Begins code (older ++ Did n k r took other ∷ newer) m p) (sym e)
        (own_begins p (ap (path_told code (older ++ newer)) (sym e) ∙ is))
    | inr apart ↦ other_begins q p apart (made_or_not other q) is
  ]

  -- the failing thread isn't the child that the step creates
  pub failing_stays : (f : Name) → f ≢ n → failed_in (older ++ newer) ≡ Some f
      → path_told code (older ++ newer) f ≡ path_told code (older ++ Did n k r took other ∷ newer) f
  failing_stays f apart fails_there =
      paths_stay machine older newer n k r took other all last unused f apart (λ made.
      let stepped = failed_stepped (older ++ newer) f fails_there in
      let none = none_done ops code reached.state (older ++ newer) f reached.tells.deeds.buffers.threads (child_absent f made) in
      omega (arith, stepped, none))
