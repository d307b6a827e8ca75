-- The first step that no run can do, found step by step.
use Rattle.std.proofs.Common.{◌≡◌, ◌∙◌, ℕ, zero, suc, ◌+◌, ◌-◌, ◌<◌, ◌&&◌, ◌==◌, Bool, false, cond, List, [], ◌∷◌, length, map, drop, get_or, replicate, Option, Some, None}
use Rattle.std.proofs.Common.{add-one, ap, refl, sym, subst, arith}
use Rattle.std.specs.Prelude.{slice_set}
use Rattle.std.specs.List.{find}
use Rattle.std.specs.Option.{option_map_or}
use Rattle.std.proofs.lemmas.Bool.{ne_eqb}
use Rattle.std.proofs.lemmas.List.{drop_more, length-drop, length-map, map-set}
use borrow.Author.Tests.{eq-eqb}
use Rattle.run_log.specs.Logs.{Log}
use Rattle.tc_base.specs.Paths.{ThreadPath}
use Rattle.tc_base.specs.Names.{Name}
use Rattle.tc_base.specs.declared.handle.Handle.{Handle}
use Rattle.tc_base.specs.declared.handle.Handle.TheVariants.{Unset}
use Rattle.tc_code.specs.Code.{Code}
use Rattle.tc_code.specs.Step.{can_be_joined, handles_of}
use Rattle.path_walk.specs.Events.{excludes, is_impossible}
use Rattle.path_walk.specs.Marks.{Marks, Marked, marks_after_instr, marked_from, marked_steps, marks_at_start}
use Rattle.path_walk.specs.Fits.{fails_in}
use Rattle.path_walk.specs.Paths.{Walk, walk_of}
use Rattle.path_walk.specs.Steps.{Step, step_at, steps_at}
use Rattle.dead_paths.specs.Causes.{Cause, first_cause, line_in}
use Rattle.dead_paths.specs.helpers.Own.{Own, nothing_own, own_of}

none_joined : (n : ℕ) → map can_be_joined (replicate n Unset) ≡ replicate n false
none_joined zero = refl
none_joined (suc n) = ap (λ bs. false ∷ bs) (none_joined n)

module _ (code : Code) (f : ℕ) (fails : Bool) (places : List ℕ) where
  -- the steps from a number on, of a function's places
  abbrev rest : ℕ → List Step
  rest k = steps_at code f (drop k places)

  -- the steps before a number are possible, and this is the state after them
  pub record IsFollowed (k : ℕ) (own : Own) : Type 0 where
    pub marks : Marks
    pub is : own ≡ own_of marks
    pub same : find is_impossible (marked_steps code f fails (steps_at code f places)) ≡ find is_impossible (marked_from fails k marks (rest k))

  pub followed_none : (own : Own) → own ≡ nothing_own code f → IsFollowed 0 own
  followed_none own is = record {
    marks = marks_at_start code f;
    is = is
        ∙ ap (λ (joinable : List Bool). let new : Own = record { held = replicate code.mutexes false; joinable = joinable } in new)
        (sym (none_joined (handles_of code f)));
    same = refl;
  }

  module _ (k : ℕ) (own : Own) (are : IsFollowed k own) (below : k < length places) where
    abbrev step : Step
    step = step_at code f (get_or places k 0)

    first : rest k ≡ step ∷ rest (k + 1)
    first = ap (steps_at code f) (drop_more places k 0 below)

    abbrev here : Bool → Marked
    here last = record { number = k; step = step; fails = fails && last; marks = are.marks }

    is_last : (length (rest (k + 1)) == 0) ≡ (k + 1 == length places)
    is_last = by (length places - (k + 1)) refl
      where
        many : length (rest (k + 1)) ≡ length places - (k + 1)
        many = length-map (drop (k + 1) places) (step_at code f) ∙ length-drop (k + 1) places

        by : (n : ℕ) → length places - (k + 1) ≡ n → (length (rest (k + 1)) == 0) ≡ (k + 1 == length places)
        by zero is = eq-eqb (length (rest (k + 1))) 0 (many ∙ is) ∙ sym (eq-eqb (k + 1) (length places) (omega (arith, is, below)))
        by (suc n) is = ne_eqb (length (rest (k + 1))) 0 (λ e. absurd (omega (arith, many, is, e))) ∙ sym (ne_eqb (k + 1) (length places) (λ e. absurd (omega (arith, is, e))))

    turn : find is_impossible (marked_from fails k are.marks (rest k))
        ≡ cond (excludes are.marks step.instr (fails && (k + 1 == length places))) (Some (here (k + 1 == length places)))
        (find is_impossible (marked_from fails (k + 1) (marks_after_instr are.marks step.instr) (rest (k + 1))))
    turn =
        ap (λ steps. find is_impossible (marked_from fails k are.marks steps)) first
        ∙ ap (λ last. cond (excludes are.marks step.instr (fails && last)) (Some (here last))
        (find is_impossible (marked_from fails (k + 1) (marks_after_instr are.marks step.instr) (rest (k + 1))))) is_last

-- another state of a thread variable
pub changed : (o : Own) (t : Marks) (h : ℕ) (x : Handle) (b : Bool) → o ≡ own_of t → can_be_joined x ≡ b
    → (let new : Own = record o { joinable = slice_set o.joinable h b } in new) ≡ own_of (record t { handles = slice_set t.handles h x })
changed o t h x b is same =
    ap (λ (p : Own). let new : Own = record p { joinable = slice_set p.joinable h b } in new) is
    ∙ ap (λ (joinable : List Bool). let new : Own = record { held = t.held; joinable = joinable } in new)
    (ap (slice_set (map can_be_joined t.handles) h) (sym same) ∙ sym (map-set can_be_joined t.handles h x))

module _ (code : Code) (log : Log) where
  -- the line of a thread's first impossible step, by its walk
  abbrev pub line_by : Walk → Option ℕ
  line_by w = line_in code w.function (fails_in log w.name) (steps_at code w.function w.places)

  abbrev pub cause_by : Walk → ℕ → Cause
  cause_by w line = record { name = w.name; line = line }

  -- the causes of the threads from a place on
  causes_from : (ts : List ThreadPath) (k : ℕ) (w : Walk) → k < length (map (walk_of code log) ts) → w ≡ get_or (map (walk_of code log) ts) k w
      → first_cause code log (drop k ts) ≡ option_map_or (λ line. Some (cause_by w line)) (line_by w) (first_cause code log (drop (suc k) ts))
  causes_from [] k w below is = absurd (omega (arith, below))
  causes_from (t ∷ ts) zero w below is =
      subst (λ (v : Walk). first_cause code log (t ∷ ts) ≡ option_map_or (λ line. Some (cause_by v line)) (line_by v) (first_cause code log ts)) (sym is) refl
  causes_from (t ∷ ts) (suc k) w below is = causes_from ts k w (omega (arith, below)) is

  module _ (walks : List Walk) (all : walks ≡ map (walk_of code log) log.threads) (k : ℕ) (w : Walk) (below : k < length walks) (is : w ≡ get_or walks k w)
      (o : Option ℕ) (f : ℕ) (fails : Bool) (n : Name) (places : List ℕ) (told : o ≡ line_in code f fails (steps_at code f places)) (of : f ≡ w.function)
      (named : n ≡ w.name) (failed : fails ≡ fails_in log n) (at : places ≡ w.places) where
    line_is : o ≡ line_by w
    line_is =
        told ∙ ap (λ b. line_in code f b (steps_at code f places)) failed
        ∙ ap (λ m. line_in code f (fails_in log m) (steps_at code f places)) named
        ∙ ap (λ ps. line_in code f (fails_in log w.name) (steps_at code f ps)) at
        ∙ ap (λ g. line_in code g (fails_in log w.name) (steps_at code g w.places)) of

    one_step : first_cause code log (drop k log.threads)
        ≡ option_map_or (λ line. Some (cause_by w line)) o (first_cause code log (drop (k + 1) log.threads))
    one_step =
        causes_from log.threads k w (subst (λ ws. k < length ws) all below) (is ∙ ap (λ ws. get_or ws k w) all)
        ∙ ap (λ q. option_map_or (λ line. Some (cause_by w line)) q (first_cause code log (drop (suc k) log.threads))) (sym line_is)
        ∙ ap (λ j. option_map_or (λ line. Some (cause_by w line)) o (first_cause code log (drop j log.threads))) (sym (add-one k))

    -- a thread without a cause is skipped
    pub cause_past : o ≡ None → first_cause code log (drop k log.threads) ≡ first_cause code log (drop (k + 1) log.threads)
    cause_past none = one_step ∙ ap (λ q. option_map_or (λ line. Some (cause_by w line)) q (first_cause code log (drop (k + 1) log.threads))) none

    -- the first thread with a cause gives the cause
    pub cause_here : (m : Name) (line : ℕ) → o ≡ Some line → m ≡ w.name
        → Some (let made : Cause = record { name = m; line = line } in made) ≡ first_cause code log (drop k log.threads)
    cause_here m line some same =
        sym (one_step ∙ ap (λ q. option_map_or (λ l. Some (cause_by w l)) q (first_cause code log (drop (k + 1) log.threads))) some
        ∙ ap (λ x. Some (let made : Cause = record { name = x; line = line } in made)) (sym same))
